use Rattle.std.proofs.Common.{arith}
use Rattle.jm_seats.specs.Seats.{heard}
use Rattle.jm_seats.proofs.Places.{each_mapped}
use Rattle.jm_seats.proofs.desk.hear_all.Goals as goal

pub returns : goal.returns
returns g c =
    each_mapped (heard c.args.who.now c.args.request.now c.args.reply.now) c.args.desks.now c.loop-desk.desks c.loop-desk.auto.desks
    (λ k d less. c.loop-desk.invariant.heard k d (omega (arith, less, c.loop-desk-test.false)))
