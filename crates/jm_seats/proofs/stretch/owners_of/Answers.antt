use Rattle.std.proofs.Common.{arith, refl}
use Rattle.std.proofs.lemmas.List.{length-map}
use Rattle.std.proofs.lemmas.Option.{slice_get_read}
use Rattle.jm_seats.specs.Desks.{seats_at}
use Rattle.jm_seats.proofs.Places.{owner_within}
use Rattle.jm_seats.proofs.stretch.owners_of.Goals as goal

pub returns-then-owner-desks-clause-fault : goal.returns-then-owner-desks-clause-fault
returns-then-owner-desks-clause-fault g c =
    let call = c.call-item.result in
    let within = owner_within (seats_at c.args.desks.now) call in
    record {
      i = c.loop-call.call-index;
      call = call;
      stands = slice_get_read c.args.calls.now _ c.loop-call.call-index call refl c.loop-call-test.true c.call-item.is;
      nowhere = omega (arith, within, c.owner_of-owner.ensures, c.if-owner-desks.true, length-map c.args.desks.now (λ d. d.seat));
    }
