use Rattle.std.proofs.Common.{◌∙◌, arith}
use Rattle.jm_client_audited.proofs.Seats.{others_at}
use Rattle.jm_client_audited.proofs.audited.noted.Goals as goal

pub returns-clause-others : goal.returns-clause-others
returns-clause-others g c = λ w h.
    (let callers = c.seat.new.callers in
    let passes = c.seat.new.passes in
    let seat = c.in-Some.ensures in
    let given = seat.calls w in
    let made = others_at callers.items passes.items c.args.step.now.who c.in-Some.place c.apply.new.pass (omega (arith, seat.lengths, callers.ok, passes.ok)) seat.place.0
    (omega (arith, seat.place.1, callers.ok)) w h in
    (made.0 ∙ given.0, made.1 ∙ given.1))
