use Rattle.std.proofs.Common.{◌≡◌, ◌≤◌, arith, length, rules}
use Rattle.jm_client_audited.specs.Callers.{place_of}
use Rattle.jm_client_audited.proofs.Seats.{seated}
use Rattle.jm_client_audited.proofs.audited.seat.Goals as goal

pub returns-clause-place : goal.returns-clause-place
returns-clause-place g c =
    let old = c.args.callers.now in
    let new = c.give_pass.new.callers in
    let given = c.in-Some.ensures.place in
    let here : c.place_of-place.result ≡ place_of old.items c.args.who.now = search rules in
    let beyond : length old.items ≤ c.place_of-place.result = omega (arith, c.if-place-len.false, c.len.ensures, old.ok) in
    seated old.items new.items c.args.who.now c.place_of-place.result c.in-Some.place new.len given.1 here beyond (omega (arith, given.0, old.ok)) (omega (arith, new.ok))
