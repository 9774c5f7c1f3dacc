use Rattle.std.proofs.Common.{◌≡◌, ◌∙◌, ap, arith, length}
use Rattle.std.proofs.lemmas.List.{length-map}
use Rattle.jm_seats.specs.Desks.{seats_at}
use Rattle.jm_seats.specs.Seat.{Seated}
use Rattle.jm_seats.proofs.Senders.{all_senders}
use Rattle.jm_seats.specs.declared.desk.Desk.{Desk}
use Rattle.jm_seats.proofs.Ran.{all_ran, nobody, told_parts}
use Rattle.jm_seats.proofs.stretch.make_calls.Goals as goal

pub joined-requires-clause-parts : goal.joined-requires-clause-parts
joined-requires-clause-parts g c =
    let x : Desk g.row.L.Denot = record { seat = nobody; calls = c.args.calls; replies = c.in_ok-replies.replies } in
    told_parts c.args.owners.now c.args.calls.items c.args.desks.now c.prepare.new.desks c.work_all.new.desks c.gather-told.result x
    (c.requires.len ∙ c.args.calls.ok.0) c.prepare.ensures.seats c.work_all.ensures.len c.gather-told.ensures.len
    c.in_ok-prepare.ensures.calls c.work_all.ensures.each c.gather-told.ensures.each

pub returns-clause-ran : goal.returns-clause-ran
returns-clause-ran g c =
    let x : Desk g.row.L.Denot = record { seat = nobody; calls = c.args.calls; replies = c.in_ok-replies.replies } in
    all_ran c.args.owners.now c.args.calls.items c.joined.result.items c.args.desks.now c.prepare.new.desks c.work_all.new.desks c.gather-told.new.desks x
    c.prepare.ensures.seats c.work_all.ensures.len c.gather-told.ensures.seats c.in_ok-prepare.ensures.calls c.work_all.ensures.each
    (λ k d less. c.joined.ensures.parts k c.in_ok-replies.replies (omega (arith, less, c.gather-told.ensures.len)) ∙ c.gather-told.ensures.each k c.in_ok-replies.replies d less)

pub returns-clause-senders : goal.returns-clause-senders
returns-clause-senders g c =
    let seat : Desk g.row.L.Denot → Seated = λ d. d.seat in
    let before = c.prepare.new.desks in
    let after = c.work_all.new.desks in
    let many : length (seats_at c.gather-told.new.desks) ≡ length (seats_at c.args.desks.now) =
    omega (arith, ap length c.gather-told.ensures.seats, length-map after seat, c.work_all.ensures.len, length-map before seat, ap length c.prepare.ensures.seats) in
    all_senders c.args.owners.now (seats_at c.args.desks.now) c.args.calls.items c.joined.result.items (seats_at c.gather-told.new.desks) many (returns-clause-ran g c)
