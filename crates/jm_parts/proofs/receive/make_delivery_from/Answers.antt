use Rattle.std.proofs.Common.{◌≡◌, None, Option, Some, refl, subst, sym}
use Rattle.jm_machine.specs.Rows.{deliver_chosen}
use Rattle.jm_queues.specs.Queues.{rows_in}
use Rattle.jm_parts.specs.Takings.{IsTakenFrom, left_by}
use Rattle.jm_parts.specs.declared.receive.Taking.{Taking}
use Rattle.jm_queues.proofs.QueueRows.{nothing_changed, rows_missing}
use Rattle.jm_parts.proofs.receive.make_delivery_from.Goals as goal

-- what is nothing else is none
none_there : (o : Option Taking) → ((x : Taking) → o ≡ Some x → ⊥) → o ≡ None
none_there None h = refl
none_there (Some x) h = absurd (h x refl)

pub returns-in_default-clause-answer : goal.returns-in_default-clause-answer
returns-in_default-clause-answer c = λ name p t.
    let queues = c.args.queues.now in
    rw (rows_missing queues.keys queues.list name (rw (none_there c.args.taking c.in_default.not-Some) at t)) refl

pub returns-in_default-clause-rows : goal.returns-in_default-clause-rows
returns-in_default-clause-rows c = λ name p t.
    let queues = c.args.queues.now in
    let r = c.args.receiver.now in
    let none = rows_missing queues.keys queues.list name (rw (none_there c.args.taking c.in_default.not-Some) at t) in
    sym (nothing_changed name (deliver_chosen p r.moment (left_by r)) (rows_in queues) refl none)

pub returns-clause-rows : goal.returns-clause-rows
returns-clause-rows c = λ name p t.
    let there = subst (λ (o : Option Taking). IsTakenFrom name p c.args.receiver.now c.args.queues.now o) c.in-Some.is t in
    c.take_from.ensures.rows name p there.0 there.2
