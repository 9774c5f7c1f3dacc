use Rattle.std.proofs.Common.{◌≡◌, ◌∙◌, ap, sym, subst, arith, length, ◌-◌, ℕ, Err}
use Rattle.jm_record.specs.Damage.{IsDamaged}
use Rattle.jm_format.specs.Reading.{whole}
use Rattle.jm_record.proofs.MessageLaws.{Finds, whole_finds, Stops, whole_stops, finds_only, stops_at_no_record, damaged_is}
use Rattle.jm_record.proofs.reading.read_record.Goals as goal
use Rattle.jm_record.proofs.reading.read_record.Goals.{In-Ok, After-new, After-left}

pub new-requires : goal.new-requires
new-requires c =
    (whole_finds c.args.bytes.now c.in-Ok.content c.whole.new.self (λ i. omega (arith, c.type_inv.bytes i))
    (ap whole (sym c.new-reader.ensures) ∙ c.in-Ok.ensures)).message.valid

found : (c : After-new) → Finds c.args.bytes.now c.new.result
found c =
    subst (Finds c.args.bytes.now) (sym c.new.ensures)
    (whole_finds c.args.bytes.now c.in-Ok.content c.whole.new.self (λ i. omega (arith, c.type_inv.bytes i))
    (ap whole (sym c.new-reader.ensures) ∙ c.in-Ok.ensures))

stop : (c : After-left) → whole c.args.bytes.now ≡ Err c.whole.new.self
stop c =
    ap whole (sym c.new-reader.ensures)
    ∙ damaged_is (whole c.new-reader.result) c.in-Err-Damaged.field-0 c.whole.new.self c.in-Err-Damaged.ensures c.in-Err-Damaged.field-0-is

stopped : (c : After-left) → Stops c.args.bytes.now c.whole.new.self
stopped c =
    whole_stops c.args.bytes.now c.whole.new.self (λ i. omega (arith, c.type_inv.bytes i)) (stop c)

pub overflow_sub-result : goal.overflow_sub-result
overflow_sub-result c = omega (arith, c.left.ensures, (stopped c).within)

pub returns-in-Ok-clause-message : goal.returns-in-Ok-clause-message
returns-in-Ok-clause-message c = (found c).message

pub returns-in-Ok-clause-fresh : goal.returns-in-Ok-clause-fresh
returns-in-Ok-clause-fresh c = (found c).writeable

pub returns-in-Ok-clause-spelled : goal.returns-in-Ok-clause-spelled
returns-in-Ok-clause-spelled c = (found c).spelled

pub returns-in-Ok-clause-only : goal.returns-in-Ok-clause-only
returns-in-Ok-clause-only c = λ message is e.
    c.new.ensures ∙ finds_only c.args.bytes.now c.in-Ok.content c.whole.new.self (ap whole (sym c.new-reader.ensures) ∙ c.in-Ok.ensures) message is e

pub returns-in-Err-Damaged-clause-only : goal.returns-in-Err-Damaged-clause-only
returns-in-Err-Damaged-clause-only c = λ message is e.
    absurd (stops_at_no_record c.args.bytes.now c.whole.new.self (stop c) message is e)

pub returns-in-Err-Damaged-clause-damaged : goal.returns-in-Err-Damaged-clause-damaged
returns-in-Err-Damaged-clause-damaged c =
    subst (λ (left : ℕ). IsDamaged c.args.bytes.now (length c.args.bytes.now - left)) (sym c.left.ensures) (stopped c).damaged
