use Rattle.std.proofs.Common.{◌≡◌, Some, None, arith, rules}
use Rattle.json.specs.Json.{after_end_array, value}
use Rattle.serde_json.specs.Data.{item, no_items}
use Rattle.serde_json.specs.View.{view}
use Rattle.jm_scenario.proofs.Loops.{items_begin, items_done, items_next, items_refused}
use Rattle.jm_scenario.proofs.Recorded.{recorded_begin, recorded_next, recorded_told}
use Rattle.jm_scenario.proofs.outer.read_calls.Goals as goal

pub records-init : goal.records-init
records-init c =
    let empty = c.new-records.ensures in
    (λ rest. rest, items_begin (value 125) c.args.reader.now, recorded_begin c.new-records.result empty.items empty.fault empty.forked)

pub returns-in_err-next_value-clause-value : goal.returns-in_err-next_value-clause-value
returns-in_err-next_value-clause-value c =
    let l = c.records in
    let going : (after_end_array l.reader ≡ None) × (c.take_end_array.new.self ≡ l.reader) = grind arith in
    let refused = items_refused (value 125) c.args.reader.now l.reader l.invariant.0 l.invariant.1 going.0 in
    search (rules, refused, going)

pub records-preserved : goal.records-preserved
records-preserved c =
    let l = c.records in
    let front = l.invariant.0 in
    let going : (after_end_array l.reader ≡ None) × (c.take_end_array.new.self ≡ l.reader) = grind arith in
    let read = c.in_ok-next_value.ensures in
    let one = view c.in_ok-next_value.field-0 in (
      λ rest. front (item one rest),
      items_next (value 125) c.args.reader.now l.reader c.next_value.new.reader front one l.invariant.1 going.0 (rw (← going.1) read.value) (rw (← going.1) read.shorter),
      recorded_next front one l.records c.add.new.self l.invariant.2 (search rules),
    )

pub returns-clause-value : goal.returns-clause-value
returns-clause-value c =
    let l = c.records in
    let front = l.invariant.0 in
    let over : after_end_array l.reader ≡ Some c.take_end_array.new.self = grind arith in (
      front no_items,
      items_done (value 125) c.args.reader.now l.reader c.take_end_array.new.self front l.invariant.1 over,
      recorded_told front l.records c.told.result l.invariant.2 c.told.ensures,
    )
