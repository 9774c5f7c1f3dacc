use Rattle.std.proofs.Common.{◌+◌, sym, subst, ◌∙◌}
use native.Mathlib.Omega.{arith}
use Rattle.jm_machine.specs.Machine.{places_end}
use Rattle.jm_overview.proofs.Counting.{Counted, counted_all, counted_none, counted_out, counted_waiting, next_from}
use Rattle.jm_overview.proofs.tally.tally_of.Goals as goal
use Rattle.jm_overview.proofs.tally.tally_of.Goals.{then-is_waiting, else-is_waiting}

pub loop-row-init : goal.loop-row-init
loop-row-init c = record { within = omega arith; counted = counted_none c.args.rows.now }

pub first_from-requires : goal.first_from-requires
first_from-requires c = c.loop-row.invariant.within

pub overflow_add-tally : goal.overflow_add-tally
overflow_add-tally c = let counted = c.loop-row.invariant.counted.within in let within = c.loop-row.invariant.within in omega (arith, counted, within)

pub overflow_add-tally-else-is_waiting : goal.overflow_add-tally-else-is_waiting
overflow_add-tally-else-is_waiting c = let counted = c.loop-row.invariant.counted.within in let within = c.loop-row.invariant.within in omega (arith, counted, within)

pub overflow_add-place : goal.overflow_add-place
overflow_add-place c =
    let below = (next_from places_end c.loop-row.place c.args.rows.now _ c.requires (sym c.in-Some.ensures)).below in
    omega (arith, below)

pub loop-row-smaller : goal.loop-row-smaller
loop-row-smaller c =
    let next = next_from places_end c.loop-row.place c.args.rows.now _ c.requires (sym c.in-Some.ensures) in
    let from = next.from in
    let below = next.below in
    omega (arith, from, below)

pub loop-row-preserved : goal.loop-row-preserved
loop-row-preserved c =
    let next = next_from places_end c.loop-row.place c.args.rows.now _ c.requires (sym c.in-Some.ensures) in
    let below = next.below in
    record {
      within = omega (arith, below);
      counted = elim c.if-is_waiting.branch [
        | then-is_waiting w ↦ subst (λ t. Counted c.args.rows.now (c.in-Some.row.place + 1) t.waiting t.out) (sym w.tally-is) (counted_waiting places_end c.loop-row.place _ _ c.args.rows.now _ next (sym c.is_waiting.ensures ∙ w.if-is_waiting.true) c.loop-row.invariant.counted)
        | else-is_waiting w ↦ subst (λ t. Counted c.args.rows.now (c.in-Some.row.place + 1) t.waiting t.out) (sym w.tally-is) (counted_out places_end c.loop-row.place _ _ c.args.rows.now _ next (sym c.is_waiting.ensures ∙ w.if-is_waiting.false) c.loop-row.invariant.counted)
      ];
    }

pub returns-clause-waiting : goal.returns-clause-waiting
returns-clause-waiting c = (counted_all c.args.rows.now c.loop-row.place c.loop-row.tally.waiting c.loop-row.tally.out (sym c.in_default.ensures) c.loop-row.invariant.counted).0

pub returns-clause-out : goal.returns-clause-out
returns-clause-out c = (counted_all c.args.rows.now c.loop-row.place c.loop-row.tally.waiting c.loop-row.tally.out (sym c.in_default.ensures) c.loop-row.invariant.counted).1
