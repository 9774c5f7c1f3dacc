use Rattle.std.proofs.Common.{◌≤◌, arith, refl, subst}
use Rattle.jm_lane.specs.declared.row.Row.{Row}
use Rattle.jm_lane.proofs.Dues.{turn_last}
use Rattle.jm_lane.proofs.walks.are_in_turn_with.Goals as goal

pub returns-then-in_turn : goal.returns-then-in_turn
returns-then-in_turn c = λ e.
    turn_last c.args.rows.now.items c.args.row.now c.in-Some.last.now _ (let some = c.in-Some.ensures.variant.0 refl in omega (arith, some)) (subst (λ (r : Row). r.due ≤ c.args.row.now.due) c.in-Some.ensures.lookup (c.is_due_after.ensures e)) (c.requires c.if-in_turn.true)
