use Rattle.std.proofs.Common.{◌∙◌, ap, sym, arith, refl}
use Rattle.jm_lane.specs.Lanes.{in_turn}
use Rattle.jm_lane.proofs.Turns.{steady-last}
use Rattle.jm_lane.proofs.walks.is_steady_with.Goals as goal

pub returns-then-steady : goal.returns-then-steady
returns-then-steady c = λ e.
    steady-last c.args.rows.now.items c.args.row.now c.in-Some.last.now _ (let some = c.in-Some.ensures.variant.0 refl in omega (arith, some)) (ap (λ r. in_turn r c.args.row.now) (sym c.in-Some.ensures.lookup) ∙ sym c.expires_after.ensures ∙ e) (c.requires c.if-steady.true)
