use Rattle.std.proofs.Common.{◌<◌, ◌∙◌, [], ap, get_or, subst, sym}
use Rattle.std.specs.Prelude.{IfSome, option_map}
use Rattle.jm_dest.specs.declared.key.Key.TheVariants.{Queue}
use Rattle.jm_dest.specs.Numbers.{long_end}
use Rattle.jm_changes.specs.declared.planned.Standing.{Standing}
use Rattle.jm_changes.specs.Standing.{first_where, meant, standing}
use Rattle.jm_plans.specs.Provider.{state_of}
use Rattle.jm_core.specs.Reading.{keys_in}
use Rattle.jm_listed.proofs.Rows.{first_below}
use Rattle.jm_listed.proofs.planned.PlannedStepPlanned.row_where.Goals as goal

pub returns-clause-place : goal.returns-clause-place
returns-clause-place c =
    let core = c.self.inside.core.now in
    let key = get_or (keys_in core) c.args.index (Queue []) in
    let row = c.first_meant.ensures ∙ ap (λ rs. option_map standing (first_where (meant c.args.which.now) c.args.place rs)) (c.rows_at.ensures (Queue [])) in
    subst (λ o. IfSome o (λ (r : Standing). r.place < long_end)) (sym row) (first_below (state_of core) (meant c.args.which.now) c.args.place key c.self.invariant.1 c.self.invariant.2)
