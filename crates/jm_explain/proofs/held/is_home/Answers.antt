use Rattle.std.proofs.Common.{[], nat_eq, ap, ◌∙◌}
use Rattle.jm_dest.specs.declared.key.Key.{Key}
use Rattle.jm_dest.specs.declared.key.Key.TheVariants.{Queue}
use Rattle.jm_machine.specs.Under.{placed_under}
use Rattle.jm_plans.specs.Provider.{state_of}
use Rattle.jm_overview.specs.declared.overview.KeyOverview.{KeyOverview}
use Rattle.jm_overview.specs.Overview.{out_in}
use Rattle.jm_explain.proofs.Holding.{none_out}
use Rattle.jm_explain.proofs.held.is_home.Goals as goal

pub returns-in-Some : goal.returns-in-Some
returns-in-Some c =
    ap (λ (o : KeyOverview). nat_eq o.out 0) (c.overview_at.ensures (Queue []))
    ∙ ap (λ (key : Key). nat_eq (out_in (placed_under (state_of c.args.core.now) key)) 0) (c.in-Some.ensures.1 (Queue []))
    ∙ none_out (placed_under (state_of c.args.core.now) c.args.key.now)
