use Rattle.std.proofs.Common.{◌<◌, ℕ, subst, sym}
use Rattle.std.specs.Prelude.{IfSome}
use Rattle.jm_dest.specs.Numbers.{long_end}
use Rattle.jm_plans.specs.Provider.{state_of}
use Rattle.jm_core.specs.Reading.{delivery_of}
use Rattle.jm_listed.proofs.Rows.{taken_below}
use Rattle.jm_listed.proofs.planned.PlannedStepPlanned.taken.Goals as goal

pub returns-clause-place : goal.returns-clause-place
returns-clause-place c =
    let state = state_of c.self.inside.core.now in
    subst (λ o. IfSome o (λ (n : ℕ). n < long_end)) (sym c.taken.ensures) (taken_below state (delivery_of state c.self.inside.plan.now) c.self.invariant.1 c.self.invariant.2)
