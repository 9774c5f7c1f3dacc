-- A step that is planned on the core, as it is seen.
use Rattle.jm_plans.specs.declared.plan.Change.{Change}
use Rattle.jm_plans.specs.Provider.{Provider}

-- the core as it stands, and what the plan changes
pub record Planning : Type 0 where
  pub core : Provider
  pub plan : Change
