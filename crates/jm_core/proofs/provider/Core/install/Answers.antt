use Rattle.std.proofs.Common.{Ok}
use Rattle.jm_plans.specs.Plans.{IsPlan}
use Rattle.jm_plans.specs.Provider.{state_of}
use Rattle.jm_core.proofs.Reached.{step_reached}
use Rattle.jm_core.proofs.provider.Core.install.Goals as goal

pub install-requires : goal.install-requires
install-requires c = rw (c.into_change.ensures, c.self.view_is) c.requires

pub invariant_of-self : goal.invariant_of-self
invariant_of-self c =
    let who = c.requires.0 in
    let call = c.requires.1 in
    let planned : IsPlan c.self.inside.state who call c.into_change.result = rw (c.into_change.ensures, c.self.view_is) c.requires.2 in
    step_reached (state_of c.self.inside.state) (state_of c.install.new.self) who call (Ok c.install.result) (c.install.ensures who call planned) c.self.invariant

pub returns : goal.returns
returns c = rw (← c.into_change.ensures, ← c.self.view_is) c.install.ensures
