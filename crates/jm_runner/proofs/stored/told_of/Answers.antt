use Rattle.std.proofs.lemmas.Result.{IfOk-weaker}
use Rattle.jm_plans.specs.Provider.{state_of}
use Rattle.sqlite.specs.Held.{state}
use Rattle.jm_runner.proofs.Loaded.{loaded}
use Rattle.jm_runner.proofs.stored.told_of.Goals as goal

pub returns-in-Ok-clause-told : goal.returns-in-Ok-clause-told
returns-in-Ok-clause-told g c =
    let opened = c.in-Ok.ensures in
    let reopened = c.in-Ok.reopened in
    let told = c.told_over.ensures.told in
    IfOk-weaker c.told_over.result.told _ _ (λ printout is. (
      state_of reopened.core,
      (λ left. loaded _ (state_of reopened.core) (state g.S.Store reopened.store.0) (opened.opened (c.told_over.ensures.clean left)) (opened.stored (c.told_over.ensures.clean left))),
      is,
    )) (rw c.into_inner.ensures at told)
