use Rattle.jm_plans.specs.Provider.{state_of}
use Rattle.jm_runner.proofs.stored.told_over.Goals as goal

pub returns-in-Ok-clause-told : goal.returns-in-Ok-clause-told
returns-in-Ok-clause-told g c =
    let run = c.printout_over-told in
    let t = c.in-Ok.ensures.told in (
      state_of run.new.core,
      t.0,
      t.1,
      t.2,
      t.4,
      t.5,
      λ k.
          let clean = rw c.into_connection.ensures.same at k in
          rw c.into_connection.ensures.same (run.ensures.kept clean (c.requires (run.ensures.clean clean))),
    )

pub returns-in-Ok-clause-clean : goal.returns-in-Ok-clause-clean
returns-in-Ok-clause-clean g c = λ k. c.printout_over-told.ensures.clean (rw c.into_connection.ensures.same at k)

pub returns-clause-clean : goal.returns-clause-clean
returns-clause-clean g c = λ k. c.printout_over-told.ensures.clean (rw c.into_connection.ensures.same at k)
