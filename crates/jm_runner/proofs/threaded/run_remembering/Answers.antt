use Rattle.std.proofs.lemmas.Result.{IfOk-weaker}
use Rattle.jm_plans.specs.Provider.{state_of}
use Rattle.jm_runner.proofs.threaded.run_remembering.Goals as goal

pub returns-clause-told : goal.returns-clause-told
returns-clause-told g c =
    let run = c.run_on_threads-told in
    IfOk-weaker run.result.told _ _ (λ printout is. (
      state_of run.result.core,
      is,
      λ k.
          let clean = rw (c.into_connection.ensures.same, c.into_keeper.ensures.same) at k in
          rw (c.into_connection.ensures.same, c.into_keeper.ensures.same) (run.ensures.kept clean),
    )) run.ensures.told
