use Rattle.jm_plans.specs.Provider.{state_of}
use Rattle.jm_runner.proofs.Forked.{anew}
use Rattle.jm_runner.proofs.threaded.lines_of.Goals as goal

pub returns-clause-told : goal.returns-clause-told
returns-clause-told g c =
    anew c.args.limit (state_of c.new_core-core.result) (state_of c.run_on_threads.result.core) c.args.items.items c.run_on_threads.result.told c.new_core-core.ensures
    c.run_on_threads.ensures.told
