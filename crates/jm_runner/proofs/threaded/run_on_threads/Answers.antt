use Rattle.std.proofs.Common.{◌≡◌, map, rules}
use Rattle.jm_plans.specs.Provider.{state_of}
use Rattle.jm_scenario.specs.Items.{kind_of}
use Rattle.jm_runner.proofs.Forked.{printed}
use Rattle.jm_runner.proofs.threaded.run_on_threads.Goals as goal

pub returns-clause-told : goal.returns-clause-told
returns-clause-told g c =
    let kinds : c.deref-2.result.now ≡ map kind_of c.args.items.items = search rules in
    printed (state_of c.args.core).opening (state_of c.play_threaded-core.result.core) c.args.items.items c.deref-2.result.now c.play_threaded-core.result.outcome c.told_of.result kinds
    c.play_threaded-core.ensures.played c.told_of.ensures.told
