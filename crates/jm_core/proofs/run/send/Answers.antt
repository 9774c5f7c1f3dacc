use Rattle.std.proofs.Common.{sym, ◌∙◌}
use Rattle.jm_plans.specs.Provider.{state_of}
use Rattle.jm_core.proofs.Sends.{closed_fits}
use Rattle.jm_core.proofs.run.send.Goals as goal

pub returns-in-None-clause-owed : goal.returns-in-None-clause-owed
returns-in-None-clause-owed c = closed_fits (state_of c.args.core.now) c.args.halves.now c.args.halves.now c.args.session.now c.args.draft c.args.destination c.args.now (sym c.mode_of.ensures ∙ c.in-None.is)
