use Rattle.jm_plans.specs.Provider.{state_of}
use Rattle.jm_kept.proofs.Owed.{ask_kept}
use Rattle.jm_kept.proofs.calls.ask.Goals as goal

pub returns-clause-owed : goal.returns-clause-owed
returns-clause-owed g c =
    ask_kept (state_of c.args.core.now) c.args.halves.now c.drop_past.new.halves c.args.who c.args.request c.step-told.result (state_of c.step-told.new.core)
    c.step-told.ensures.fits c.drop_past.ensures.sent c.drop_past.ensures.kept
