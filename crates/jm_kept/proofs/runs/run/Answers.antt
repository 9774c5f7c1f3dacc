use Rattle.jm_plans.specs.Provider.{state_of}
use Rattle.jm_kept.specs.Runs.{HasFailed}
use Rattle.jm_kept.proofs.Running.{kept_isolated, owed_kept, owed_never_store}
use Rattle.jm_kept.proofs.runs.run.Goals as goal

pub returns-then-not-keeps-clause-ok : goal.returns-then-not-keeps-clause-ok
returns-then-not-keeps-clause-ok g c = owed_kept (state_of c.args.core.now) (state_of c.run.new.self) c.args.calls.items (λ replies. replies.items) c.run.result c.run.ensures.ok

pub returns-then-not-keeps-clause-store : goal.returns-then-not-keeps-clause-store
returns-then-not-keeps-clause-store g c =
    owed_never_store (λ replies. HasFailed (g.K.Keep.faults c.args.keeper.now) (g.K.Keep.faults c.args.keeper.now)) (state_of c.args.core.now) (state_of c.run.new.self)
    c.args.calls.items (λ replies. replies.items) c.run.result c.run.ensures.ok

pub returns-clause-isolated : goal.returns-clause-isolated
returns-clause-isolated g c =
    kept_isolated (state_of c.args.core.now) (state_of c.run_keeping.new.core) c.args.calls.items (λ replies. replies.items) c.run_keeping.result c.run_keeping.ensures.ok
    c.law_isolation.ensures c.law_core_reached.ensures
