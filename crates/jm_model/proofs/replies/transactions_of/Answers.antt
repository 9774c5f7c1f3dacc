use Rattle.jm_plans.specs.Provider.{state_of}
use Rattle.jm_model.proofs.Nested.{reached_nested}
use Rattle.jm_model.proofs.replies.transactions_of.Goals as goal

pub of-requires : goal.of-requires
of-requires c = rw (c.connections.ensures, c.sessions.ensures) (reached_nested (state_of c.args.opening.now) c.law_core_reached.ensures)
