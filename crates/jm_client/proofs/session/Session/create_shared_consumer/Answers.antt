use Rattle.std.proofs.Common.{inr}
use Rattle.std.proofs.lemmas.Result.{err_from_is_err_and}
use Rattle.jm_client.proofs.Replies.{bad_or_memory, no_memory}
use Rattle.jm_client.proofs.session.Session.create_shared_consumer.Goals as goal

pub returns-in_err-destination-clause-refused : goal.returns-in_err-destination-clause-refused
returns-in_err-destination-clause-refused g c = let p = err_from_is_err_and c.from_residual.result c.from_residual.ensures.1 in rw (p.1, p.2) (inr (no_memory _ _))

pub returns-in_err-name-clause-refused : goal.returns-in_err-name-clause-refused
returns-in_err-name-clause-refused g c = let p = err_from_is_err_and c.from_residual-in_err-name.result c.from_residual-in_err-name.ensures.1 in rw (p.1, p.2) (bad_or_memory _ _ _ _ c.in_err-name.ensures.err)

pub returns-in_err-selector-clause-refused : goal.returns-in_err-selector-clause-refused
returns-in_err-selector-clause-refused g c = let p = err_from_is_err_and c.from_residual-in_err-selector.result c.from_residual-in_err-selector.ensures.1 in rw (p.1, p.2) (inr (no_memory _ _))
