use Rattle.std.proofs.lemmas.Result.{err_from_is_err_and}
use Rattle.jm_client.proofs.Replies.{bad_or_memory}
use Rattle.jm_client.proofs.provider.Provider.create_connection.Goals as goal

pub returns-in_err-client-clause-refused : goal.returns-in_err-client-clause-refused
returns-in_err-client-clause-refused g c = let p = err_from_is_err_and c.from_residual.result c.from_residual.ensures.1 in rw (p.1, p.2) (bad_or_memory _ _ _ _ c.in_err-client.ensures.err)
