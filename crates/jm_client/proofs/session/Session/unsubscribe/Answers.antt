use Rattle.std.proofs.lemmas.Result.{err_from_is_err_and}
use Rattle.jm_client.proofs.Replies.{bad_or_wanted_reply}
use Rattle.jm_client.proofs.session.Session.unsubscribe.Goals as goal

pub returns-in_err-name : goal.returns-in_err-name
returns-in_err-name g c = let p = err_from_is_err_and c.from_residual.result c.from_residual.ensures.1 in rw (p.1, p.2) (bad_or_wanted_reply _ _ _ _ c.in_err-name.ensures.err)
