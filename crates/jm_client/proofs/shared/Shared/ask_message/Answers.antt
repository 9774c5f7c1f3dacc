use Rattle.std.proofs.lemmas.Result.{err_from_is_err_and}
use Rattle.jm_client.proofs.Replies.{told_receipt}
use Rattle.jm_client.proofs.shared.Shared.ask_message.Goals as goal

pub handed_out-requires : goal.handed_out-requires
handed_out-requires g c = told_receipt c.args.way _ c.args.consumer c.args.now _ (rw c.request_of.ensures at c.in_ok-answer.ensures)

pub returns-in_err-answer : goal.returns-in_err-answer
returns-in_err-answer g c = let p = err_from_is_err_and c.from_residual.result c.from_residual.ensures.1 in rw (p.1, p.2) (c.args.now, rw c.request_of.ensures at c.in_err-answer.ensures)
