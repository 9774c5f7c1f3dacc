use Rattle.std.proofs.Common.{◌∙◌, sym}
use Rattle.jm_machine.proofs.Same.{reply_same}
use Rattle.jm_machine.proofs.answer.same_reply.Goals as goal

pub returns : goal.returns
returns c = (
  λ e. (reply_same c.args.a.now c.args.b.now).0 (sym c.eq.ensures ∙ e),
  λ e. c.eq.ensures ∙ (reply_same c.args.a.now c.args.b.now).1 e,
)
