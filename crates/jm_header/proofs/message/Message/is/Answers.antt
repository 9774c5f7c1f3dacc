use Rattle.std.proofs.Common.{◌∙◌, sym}
use Rattle.jm_header.proofs.Same.{content_same}
use Rattle.jm_header.proofs.message.Message.is.Goals as goal

pub returns : goal.returns
returns c = (
  λ e. (content_same c.args.self.now c.args.other.now).0 (sym c.eq.ensures ∙ e),
  λ e. c.eq.ensures ∙ (content_same c.args.self.now c.args.other.now).1 e,
)
