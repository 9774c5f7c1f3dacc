use Rattle.std.proofs.Common.{◌∙◌, sym}
use Rattle.jm_machine.proofs.Same.{request_same}
use Rattle.jm_machine.proofs.call.Request.is.Goals as goal

pub returns : goal.returns
returns c = (
  λ e. (request_same c.args.self.now c.args.request.now).0 (sym c.eq.ensures ∙ e),
  λ e. c.eq.ensures ∙ (request_same c.args.self.now c.args.request.now).1 e,
)
