use Rattle.std.proofs.Common.{◌∙◌, sym}
use Rattle.jm_machine.proofs.Same.{client_same}
use Rattle.jm_machine.proofs.call.ClientCall.is.Goals as goal

pub returns : goal.returns
returns c = (
  λ e. (client_same c.args.self.now c.args.call.now).0 (sym c.eq.ensures ∙ e),
  λ e. c.eq.ensures ∙ (client_same c.args.self.now c.args.call.now).1 e,
)
