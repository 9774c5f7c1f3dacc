use Rattle.std.proofs.Common.{◌∙◌, sym}
use Rattle.jm_machine.proofs.Same.{step_same}
use Rattle.jm_machine.proofs.call.Step.is.Goals as goal

pub returns : goal.returns
returns c = (
  λ e. (step_same c.args.self.now c.args.other.now).0 (sym c.eq.ensures ∙ e),
  λ e. c.eq.ensures ∙ (step_same c.args.self.now c.args.other.now).1 e,
)
