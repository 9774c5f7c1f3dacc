use Rattle.std.proofs.Common.{◌∙◌, sym}
use Rattle.jm_eval.specs.Seen.{seen}
use Rattle.jm_eval.specs.Same.{value_same}
use Rattle.jm_eval.proofs.value.Value.is.Goals as goal

pub returns : goal.returns
returns c = (
  λ e. (value_same (seen c.args.self) (seen c.args.other)).0 (sym c.is_same.ensures ∙ e),
  λ e. c.is_same.ensures ∙ (value_same (seen c.args.self) (seen c.args.other)).1 e,
)
