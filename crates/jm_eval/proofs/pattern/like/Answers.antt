use Rattle.std.proofs.Common.{◌∙◌, sym}
use Rattle.jm_eval.proofs.Pieces.{test_fits, fits_test}
use Rattle.jm_eval.proofs.pattern.like.Goals as goal

pub returns : goal.returns
returns c = (λ yes. test_fits _ _ (sym c.is_match.ensures ∙ yes), λ fits. c.is_match.ensures ∙ fits_test _ _ fits)
