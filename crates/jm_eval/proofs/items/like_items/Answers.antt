use Rattle.std.proofs.Common.{◌∙◌, sym}
use Rattle.jm_eval.proofs.Pieces.{test_fits, fits_test}
use Rattle.jm_eval.proofs.items.like_items.Goals as goal

pub returns : goal.returns
returns c = (λ yes. test_fits _ _ (sym c.is_match_of.ensures ∙ yes), λ fits. c.is_match_of.ensures ∙ fits_test _ _ fits)
