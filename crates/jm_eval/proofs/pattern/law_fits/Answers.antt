use Rattle.jm_eval.proofs.Pieces.{test_fits, fits_test}
use Rattle.jm_eval.proofs.pattern.law_fits.Goals as goal

pub returns : goal.returns
returns c = λ is cs. (test_fits is cs, fits_test is cs)
