use Rattle.std.proofs.Common.{length}
use Rattle.jm_scenario.proofs.scenario.passes_array.Given as goal

abbrev pub decreases-values : goal.decreases-values
decreases-values l = length l.reader
