use Rattle.jm_loading.specs.Fitting.{station_cmp}
use Rattle.jm_loading.specs.Stations.{IsKnown}
use Rattle.jm_loading.specs.Unfit.{AreFit}
use Rattle.jm_loading.proofs.stations.check.Given as goal

abbrev pub invariant-loop-at : goal.invariant-loop-at
invariant-loop-at l = AreFit station_cmp IsKnown l.rows l.at
