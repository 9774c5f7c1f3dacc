use Rattle.std.proofs.Common.{◌∙◌, ap}
use Rattle.jm_stations.specs.Stations.{Stations, index_in}
use Rattle.jm_stations.proofs.Indexes.{place_same}
use Rattle.jm_stations.proofs.stations.Stations.index_of.Goals as goal

pub returns-clause-index : goal.returns-clause-index
returns-clause-index c =
    c.index_of.ensures.index ∙ place_same c.self.inside.keys.keys c.args.key.now ∙ ap (λ (s : Stations). index_in s.keys c.args.key.now) c.self.view_is
