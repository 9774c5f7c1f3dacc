use Rattle.std.proofs.Common.{◌∙◌, ap}
use Rattle.jm_stations.specs.Stations.{index_in}
use Rattle.jm_parts.proofs.Kept.{key_gone}
use Rattle.jm_parts.proofs.create.make_put.Goals as goal

pub create-requires-clause-absent : goal.create-requires-clause-absent
create-requires-clause-absent c = ap (λ keys. index_in keys c.args.key) c.remove_under.ensures.keys ∙ key_gone c.args.key c.args.stations.now.keys
