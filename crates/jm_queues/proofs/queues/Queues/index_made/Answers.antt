use Rattle.std.proofs.Common.{ap, refl, ◌∙◌, sym}
use Rattle.jm_dest.specs.declared.key.Key.TheVariants.{Queue}
use Rattle.jm_stations.specs.Stations.{index_in}
use Rattle.jm_queues.proofs.QueueRows.{queue_made}
use Rattle.jm_queues.proofs.queues.Queues.index_made.Goals as goal

pub returns-in_ok-add-in-None-clause-more : goal.returns-in_ok-add-in-None-clause-more
returns-in_ok-add-in-None-clause-more c =
    let i = c.self.inside in
    let e = c.in_ok-add-in-None.ensures in
    rw (← c.self.view_is)
    (queue_made i.stations i.stations c.add.new.stations (Queue c.in_ok-copy.field-0) c.in_ok-add-in-None.field-0 c.in-None.ensures.index e.at e.end refl e.added).0

pub returns-in_ok-add-in-None-clause-there : goal.returns-in_ok-add-in-None-clause-there
returns-in_ok-add-in-None-clause-there c =
    let i = c.self.inside in
    let e = c.in_ok-add-in-None.ensures in
    ap (λ name. index_in c.add.new.stations.keys (Queue name)) (sym c.in_ok-copy.ensures)
    ∙ (queue_made i.stations i.stations c.add.new.stations (Queue c.in_ok-copy.field-0) c.in_ok-add-in-None.field-0 c.in-None.ensures.index e.at e.end refl e.added).1
