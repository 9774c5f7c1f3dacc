use Rattle.std.proofs.Common.{ap, ◌∙◌, map}
use Rattle.jm_stations.specs.Backlogs.{without_room}
use Rattle.jm_stations.specs.Stations.{Stations}
use Rattle.jm_queues.specs.Queues.{rows_in}
use Rattle.jm_queues.proofs.QueueCounts.{queues_copied}
use Rattle.jm_queues.proofs.QueueKeys.{keys_same}
use Rattle.jm_queues.proofs.QueueRows.{copies_same, rows_same}
use Rattle.jm_queues.proofs.queues.Queues.copy.Goals as goal

pub invariant_of-result : goal.invariant_of-result
invariant_of-result c =
    let i = c.self.inside in
    let list = ap (λ (x : Stations). x.list) c.in_ok-copy.ensures in
    let place = ap (λ (x : Stations). x.next_place) c.in_ok-copy.ensures in
    (rw (list, place) (queues_copied i.stations.list i.stations.next_place c.self.invariant.0), keys_same i.stations.keys c.in_ok-copy.field-0.keys (ap (λ (x : Stations). x.keys) c.in_ok-copy.ensures) c.self.invariant.1)

pub returns-clause-rows : goal.returns-clause-rows
returns-clause-rows c =
    let i = c.self.inside in
    ap (λ (x : Stations). rows_in x) c.in_ok-copy.ensures ∙ rows_same i.stations.keys i.stations.list (map without_room i.stations.list) (copies_same i.stations.list) ∙ ap (λ (x : Stations). rows_in x) c.self.view_is
