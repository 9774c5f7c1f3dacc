use Rattle.std.proofs.Common.{ap, ◌∙◌, refl}
use Rattle.jm_machine.specs.Machine.{are_meant, at_queues, returned_rows}
use Rattle.jm_stations.specs.Stations.{Stations}
use Rattle.jm_queues.specs.Queues.{rows_at, rows_in}
use Rattle.jm_queues.proofs.QueueCounts.{fewer_returned, queues_mapped}
use Rattle.jm_queues.proofs.QueueKeys.{keys_same}
use Rattle.jm_queues.proofs.QueueRows.{rows_mapped}
use Rattle.jm_queues.proofs.queues.Queues.give_back.Goals as goal

pub invariant_of-self : goal.invariant_of-self
invariant_of-self c =
    let i = c.self.inside in
    let m = c.give_back.ensures in
    (rw (m.list, m.next_place) (queues_mapped (returned_rows (are_meant c.args.which.now)) (fewer_returned (are_meant c.args.which.now)) i.stations.list i.stations.next_place c.self.invariant.0), keys_same i.stations.keys c.give_back.new.self.keys m.keys c.self.invariant.1)

pub returns-clause-rows : goal.returns-clause-rows
returns-clause-rows c =
    let i = c.self.inside in
    let m = c.give_back.ensures in
    (λ j. rows_at (m.keys j) (m.list j)) ∙ rows_mapped i.stations.keys i.stations.list (returned_rows (are_meant c.args.which.now)) refl ∙ ap (λ (x : Stations). at_queues (returned_rows (are_meant c.args.which.now)) (rows_in x)) c.self.view_is
