use Rattle.std.proofs.Common.{ap, ◌∙◌, List}
use Rattle.jm_machine.specs.Machine.{are_meant, at_queue, returned_rows}
use Rattle.jm_machine.specs.declared.state.PlacedRow.{PlacedRow}
use Rattle.jm_stations.specs.Stations.{Stations}
use Rattle.jm_queues.specs.Queues.{rows_at, rows_in}
use Rattle.jm_queues.proofs.QueueCounts.{fewer_returned, queues_changed}
use Rattle.jm_queues.proofs.QueueKeys.{keys_same}
use Rattle.jm_queues.proofs.QueueRows.{rows_changed}
use Rattle.jm_queues.proofs.queues.Queues.give_back_at.Goals as goal

pub invariant_of-self : goal.invariant_of-self
invariant_of-self c =
    let i = c.self.inside in
    let m = c.give_back_at.ensures in
    let p = are_meant c.args.which.now in (
      rw (m.list, m.next_place) (queues_changed c.args.index (returned_rows p) (fewer_returned p) i.stations.list i.stations.next_place c.self.invariant.0),
      keys_same i.stations.keys c.give_back_at.new.self.keys m.keys c.self.invariant.1,
    )

pub returns-clause-rows : goal.returns-clause-rows
returns-clause-rows c name found =
    let i = c.self.inside in
    let m = c.give_back_at.ensures in
    let change : List PlacedRow → List PlacedRow = returned_rows (are_meant c.args.which.now) in
    let at = rw (← c.self.view_is) at found in
    let within = rw (← c.self.view_is) at c.requires in
    (λ j. rows_at (m.keys j) (m.list j)) ∙ rows_changed i.stations.keys i.stations.list name change c.args.index at within ∙ ap (λ (x : Stations). at_queue name change (rows_in x)) c.self.view_is
