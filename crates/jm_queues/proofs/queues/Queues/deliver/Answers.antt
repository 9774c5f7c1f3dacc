use Rattle.std.proofs.Common.{ap, ◌∙◌, List, None, sym, false}
use Rattle.jm_machine.specs.Machine.{at_queue}
use Rattle.jm_machine.specs.Rows.{deliver_chosen}
use Rattle.jm_machine.specs.declared.state.PlacedRow.{PlacedRow}
use Rattle.jm_stations.specs.Backlogs.{Backlog, answered_where, empty, out_row}
use Rattle.jm_stations.specs.Stations.{Stations}
use Rattle.jm_queues.specs.Queues.{rows_at, rows_in}
use Rattle.jm_queues.proofs.QueueCounts.{fewer_delivered, queues_changed}
use Rattle.jm_queues.proofs.QueueKeys.{keys_same}
use Rattle.jm_queues.proofs.QueueRows.{rows_changed, rows_found}
use Rattle.jm_queues.proofs.queues.Queues.deliver.Goals as goal

pub invariant_of-self : goal.invariant_of-self
invariant_of-self c =
    let i = c.self.inside in
    let m = c.deliver.ensures in
    let pass = c.requires.picked.0 in
    let picked = rw (← c.self.view_is) at c.requires.picked.1 in (
      rw (m.list pass picked, m.next_place) (queues_changed c.args.index (deliver_chosen pass c.args.now (out_row c.args.session c.args.consumer)) (fewer_delivered false c.args.session c.args.consumer pass c.args.now) i.stations.list i.stations.next_place c.self.invariant.0),
      keys_same i.stations.keys c.deliver.new.self.keys m.keys c.self.invariant.1,
    )

pub returns-clause-answer : goal.returns-clause-answer
returns-clause-answer c name pass found picked =
    let i = c.self.inside in
    let m = c.deliver.ensures in
    let d : Backlog = empty None in
    let at = rw (← c.self.view_is) at found in
    let within = rw (← c.self.view_is) at c.requires.within in
    m.answer pass d (rw (← c.self.view_is) at picked) ∙ ap (λ rows. answered_where pass c.args.now rows) (sym (rows_found i.stations.keys i.stations.list name c.args.index d at within)) ∙ ap (λ (x : Stations). answered_where pass c.args.now (rows_in x name)) c.self.view_is

pub returns-clause-rows : goal.returns-clause-rows
returns-clause-rows c name pass found picked =
    let i = c.self.inside in
    let m = c.deliver.ensures in
    let change : List PlacedRow → List PlacedRow = deliver_chosen pass c.args.now (out_row c.args.session c.args.consumer) in
    let at = rw (← c.self.view_is) at found in
    let within = rw (← c.self.view_is) at c.requires.within in
    let list = m.list pass (rw (← c.self.view_is) at picked) in
    (λ j. rows_at (m.keys j) (list j)) ∙ rows_changed i.stations.keys i.stations.list name change c.args.index at within ∙ ap (λ (x : Stations). at_queue name change (rows_in x)) c.self.view_is
