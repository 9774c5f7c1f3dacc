use Rattle.std.proofs.Common.{ap, ◌∙◌, None, sym}
use Rattle.jm_machine.specs.Wants.{next_chosen}
use Rattle.jm_stations.specs.Backlogs.{Backlog, empty}
use Rattle.jm_stations.specs.Stations.{Stations}
use Rattle.jm_queues.specs.Queues.{rows_in}
use Rattle.jm_queues.proofs.QueueRows.{rows_found}
use Rattle.jm_queues.proofs.queues.Queues.row_picked.Goals as goal

pub returns : goal.returns
returns c = λ pass settles now name found picked.
    let i = c.self.inside in
    let d : Backlog = empty None in
    let at = rw (← c.self.view_is) at found in
    let within = rw (← c.self.view_is) at c.requires.within in
    c.row_picked.ensures pass settles now d (rw (← c.self.view_is) at picked) ∙ ap (λ rows. next_chosen pass now rows) (sym (rows_found i.stations.keys i.stations.list name c.args.index d at within)) ∙ ap (λ (x : Stations). next_chosen pass now (rows_in x name)) c.self.view_is
