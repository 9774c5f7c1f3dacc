use Rattle.std.proofs.Common.{ap, ◌∙◌, [], ◌<◌, ◌≤◌, length, get_or, arith}
use Rattle.std.proofs.lemmas.List.Elements.{All-head}
use Rattle.jm_machine.specs.Machine.{at_queue}
use Rattle.jm_stations.specs.Backlogs.{Backlog}
use Rattle.jm_stations.specs.Loading.{stored_row}
use Rattle.jm_stations.specs.Stations.{Stations}
use Rattle.jm_queues.specs.Queues.{rows_at, rows_in}
use Rattle.jm_queues.proofs.QueueCounts.{queues_published, queues_skipped}
use Rattle.jm_queues.proofs.QueueKeys.{keys_same}
use Rattle.jm_queues.proofs.QueueRows.{come_alone, rows_published, with_new}
use Rattle.jm_queues.proofs.queues.Queues.load.Goals as goal

pub invariant_of-self : goal.invariant_of-self
invariant_of-self c =
    let i = c.self.inside in
    let m = c.load.ensures in
    let new = c.load.new.self.list in
    let row = stored_row c.args.message c.args.count in
    let reserved = rw (← c.self.view_is) at c.requires.reserved in
    let from = rw (← c.self.view_is) at c.requires.from in
    let within = All-head (λ j. j < length i.stations.list) c.args.index [] reserved.within in
    let came = come_alone c.args.index c.args.place row i.stations.list new (rw c.skip_to.ensures at m.list) in (
      rw (m.next_place, c.skip_to.ensures) (queues_published c.args.index c.args.place row i.stations.list new within came (queues_skipped i.stations.list i.stations.next_place c.args.place from c.self.invariant.0)),
      keys_same i.stations.keys c.load.new.self.keys (m.keys ∙ ap (λ (x : Stations). x.keys) c.skip_to.ensures) c.self.invariant.1,
    )

pub returns-clause-rows : goal.returns-clause-rows
returns-clause-rows c name found =
    let i = c.self.inside in
    let m = c.load.ensures in
    let new = c.load.new.self.list in
    let row = stored_row c.args.message c.args.count in
    let reserved = rw (← c.self.view_is) at c.requires.reserved in
    let within = All-head (λ j. j < length i.stations.list) c.args.index [] reserved.within in
    let at = rw (← c.self.view_is) at found in
    let came = come_alone c.args.index c.args.place row i.stations.list new (rw c.skip_to.ensures at m.list) in
    let keys = m.keys ∙ ap (λ (x : Stations). x.keys) c.skip_to.ensures in
    ap (λ ks. rows_at ks new) keys
    ∙ rows_published i.stations.keys name c.args.index c.args.place row i.stations.list new c.self.invariant.0.unlimited at within came
    ∙ ap (λ (x : Stations). at_queue name (with_new c.args.place row) (rows_in x)) c.self.view_is

pub load-requires-clause-within : goal.load-requires-clause-within
load-requires-clause-within c =
    let i = c.self.inside in
    let reserved = rw (← c.self.view_is) at c.requires.reserved in
    rw c.skip_to.ensures (All-head (λ j. j < length i.stations.list) c.args.index [] reserved.within)

pub load-requires-clause-rows : goal.load-requires-clause-rows
load-requires-clause-rows c =
    let i = c.self.inside in
    let reserved = rw (← c.self.view_is) at c.requires.reserved in
    rw c.skip_to.ensures (λ d. let room = All-head (λ j. (d : Backlog) → 1 ≤ (get_or i.stations.list j d).room) c.args.index [] reserved.room d in omega (arith, room))
