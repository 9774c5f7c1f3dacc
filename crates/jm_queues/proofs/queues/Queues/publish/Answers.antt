use Rattle.std.proofs.Common.{ap, ◌∙◌, [], ◌<◌, length}
use Rattle.std.proofs.lemmas.List.Elements.{All-head}
use Rattle.jm_machine.specs.Machine.{at_queue}
use Rattle.jm_machine.specs.Rows.{fresh}
use Rattle.jm_stations.specs.Stations.{Stations}
use Rattle.jm_queues.specs.Queues.{rows_at, rows_in}
use Rattle.jm_queues.proofs.QueueCounts.{queues_published, queues_skipped}
use Rattle.jm_queues.proofs.QueueKeys.{keys_same}
use Rattle.jm_queues.proofs.QueueRows.{rows_published, with_new}
use Rattle.jm_queues.proofs.queues.Queues.publish.Goals as goal

pub invariant_of-self : goal.invariant_of-self
invariant_of-self c =
    let i = c.self.inside in
    let m = c.publish.ensures in
    let new = c.publish.new.self.list in
    let reserved = rw (← c.self.view_is) at c.requires.reserved in
    let from = rw (← c.self.view_is) at c.requires.from in
    let within = All-head (λ j. j < length i.stations.list) c.args.index [] reserved.within in
    let came = rw (c.skip_to.ensures, c.from_ref.ensures.value) at m.list in (
      rw (m.next_place, c.skip_to.ensures) (queues_published c.args.index c.args.place (fresh c.args.message) i.stations.list new within came (queues_skipped i.stations.list i.stations.next_place c.args.place from c.self.invariant.0)),
      keys_same i.stations.keys c.publish.new.self.keys (m.keys ∙ ap (λ (x : Stations). x.keys) c.skip_to.ensures) c.self.invariant.1,
    )

pub returns-clause-rows : goal.returns-clause-rows
returns-clause-rows c name found =
    let i = c.self.inside in
    let m = c.publish.ensures in
    let new = c.publish.new.self.list in
    let reserved = rw (← c.self.view_is) at c.requires.reserved in
    let within = All-head (λ j. j < length i.stations.list) c.args.index [] reserved.within in
    let at = rw (← c.self.view_is) at found in
    let came = rw (c.skip_to.ensures, c.from_ref.ensures.value) at m.list in
    let keys = m.keys ∙ ap (λ (x : Stations). x.keys) c.skip_to.ensures in
    ap (λ ks. rows_at ks new) keys
    ∙ rows_published i.stations.keys name c.args.index c.args.place (fresh c.args.message) i.stations.list new c.self.invariant.0.unlimited at within came
    ∙ ap (λ (x : Stations). at_queue name (with_new c.args.place (fresh c.args.message)) (rows_in x)) c.self.view_is
