use Rattle.std.proofs.Common.{◌∙◌, length, refl, sym}
use Rattle.jm_plans.proofs.Planned.{of_parts, places_within}
use Rattle.jm_plans.proofs.Published.{prepared_if}
use Rattle.jm_parts.proofs.Stations.{more_room}
use Rattle.jm_plans.proofs.Sound.{sound_room}
use Rattle.jm_plans.proofs.state.CoreState.prepare_messages.Goals as goal

pub returns-then-not-has_places-clause-err : goal.returns-then-not-has_places-clause-err
returns-then-not-has_places-clause-err c = rw (sym c.has_places.ensures ∙ c.if-not-has_places.true) refl

pub invariant_of-self : goal.invariant_of-self
invariant_of-self c =
    let h = c.prepare_publications.ensures in
    let i = c.self.inside in (
      rw (h.keys, h.next_place) (sound_room i.limit i.sessions.consumers i.subs.list i.stations.keys i.stations.list c.prepare_publications.new.stations.list i.stations.next_place c.self.invariant.0 h.list),
      rw (h.next_place, h.queues.next_place) c.self.invariant.1,
    )

pub returns-clause-same : goal.returns-clause-same
returns-clause-same c =
    let h = c.prepare_publications.ensures in
    let i = c.self.inside in
    rw (h.next_place, more_room i.subs.list i.stations.list c.prepare_publications.new.stations.list h.list, h.queues.rows, ← c.self.view_is) refl

pub returns-clause-ok : goal.returns-clause-ok
returns-clause-ok c =
    let h = c.prepare_publications.ensures in
    let i = c.self.inside in
    let room = places_within c.args.self.now.held.next_place (length c.args.messages.now) (sym c.has_places.ensures ∙ c.if-not-has_places.false) in
    prepared_if (λ publications. publications.items) (of_parts i.opening i.limit i.sessions i.subs c.prepare_publications.new.stations c.prepare_publications.new.queues) c.args.messages.now c.prepare_publications.result
    (rw h.next_place (rw (← c.self.view_is) at room)) h.messages h.ready

pub returns-clause-err : goal.returns-clause-err
returns-clause-err c = rw (sym c.has_places.ensures ∙ c.if-not-has_places.false) c.prepare_publications.ensures.err
