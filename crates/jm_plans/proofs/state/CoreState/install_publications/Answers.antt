use Rattle.std.proofs.Common.{◌+◌, ◌∙◌, ap, arith, length}
use Rattle.jm_plans.specs.Provider.{state_of}
use Rattle.jm_queues.specs.Queues.{rows_in}
use Rattle.jm_plans.proofs.Planned.{all_published, as_many, of_parts}
use Rattle.jm_plans.proofs.Published.{publication_seen, ready_sent}
use Rattle.jm_parts.proofs.Publishing.{ready_queued, ready_room}
use Rattle.jm_plans.proofs.Sound.{sound_published}
use Rattle.jm_parts.proofs.Stations.{room_same}
use Rattle.jm_plans.proofs.state.CoreState.install_publications.Goals as goal

pub make_publications-requires : goal.make_publications-requires
make_publications-requires c =
    let h = c.requires.2 in
    let i = c.self.inside in
    let xs = c.args.publications.items in
    let number = as_many xs h.messages h.prepared.same in
    let ready = rw (← c.self.view_is) at h.prepared.ready in
    let places = rw (← c.self.view_is) at h.prepared.places in
    record {
      places = omega (arith, number, places);
      from = c.self.invariant.1;
      reserved = ready_room (length h.messages) (length xs) i.sessions.life i.subs.list i.stations i.queues xs number ready;
      queued = ready_queued (length h.messages) i.sessions.life i.subs.list i.stations i.queues xs ready;
    }

pub invariant_of-self : goal.invariant_of-self
invariant_of-self c =
    let h = c.requires.2 in
    let m = c.make_publications.ensures in
    let i = c.self.inside in
    let xs = c.args.publications.items in
    let ready = rw (← c.self.view_is) at h.prepared.ready in
    let places = rw (← c.self.view_is) at h.prepared.places in (
      rw (m.keys, m.next_place)
          (sound_published i.limit i.sessions.life i.sessions.consumers i.subs.list i.stations.keys i.stations.list c.make_publications.new.stations.list i.stations.next_place (i.stations.next_place + length xs) xs c.self.invariant.0
          (ready_sent (length h.messages) i.sessions.life i.subs.list i.stations i.queues xs ready) m.list (omega (arith, places, as_many xs h.messages h.prepared.same))),
      m.queue_place,
    )

pub returns : goal.returns
returns c =
    let m = c.make_publications.ensures in
    let i = c.self.inside in
    let new = c.make_publications.new.stations in
    let after = c.make_publications.new.queues in
    let xs = c.args.publications.items in
    λ who call h.
    let ready = rw (← c.self.view_is) at h.prepared.ready in
    let end = m.next_place ∙ ap (λ n. i.stations.next_place + n) (as_many xs h.messages h.prepared.same) in
    all_published c.args.self.now who call xs (state_of (of_parts i.opening i.limit i.sessions i.subs new after)) h
    (rw (← c.self.view_is)
    (publication_seen i.opening i.limit i.sessions.life i.sessions.consumers i.subs.list i.stations.keys i.stations.list i.stations.list new.list (rows_in i.queues) (rows_in after) i.stations.next_place new.next_place xs h.messages c.self.invariant.0 (room_same i.stations.list)
    (ready_sent (length h.messages) i.sessions.life i.subs.list i.stations i.queues xs ready) h.prepared.same m.list m.queues end))
