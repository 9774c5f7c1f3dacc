use Rattle.std.proofs.Common.{◌+◌, ◌∙◌, ℕ, ap, arith, length, map, List}
use Rattle.jm_machine.specs.declared.state.PlacedRow.{PlacedRow}
use Rattle.jm_machine.specs.declared.state.Station.{Station}
use Rattle.jm_machine.specs.Machine.{State, at_queues, of_session, published, settled_rows}
use Rattle.jm_stations.specs.Backlogs.{settled}
use Rattle.jm_plans.specs.Provider.{state_of}
use Rattle.jm_queues.specs.Queues.{published_queues, rows_in}
use Rattle.jm_plans.proofs.Closing.{settled_stations, sound_settled}
use Rattle.jm_plans.proofs.Planned.{all_committed, as_many, of_parts}
use Rattle.jm_plans.proofs.Published.{message_of, publication_seen, ready_sent}
use Rattle.jm_parts.proofs.Publishing.{ready_queued, room_after_settling}
use Rattle.jm_plans.proofs.Sound.{sound_published}
use Rattle.jm_parts.proofs.Stations.{room_same}
use Rattle.jm_plans.proofs.state.CoreState.install_commit.Goals as goal

pub make_publications-requires : goal.make_publications-requires
make_publications-requires c =
    let h = c.requires.2 in
    let s = c.make_settle.ensures in
    let i = c.self.inside in
    let xs = c.args.sent.items in
    let number = as_many xs h.messages h.prepared.same in
    let ready = rw (← c.self.view_is) at h.prepared.ready in
    let places = rw (← c.self.view_is) at h.prepared.places in
    let from = c.self.invariant.1 in
    record {
      places = omega (arith, number, places, s.next_place);
      from = omega (arith, from, s.next_place, s.queue_place);
      reserved = room_after_settling (of_session c.args.id.now) (length h.messages) (length xs) i.sessions.life i.subs.list i.stations i.queues c.make_settle.new.stations c.make_settle.new.queues xs number s.list s.room s.queue_list s.queue_room ready;
      queued = rw s.queue_keys (ready_queued (length h.messages) i.sessions.life i.subs.list i.stations i.queues xs ready);
    }

pub invariant_of-self : goal.invariant_of-self
invariant_of-self c =
    let h = c.requires.2 in
    let s = c.make_settle.ensures in
    let m = c.make_publications.ensures in
    let i = c.self.inside in
    let xs = c.args.sent.items in
    let list = map (settled (of_session c.args.id.now)) i.stations.list in
    let new = c.make_publications.new.stations.list in
    let place = i.stations.next_place in
    let ready = rw (← c.self.view_is) at h.prepared.ready in
    let places = rw (← c.self.view_is) at h.prepared.places in (
      rw (m.keys, m.next_place, s.keys, s.next_place)
          (sound_published i.limit i.sessions.life i.sessions.consumers i.subs.list i.stations.keys list new place (place + length xs) xs
          (sound_settled i.limit c.args.id.now i.sessions.consumers i.subs.list i.stations.keys i.stations.list place c.self.invariant.0)
          (ready_sent (length h.messages) i.sessions.life i.subs.list i.stations i.queues xs ready) (rw (s.list, s.next_place) at m.list) (omega (arith, places, as_many xs h.messages h.prepared.same))),
      m.queue_place,
    )

pub returns : goal.returns
returns c =
    let s = c.make_settle.ensures in
    let m = c.make_publications.ensures in
    let i = c.self.inside in
    let new = c.make_publications.new.stations in
    let queues = c.make_publications.new.queues in
    let xs = c.args.sent.items in
    let list = map (settled (of_session c.args.id.now)) i.stations.list in
    let held : List ℕ → List PlacedRow = at_queues (settled_rows (of_session c.args.id.now)) (rows_in i.queues) in
    let place = i.stations.next_place in
    let sound = sound_settled i.limit c.args.id.now i.sessions.consumers i.subs.list i.stations.keys i.stations.list place c.self.invariant.0 in
    let after : List Station → State = λ xs. record { opening = i.opening; limit = i.limit; life = i.sessions.life; consumers = i.sessions.consumers; stations = xs; queues = held; next_place = i.stations.next_place } in
    λ who call h.
    let ready = rw (← c.self.view_is) at h.prepared.ready in
    let end = m.next_place ∙ ap (λ n. n + length xs) s.next_place ∙ ap (λ n. place + n) (as_many xs h.messages h.prepared.same) in
    let seen = publication_seen i.opening i.limit i.sessions.life i.sessions.consumers i.subs.list i.stations.keys list list new.list held (rows_in queues) place new.next_place xs h.messages sound (room_same list)
    (ready_sent (length h.messages) i.sessions.life i.subs.list i.stations i.queues xs ready) h.prepared.same (rw (s.list, s.next_place) at m.list) (m.queues ∙ (λ j. published_queues (s.next_place j) (map message_of xs) (s.queues j))) end in
    all_committed c.args.self.now who call c.args.id.now xs (state_of (of_parts i.opening i.limit i.sessions i.subs new queues)) h
    (rw (← c.self.view_is) (seen ∙ ap (λ (ys : List Station). published (after ys) h.messages) (settled_stations c.args.id.now i.subs.list i.stations.list)))
