use Rattle.std.proofs.Common.{◌≤◌, ◌+◌, ◌∷◌, [], ◌∙◌, ap, arith, refl, sym, subst}
use Rattle.std.proofs.lemmas.Result.{err_from_is_err_and}
use Rattle.jm_machine.specs.Machine.{places_end, queued}
use Rattle.jm_plans.specs.Provider.{Provider}
use Rattle.jm_queues.specs.Queues.{rows_in}
use Rattle.jm_parts.proofs.Stations.{more_room}
use Rattle.jm_plans.proofs.Sound.{sound_room}
use Rattle.jm_plans.proofs.Published.{one_sent, one_published, publication_sound, publication_seen}
use Rattle.jm_plans.proofs.state.CoreState.publish_one.Goals as goal

pub invariant_of-self : goal.invariant_of-self
invariant_of-self c =
    let h = c.in_err-publication.ensures in
    let i = c.self.inside in (
      rw (h.keys, h.next_place) (sound_room i.limit i.sessions.consumers i.subs.list i.stations.keys i.stations.list c.prepare_publication.new.stations.list i.stations.next_place c.self.invariant.0 h.list),
      rw (h.next_place, h.queues.next_place) c.self.invariant.1,
    )

pub returns-in_err-publication-clause-err : goal.returns-in_err-publication-clause-err
returns-in_err-publication-clause-err c =
    let p = err_from_is_err_and c.from_residual.result c.from_residual.ensures.1 in
    let h = c.in_err-publication.ensures in
    let i = c.self.inside in
    rw (p.1, h.next_place, more_room i.subs.list i.stations.list c.prepare_publication.new.stations.list h.list, h.queues.rows, ← c.self.view_is) refl

pub invariant_of-self-2 : goal.invariant_of-self-2
invariant_of-self-2 c =
    let h = c.in_ok-publication.ensures in
    let m = c.make_publication.ensures in
    let i = c.self.inside in
    let mid = c.prepare_publication.new.stations.list in
    let new = c.make_publication.new.stations.list in
    let x = c.in_ok-publication.publication in
    let Room : Provider → Type 0 = λ p. p.held.next_place + 1 ≤ places_end in
    let room = subst Room (sym c.self.view_is) c.requires in (
      rw (m.keys, m.next_place, h.keys, h.next_place)
          (publication_sound i.limit i.sessions.life i.sessions.consumers i.subs.list i.stations.keys i.stations.list mid new i.stations.next_place (i.stations.next_place + 1) (x ∷ []) c.self.invariant.0 h.list
          (one_sent 1 i.sessions.life i.subs.list c.prepare_publication.new.stations c.prepare_publication.new.queues x h.ready) (one_published i.stations.next_place mid new x (rw h.next_place at m.list)) room),
      m.queue_place,
    )

pub returns-clause-ok : goal.returns-clause-ok
returns-clause-ok c =
    let h = c.in_ok-publication.ensures in
    let m = c.make_publication.ensures in
    let i = c.self.inside in
    let mid = c.prepare_publication.new.stations.list in
    let new = c.make_publication.new.stations.list in
    let x = c.in_ok-publication.publication in
    rw (← c.self.view_is)
    (publication_seen i.opening i.limit i.sessions.life i.sessions.consumers i.subs.list i.stations.keys i.stations.list mid new (rows_in i.queues) (rows_in c.make_publication.new.queues) i.stations.next_place c.make_publication.new.stations.next_place (x ∷ []) (c.args.message ∷ []) c.self.invariant.0 h.list
    (one_sent 1 i.sessions.life i.subs.list c.prepare_publication.new.stations c.prepare_publication.new.queues x h.ready) (ap (λ y. y ∷ []) h.message) (one_published i.stations.next_place mid new x (rw h.next_place at m.list))
    (m.queues ∙ (λ j. queued x.message.destination x.message (h.next_place j) (h.queues.rows j))) (m.next_place ∙ ap (λ n. n + 1) h.next_place))

pub make_publication-requires : goal.make_publication-requires
make_publication-requires c =
    let h = c.in_ok-publication.ensures in
    let i = c.self.inside in
    let Room : Provider → Type 0 = λ p. p.held.next_place + 1 ≤ places_end in
    let room = subst Room (sym c.self.view_is) c.requires in
    let from = c.self.invariant.1 in
    record {
      places = omega (arith, room, h.next_place);
      from = omega (arith, from, h.next_place, h.queues.next_place);
      reserved = h.ready.room;
      queued = h.ready.aimed.queued;
    }
