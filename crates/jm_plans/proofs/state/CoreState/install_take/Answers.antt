use Rattle.std.proofs.Common.{refl}
use Rattle.jm_machine.specs.Machine.{busy_if, consumer_of, key_at}
use Rattle.jm_parts.specs.Listening.{is_delivered}
use Rattle.jm_queues.specs.Queues.{rows_in}
use Rattle.jm_plans.proofs.Fits.{picked_taken, sound_taken}
use Rattle.jm_plans.proofs.Listening.{keeps_busy, sound_marked, take_made}
use Rattle.jm_plans.proofs.state.CoreState.install_take.Goals as goal

pub make_delivery-answer-requires-clause-within : goal.make_delivery-answer-requires-clause-within
make_delivery-answer-requires-clause-within c = rw (← c.self.view_is) at c.requires.2.within

pub make_delivery-answer-requires-clause-picked : goal.make_delivery-answer-requires-clause-picked
make_delivery-answer-requires-clause-picked c =
    let i = c.self.inside in
    let r = c.args.receiver.now in
    let taken = rw (← c.self.view_is) at c.requires.2.taken in
    picked_taken i.stations.keys i.stations.list r (key_at (consumer_of i.sessions.consumers r.session r.consumer)) c.args.taking taken

pub make_busy-requires : goal.make_busy-requires
make_busy-requires c = rw (← c.self.view_is) at c.requires.2.allowed

pub invariant_of-self : goal.invariant_of-self
invariant_of-self c =
    let h = c.requires.2 in
    let m = c.make_delivery-answer.ensures in
    let b = c.make_busy.ensures in
    let i = c.self.inside in
    let r = c.args.receiver.now in
    let on = is_delivered c.make_delivery-answer.result in
    let taken = rw (← c.self.view_is) at h.taken in
    let sound = sound_taken i.limit i.sessions.consumers i.subs.list i.stations.keys i.stations.list i.stations.next_place r (key_at (consumer_of i.sessions.consumers r.session r.consumer)) c.args.taking c.self.invariant.0 taken in (
      rw (m.keys, m.list, m.next_place, b.consumers) (sound_marked i.limit (busy_if r.session r.consumer on) (keeps_busy r.session r.consumer on) i.sessions.consumers i.subs.list i.stations.keys _ i.stations.next_place sound),
      rw m.next_place c.self.invariant.1,
    )

pub returns : goal.returns
returns c =
    let m = c.make_delivery-answer.ensures in
    let b = c.make_busy.ensures in
    let i = c.self.inside in
    let r = c.args.receiver.now in
    λ who call h.
    let allowed = rw (← c.self.view_is) at h.allowed in
    let started = rw (← c.self.view_is) at h.started in
    let apart = rw (← c.self.view_is) at h.apart in
    let held = rw (← c.self.view_is) at h.taken in
    let taken = rw (← c.self.invariant.0.same) at held in
    let key = key_at (consumer_of i.sessions.consumers r.session r.consumer) in
    rw (h.sender, h.asked, m.list, m.next_place, b.life, b.consumers, ← c.self.view_is)
    (take_made i.opening i.limit i.sessions.life i.sessions.consumers i.subs.list i.stations.list (rows_in i.queues) i.stations.next_place r key c.args.taking c.make_delivery-answer.result c.self.invariant.0.number h.mode started allowed refl apart taken m.answer)
