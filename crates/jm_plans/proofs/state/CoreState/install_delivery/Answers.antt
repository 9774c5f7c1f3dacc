use Rattle.std.proofs.Common.{refl}
use Rattle.jm_machine.specs.Machine.{key_at}
use Rattle.jm_queues.specs.Queues.{rows_in}
use Rattle.jm_parts.specs.Takings.{source_of}
use Rattle.jm_plans.proofs.Fits.{picked_taken, receive_made, sound_taken}
use Rattle.jm_plans.proofs.state.CoreState.install_delivery.Goals as goal

pub make_delivery-requires-clause-within : goal.make_delivery-requires-clause-within
make_delivery-requires-clause-within c = rw (← c.self.view_is) at c.requires.2.within

pub make_delivery-requires-clause-picked : goal.make_delivery-requires-clause-picked
make_delivery-requires-clause-picked c =
    let i = c.self.inside in
    let r = c.args.receiver.now in
    let taken = rw (← c.self.view_is) at c.requires.2.taken in
    picked_taken i.stations.keys i.stations.list r (key_at (source_of i.sessions.life i.sessions.consumers r.session r.consumer)) c.args.taking taken

pub invariant_of-self : goal.invariant_of-self
invariant_of-self c =
    let h = c.requires.2 in
    let m = c.make_delivery.ensures in
    let i = c.self.inside in
    let r = c.args.receiver.now in
    let taken = rw (← c.self.view_is) at h.taken in (
      rw (m.keys, m.list, m.next_place) (sound_taken i.limit i.sessions.consumers i.subs.list i.stations.keys i.stations.list i.stations.next_place r (key_at (source_of i.sessions.life i.sessions.consumers r.session r.consumer)) c.args.taking c.self.invariant.0 taken),
      rw m.next_place c.self.invariant.1,
    )

pub returns : goal.returns
returns c =
    let m = c.make_delivery.ensures in
    let i = c.self.inside in
    let r = c.args.receiver.now in
    λ who call h.
    let mode = rw (← c.self.view_is) at h.mode in
    let allowed = rw (← c.self.view_is) at h.allowed in
    let apart = rw (← c.self.view_is) at h.apart in
    let held = rw (← c.self.view_is) at h.taken in
    let taken = rw (← c.self.invariant.0.same) at held in
    let key = key_at (source_of i.sessions.life i.sessions.consumers r.session r.consumer) in
    rw (h.sender, h.asked, m.list, m.next_place, ← c.self.view_is)
    (receive_made i.opening i.limit i.sessions.life i.sessions.consumers i.subs.list i.stations.list (rows_in i.queues) i.stations.next_place r key c.args.taking c.make_delivery.result c.self.invariant.0.number mode allowed refl apart taken m.answer)
