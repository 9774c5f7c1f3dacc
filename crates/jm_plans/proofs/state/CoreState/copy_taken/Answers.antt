use Rattle.std.proofs.Common.{refl}
use Rattle.jm_machine.specs.Machine.{consumer_of, key_at}
use Rattle.jm_queues.specs.Queues.{rows_in}
use Rattle.jm_plans.proofs.Fits.{picked_taken}
use Rattle.jm_plans.proofs.Listening.{take_made}
use Rattle.jm_parts.proofs.NextRows.{when_ok}
use Rattle.jm_plans.proofs.state.CoreState.copy_taken.Goals as goal

pub copy_delivery-requires-clause-within : goal.copy_delivery-requires-clause-within
copy_delivery-requires-clause-within c = rw (← c.self.view_is) at c.requires.2.within

pub copy_delivery-requires-clause-picked : goal.copy_delivery-requires-clause-picked
copy_delivery-requires-clause-picked c =
    let i = c.self.inside in
    let r = c.args.receiver.now in
    let taken = rw (← c.self.view_is) at c.requires.2.taken in
    picked_taken i.stations.keys i.stations.list r (key_at (consumer_of i.sessions.consumers r.session r.consumer)) c.args.taking.now taken

pub returns : goal.returns
returns c =
    let i = c.self.inside in
    let r = c.args.receiver.now in
    when_ok _ _ (λ answer told. λ who call h.
    let allowed = rw (← c.self.view_is) at h.allowed in
    let started = rw (← c.self.view_is) at h.started in
    let apart = rw (← c.self.view_is) at h.apart in
    let held = rw (← c.self.view_is) at h.taken in
    let taken = rw (← c.self.invariant.0.same) at held in
    let key = key_at (consumer_of i.sessions.consumers r.session r.consumer) in
    rw (h.sender, h.asked, ← c.self.view_is)
    (take_made i.opening i.limit i.sessions.life i.sessions.consumers i.subs.list i.stations.list (rows_in i.queues) i.stations.next_place r key c.args.taking.now answer c.self.invariant.0.number h.mode started allowed refl apart taken told).0)
    c.copy_delivery.result c.copy_delivery.ensures
