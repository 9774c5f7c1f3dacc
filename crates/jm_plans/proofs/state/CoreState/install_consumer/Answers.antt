use Rattle.std.proofs.Common.{ap}
use Rattle.jm_machine.specs.Machine.{State, joined}
use Rattle.jm_plans.specs.Provider.{state_of}
use Rattle.jm_queues.specs.Queues.{rows_in}
use Rattle.jm_plans.proofs.Planned.{of_parts, consumer_made}
use Rattle.jm_plans.proofs.Sound.{decided_state, roomy, sound_created}
use Rattle.jm_plans.proofs.state.CoreState.install_consumer.Goals as goal

pub make_decided-requires : goal.make_decided-requires
make_decided-requires c = rw (← c.self.view_is) at (roomy c.args.self.now c.args.source.key c.args.decision c.requires.2.decided)

pub make_consumer-requires : goal.make_consumer-requires
make_consumer-requires c =
    let h = c.requires.2 in
    record { begins = rw (← c.self.view_is) at h.begins; room = rw (← c.self.view_is) at h.room }

pub invariant_of-self : goal.invariant_of-self
invariant_of-self c =
    let h = c.requires.2 in
    let d = c.make_decided.ensures in
    let m = c.make_consumer.ensures in
    let i = c.self.inside in
    let begins = rw (← c.self.view_is) at h.begins in (
      rw (m.consumers, d.subs, d.keys, d.list, d.next_place)
          (sound_created i.limit i.sessions.life i.sessions.consumers i.subs.list i.stations.keys i.stations.list i.stations.next_place c.args.session.now c.args.id c.args.source.key c.args.source.selector c.args.self.now c.args.decision c.self.invariant.0 begins h.own h.decided),
      rw d.next_place c.self.invariant.1,
    )

pub returns : goal.returns
returns c =
    let d = c.make_decided.ensures in
    let m = c.make_consumer.ensures in
    let i = c.self.inside in
    λ who call h.
    let seen = decided_state i.opening i.limit i.sessions.life i.sessions.consumers i.subs.list i.stations.keys i.stations.list (rows_in i.queues) i.stations.next_place c.args.source.key c.args.self.now c.args.decision c.self.invariant.0 h.decided in
    consumer_made c.args.self.now who call c.args.session.now c.args.id c.args.source c.args.decision (state_of (of_parts i.opening i.limit c.make_consumer.new.sessions c.make_decided.new.subs c.make_decided.new.stations i.queues)) h
    (rw (m.life, m.consumers, d.subs, d.list, d.next_place, ← c.self.view_is) (ap (λ (x : State). joined c.args.session.now c.args.id c.args.source.key c.args.source.selector x) seen))
