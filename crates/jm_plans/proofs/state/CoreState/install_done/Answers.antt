use Rattle.std.proofs.Common.{false}
use Rattle.jm_machine.specs.declared.consumers.Consumers.TheVariants.{One}
use Rattle.jm_machine.specs.Machine.{busy_if, consumer_of}
use Rattle.jm_parts.specs.Listening.{ending_key}
use Rattle.jm_plans.specs.Provider.{state_of}
use Rattle.jm_queues.specs.Queues.{rows_in}
use Rattle.jm_plans.proofs.Fits.{state_from}
use Rattle.jm_plans.proofs.Listening.{done_left, done_told, ended_seen, keeps_busy, sound_ended, sound_marked}
use Rattle.jm_plans.proofs.Planned.{of_parts}
use Rattle.jm_plans.proofs.state.CoreState.install_done.Goals as goal

pub make_free-requires : goal.make_free-requires
make_free-requires c = rw (← c.self.view_is) at c.requires.2.3

pub invariant_of-self : goal.invariant_of-self
invariant_of-self c =
    let d = c.make_done.ensures in
    let f = c.make_free.ensures in
    let i = c.self.inside in
    let s = c.args.session.now in
    let key = ending_key c.args.mode (consumer_of i.sessions.consumers s c.args.id) in
    let sound = sound_ended i.limit (One s c.args.id) c.args.ok key i.sessions.consumers i.subs.list i.stations.keys i.stations.list i.stations.next_place c.self.invariant.0 in (
      rw (d.keys, d.list, d.next_place, f.consumers, c.ending_key-key.ensures) (sound_marked i.limit (busy_if s c.args.id false) (keeps_busy s c.args.id false) i.sessions.consumers i.subs.list i.stations.keys _ i.stations.next_place sound),
      rw (d.queue_place, d.next_place) c.self.invariant.1,
    )

pub returns : goal.returns
returns c =
    let d = c.make_done.ensures in
    let f = c.make_free.ensures in
    let i = c.self.inside in
    let s = c.args.session.now in
    let x = consumer_of i.sessions.consumers s c.args.id in
    let key = ending_key c.args.mode x in
    let before = state_from i.opening i.limit i.sessions.life i.sessions.consumers i.subs.list i.stations.list (rows_in i.queues) i.stations.next_place in
    let list = rw c.ending_key-key.ensures at d.list in
    let queues = rw c.ending_key-key.ensures at d.queues in
    λ who call h.
    done_told c.args.self.now who call s c.args.id c.args.mode c.args.ok (state_of (of_parts i.opening i.limit c.make_free.new.sessions i.subs c.make_done.new.stations c.make_done.new.queues)) h
    (rw (list, d.next_place, f.life, f.consumers, ← c.self.view_is)
    (done_left before s c.args.id c.args.mode c.args.ok x _ _ (ended_seen (One s c.args.id) c.args.ok key i.subs.list i.stations.keys i.stations.list c.self.invariant.0.same c.self.invariant.0.number) queues))
