use Rattle.std.proofs.Common.{◌≡◌, subst, sym, false, List, Some}
use Rattle.std.specs.List.{All}
use Rattle.jm_dest.specs.declared.key.Key.{Key}
use Rattle.jm_dest.specs.declared.key.Key.TheVariants.{Queue}
use Rattle.jm_dest.specs.Keys.{key_eq}
use Rattle.jm_machine.specs.Machine.{busy_if, selected_by}
use Rattle.jm_parts.specs.Listening.{is_delivered}
use Rattle.jm_queues.specs.Queues.{rows_in}
use Rattle.jm_plans.proofs.Listening.{keeps_busy, sound_marked, take_made_from}
use Rattle.jm_plans.proofs.Sources.{no_queue}
use Rattle.jm_plans.proofs.state.CoreState.install_take_from.Goals as goal

pub make_delivery_from-answer-requires : goal.make_delivery_from-answer-requires
make_delivery_from-answer-requires c =
    let h = c.requires.2 in
    let taken = rw (← c.self.view_is) at h.taken in
    (h.queue, selected_by (Some h.consumer), taken)

pub make_busy-requires : goal.make_busy-requires
make_busy-requires c = rw (← c.self.view_is) at c.requires.2.allowed

pub invariant_of-self : goal.invariant_of-self
invariant_of-self c =
    let i = c.self.inside in
    let r = c.args.receiver.now in
    let on = is_delivered c.make_delivery_from-answer.result in (
      rw c.make_busy.ensures.consumers (sound_marked i.limit (busy_if r.session r.consumer on) (keeps_busy r.session r.consumer on) i.sessions.consumers i.subs.list i.stations.keys i.stations.list i.stations.next_place c.self.invariant.0),
      rw c.make_delivery_from-answer.ensures.next_place c.self.invariant.1,
    )

pub returns : goal.returns
returns c =
    let m = c.make_delivery_from-answer.ensures in
    let b = c.make_busy.ensures in
    let i = c.self.inside in
    let r = c.args.receiver.now in
    λ who call h.
    let allowed = rw (← c.self.view_is) at h.allowed in
    let started = rw (← c.self.view_is) at h.started in
    let source = rw (← c.self.view_is) at h.source in
    let taken = rw (← c.self.view_is) at h.taken in
    let pass = selected_by (Some h.consumer) in
    let none = subst (λ (ks : List Key). All (λ x. key_eq x (Queue h.queue) ≡ false) ks) (sym c.self.invariant.0.same) (no_queue i.sessions.consumers h.queue i.stations.keys c.self.invariant.0.made) in
    rw (h.sender, h.asked, b.life, b.consumers, ← c.self.view_is)
    (take_made_from i.opening i.limit i.sessions.life i.sessions.consumers i.subs.list i.stations.list (rows_in i.queues) i.stations.next_place r h.consumer h.queue c.make_delivery_from-answer.result (rows_in c.make_delivery_from-answer.new.queues)
    h.mode started allowed source h.key none (m.answer h.queue pass taken) (m.rows h.queue pass taken))
