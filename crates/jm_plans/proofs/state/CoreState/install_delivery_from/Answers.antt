use Rattle.std.proofs.Common.{◌≡◌, subst, sym, false, List, Some}
use Rattle.std.specs.List.{All}
use Rattle.jm_dest.specs.declared.key.Key.{Key}
use Rattle.jm_dest.specs.declared.key.Key.TheVariants.{Queue}
use Rattle.jm_dest.specs.Keys.{key_eq}
use Rattle.jm_machine.specs.Machine.{selected_by}
use Rattle.jm_queues.specs.Queues.{rows_in}
use Rattle.jm_plans.proofs.Fits.{receive_made_from}
use Rattle.jm_plans.proofs.Sources.{no_queue}
use Rattle.jm_plans.proofs.state.CoreState.install_delivery_from.Goals as goal

pub make_delivery_from-requires : goal.make_delivery_from-requires
make_delivery_from-requires c =
    let h = c.requires.2 in
    let taken = rw (← c.self.view_is) at h.taken in
    (h.queue, selected_by (Some h.consumer), taken)

pub returns : goal.returns
returns c =
    let m = c.make_delivery_from.ensures in
    let i = c.self.inside in
    let r = c.args.receiver.now in
    λ who call h.
    let mode = rw (← c.self.view_is) at h.mode in
    let allowed = rw (← c.self.view_is) at h.allowed in
    let source = rw (← c.self.view_is) at h.source in
    let taken = rw (← c.self.view_is) at h.taken in
    let pass = selected_by (Some h.consumer) in
    let none = subst (λ (ks : List Key). All (λ x. key_eq x (Queue h.queue) ≡ false) ks) (sym c.self.invariant.0.same) (no_queue i.sessions.consumers h.queue i.stations.keys c.self.invariant.0.made) in
    rw (h.sender, h.asked, ← c.self.view_is)
    (receive_made_from i.opening i.limit i.sessions.life i.sessions.consumers i.subs.list i.stations.list (rows_in i.queues) i.stations.next_place r h.consumer h.queue c.make_delivery_from.result (rows_in c.make_delivery_from.new.queues)
    mode allowed source h.key none (m.answer h.queue pass taken) (m.rows h.queue pass taken))
