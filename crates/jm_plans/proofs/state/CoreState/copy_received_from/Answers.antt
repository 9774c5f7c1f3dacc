use Rattle.std.proofs.Common.{◌≡◌, refl, subst, sym, false, List, Some}
use Rattle.std.specs.List.{All}
use Rattle.jm_dest.specs.declared.key.Key.{Key}
use Rattle.jm_dest.specs.declared.key.Key.TheVariants.{Queue}
use Rattle.jm_dest.specs.Keys.{key_eq}
use Rattle.jm_machine.specs.Machine.{at_queue, selected_by}
use Rattle.jm_machine.specs.Rows.{deliver_chosen}
use Rattle.jm_queues.specs.Queues.{rows_in}
use Rattle.jm_parts.specs.Takings.{left_by}
use Rattle.jm_plans.proofs.Fits.{receive_made_from}
use Rattle.jm_parts.proofs.NextRows.{when_ok}
use Rattle.jm_plans.proofs.Sources.{no_queue}
use Rattle.jm_plans.proofs.state.CoreState.copy_received_from.Goals as goal

pub copy_delivery_from-requires : goal.copy_delivery_from-requires
copy_delivery_from-requires c =
    let h = c.requires.2 in
    (h.queue, selected_by (Some h.consumer), rw (← c.self.view_is) at h.taken)

pub returns : goal.returns
returns c =
    let g = c.requires.2 in
    let i = c.self.inside in
    let r = c.args.receiver.now in
    let pass = selected_by (Some g.consumer) in
    let mode = rw (← c.self.view_is) at g.mode in
    let allowed = rw (← c.self.view_is) at g.allowed in
    let source = rw (← c.self.view_is) at g.source in
    let taken = rw (← c.self.view_is) at g.taken in
    let none = subst (λ (ks : List Key). All (λ x. key_eq x (Queue g.queue) ≡ false) ks) (sym c.self.invariant.0.same) (no_queue i.sessions.consumers g.queue i.stations.keys c.self.invariant.0.made) in
    let left = at_queue g.queue (deliver_chosen pass r.moment (left_by r)) (rows_in i.queues) in
    when_ok _ _ (λ answer told. λ who call h.
    rw (h.sender, h.asked, ← c.self.view_is)
    (receive_made_from i.opening i.limit i.sessions.life i.sessions.consumers i.subs.list i.stations.list (rows_in i.queues) i.stations.next_place r g.consumer g.queue answer left
    mode allowed source g.key none told refl).0)
    c.copy_delivery_from.result (c.copy_delivery_from.ensures g.queue pass taken)
