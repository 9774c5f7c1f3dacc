use Rattle.std.proofs.Common.{◌≡◌, false, inl, inr, refl, sym, Some}
use Rattle.jm_parts.specs.Takings.{is_queue}
use Rattle.jm_plans.proofs.Planned.{of_parts}
use Rattle.jm_core.proofs.ReadKeys.{subscription_index}
use Rattle.jm_core.proofs.reading.index_of_in.Goals as goal

pub returns-in-Own : goal.returns-in-Own
returns-in-Own c =
    let i = c.core.inside in
    let p = of_parts i.opening i.limit i.sessions i.subs i.stations i.queues in
    let apart : is_queue (Some c.args.key.now) ≡ false = elim c.in-Own.is [ inl e ↦ rw e.2 refl | inr f ↦ elim f [ inl e ↦ rw e.2 refl | inr e ↦ rw e.2 refl ] ] in
    rw (← c.core.view_is) (subscription_index i.limit i.stations.next_place p c.core.invariant.0 c.args.key.now apart c.index_of.result (sym c.index_of.ensures.index))
