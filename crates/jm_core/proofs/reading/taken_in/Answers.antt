use Rattle.std.proofs.Common.{◌∙◌, inl, inr}
use Rattle.jm_machine.specs.Machine.{consumer_of}
use Rattle.jm_parts.specs.Takings.{source_of}
use Rattle.jm_plans.proofs.Planned.{of_parts}
use Rattle.jm_core.proofs.Taken.{taken_held, taken_queue}
use Rattle.jm_core.proofs.reading.taken_in.Goals as goal

pub returns-in-Receive : goal.returns-in-Receive
returns-in-Receive c =
    let i = c.core.inside in
    let p = of_parts i.opening i.limit i.sessions i.subs i.stations i.queues in
    let h = rw (← c.core.view_is) at c.requires in
    let o = c.in-Receive.taking in
    rw (← c.core.view_is) (c.picked_place.ensures ∙ elim c.in-Receive.is [
      | inl e ↦
          let g = rw e.1 at h.2 in
          rw e.1 (taken_held i.limit i.stations.next_place p c.core.invariant.0 e.0 (source_of p.known.life p.known.consumers e.0.session e.0.consumer) o g.apart g.taken)
      | inr f ↦ elim f [
        | inl e ↦
            let g = rw e.1 at h.2 in
            rw e.1 (taken_queue i.limit i.stations.next_place p c.core.invariant.0 e.0 (source_of p.known.life p.known.consumers e.0.session e.0.consumer) g.consumer g.queue o g.source g.key g.taken)
        | inr f ↦ elim f [
          | inl e ↦
              let g = rw e.1 at h.2 in
              rw e.1 (taken_held i.limit i.stations.next_place p c.core.invariant.0 e.0 (consumer_of p.known.consumers e.0.session e.0.consumer) o g.apart g.taken)
          | inr e ↦
              let g = rw e.1 at h.2 in
              rw e.1 (taken_queue i.limit i.stations.next_place p c.core.invariant.0 e.0 (consumer_of p.known.consumers e.0.session e.0.consumer) g.consumer g.queue o g.source g.key g.taken)
        ]
      ]
    ])
