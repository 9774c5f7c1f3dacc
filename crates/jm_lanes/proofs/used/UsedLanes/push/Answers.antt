use Rattle.jm_lanes.proofs.Within.{within_pushed}
use Rattle.jm_lanes.proofs.Written.{written, pushed_lanes}
use Rattle.jm_lanes.proofs.used.UsedLanes.push.Goals as goal

pub invariant_of-self : goal.invariant_of-self
invariant_of-self c =
    let pushed = c.push-at.ensures.pushed in
    let within = rw c.deref_mut.ensures.value at c.push-at.ensures.within in
    let count = rw (← c.self.view_is) at c.requires.count in
    rw (written _ _ _ _ c.deref_mut.ensures.value c.deref_mut.ensures.len (pushed_lanes _ _ c.push-at.result pushed.0 pushed.1), pushed.1, c.deref_mut.ensures.value) (within_pushed c.self.inside.lanes.items c.push-at.result c.args.count c.self.inside.room c.room_outside-self-inside.result pushed.0 c.self.inside.span c.with-span.result c.self.invariant count within c.with-span.ensures.first c.with-span.ensures.end c.with-span.ensures.others c.with-span.ensures.bound c.room_outside-self-inside.ensures)
