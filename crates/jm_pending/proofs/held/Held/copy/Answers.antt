use Rattle.std.proofs.Common.{refl, ◌∙◌, ap, length, sym}
use Rattle.jm_lanes.proofs.Keeping.{held_copied}
use Rattle.jm_pending.proofs.Receiving.{known_same}
use Rattle.jm_pending.proofs.held.Held.copy.Goals as goal

pub invariant_of-result : goal.invariant_of-result
invariant_of-result c =
    let kept = held_copied c.self.inside.lanes c.in_ok-copy.field-0 c.self.inside.room c.self.invariant.0 c.in_ok-copy.ensures in
    (kept.0, known_same _ _ _ kept.1 c.self.invariant.1, c.self.invariant.2 ∙ sym (ap length kept.1))

pub returns : goal.returns
returns c =
    rw (← c.self.view_is, (held_copied c.self.inside.lanes c.in_ok-copy.field-0 c.self.inside.room c.self.invariant.0 c.in_ok-copy.ensures).1) refl
