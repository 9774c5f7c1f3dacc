use Rattle.std.proofs.Common.{ap, refl}
use Rattle.jm_pending.specs.declared.receivers.Receivers.TheVariants.{Nobody}
use Rattle.jm_lanes.specs.Lanes.{rows_of}
use Rattle.jm_lanes.proofs.Making.{none_held}
use Rattle.jm_pending.proofs.Receiving.{known_no_rows}
use Rattle.jm_pending.proofs.held.Held.new.Goals as goal

pub invariant_of-result : goal.invariant_of-result
invariant_of-result c =
    let none = c.new.ensures in
    (rw none none_held, known_no_rows Nobody _ (ap rows_of none), rw none refl)
