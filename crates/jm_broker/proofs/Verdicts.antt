-- What follows where passes account for a segment.
use Rattle.std.proofs.Common.{List}
use Rattle.std.specs.Prelude.{OnOk, Result, Ok, Err}
use Rattle.jm_audit.specs.Passes.{Calls}
use Rattle.jm_audit.specs.Audit.{Segment, Agree, EachOnce, Rise}
use Rattle.jm_audit.proofs.Audited.{once, rises}

pub once_ok : {X E : Type 0} (r : Result X E) (s : Segment) (ps : List Calls) → OnOk r (Agree s ps) → OnOk r (EachOnce s ps)
once_ok (Ok x) s ps h = once s ps h
once_ok (Err e) s ps h = tt

pub rise_ok : {X E : Type 0} (r : Result X E) (s : Segment) (ps : List Calls) → OnOk r (Agree s ps) → OnOk r (Rise s ps)
rise_ok (Ok x) s ps h = rises s ps h
rise_ok (Err e) s ps h = tt
