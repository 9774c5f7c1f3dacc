use Rattle.jm_audit.specs.Audit.{segment}
use Rattle.jm_audit.proofs.Auditing.{Going}
use Rattle.jm_audit.proofs.audit.first_bad.Given as goal

abbrev pub invariant-loop-j : goal.invariant-loop-j
invariant-loop-j g l = Going (segment l.first l.events l.is_last) l.passes l.i l.j l.marks.items l.floor
