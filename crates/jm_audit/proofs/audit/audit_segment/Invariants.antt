use Rattle.jm_audit.specs.Audit.{segment, FitsBefore}
use Rattle.jm_audit.specs.Marks.{MarksFor}
use Rattle.jm_audit.proofs.audit.audit_segment.Given as goal

abbrev pub invariant-loop-i : goal.invariant-loop-i
invariant-loop-i g l = record {
  fits : FitsBefore (segment l.first l.events l.is_last) l.passes l.i 0;
  marks_are : MarksFor (segment l.first l.events l.is_last) l.passes l.i 0 l.marks.items;
}
