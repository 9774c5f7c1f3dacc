use Rattle.std.proofs.Common.{sym, arith, inr, subst, List, Bool}
use Rattle.jm_audit.specs.Audit.{segment}
use Rattle.jm_audit.specs.Marks.{MarksFor}
use Rattle.jm_audit.proofs.Audited.{gap, agrees}
use Rattle.jm_audit.proofs.audit.audit_segment.Goals as goal

pub returns-in-Some-first_unmarked-clause-fault : goal.returns-in-Some-first_unmarked-clause-fault
returns-in-Some-first_unmarked-clause-fault g c =
    let s = segment c.args.first c.args.events.now c.args.is_last in
    let M : List Bool → Type 0 = λ x. MarksFor s c.args.passes.now c.loop-i.i 0 x in
    let m = subst M (sym c.as_slice.ensures.value) c.loop-i.invariant.marks_are in
    let e = c.in-Some-first_unmarked.ensures.some in
    inr (gap s c.args.passes.now c.loop-i.i c.in-Some-first_unmarked.p c.as_slice.result.now (omega arith) c.loop-i.invariant.fits m e.0 e.1 e.2)

pub returns-clause-agree : goal.returns-clause-agree
returns-clause-agree g c =
    let s = segment c.args.first c.args.events.now c.args.is_last in
    let M : List Bool → Type 0 = λ x. MarksFor s c.args.passes.now c.loop-i.i 0 x in
    let m = subst M (sym c.as_slice.ensures.value) c.loop-i.invariant.marks_are in
    agrees s c.args.passes.now c.loop-i.i c.as_slice.result.now (omega arith) c.loop-i.invariant.fits m c.in_default-first_unmarked.ensures.none
