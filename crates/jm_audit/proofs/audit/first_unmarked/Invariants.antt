use Rattle.std.proofs.Common.{◌≡◌, ℕ, ◌<◌, true}
use Rattle.jm_audit.specs.Marks.{mark}
use Rattle.jm_audit.proofs.audit.first_unmarked.Given as goal

abbrev pub invariant-loop-p : goal.invariant-loop-p
invariant-loop-p l = (q : ℕ) → q < l.p → mark l.marks q ≡ true
