use Rattle.std.proofs.Common.{length}
use Rattle.std.specs.Str.{chars}
use denote.Shadow.{shadow}
use denote.Text.{Utf8}
use Rattle.jm_tree.specs.Patterns.{items}
use Rattle.jm_eval.proofs.Runs.{HasPassed}
use Rattle.jm_eval.proofs.pattern.run_of.Given as goal

abbrev pub invariant-loop-wanted : goal.invariant-loop-wanted
invariant-loop-wanted l = HasPassed (items l.escape (chars l.fn.pattern)) (chars l.fn.text) (items l.escape (chars l.pattern)) (chars l.text) × shadow (Utf8 l.pattern) × shadow (Utf8 l.text)

abbrev pub decreases-loop-wanted : goal.decreases-loop-wanted
decreases-loop-wanted l = length (chars l.pattern)
