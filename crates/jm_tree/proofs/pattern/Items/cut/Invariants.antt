use Rattle.std.proofs.Common.{◌≡◌, ◌++◌, length}
use Rattle.std.specs.Str.{chars}
use denote.Shadow.{shadow}
use denote.Text.{Utf8}
use Rattle.jm_tree.specs.Patterns.{items}
use Rattle.jm_tree.proofs.pattern.Items.cut.Given as goal

abbrev pub invariant-loop-item : goal.invariant-loop-item
invariant-loop-item l = (l.items ++ items l.escape (chars l.rest) ≡ items l.escape (chars l.fn.pattern)) × shadow (Utf8 l.rest)

abbrev pub decreases-loop-item : goal.decreases-loop-item
decreases-loop-item l = length (chars l.rest)
