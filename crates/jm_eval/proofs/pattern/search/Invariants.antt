use Rattle.std.proofs.Common.{◌≡◌, ◌+◌, length}
use Rattle.std.specs.Str.{chars}
use denote.Shadow.{shadow}
use denote.Text.{Utf8}
use Rattle.jm_tree.specs.Patterns.{items}
use Rattle.jm_eval.specs.Patterns.{matches, any_suffix}
use Rattle.jm_eval.proofs.pattern.search.Given as goal

abbrev pub invariant-search : goal.invariant-search
invariant-search l =
    (any_suffix (matches (items l.escape (chars l.fn.pattern))) (chars l.fn.text) ≡ any_suffix (matches (items l.escape (chars l.pattern))) (chars l.text))
    × shadow (Utf8 l.pattern) × shadow (Utf8 l.text)

abbrev pub decreases-search : goal.decreases-search
decreases-search l = length (items l.escape (chars l.pattern)) + length (chars l.text)
