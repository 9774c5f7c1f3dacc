use Rattle.std.proofs.Common.{◌≡◌, List, ◌++◌, map, length}
use Rattle.std.specs.Str.{chars}
use denote.Shadow.{shadow}
use denote.Text.{Utf8}
use Rattle.jm_tree.specs.declared.pattern.Item.{Item}
use Rattle.jm_tree.specs.Patterns.{item_of}
use Rattle.jm_eval.specs.Patterns.{matches, any_suffix}
use Rattle.jm_eval.proofs.items.after_places.Given as goal

abbrev pub invariant-search : goal.invariant-search
invariant-search l =
    ((is : List Item) → any_suffix (matches (map item_of l.places ++ is)) (chars l.fn.text) ≡ any_suffix (matches (map item_of l.places ++ is)) (chars l.left))
    × shadow (Utf8 l.left)

abbrev pub decreases-search : goal.decreases-search
decreases-search l = length (chars l.left)
