use Rattle.std.proofs.Common.{◌≡◌, ◌≤◌, length, take}
use Rattle.std.specs.Str.{chars}
use denote.Shadow.{shadow}
use denote.Text.{Utf8}
use Rattle.jm_eval.proofs.Backwards.{end_fits}
use Rattle.jm_eval.proofs.items.is_end.Given as goal

abbrev pub invariant-loop-count : goal.invariant-loop-count
invariant-loop-count l =
    (end_fits l.places (chars l.fn.text) ≡ end_fits (take l.count l.places) (chars l.left)) × (l.count ≤ length l.places) × shadow (Utf8 l.left)

abbrev pub decreases-loop-count : goal.decreases-loop-count
decreases-loop-count l = l.count
