use Rattle.std.specs.Str.{chars}
use denote.Shadow.{shadow}
use denote.Text.{Utf8}
use Rattle.jm_eval.proofs.Segments.{From}
use Rattle.jm_eval.proofs.items.after_each.Given as goal

abbrev pub invariant-loop-segment : goal.invariant-loop-segment
invariant-loop-segment l = From l.segments l.segment-index (chars l.fn.text) (chars l.left) × shadow (Utf8 l.left)
