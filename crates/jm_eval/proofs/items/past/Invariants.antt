use Rattle.std.specs.Str.{chars}
use denote.Shadow.{shadow}
use denote.Text.{Utf8}
use Rattle.jm_eval.proofs.Places.{HasPast}
use Rattle.jm_eval.proofs.items.past.Given as goal

abbrev pub invariant-loop-place : goal.invariant-loop-place
invariant-loop-place l = HasPast l.places l.place-index (chars l.fn.text) (chars l.rest) × shadow (Utf8 l.rest)
