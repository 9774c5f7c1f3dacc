use Rattle.std.proofs.Common.{sym, ◌∙◌}
use Rattle.std.specs.Str.{chars}
use Rattle.jm_eval.proofs.Places.{whole_fails, whole_rest}
use Rattle.jm_eval.proofs.items.is_whole.Goals as goal

pub returns-in-None : goal.returns-in-None
returns-in-None c = sym (whole_fails c.args.places.now (chars c.args.text.now) c.in-None.ensures)

pub returns-in-Some : goal.returns-in-Some
returns-in-Some c = c.is_empty.ensures ∙ sym (whole_rest c.args.places.now (chars c.args.text.now) (chars c.in-Some.rest.now) c.in-Some.ensures.0)
