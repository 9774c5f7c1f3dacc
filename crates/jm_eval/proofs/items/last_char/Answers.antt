use Rattle.std.proofs.Common.{◌≡◌, ◌++◌, length, ap, sym, ◌∙◌}
use Rattle.std.specs.Str.{chars}
use Rattle.std.proofs.lemmas.Str.{chars-nil}
use lib.Utf8.{encode}
use Rattle.jm_eval.proofs.Chars.{nothing, last_of}
use Rattle.jm_eval.proofs.items.last_char.Goals as goal

pub returns-in-None : goal.returns-in-None
returns-in-None c = ap chars (nothing c.args.text.now (ap length (sym c.chars-rest.ensures.rest) ∙ c.in-None.ensures.steps.0)) ∙ chars-nil

pub returns-in-Some : goal.returns-in-Some
returns-in-Some c =
    let e : c.args.text.now ≡ c.as_str.result.now ++ encode c.in-Some.c = cc (c.in-Some.ensures.steps, c.chars-rest.ensures.rest, c.as_str.ensures) in
    last_of c.args.text.now c.as_str.result.now c.in-Some.c c.utf8.text c.as_str.utf8 e
