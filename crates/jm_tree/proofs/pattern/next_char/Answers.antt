use Rattle.std.proofs.lemmas.Str.{chars_past_char}
use Rattle.jm_tree.proofs.pattern.next_char.Goals as goal

pub returns-in-Some : goal.returns-in-Some
returns-in-Some c =
    let h = c.in-Some.ensures in
    let s = c.as_str.ensures in
    chars_past_char c.args.text.now c.as_str.result.now c.in-Some.c c.utf8.text (cc (h.steps.0, c.chars-rest.ensures.rest, s))
