use Rattle.std.proofs.Common.{None}
use Rattle.std.proofs.lemmas.Str.Pattern.{split_text_parts}
use Rattle.jm_eval.proofs.Found.{fits_nowhere, fits_after}
use Rattle.jm_eval.proofs.items.after_literal.Goals as goal

pub returns-in-None : goal.returns-in-None
returns-in-None c places is_literal is =
    rw is_literal (fits_nowhere c.args.text.now c.args.literal.now c.utf8.text c.utf8.literal
    (split_text_parts c.args.literal.now c.args.text.now None c.in-None.ensures.cases) is)

pub returns-in-Some : goal.returns-in-Some
returns-in-Some c places is_literal is =
    rw is_literal (fits_after c.args.text.now c.args.literal.now c.utf8.text c.utf8.literal c.in-Some.field-0-0 c.in-Some.rest c.in-Some.ensures.cases is)
