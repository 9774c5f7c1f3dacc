use Rattle.std.proofs.Common.{[], ◌∷◌, ◌++◌, ap, ◌∙◌}
use Rattle.std.specs.Str.{chars}
use Rattle.std.proofs.lemmas.Str.{IsUtf8-string_bytes}
use Rattle.jm_tree.proofs.Literals.{char_more}
use Rattle.jm_tree.proofs.pattern.appended.Goals as goal

pub returns : goal.returns
returns c =
    ap chars (c.new.ensures ∙ c.in_ok-push.ensures.bytes)
    ∙ char_more _ c.args.c (IsUtf8-string_bytes c.into_inner-text.result) c.ranges.c.0
    ∙ ap (λ text. chars text ++ c.args.c ∷ []) c.into_inner-text.ensures
