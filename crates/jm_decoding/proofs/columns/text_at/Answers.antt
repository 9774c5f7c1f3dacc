use Rattle.std.specs.Prelude.{◌≡◌, refl}
use Rattle.std.specs.Str.{is_utf8}
use Rattle.std.proofs.Common.{◌∙◌, ap, sym}
use Rattle.std.proofs.lemmas.Str.{is_utf8-from_IsUtf8, IsUtf8-from_is_utf8}
use Rattle.sqlite_value.specs.declared.value.Value.TheVariants.{Text}
use Rattle.sqlite_value.specs.Order.{bytes, column}
use Rattle.sqlite_value.specs.Value.{owned}
use Rattle.jm_decoding.proofs.columns.text_at.Goals as goal

pub returns-in-Ok-clause-utf8 : goal.returns-in-Ok-clause-utf8
returns-in-Ok-clause-utf8 c =
    ap is_utf8 c.in-Ok.ensures.cases.0 ∙ is_utf8-from_IsUtf8 c.in-Ok-Text.bytes.now c.in-Ok.ensures.cases.1

pub returns-in-Err-clause-err : goal.returns-in-Err-clause-err
returns-in-Err-clause-err c =
    let is : Text c.in-Ok-Text.bytes.now ≡ column c.args.row.now c.args.at = ap owned (sym c.in-Ok-Text.field-0-is) ∙ c.in-Ok-Text.ensures.ok.1 in
    (refl, λ h. c.in-Err.ensures.cases.0 (IsUtf8-from_is_utf8 c.in-Ok-Text.bytes.now (ap (λ v. is_utf8 (bytes v)) is ∙ h.utf8)))
