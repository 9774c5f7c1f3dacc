use Rattle.std.proofs.Common.{length, arith, ap}
use Rattle.std.proofs.lemmas.Str.{is_utf8-from_IsUtf8}
use Rattle.jm_format.proofs.writing.put_text.Goals as goal

pub returns-clause-valid : goal.returns-clause-valid
returns-clause-valid c = record {
  utf8 = is_utf8-from_IsUtf8 c.args.text.now c.utf8.text;
  short = omega (arith, ap length c.as_bytes.ensures.value, c.put_block.ensures.valid.short);
}
