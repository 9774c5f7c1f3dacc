use Rattle.std.proofs.Common.{refl, ◌∙◌, w8}
use Rattle.jm_property.proofs.Parsing.{parsed}
use Rattle.jm_property.proofs.property.parse_byte.Goals as goal

pub returns : goal.returns
returns c = c.ok.ensures.value ∙ parsed w8 8 c.args.text.now c.parse.result refl c.parse.ensures.value.0
