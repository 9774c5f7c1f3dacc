use Rattle.std.proofs.Common.{refl, ◌∙◌, w32}
use Rattle.jm_property.proofs.Parsing.{parsed}
use Rattle.jm_property.proofs.property.parse_int.Goals as goal

pub returns : goal.returns
returns c = c.ok.ensures.value ∙ parsed w32 32 c.args.text.now c.parse.result refl c.parse.ensures.value.0
