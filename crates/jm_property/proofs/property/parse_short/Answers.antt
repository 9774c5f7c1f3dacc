use Rattle.std.proofs.Common.{refl, ◌∙◌, w16}
use Rattle.jm_property.proofs.Parsing.{parsed}
use Rattle.jm_property.proofs.property.parse_short.Goals as goal

pub returns : goal.returns
returns c = c.ok.ensures.value ∙ parsed w16 16 c.args.text.now c.parse.result refl c.parse.ensures.value.0
