use Rattle.std.proofs.Common.{◌∙◌}
use Rattle.jm_property.specs.Same.{table_eq}
use Rattle.jm_property.proofs.Tables.{in_turn_same}
use Rattle.jm_property.proofs.properties.PropertiesPartialEq.eq.Goals as goal

pub returns : goal.returns
returns c = c.eq.ensures ∙ in_turn_same c.self.inside.entries.items c.other.inside.entries.items ∙ (λ i. table_eq (c.self.view_is i) (c.other.view_is i))
