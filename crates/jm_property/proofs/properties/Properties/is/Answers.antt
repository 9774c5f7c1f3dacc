use Rattle.std.proofs.Common.{◌∙◌, sym}
use Rattle.jm_property.specs.Same.{table_same}
use Rattle.jm_property.proofs.properties.Properties.is.Goals as goal

pub returns : goal.returns
returns c = (
  λ e. (table_same c.args.self.now c.args.other.now).0 (sym c.eq.ensures ∙ e),
  λ e. c.eq.ensures ∙ (table_same c.args.self.now c.args.other.now).1 e,
)
