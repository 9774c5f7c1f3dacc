use Rattle.std.proofs.Common.{◌≡◌, ◌<◌, ◌∙◌, ap, sym, subst, length}
use Rattle.jm_property.specs.Order.{name_at}
use Rattle.jm_property.specs.Properties.{Table, value_of}
use Rattle.jm_property.specs.Same.{names_of}
use Rattle.jm_property.proofs.Tables.{value_is}
use Rattle.jm_property.proofs.properties.Properties.get.Goals as goal

pub returns : goal.returns
returns c =
    let there = subst (λ (t : Table). (c.in_ok-place.place < length t) × (name_at (names_of t) c.in_ok-place.place ≡ c.args.name.now)) (sym c.self.view_is) c.in_ok-place.ensures.0 in
    value_is c.self.inside.entries.items c.in_ok-place.place c.index.result.now c.args.name.now c.self.invariant.0 there.0 there.1 c.index.ensures
    ∙ ap (λ (t : Table). value_of t c.args.name.now) c.self.view_is
