use Rattle.std.proofs.Common.{◌∙◌, ◌++◌, ◌<◌, ap, sym, length, take, append_assoc, arith, ℕ, List}
use Rattle.std.specs.Option.{option_to_list}
use Rattle.jm_property.specs.declared.property.Property.{Property}
use Rattle.jm_selector.specs.declared.literal.Literal.{Literal}
use Rattle.jm_selector.specs.Literals.{property_literal, properties_literals}
use Rattle.jm_selector.proofs.Asked.{one_more, not_past}
use Rattle.jm_selector.proofs.literal.add_properties.Goals as goal
use Rattle.jm_selector.proofs.literal.add_properties.Goals.{in-Some+in_ok-add_property, in_default}

pub loop-index-preserved : goal.loop-index-preserved
loop-index-preserved c =
    elim c.match-entry_at.branch [
      | in-Some+in_ok-add_property w ↦
          let entry : List ℕ × Property = (w.in-Some.field-0-0.now, w.in-Some.value.now) in
          let before : List Literal = c.args.literals.now.items in
          let found : List Literal = option_to_list (property_literal entry.1) in
          ap (λ v. v.items) w.literals-is
          ∙ w.in_ok-add_property.ensures
          ∙ ap (λ (xs : List Literal). xs ++ found) c.loop-index.invariant
          ∙ append_assoc before (properties_literals (take c.loop-index.index c.args.properties.now)) found
          ∙ ap (λ (xs : List Literal). before ++ xs) (sym (one_more c.args.properties.now c.loop-index.index entry w.in-Some.ensures))
      | in_default w ↦
          let within : c.loop-index.index < length c.args.properties.now = omega (arith, c.loop-index-test.true, c.len-index-end.ensures.count) in
          absurd (not_past c.args.properties.now c.loop-index.index w.in_default.ensures within)
    ]
