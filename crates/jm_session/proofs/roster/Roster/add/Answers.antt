use Rattle.std.proofs.Common.{◌<◌, ◌++◌, ◌∷◌, [], ◌∙◌, arith, refl, sym, length}
use Rattle.std.proofs.lemmas.Map.Entries.{length-values_of}
use Rattle.indexmap.specs.IndexMap.{values}
use Rattle.jm_machine.specs.Machine.{new_consumer}
use Rattle.jm_session.proofs.Counted.{counted_fits, counted_joined, counted_still}
use Rattle.jm_session.proofs.roster.Roster.add.Goals as goal

pub join-requires-clause-fits : goal.join-requires-clause-fits
join-requires-clause-fits c =
    let within : length (values c.append.new.consumers) < 18446744073709551616 = omega (arith, length-values_of c.append.new.consumers.entries, c.len-number.ensures.len, c.len-number.type_inv) in
    counted_fits (values c.self.inside.consumers) (values c.append.new.consumers) _ c.append.ensures.values c.in-Some.key c.self.inside.attached 18446744073709551616
    (sym c.into_parts-key.ensures.counted ∙ c.in-Some.is) c.self.invariant.1 within

pub invariant_of-self : goal.invariant_of-self
invariant_of-self c = (
  c.append.ensures.numbered,
  counted_joined (values c.self.inside.consumers) (values c.append.new.consumers) _ c.append.ensures.values c.in-Some.key c.self.inside.attached c.join.new.self refl
      (sym c.into_parts-key.ensures.counted ∙ c.in-Some.is) c.join.ensures.number c.self.invariant.1,
  omega (arith, c.self.invariant.2, c.join.ensures.spare),
  c.append.ensures.active,
)

pub invariant_of-self-in_default : goal.invariant_of-self-in_default
invariant_of-self-in_default c = (
  c.append.ensures.numbered,
  counted_still (values c.self.inside.consumers) (values c.append.new.consumers) _ c.append.ensures.values c.self.inside.attached (sym c.into_parts-key.ensures.counted ∙ c.in_default.is) c.self.invariant.1,
  c.self.invariant.2,
  c.append.ensures.active,
)

pub returns-in-Some-clause-consumers : goal.returns-in-Some-clause-consumers
returns-in-Some-clause-consumers c =
    c.append.ensures.values
    ∙ (λ i. (c.self.view_is i).consumers ++ new_consumer c.args.session.now c.args.id (c.into_parts-key.ensures.key i) (c.into_parts-key.ensures.selector i) ∷ [])

pub returns-in_default-clause-consumers : goal.returns-in_default-clause-consumers
returns-in_default-clause-consumers c =
    c.append.ensures.values
    ∙ (λ i. (c.self.view_is i).consumers ++ new_consumer c.args.session.now c.args.id (c.into_parts-key.ensures.key i) (c.into_parts-key.ensures.selector i) ∷ [])
