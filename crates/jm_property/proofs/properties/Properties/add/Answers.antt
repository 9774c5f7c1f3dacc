use Rattle.std.proofs.Common.{◌≡◌, ◌+◌, ◌≤◌, ◌++◌, ◌∷◌, ◌∙◌, [], List, ℕ, Result, Ok, Err, OnOk, cond, is_ok, ap, arith, length, refl, sym, subst}
use Rattle.std.specs.Prelude.{IsOk}
use Rattle.std.proofs.lemmas.List.{length_push}
use Rattle.jm_property.specs.Order.{IsOrder}
use Rattle.jm_property.specs.Properties.{IsTable, Table, value_of, with_property}
use Rattle.jm_property.specs.Same.{names_of}
use Rattle.jm_property.proofs.Tables.{IsTable-with_property, names_push, with_property-new}
use Rattle.jm_property.proofs.properties.Properties.add.Goals as goal

succeeded : {T E X : Type 0} (r : Result T E) (a b : X) → IsOk r → cond (is_ok r) a b ≡ a
succeeded (Ok x) a b h = refl
succeeded (Err e) a b h = cc

on_ok : {T E P : Type 0} (r : Result T E) → P → OnOk r P
on_ok (Ok x) p = p
on_ok (Err e) p = tt

pub invariant_of-self-2 : goal.invariant_of-self-2
invariant_of-self-2 c =
    let table = c.self.inside.entries.items in
    let unset = ap (λ (t : Table). value_of t c.args.name.now) c.self.view_is ∙ c.requires.unset in
    let items : c.push.new.self.items ≡ table ++ (c.args.name.now, c.args.value) ∷ [] =
    c.push.ensures.items ∙ succeeded c.push.result _ _ (c.push.ensures.succeeds (omega (arith, c.in_ok-reserve.ensures.ok)))
    ∙ (λ i. c.reserve.ensures.items i ++ (c.in_ok-own_name.ensures i, c.args.value) ∷ []) in (
      subst IsTable (sym (items ∙ sym (with_property-new table c.args.name.now c.args.value unset))) (IsTable-with_property table c.args.name.now c.args.value c.self.invariant.0 c.requires.allowed),
      λ many.
          let count : length c.push.new.self.items ≡ length table + 1 = ap length items ∙ length_push table (c.args.name.now, c.args.value) in
          let full : 16 ≤ length table = omega (arith, many, count) in
          let lent : c.deref.result.now ≡ table = c.deref.ensures.value ∙ c.reserve.ensures.items in
          let order = c.in_ok-add_place.ensures.ok (subst (λ (t : Table). 16 ≤ length t) (sym lent) full) in
          subst (λ (names : List (List ℕ)). IsOrder names c.add_place.new.order.items)
          (ap (λ (t : Table). names_of t ++ c.args.name.now ∷ []) lent ∙ sym (ap names_of items ∙ names_push table c.args.name.now c.args.value)) order,
    )

pub returns-clause-ok : goal.returns-clause-ok
returns-clause-ok c =
    let table = c.self.inside.entries.items in
    let unset = ap (λ (t : Table). value_of t c.args.name.now) c.self.view_is ∙ c.requires.unset in
    let items : c.push.new.self.items ≡ table ++ (c.args.name.now, c.args.value) ∷ [] =
    c.push.ensures.items ∙ succeeded c.push.result _ _ (c.push.ensures.succeeds (omega (arith, c.in_ok-reserve.ensures.ok)))
    ∙ (λ i. c.reserve.ensures.items i ++ (c.in_ok-own_name.ensures i, c.args.value) ∷ []) in
    on_ok c.match-push.result (items ∙ sym (with_property-new table c.args.name.now c.args.value unset) ∙ ap (λ (t : Table). with_property t c.args.name.now c.args.value) c.self.view_is)
