use Rattle.std.proofs.Common.{◌<◌, ◌∙◌, ap, sym, subst, length, length-set, IsTrue, List, ℕ}
use Rattle.jm_property.specs.Order.{IsOrder, name_at}
use Rattle.jm_property.specs.Properties.{IsTable, Table, is_allowed, with_property}
use Rattle.jm_property.specs.Same.{names_of}
use Rattle.jm_property.proofs.Tables.{IsTable-with_property, names_stay, replaced}
use Rattle.jm_property.proofs.properties.Properties.replace.Goals as goal

pub invariant_of-self : goal.invariant_of-self
invariant_of-self c =
    let table = c.self.inside.entries.items in
    let entry = c.index_mut.result.now in
    let within : c.args.place < length table = subst (λ (t : Table). c.args.place < length t) (sym c.self.view_is) c.requires.place in
    let allowed : IsTrue (is_allowed (name_at (names_of table) c.args.place) c.args.value) = subst (λ (t : Table). IsTrue (is_allowed (name_at (names_of t) c.args.place) c.args.value)) (sym c.self.view_is) c.requires.allowed in (
      subst IsTable (sym (replaced table c.args.place entry c.args.value c.self.invariant.0 within c.index_mut.ensures.value)) (IsTable-with_property table _ c.args.value c.self.invariant.0 allowed),
      λ many. subst (λ (names : List (List ℕ)). IsOrder names c.self.inside.order.items) (sym (names_stay table c.args.place entry c.args.value within c.index_mut.ensures.value))
          (c.self.invariant.1 (subst (λ n. 16 < n) (length-set table c.args.place (entry.0, c.args.value)) many)),
    )

pub returns : goal.returns
returns c =
    let table = c.self.inside.entries.items in
    let within : c.args.place < length table = subst (λ (t : Table). c.args.place < length t) (sym c.self.view_is) c.requires.place in
    replaced table c.args.place c.index_mut.result.now c.args.value c.self.invariant.0 within c.index_mut.ensures.value
    ∙ ap (λ (t : Table). with_property t (name_at (names_of t) c.args.place) c.args.value) c.self.view_is
