use Rattle.std.proofs.Common.{◌≡◌, ◌-◌, ◌∙◌, Some, None, ap, min, refl, subst, sym, vec_len}
use Rattle.std.specs.Map.{keys_of, lookup}
use Rattle.std.specs.Vec.{vec_capacity}
use Rattle.std.proofs.lemmas.List.{length-set}
use Rattle.jm_slots.specs.Items.{items_before}
use Rattle.jm_indexed.specs.Entries.{WritesThrough, with_value_at}
use Rattle.jm_indexed.specs.Order.{IsNowhere, IsSlotOf, index_in}
use Rattle.jm_indexed.proofs.Changed.{IsOrder-write}
use Rattle.jm_indexed.proofs.Distinct.{index_found, none_found, value_found}
use Rattle.jm_indexed.proofs.Entries.{writes, writes_nothing}
use Rattle.jm_indexed.proofs.Slotted.{entries-write}
use Rattle.jm_indexed.proofs.key_map.KeyMap.get_mut.Goals as goal

pub get_mut-requires : goal.get_mut-requires
get_mut-requires g c = let h = c.in-Some.ensures in h.value

pub invariant_of-self-lent : goal.invariant_of-self-lent
invariant_of-self-lent g c = λ w.
    let slots = c.self.inside.values.slots in
    let h = c.in-Some.ensures in
    record {
      ordered = IsOrder-write g.met.K.Ord.total c.self.inside.keys.items slots c.self.inside.order.items c.self.invariant.ordered c.in-Some.slot w h.value;
      even = length-set slots c.in-Some.slot (Some w) ∙ c.self.invariant.even;
      unmarked = c.self.invariant.unmarked;
      fits = c.self.invariant.fits;
    }

pub returns-in-Some : goal.returns-in-Some
returns-in-Some g c =
    let keys = c.self.inside.keys.items in
    let slots = c.self.inside.values.slots in
    let slot = c.in-Some.slot in
    let key = c.args.key.now in
    let map = c.args.self.now in
    let it = c.self.invariant.ordered in
    let order = c.self.inside.order.items in
    let there = subst (λ ks. IsSlotOf g.K.PartialEq.eq ks slots key slot) c.as_slice.ensures.value c.in-Some.ensures in
    let index_is : index_in g.K.PartialEq.eq (keys_of map.entries) key ≡ Some (items_before slots slot) =
    ap (λ m. index_in g.K.PartialEq.eq (keys_of m.entries) key) (sym c.self.view_is) ∙ index_found g.met.K.Ord.total keys slots order it g.met.K.Ord.matches_eq c.self.invariant.even key slot there in
    let value_is : lookup (g.K.PartialEq.eq key) map.entries ≡ Some c.get_mut.result.now =
    ap (λ m. lookup (g.K.PartialEq.eq key) m.entries) (sym c.self.view_is)
    ∙ value_found g.met.K.Ord.total keys slots order it g.met.K.Ord.matches_eq c.self.invariant.even key g.met.K.Eq.laws slot there ∙ c.get_mut.ensures.value in (
      (
        refl,
        λ w.
            let to = entries-write keys slots slot w there.within there.value in
            let written = (λ i. record {
              entries = to i;
              spare = min (min (vec_capacity c.self.inside.keys - vec_len c.self.inside.keys) (vec_capacity c.self.inside.order - vec_len c.self.inside.order)) (min (vec_capacity c.self.inside.marks - vec_len c.self.inside.keys) c.self.inside.values.spare);
            })
            ∙ ap (λ m. with_value_at m (items_before slots slot) w) c.self.view_is in
            subst (WritesThrough g.K.PartialEq.eq key map w) (sym written) (writes g.met.K.Eq.laws key map (items_before slots slot) w index_is),
        refl,
      ),
      record { writes_back = tt; value = sym value_is },
    )

pub returns-in-None : goal.returns-in-None
returns-in-None g c =
    let keys = c.self.inside.keys.items in
    let slots = c.self.inside.values.slots in
    let key = c.args.key.now in
    let map = c.args.self.now in
    let nowhere = subst (λ ks. IsNowhere g.K.PartialEq.eq ks slots key) c.as_slice.ensures.value c.in-None.ensures in
    let none : lookup (g.K.PartialEq.eq key) map.entries ≡ None =
    ap (λ m. lookup (g.K.PartialEq.eq key) m.entries) (sym c.self.view_is)
    ∙ none_found g.met.K.Ord.total keys slots c.self.inside.order.items c.self.invariant.ordered g.met.K.Ord.matches_eq c.self.invariant.even key g.met.K.Eq.laws nowhere in (
      (refl, λ w. subst (WritesThrough g.K.PartialEq.eq key map w) (sym c.self.view_is) (writes_nothing g.met.K.Eq.laws key map w none), c.self.view_is),
      record { writes_back = tt; value = sym none },
    )
