use Rattle.std.proofs.Common.{◌≡◌, ◌<◌, ◌∙◌, ap, arith, get_or, length, subst, sym}
use Rattle.std.specs.List.{list_any}
use Rattle.std.specs.Map.{keys_of}
use Rattle.std.specs.Ordering.{is_eq}
use Rattle.std.specs.declared.cmp.Ordering.TheVariants.{Equal}
use Rattle.jm_slots.specs.Items.{items_before}
use Rattle.jm_slots.proofs.Items.{index_within}
use Rattle.jm_indexed.specs.Entries.{entries_of}
use Rattle.jm_indexed.specs.Order.{IsInsideAt, IsOutsideFrom, IsRising}
use Rattle.jm_indexed.proofs.Sections.{found_inside, none_inside}
use Rattle.jm_indexed.proofs.Slotted.{length-entries, the_item}
use Rattle.jm_indexed.proofs.key_map.KeyMap.index_in.Given.{Over}
use Rattle.jm_indexed.proofs.key_map.KeyMap.index_in.Goals as goal

-- the place that was found is that of a key in the section
place_there : (g : Over) (c : goal.After-index_of g) → IsInsideAt (g.S.Section.place c.args.section.now) c.self.inside.keys.items c.self.inside.values.slots c.as_slice-order.result.now c.in-Some.place
place_there g c =
    subst (λ ks. IsInsideAt (g.S.Section.place c.args.section.now) ks c.self.inside.values.slots c.as_slice-order.result.now c.in-Some.place) c.as_slice.ensures.value c.in-Some.ensures

pub returns-in-Some-clause-within : goal.returns-in-Some-clause-within
returns-in-Some-clause-within g c =
    let keys = c.self.inside.keys.items in
    let slots = c.self.inside.values.slots in
    let slot = get_or c.as_slice-order.result.now c.in-Some.place 0 in
    let there = place_there g c in
    let v = the_item slots slot there.value in
    let within : c.index_of.result < length (entries_of keys slots) = omega (arith, c.index_of.ensures.index, index_within slots slot v.0 v.1, length-entries keys slots c.self.invariant.even) in
    rw (← c.self.view_is) within

pub returns-in-Some-clause-found : goal.returns-in-Some-clause-found
returns-in-Some-clause-found g c = λ d.
    let keys = c.self.inside.keys.items in
    let slots = c.self.inside.values.slots in
    let place = g.S.Section.place c.args.section.now in
    let lent = c.as_slice-order.result.now in
    let rises = subst (λ xs. IsRising g.K.Ord.cmp keys xs) (sym c.as_slice-order.ensures.value) c.self.invariant.ordered.rises in
    let there = found_inside place keys slots lent g.K.Ord.cmp rises c.in-Some.place (place_there g c) d in
    let is : place (get_or (keys_of (entries_of keys slots)) c.index_of.result d) ≡ Equal = ap (λ n. place (get_or (keys_of (entries_of keys slots)) n d)) c.index_of.ensures.index ∙ there in
    rw (← c.self.view_is) is

pub returns-in-None-clause-none : goal.returns-in-None-clause-none
returns-in-None-clause-none g c =
    let keys = c.self.inside.keys.items in
    let slots = c.self.inside.values.slots in
    let place = g.S.Section.place c.args.section.now in
    let none = subst (λ xs. IsOutsideFrom place keys slots xs 0) c.as_slice-order.ensures.value (subst (λ ks. IsOutsideFrom place ks slots c.as_slice-order.result.now 0) c.as_slice.ensures.value c.in-None.ensures) in
    rw (← c.self.view_is) (none_inside place keys slots c.self.inside.order.items g.K.Ord.cmp c.self.invariant.ordered.rises c.self.invariant.ordered.whole none)
