use Rattle.std.proofs.Common.{◌≡◌, ◌-◌, ◌<◌, ◌∙◌, Some, ap, arith, length, min, refl, sym, vec_len}
use Rattle.std.specs.List.{slice_get}
use Rattle.std.specs.Map.{values_of}
use Rattle.std.specs.Vec.{vec_capacity}
use Rattle.std.proofs.lemmas.List.{length-set}
use Rattle.jm_indexed.specs.Entries.{entries_of, set_value_at, with_value_at}
use Rattle.jm_indexed.proofs.Changed.{IsOrder-write}
use Rattle.jm_indexed.proofs.Orders.{value_within}
use Rattle.jm_indexed.proofs.Slotted.{entries-write, length-entries, value_at}
use Rattle.jm_indexed.proofs.key_map.KeyMap.value_mut.Goals as goal

pub slot_of-slot-requires : goal.slot_of-slot-requires
slot_of-slot-requires g c =
    omega (arith, c.requires, ap (λ m. length m.entries) c.self.view_is, length-entries c.self.inside.keys.items c.self.inside.values.slots c.self.invariant.even)

pub get_mut-requires : goal.get_mut-requires
get_mut-requires g c = c.slot_of-slot.ensures.there

pub invariant_of-self-lent : goal.invariant_of-self-lent
invariant_of-self-lent g c = λ w.
    let slots = c.self.inside.values.slots in
    record {
      ordered = IsOrder-write g.met.K.Ord.total c.self.inside.keys.items slots c.self.inside.order.items c.self.invariant.ordered c.slot_of-slot.result w c.slot_of-slot.ensures.there;
      even = length-set slots c.slot_of-slot.result (Some w) ∙ c.self.invariant.even;
      unmarked = c.self.invariant.unmarked;
      fits = c.self.invariant.fits;
    }

pub returns : goal.returns
returns g c =
    let keys = c.self.inside.keys.items in
    let slots = c.self.inside.values.slots in
    let slot = c.slot_of-slot.result in
    let index = c.args.index in
    let within : slot < length keys = omega (arith, value_within slots slot c.slot_of-slot.ensures.there, c.self.invariant.even) in
    let there : slice_get (values_of c.args.self.now.entries) index ≡ Some c.get_mut.result.now =
    ap (λ m. slice_get (values_of m.entries) index) (sym c.self.view_is)
    ∙ value_at keys slots index c.get_mut.result.now c.self.invariant.even (sym c.slot_of-slot.ensures.item ∙ c.get_mut.ensures.value) in (
      (
        refl,
        λ w.
            let to = entries-write keys slots slot w within c.slot_of-slot.ensures.there ∙ ap (λ n. set_value_at (entries_of keys slots) n w) c.slot_of-slot.ensures.index in
            (λ i. record {
              entries = to i;
              spare = min (min (vec_capacity c.self.inside.keys - vec_len c.self.inside.keys) (vec_capacity c.self.inside.order - vec_len c.self.inside.order)) (min (vec_capacity c.self.inside.marks - vec_len c.self.inside.keys) c.self.inside.values.spare);
            })
            ∙ ap (λ m. with_value_at m index w) c.self.view_is,
      ),
      record { writes_back = tt; value = there },
    )
