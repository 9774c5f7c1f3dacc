use Rattle.std.proofs.Common.{◌≡◌, ◌∙◌, Some, None, ap, arith, length, subst, sym}
use Rattle.std.specs.Map.{keys_of}
use Rattle.jm_indexed.specs.Entries.{entries_of}
use Rattle.jm_indexed.specs.Order.{IsNowhere, IsSlotOf, index_in}
use Rattle.jm_indexed.proofs.Distinct.{only_slot}
use Rattle.jm_indexed.proofs.Entries.{entries_found, entries_value, entries_within}
use Rattle.jm_indexed.proofs.Slotted.{nowhere_is, slot_is}
use Rattle.jm_indexed.proofs.key_map.KeyMap.index_of.Given.{Over}
use Rattle.jm_indexed.proofs.key_map.KeyMap.index_of.Goals as goal

-- the slot that was found is that of the key
slot_there : (g : Over) (c : goal.After-index_of g) → IsSlotOf g.K.PartialEq.eq c.self.inside.keys.items c.self.inside.values.slots c.args.key.now c.in-Some.slot
slot_there g c = subst (λ ks. IsSlotOf g.K.PartialEq.eq ks c.self.inside.values.slots c.args.key.now c.in-Some.slot) c.as_slice.ensures.value c.in-Some.ensures

-- so the key stands at the index of that slot
found : (g : Over) (c : goal.After-index_of g) → Some c.index_of.result ≡ index_in g.K.PartialEq.eq (keys_of (entries_of c.self.inside.keys.items c.self.inside.values.slots)) c.args.key.now
found g c =
    let keys = c.self.inside.keys.items in
    let slots = c.self.inside.values.slots in
    let h = slot_there g c in
    ap (λ n. Some n) c.index_of.ensures.index
    ∙ sym (slot_is g.K.PartialEq.eq keys slots c.args.key.now c.in-Some.slot c.self.invariant.even h
    (λ t k. only_slot g.met.K.Ord.total keys slots c.self.inside.order.items c.self.invariant.ordered g.met.K.Ord.matches_eq c.args.key.now c.in-Some.slot t h k))

pub index_of-requires : goal.index_of-requires
index_of-requires g c = let w = c.in-Some.ensures.within in omega (arith, w, ap length c.as_slice.ensures.value, c.self.invariant.even)

pub returns-in-Some-clause-index : goal.returns-in-Some-clause-index
returns-in-Some-clause-index g c = rw (← c.self.view_is) (found g c)

pub returns-in-Some-clause-found : goal.returns-in-Some-clause-found
returns-in-Some-clause-found g c = rw (← c.self.view_is) (entries_found g.met.K.Eq.laws c.args.key.now (entries_of c.self.inside.keys.items c.self.inside.values.slots) (Some c.index_of.result) (found g c))

pub returns-in-Some-clause-value : goal.returns-in-Some-clause-value
returns-in-Some-clause-value g c = rw (← c.self.view_is) (entries_value g.met.K.Eq.laws c.args.key.now (entries_of c.self.inside.keys.items c.self.inside.values.slots) (Some c.index_of.result) (found g c))

pub returns-in-Some-clause-within : goal.returns-in-Some-clause-within
returns-in-Some-clause-within g c = rw (← c.self.view_is) (entries_within g.met.K.Eq.laws c.args.key.now (entries_of c.self.inside.keys.items c.self.inside.values.slots) (Some c.index_of.result) (found g c))

-- a key that was not found is none of those that are there
missing : (g : Over) (c : goal.In-None g) → None ≡ index_in g.K.PartialEq.eq (keys_of (entries_of c.self.inside.keys.items c.self.inside.values.slots)) c.args.key.now
missing g c =
    sym (nowhere_is g.K.PartialEq.eq c.self.inside.keys.items c.self.inside.values.slots c.args.key.now
    (subst (λ ks. IsNowhere g.K.PartialEq.eq ks c.self.inside.values.slots c.args.key.now) c.as_slice.ensures.value c.in-None.ensures))

pub returns-in-None-clause-index : goal.returns-in-None-clause-index
returns-in-None-clause-index g c = rw (← c.self.view_is) (missing g c)

pub returns-in-None-clause-found : goal.returns-in-None-clause-found
returns-in-None-clause-found g c = rw (← c.self.view_is) (entries_found g.met.K.Eq.laws c.args.key.now (entries_of c.self.inside.keys.items c.self.inside.values.slots) None (missing g c))
