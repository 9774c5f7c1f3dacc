use Rattle.std.proofs.Common.{◌≤◌, ◌∙◌, ◌++◌, ◌∷◌, [], Some, ap, arith, length, subst, sym}
use Rattle.std.specs.Map.{lookup}
use Rattle.std.specs.Vec.{vec_capacity}
use Rattle.std.proofs.lemmas.List.{length_push}
use Rattle.jm_indexed.specs.Entries.{entries_of}
use Rattle.jm_indexed.specs.Order.{IsNowhere, IsOrder}
use Rattle.jm_indexed.proofs.Entries.{entries_absent, entries_inserted}
use Rattle.jm_indexed.proofs.Slotted.{entries-push, nowhere_from}
use Rattle.jm_indexed.proofs.key_map.KeyMap.insert.Goals as goal

pub insert_slot-requires-clause-order : goal.insert_slot-requires-clause-order
insert_slot-requires-clause-order g c =
    subst (λ ks. IsOrder g.K.Ord.cmp ks c.self.inside.values.slots c.self.inside.order.items) (sym c.as_slice.ensures.value) c.self.invariant.ordered

pub insert_slot-requires-clause-even : goal.insert_slot-requires-clause-even
insert_slot-requires-clause-even g c = c.self.invariant.even ∙ ap length (sym c.as_slice.ensures.value)

pub insert_slot-requires-clause-absent : goal.insert_slot-requires-clause-absent
insert_slot-requires-clause-absent g c =
    let keys = c.self.inside.keys.items in
    let slots = c.self.inside.values.slots in
    subst (λ ks. IsNowhere g.K.PartialEq.eq ks slots c.args.key) (sym c.as_slice.ensures.value)
    (nowhere_from g.K.PartialEq.eq keys slots c.args.key c.self.invariant.even
    (entries_absent g.met.K.Eq.laws c.args.key (entries_of keys slots) (ap (λ m. lookup (g.K.PartialEq.eq c.args.key) m.entries) c.self.view_is ∙ c.requires.absent)))

pub invariant_of-self : goal.invariant_of-self
invariant_of-self g c =
    let keys = c.self.inside.keys.items in
    let slots = c.self.inside.values.slots in
    let room : length (keys ++ c.args.key ∷ []) ≤ vec_capacity c.self.inside.marks = omega (arith, length_push keys c.args.key, c.requires.room, ap (λ m. m.spare) c.self.view_is, c.self.inside.keys.ok) in
    let placed = subst (λ ks. IsOrder g.K.Ord.cmp (ks ++ c.args.key ∷ []) (slots ++ Some c.args.value ∷ []) c.insert_slot.new.order.items) c.as_slice.ensures.value (c.insert_slot.ensures.order c.args.value) in
    record {
      ordered =
          subst (λ ks. IsOrder g.K.Ord.cmp ks c.push.new.self.slots c.insert_slot.new.order.items) (sym c.push_reserved.ensures.items)
          (subst (λ vs. IsOrder g.K.Ord.cmp (keys ++ c.args.key ∷ []) vs c.insert_slot.new.order.items) (sym c.push.ensures.slots) placed);
      even = omega (arith, ap length c.push.ensures.slots, ap length c.push_reserved.ensures.items, length_push keys c.args.key, length_push slots (Some c.args.value), c.self.invariant.even);
      unmarked = c.self.invariant.unmarked;
      fits = subst (λ ks. length ks ≤ vec_capacity c.self.inside.marks) (sym c.push_reserved.ensures.items) room;
    }

pub returns-clause-entries : goal.returns-clause-entries
returns-clause-entries g c =
    rw (← c.self.view_is)
    ((λ i. entries_of (c.push_reserved.ensures.items i) (c.push.ensures.slots i)) ∙ entries-push c.self.inside.keys.items c.self.inside.values.slots c.args.key c.args.value c.self.invariant.even)

pub returns-clause-updates : goal.returns-clause-updates
returns-clause-updates g c = λ q.
    let keys = c.self.inside.keys.items in
    let slots = c.self.inside.values.slots in
    let absent = entries_absent g.met.K.Eq.laws c.args.key (entries_of keys slots) (ap (λ m. lookup (g.K.PartialEq.eq c.args.key) m.entries) c.self.view_is ∙ c.requires.absent) in
    let is = (λ i. entries_of (c.push_reserved.ensures.items i) (c.push.ensures.slots i)) ∙ entries-push keys slots c.args.key c.args.value c.self.invariant.even in
    rw (← c.self.view_is) (ap (lookup (g.K.PartialEq.eq q)) is ∙ entries_inserted g.met.K.Eq.laws c.args.key (entries_of keys slots) c.args.value absent q)
