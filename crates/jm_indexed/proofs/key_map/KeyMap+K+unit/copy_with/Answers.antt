use Rattle.std.proofs.Common.{◌≡◌, ◌∙◌, ap, arith, length, map, subst, sym}
use Rattle.std.specs.List.{filter}
use Rattle.std.specs.Map.{keys_of}
use Rattle.std.proofs.lemmas.List.{length-replicate}
use Rattle.jm_slots.specs.Items.{items_before}
use Rattle.jm_indexed.specs.Entries.{entries_of}
use Rattle.jm_indexed.specs.Order.{has_value, IsOrder}
use Rattle.jm_indexed.proofs.Copied.{IsOrder-copy, all_held, held, keys_of-all}
use Rattle.jm_indexed.proofs.Slotted.{length-keys_of}
use Rattle.jm_indexed.proofs.key_map.KeyMap+K+unit.copy_with.Goals as goal

pub invariant_of-result : goal.invariant_of-result
invariant_of-result g c =
    let keys = c.self.inside.keys.items in
    let slots = c.self.inside.values.slots in
    let n = c.len.result in
    let keys_is : c.args.keys.items ≡ keys_of (entries_of keys slots) = c.requires ∙ ap (λ m. keys_of m.entries) (sym c.self.view_is) in
    let many : n ≡ length (entries_of keys slots) = omega (arith, c.len.ensures, c.args.keys.ok, ap length keys_is, length-keys_of (entries_of keys slots)) in
    let order_is = c.in_ok-order.ensures ∙ ap (λ xs. map (items_before slots) (filter (has_value slots) xs)) c.as_slice.ensures.value in
    record {
      ordered =
          subst (λ ks. IsOrder g.K.Ord.cmp ks c.in_ok-values.values.slots c.in_ok-order.order.items) (sym keys_is)
          (subst (λ vs. IsOrder g.K.Ord.cmp (keys_of (entries_of keys slots)) vs c.in_ok-order.order.items) (sym c.in_ok-values.ensures)
          (subst (IsOrder g.K.Ord.cmp (keys_of (entries_of keys slots)) (all_held n)) (sym order_is)
          (IsOrder-copy g.met.K.Ord.total keys slots c.self.inside.order.items c.self.invariant.ordered c.self.invariant.even n many)));
      even = omega (arith, ap length c.in_ok-values.ensures, length-replicate n held, c.len.ensures, c.args.keys.ok);
      unmarked = c.in_ok-marks.ensures.items;
      fits = omega (arith, c.in_ok-marks.ensures.capacity, c.args.keys.ok);
    }

pub returns : goal.returns
returns g c =
    let n = c.len.result in
    let many : n ≡ length c.args.keys.items = omega (arith, c.len.ensures, c.args.keys.ok) in
    ap (λ vs. keys_of (entries_of c.args.keys.items vs)) c.in_ok-values.ensures ∙ keys_of-all c.args.keys.items n many ∙ c.requires
