use Rattle.std.proofs.Common.{◌≡◌, ◌∙◌, None, Some, arith, subst, sym}
use Rattle.std.specs.Prelude.{IsSome}
use Rattle.std.proofs.lemmas.List.{get_or_read, length-set}
use Rattle.jm_slots.specs.Items.{item_in}
use Rattle.jm_slots.proofs.Items.{gaps-set_some, some_within}
use Rattle.jm_slots.proofs.slot_list.Slots.get_mut.Goals as goal

pub invariant_of-self-lent : goal.invariant_of-self-lent
invariant_of-self-lent g c w =
    let slots = c.self.inside.slots.items in
    let slot = c.args.slot in
    let there : IsSome (item_in slots slot) = subst (λ s. IsSome (item_in s.slots slot)) (sym c.self.view_is) c.requires in
    let read = get_or_read slots slot c.index_mut.result.now (some_within slots slot there) c.index_mut.ensures.value None in
    let item : item_in slots slot ≡ Some c.in-Some.item = sym read ∙ c.in-Some.is in
    rw c.in-Some.is (
      c.self.invariant.0 ∙ sym (gaps-set_some 0 slots slot c.in-Some.item w item),
      omega (arith, length-set slots slot (Some w), c.self.invariant.1),
    )
