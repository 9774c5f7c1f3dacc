-- What a list ends as, once a reference into it has ended.
use Rattle.std.specs.Prelude.{ℕ}
use Rattle.std.specs.Borrow.{Fml, RattleType, MutBor, Lends}
use Rattle.jm_slots.specs.SlotList.{SlotList, with_item}
use Rattle.jm_slots.specs.contracts.slot_list.Slots.{the_row}

-- in the slot stands the last item written through r
abbrev pub lends_item : (T : RattleType) → MutBor (SlotList T.Denot) → ℕ → MutBor T.Denot → Fml
lends_item T s slot r = Lends (the_row T) T s r (with_item s.now slot)
