-- What a list ends as, once a reference into it has ended.
use Rattle.std.specs.Prelude.{ℕ}
use Rattle.std.specs.Borrow.{Fml, RattleType, MutBor, Lends}
use Rattle.jm_gaps.specs.Listed.{Listed, with_item_at}
use Rattle.jm_gaps.specs.contracts.gap_list.GapList.{the_row}

-- at the index stands the last item written through r
abbrev pub lends_at : (T : RattleType) → MutBor (Listed T.Denot) → ℕ → MutBor T.Denot → Fml
lends_at T l index r = Lends (the_row T) T l r (with_item_at l.now index)
