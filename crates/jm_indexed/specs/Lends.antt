-- What a map ends as, once a reference into it has ended.
use Rattle.std.specs.Prelude.{◌≡◌, ℕ, Option}
use Rattle.std.specs.Borrow.{Fml, RattleType, MutBor, Lends, LendsSo}
use Rattle.std.specs.BTreeMap.Lent.{OrdMembers}
use Rattle.jm_indexed.specs.Entries.{Entries, WritesThrough, with_value_at}
use Rattle.jm_indexed.specs.contracts.key_map.KeyMap.{the_row}

module _ (K V : RattleType) (key : OrdMembers K.Denot) where
  -- the map's type, as the logic holds it
  abbrev pub map_row : RattleType
  map_row = the_row K V (record { cmp = key.cmp }) (record { eq = key.eq }) (record { partial_cmp = key.partial_cmp })

  module _ (m : MutBor (Entries K.Denot V.Denot)) where
    -- the value at the index is the last one written through r
    abbrev pub lends_at : ℕ → MutBor V.Denot → Fml
    lends_at index r = Lends map_row V m r (with_value_at m.now index)

    -- the value of the key is the last one written through r, and at `None` the map stays as it is
    abbrev pub lends_get : K.Denot → Option (MutBor V.Denot) → Fml
    lends_get k r = LendsSo map_row V m r (λ n value. WritesThrough key.eq k m.now value n) (λ n. n ≡ m.now)
