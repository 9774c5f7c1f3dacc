-- What a consumer receives from, and how it is counted.
use Rattle.std.specs.Prelude.{◌≡◌, ℕ, ◌-◌, true, List, Option, Some, None, if◌then◌else◌}
use Rattle.jm_dest.specs.declared.key.Key.{Key}
use Rattle.jm_machine.specs.declared.state.Consumer.{Consumer}
use Rattle.jm_machine.specs.Attached.{Counts, is_at, is_named, number_at}

-- what a consumer receives from: its key, and which messages of a queue it takes
pub record Origin : Type 0 where
  pub key : Key
  pub selector : Option (List ℕ)

-- the key at which a consumer of it is counted: where it has a name, itself
abbrev pub counted_as : Key → Option Key
counted_as key = if is_named key then Some key else None

-- one, where the consumer is active and has the key
abbrev pub one_at : Key → Consumer → ℕ
one_at key x = if is_at key x then 1 else 0

-- as a consumer changes, the numbers fall where it is active no more, at each key that has a name
abbrev pub IsFollowed : Consumer → Consumer → Counts → Counts → Type 0
IsFollowed before now old new = (key : Key) → is_named key ≡ true → number_at new key ≡ number_at old key - (one_at key before - one_at key now)
