-- What is held, by key, as callers see it.
use Rattle.std.specs.Prelude.{◌≡◌, ℕ, Bool, true, false, List, All, position, Option}
use Rattle.jm_dest.specs.declared.key.Key.{Key}
use Rattle.jm_dest.specs.declared.key.Key.TheVariants.{Queue, Own, SharedOwn, Durable}
use Rattle.jm_dest.specs.Keys.{key_eq}
use Rattle.jm_stations.specs.Backlogs.{Backlog}

-- the keys in order of creation, what is held under each in that order, the place of the next publication, for how
-- many more messages there is room, and for how many more keys
pub record Stations : Type 0 where
  pub keys : List Key
  pub list : List Backlog
  pub next_place : ℕ
  pub message_room : ℕ
  pub key_room : ℕ

-- where a key stands among those
abbrev pub index_in : List Key → Key → Option ℕ
index_in keys key = position (λ k. key_eq k key) keys

-- the key is of a shared subscription that is not durable
abbrev pub is_shared : Key → Bool
is_shared (Queue name) = false
is_shared (Own s c) = false
is_shared (SharedOwn client name) = true
is_shared (Durable client name) = false

-- no key is
abbrev pub NoneShared : List Key → Type 0
NoneShared keys = All (λ k. is_shared k ≡ false) keys
