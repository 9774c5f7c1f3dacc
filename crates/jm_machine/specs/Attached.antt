-- How many active consumers have a key: of the keys of subscriptions that have names.
use Rattle.std.specs.Prelude.{◌≡◌, ℕ, Bool, true, false, ◌&&◌, List, [], ◌∷◌, Some, length, filter, unwrap_or, ◌==◌}
use Rattle.std.specs.Map.{lookup}
use Rattle.jm_dest.specs.declared.session.SessionId.{SessionId}
use Rattle.jm_dest.specs.declared.key.Key.{Key}
use Rattle.jm_dest.specs.declared.key.Key.TheVariants.{Own, SharedOwn, Durable, Queue as OfQueue}
use Rattle.jm_dest.specs.Keys.{key_eq}
use Rattle.jm_machine.specs.declared.state.Consumer.{Consumer}
use Rattle.jm_machine.specs.declared.consumers.Consumers.{Consumers}
use Rattle.jm_machine.specs.Machine.{are_meant, consumer_of, key_at}

-- keys with the number of active consumers at each, and how many more keys there is room for
pub record Counts : Type 0 where
  pub entries : List (Key × ℕ)
  pub spare : ℕ

-- the number at a key
abbrev pub number_at : Counts → Key → ℕ
number_at counts key = unwrap_or (lookup (key_eq key) counts.entries) 0

-- the subscription of the key has a name
abbrev pub is_named : Key → Bool
is_named (OfQueue name) = false
is_named (Own s c) = false
is_named (SharedOwn client name) = true
is_named (Durable client name) = true

-- an active consumer has the key
abbrev pub is_at : Key → Consumer → Bool
is_at key x = key_eq x.key key && x.is_active

-- how many active consumers have the key
abbrev pub active_at : Key → List Consumer → ℕ
active_at key consumers = length (filter (is_at key) consumers)

-- the numbers are those of the consumers, at each key that has a name
abbrev pub AreCounted : List Consumer → Counts → Type 0
AreCounted consumers counts = (key : Key) → is_named key ≡ true → number_at counts key ≡ active_at key consumers

-- the key is that of a subscription: one that has a name, or the own one of a consumer that was made, and that receives
-- from it
abbrev pub IsOfSubscription : List Consumer → Key → Type 0
IsOfSubscription consumers (OfQueue name) = ⊥
IsOfSubscription consumers (Own s c) = key_at (consumer_of consumers s c) ≡ Some (Own s c)
IsOfSubscription consumers (SharedOwn client name) = Unit {0}
IsOfSubscription consumers (Durable client name) = Unit {0}

-- a key that is a consumer's own is that consumer's
abbrev pub IsOwn : SessionId → ℕ → Key → Type 0
IsOwn s c (OfQueue name) = Unit {0}
IsOwn s c (Own t d) = Own t d ≡ Own s c
IsOwn s c (SharedOwn client name) = Unit {0}
IsOwn s c (Durable client name) = Unit {0}

-- each consumer's key is so
abbrev pub AllOwn : List Consumer → Type 0
AllOwn [] = Unit {0}
AllOwn (x ∷ consumers) = IsOwn x.session x.id x.key × AllOwn consumers

-- the subscription of the key ends once these consumers are closed, where so many active ones are left at each key: a
-- consumer's own ends with it, and a shared one that is not durable with its last active one
abbrev pub ended : Consumers → Counts → Key → Bool
ended which left (OfQueue name) = false
ended which left (Own s c) = are_meant which s c
ended which left (SharedOwn client name) = number_at left (SharedOwn client name) == 0
ended which left (Durable client name) = false
