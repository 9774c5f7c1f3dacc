-- The machine's state, from what the core holds: the subscriptions, and what is held under the key of each.
use Rattle.std.specs.Prelude.{◌≡◌, ℕ, ◌≤◌, List, [], ◌∷◌, map, length, All, Option, Some, None, if◌then◌else◌}
use Rattle.std.specs.List.{IsDistinct}
use Rattle.jm_dest.specs.declared.key.Key.{Key}
use Rattle.jm_dest.specs.Keys.{key_eq}
use Rattle.jm_machine.specs.declared.state.Consumer.{Consumer}
use Rattle.jm_machine.specs.declared.state.Station.{Station}
use Rattle.jm_machine.specs.Attached.{AllOwn, IsOfSubscription}
use Rattle.jm_machine.specs.Machine.{is_limited, places_end}
use Rattle.jm_stations.specs.Backlogs.{Backlog}
use Rattle.jm_sub.specs.Subscriptions.{Subscription}
use Rattle.jm_machine.specs.Accepted.{HoldsAccepted}

-- a subscription with what is held for it
abbrev pub station : Subscription → Backlog → Station
station s b = record { key = s.key; definition = s.definition; missed = b.missed; rows = b.rows }

-- each subscription with what is held under its key, in order of creation
abbrev pub stations_of : List Subscription → List Backlog → List Station
stations_of [] list = []
stations_of (s ∷ subscriptions) [] = []
stations_of (s ∷ subscriptions) (b ∷ list) = station s b ∷ stations_of subscriptions list

-- the keys of the subscriptions
abbrev pub keys_of : List Subscription → List Key
keys_of subscriptions = map (λ s. s.key) subscriptions

-- how many rows may be held under the key, where there is a limit
abbrev pub limit_of : ℕ → Key → Option ℕ
limit_of limit key = if is_limited key then Some limit else None

-- under each key there may be as many rows as its family may hold
abbrev pub AreLimited : ℕ → List Key → List Backlog → Type 0
AreLimited limit [] list = Unit {0}
AreLimited limit (k ∷ keys) [] = Unit {0}
AreLimited limit (k ∷ keys) (b ∷ list) = (b.limit ≡ limit_of limit k) × AreLimited limit keys list

-- what every core keeps of subscriptions: under the key of each something is held, with the limit of the key's family; no
-- key stands twice, and each is that of a subscription; what a consumer receives from is no other's own; each row is
-- accepted, and the next place is within the limit
pub record IsSound (limit : ℕ) (consumers : List Consumer) (subscriptions : List Subscription) (keys : List Key) (list : List Backlog) (next_place : ℕ) : Type 0 where
  pub same : keys_of subscriptions ≡ keys
  pub number : length list ≡ length subscriptions
  pub once : IsDistinct key_eq keys
  pub made : All (IsOfSubscription consumers) keys
  pub own : AllOwn consumers
  pub limited : AreLimited limit keys list
  pub accepted : HoldsAccepted (stations_of subscriptions list)
  pub places : next_place ≤ places_end
