-- The queues and the durable subscriptions of the rows of station.
use Rattle.std.specs.Prelude.{◌≡◌, ◌++◌, ℕ, true, List, [], ◌∷◌, All, map, Option, Some, None}
use Rattle.std.specs.Cmp.Lexicographic.{slice_cmp}
use Rattle.std.specs.List.{IsDistinct}
use Rattle.std.specs.List.Sorted.{IsStrictlySortedBy}
use Rattle.std.specs.Ordering.{nat_cmp}
use Rattle.jm_dest.specs.declared.key.Key.{Key}
use Rattle.jm_dest.specs.declared.key.Key.TheVariants.{Queue, Durable}
use Rattle.jm_dest.specs.Keys.{key_eq}
use Rattle.jm_machine.specs.declared.state.Definition.{Definition}
use Rattle.jm_machine.specs.Reopened.{is_durable}
use Rattle.jm_parts.specs.declared.stored.StoredSubscription.{StoredSubscription}
use Rattle.jm_decoding.specs.declared.station.StationRow.{StationRow}
use Rattle.jm_loading.specs.Order.{key_cmp}

-- the key and the definition are those of a queue, or of a durable subscription
abbrev pub IsKnownAs : Key → Option Definition → Type 0
IsKnownAs (Queue name) None = Unit {0}
IsKnownAs (Durable client name) (Some d) = Unit {0}
IsKnownAs _ _ = ⊥

abbrev pub IsKnown : StationRow → Type 0
IsKnown s = IsKnownAs s.key s.definition

-- the queue of that name, where nothing is asked for
abbrev pub queue_named : Key → Option Definition → List (List ℕ)
queue_named (Queue name) None = name ∷ []
queue_named _ _ = []

-- the queue of the row, where it is that of one
abbrev pub queues_of : StationRow → List (List ℕ)
queues_of s = queue_named s.key s.definition

-- a subscription that asks for something
abbrev pub subscription_for : Key → Option Definition → List StoredSubscription
subscription_for key None = []
subscription_for key (Some d) = record { key = key; definition = d } ∷ []

-- the durable subscription of the row, where it is that of one
abbrev pub subscriptions_of : StationRow → List StoredSubscription
subscriptions_of s = subscription_for s.key s.definition

-- those of all rows, in their order
abbrev pub queues_in : List StationRow → List (List ℕ)
queues_in [] = []
queues_in (s ∷ rows) = queues_of s ++ queues_in rows

abbrev pub subscriptions_in : List StationRow → List StoredSubscription
subscriptions_in [] = []
subscriptions_in (s ∷ rows) = subscriptions_of s ++ subscriptions_in rows

-- each is durable, and stands once
pub record AreSubscriptions (subscriptions : List StoredSubscription) : Type 0 where
  pub durable : All (λ (s : StoredSubscription). is_durable s.key ≡ true) subscriptions
  pub once : IsDistinct key_eq (map (λ (s : StoredSubscription). s.key) subscriptions)

-- names of queues and keys of subscriptions rise, so that they may be searched
pub record AreSearchable (queues : List (List ℕ)) (subscriptions : List StoredSubscription) : Type 0 where
  pub queues_rise : IsStrictlySortedBy (slice_cmp nat_cmp) queues
  pub subscriptions_rise : IsStrictlySortedBy key_cmp (map (λ (s : StoredSubscription). s.key) subscriptions)

-- they are those of the rows, which fit
pub record AreStationsOf (rows : List StationRow) (queues : List (List ℕ)) (subscriptions : List StoredSubscription) : Type 0 where
  pub known : All IsKnown rows
  pub queues_are : queues ≡ queues_in rows
  pub subscriptions_are : subscriptions ≡ subscriptions_in rows
