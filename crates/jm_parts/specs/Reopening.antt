-- A core that is made of what was stored, part by part.
use Rattle.std.specs.Prelude.{◌≡◌, ◌<◌, ◌++◌, ℕ, List, All, map, length, nat_eq, slice_index_or, Option, None}
use Rattle.std.specs.List.{IsDistinct}
use Rattle.jm_dest.specs.declared.key.Key.{Key}
use Rattle.jm_header.specs.declared.content.Content.{Content}
use Rattle.jm_stations.specs.declared.loading.StoredRow.{StoredRow}
use Rattle.jm_stations.specs.Backlogs.{Backlog, empty}
use Rattle.jm_sub.specs.Subscriptions.{Subscription}
use Rattle.jm_parts.specs.declared.stored.Holders.{Holders}
use Rattle.jm_parts.specs.declared.stored.Holders.TheVariants as holders
use Rattle.jm_parts.specs.declared.stored.StoredMessage.{StoredMessage}
use Rattle.jm_parts.specs.declared.stored.StoredSubscription.{StoredSubscription}
use Rattle.jm_parts.specs.Stored.{row_stored, rows_under}

-- a stored subscription, as it is known by its key
abbrev pub subscription_of : StoredSubscription → Subscription
subscription_of s = record { key = s.key; definition = s.definition }

-- the subscriptions are known, and under the key of each stands nothing yet
pub record AreMade (subscriptions : List StoredSubscription) (known : List Subscription) (keys : List Key) (held : List Backlog) : Type 0 where
  pub known_are : known ≡ map subscription_of subscriptions
  pub keys_are : keys ≡ map (λ (s : StoredSubscription). s.key) subscriptions
  pub held_are : held ≡ map (λ (s : StoredSubscription). empty None) subscriptions

-- who holds the message is among so many subscriptions, each once
abbrev pub MayLoad : ℕ → Holders → Type 0
MayLoad n (holders.Queue count) = Unit {0}
MayLoad n (holders.Subscriptions rows) = All (λ (r : StoredRow). r.index < n) rows.items × IsDistinct nat_eq (map (λ (r : StoredRow). r.index) rows.items)

-- a message has come to each that holds it, after so many deliveries
pub record HasTaken (place : ℕ) (m : Content) (count : ℕ → Option ℕ) (old new : List Backlog) : Type 0 where
  pub number : length new ≡ length old
  pub each : (k : ℕ) (d : Backlog) → k < length old → slice_index_or new k d ≡ record (slice_index_or old k d) { rows = (slice_index_or old k d).rows ++ row_stored place m (count k); room = (slice_index_or new k d).room }

-- all have
pub record HaveLoaded (messages : List StoredMessage) (old new : List Backlog) : Type 0 where
  pub number : length new ≡ length old
  pub each : (k : ℕ) (d : Backlog) → k < length old → slice_index_or new k d ≡ record (slice_index_or old k d) { rows = (slice_index_or old k d).rows ++ rows_under messages k; room = (slice_index_or new k d).room }
