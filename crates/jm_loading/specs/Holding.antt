-- A message is held by one more.
use Rattle.std.specs.Prelude.{◌≡◌, ◌≤◌, ◌<◌, ◌+◌, ◌++◌, ℕ, true, List, [], ◌∷◌, All, length, slice_index_or, slice_set, Some, None, if◌then◌else◌, ⊤}
use Rattle.std.specs.Option.{option_or}
use Rattle.std.specs.List.{list_any}
use Rattle.jm_dest.specs.declared.key.Key.{Key}
use Rattle.jm_dest.specs.declared.key.Key.TheVariants.{Queue, Own, SharedOwn, Durable}
use Rattle.jm_dest.specs.Names.{text_eq}
use Rattle.jm_dest.specs.Keys.{key_eq}
use Rattle.jm_machine.specs.declared.state.Definition.{Definition}
use Rattle.jm_machine.specs.Rows.{greatest_count}
use Rattle.jm_stations.specs.declared.loading.StoredRow.{StoredRow}
use Rattle.jm_parts.specs.declared.stored.Holders.{Holders}
use Rattle.jm_parts.specs.declared.stored.Holders.TheVariants as holders
use Rattle.jm_parts.specs.declared.stored.StoredMessage.{StoredMessage}
use Rattle.jm_parts.specs.declared.stored.StoredSubscription.{StoredSubscription}
use Rattle.jm_parts.specs.Stored.{AreHolders, ArePlaced, admits, queue_admits}
use Rattle.jm_reopened.specs.Given.{count_given, count_of_key, given_at}
use Rattle.jm_decoding.specs.declared.held.HeldRow.{HeldRow}
use Rattle.jm_decoding.specs.declared.message.MessageRow.{MessageRow}
use Rattle.jm_loading.specs.Messages.{ArePairs, IsUnheld, content_at, content_said}
use Rattle.jm_loading.specs.Said.{count_said}

-- rows stand by the indexes of their subscriptions, from that one on, each under another
abbrev pub AreRising : ℕ → List StoredRow → Type 0
AreRising from [] = ⊤
AreRising from (r ∷ rows) = (from ≤ r.index) × AreRising (r.index + 1) rows

-- the index after the last of them; where there is none, that one
abbrev pub end_of : ℕ → List StoredRow → ℕ
end_of from [] = from
end_of from (r ∷ rows) = end_of (r.index + 1) rows

-- the rows of who holds a message rise
abbrev pub DoRise : Holders → Type 0
DoRise (holders.Queue count) = ⊤
DoRise (holders.Subscriptions rows) = AreRising 0 rows.items

-- the rows are those of before, and one more behind them
abbrev pub IsRowMore : StoredRow → Holders → Holders → Type 0
IsRowMore r (holders.Subscriptions rows) (holders.Subscriptions more) = (end_of 0 rows.items ≤ r.index) × (more.items ≡ rows.items ++ r ∷ [])
IsRowMore r _ _ = ⊥

-- nobody held the message, and it is held in the queue, which may hold it
pub record IsHeldInQueue (name : List ℕ) (count : ℕ) (old new : StoredMessage) : Type 0 where
  pub admitted : queue_admits name old.message ≡ true
  pub counted : count ≤ greatest_count
  pub unheld : IsUnheld old.holders
  pub place : new.place ≡ old.place
  pub message : new.message ≡ old.message
  pub holders_are : new.holders ≡ holders.Queue count

-- no row was under the subscription or one behind it, and the message is held under it, which may hold it
pub record IsHeldUnder (d : Definition) (r : StoredRow) (old new : StoredMessage) : Type 0 where
  pub admitted : admits d old.message ≡ true
  pub counted : r.count ≤ greatest_count
  pub place : new.place ≡ old.place
  pub message : new.message ≡ old.message
  pub more : IsRowMore r old.holders new.holders

-- the message is held under the key too, after so many deliveries
pub record IsHeldMore (subscriptions : List StoredSubscription) (key : Key) (count : ℕ) (old new : StoredMessage) : Type 0 where
  pub place : new.place ≡ old.place
  pub message : new.message ≡ old.message
  pub counts : (k : Key) → count_of_key subscriptions k new ≡ option_or (count_of_key subscriptions k old) (if key_eq key k then Some count else None)
  pub may : DoRise old.holders → AreHolders subscriptions old.message old.holders → AreHolders subscriptions new.message new.holders
  pub rise : DoRise old.holders → DoRise new.holders

-- the message at the place of the row is held under its key too, and the others are as before
pub record TakesRow (subscriptions : List StoredSubscription) (h : HeldRow) (old new : List StoredMessage) : Type 0 where
  pub at : ℕ
  pub within : at < length old
  pub message : StoredMessage
  pub there : (d : StoredMessage) → (slice_index_or old at d).place ≡ h.place
  pub more : (d : StoredMessage) → IsHeldMore subscriptions h.key h.count (slice_index_or old at d) message
  pub new_is : new ≡ slice_set old at message

-- no row is under a subscription with that index or a later one, and no queue holds the message
abbrev pub EndsBefore : ℕ → Holders → Type 0
EndsBefore index (holders.Queue count) = ⊥
EndsBefore index (holders.Subscriptions rows) = end_of 0 rows.items ≤ index

-- the queue stands and may hold the message after so many deliveries, and nobody holds it yet
pub record CanHoldInQueue (queues : List (List ℕ)) (name : List ℕ) (count : ℕ) (m : StoredMessage) : Type 0 where
  pub stands : list_any (λ queue. text_eq queue name) queues ≡ true
  pub admitted : queue_admits name m.message ≡ true
  pub counted : count ≤ greatest_count
  pub unheld : IsUnheld m.holders

-- the subscription of the key stands and may hold it, and neither it nor a later one holds it yet
pub record CanHoldUnder (subscriptions : List StoredSubscription) (key : Key) (count : ℕ) (m : StoredMessage) : Type 0 where
  pub at : ℕ
  pub within : at < length subscriptions
  pub subscription : StoredSubscription
  pub subscription_is : (d : StoredSubscription) → slice_index_or subscriptions at d ≡ subscription
  pub named : key_eq subscription.key key ≡ true
  pub admitted : admits subscription.definition m.message ≡ true
  pub counted : count ≤ greatest_count
  pub before : EndsBefore at m.holders

abbrev pub CanHold : List (List ℕ) → List StoredSubscription → Key → ℕ → StoredMessage → Type 0
CanHold queues subscriptions (Queue name) count m = CanHoldInQueue queues name count m
CanHold queues subscriptions (Own s c) count m = CanHoldUnder subscriptions (Own s c) count m
CanHold queues subscriptions (SharedOwn client name) count m = CanHoldUnder subscriptions (SharedOwn client name) count m
CanHold queues subscriptions (Durable client name) count m = CanHoldUnder subscriptions (Durable client name) count m

-- the message of the row stands, and can be held as the row says
pub record CanTake (queues : List (List ℕ)) (subscriptions : List StoredSubscription) (h : HeldRow) (messages : List StoredMessage) : Type 0 where
  pub at : ℕ
  pub within : at < length messages
  pub message : StoredMessage
  pub message_is : (d : StoredMessage) → slice_index_or messages at d ≡ message
  pub there : message.place ≡ h.place
  pub can : CanHold queues subscriptions h.key h.count message

-- the messages are those of the rows, by place, and who holds them may hold them: those whom rows of held say
pub record AreHeldAs (rows : List MessageRow) (subscriptions : List StoredSubscription) (held : List HeldRow) (messages : List StoredMessage) : Type 0 where
  pub placed : ArePlaced 1 messages
  pub pairs : ArePairs rows messages
  pub same : (place : ℕ) → content_at place messages ≡ content_said place rows
  pub may : All (λ (m : StoredMessage). AreHolders subscriptions m.message m.holders) messages
  pub rise : All (λ (m : StoredMessage). DoRise m.holders) messages
  pub counts : (key : Key) (place : ℕ) → count_given subscriptions key (given_at place messages) ≡ count_said key place held
