-- What a core was made of, as a keeper has it stored, and that it is what is stored of the core.
use Rattle.std.specs.Prelude.{◌<◌, ◌==◌, ℕ, zero, suc, List, [], ◌∷◌, All, find, length, Option, Some, None, option_map, if◌then◌else◌}
use Rattle.jm_dest.specs.declared.key.Key.{Key}
use Rattle.jm_dest.specs.declared.key.Key.TheVariants.{Queue, Own, SharedOwn, Durable}
use Rattle.jm_dest.specs.Keys.{key_eq}
use Rattle.jm_format.specs.Format as format
use Rattle.jm_keep.specs.Persisted.{IsPersisted, due_time}
use Rattle.jm_keep.specs.Stored.{Stored}
use Rattle.jm_parts.specs.declared.stored.Holders.{Holders}
use Rattle.jm_parts.specs.declared.stored.Holders.TheVariants as holders
use Rattle.jm_parts.specs.declared.stored.StoredMessage.{StoredMessage}
use Rattle.jm_parts.specs.declared.stored.StoredSubscription.{StoredSubscription}
use Rattle.jm_parts.specs.Stored.{MayReopen, count_at, count_under, state_stored}

-- the message that was given at the place
abbrev pub given_at : ℕ → List StoredMessage → Option StoredMessage
given_at place messages = find (λ m. m.place == place) messages

-- the count under the subscription of the key, of those under each index
abbrev pub count_in : (ℕ → Option ℕ) → List StoredSubscription → Key → Option ℕ
count_in count [] key = None
count_in count (s ∷ subscriptions) key = if key_eq s.key key then count zero else count_in (λ i. count (suc i)) subscriptions key

-- how often a message was delivered under the key, where that holds it
abbrev pub count_of_key : List StoredSubscription → Key → StoredMessage → Option ℕ
count_of_key subscriptions (Queue name) m = count_at name m.message.destination m.holders
count_of_key subscriptions (Own s c) m = None
count_of_key subscriptions (SharedOwn client name) m = None
count_of_key subscriptions (Durable client name) m = count_in (λ i. count_under i m.holders) subscriptions (Durable client name)

-- the same of a message that may have been given
abbrev pub count_given : List StoredSubscription → Key → Option StoredMessage → Option ℕ
count_given subscriptions key None = None
count_given subscriptions key (Some m) = count_of_key subscriptions key m

-- the delivery time of a message that may have been given, where it has a delay
abbrev pub due_given : Option StoredMessage → Option ℕ
due_given None = None
due_given (Some m) = due_time m.message

-- what was given, as a keeper has it: the definitions, the counts, the records of the messages, and their delivery times
abbrev pub given : List StoredSubscription → List StoredMessage → Stored
given subscriptions messages = record {
  definition = λ key. option_map (λ (s : StoredSubscription). s.definition) (find (λ s. key_eq s.key key) subscriptions);
  count = λ key place. count_given subscriptions key (given_at place messages);
  message = λ place. option_map (λ (m : StoredMessage). format.record m.message) (given_at place messages);
  due = λ place. due_given (given_at place messages);
}

-- somebody holds the message
abbrev pub AreSome : Holders → Type 0
AreSome (holders.Queue count) = Unit {0}
AreSome (holders.Subscriptions rows) = 0 < length rows.items

-- What is stored of a core that was made of what was stored is that again, where somebody holds each message.
abbrev pub ReopenedIsGiven : Type 0
ReopenedIsGiven =
    (opening limit : ℕ) (subscriptions : List StoredSubscription) (messages : List StoredMessage) →
    MayReopen subscriptions messages → All (λ (m : StoredMessage). AreSome m.holders) messages →
    IsPersisted (state_stored opening limit subscriptions messages) (given subscriptions messages)
