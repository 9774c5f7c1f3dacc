-- Subscriptions in order of creation, at most one a key.
use Rattle.std.specs.Prelude.{ℕ, ◌+◌, Bool, true, false, ◌&&◌, not, Option, None, Some, List, [], ◌∷◌, ◌++◌, filter, find, is_some, map, option_map, count_by, if◌then◌else◌}
use Rattle.std.specs.Set.{distinct_count}
use Rattle.jm_base.specs.declared.refusal.Refusal.{Refusal}
use Rattle.jm_base.specs.declared.refusal.Refusal.TheVariants.{InvalidDestination, SubscriptionInUse}
use Rattle.jm_dest.specs.Names.{text_eq}
use Rattle.jm_dest.specs.declared.key.Key.{Key}
use Rattle.jm_dest.specs.declared.key.Key.TheVariants.{Queue, Own, SharedOwn, Durable}
use Rattle.jm_dest.specs.Keys.{key_eq}
use Rattle.jm_header.specs.declared.content.Content.{Content}
use Rattle.jm_machine.specs.declared.state.Definition.{Definition}
use Rattle.jm_machine.specs.declared.consumers.Consumers.{Consumers}
use Rattle.jm_machine.specs.Attached.{Counts, ended}
use Rattle.jm_machine.specs.Sections.{is_own_of}
use Rattle.jm_machine.specs.Machine.{Publisher, accepts, first_cause, is_local, is_same, unless}
use Rattle.jm_selector.specs.Selectors.{matches}

-- a subscription: its key, and what it asks for
pub record Subscription : Type 0 where
  pub key : Key
  pub definition : Definition

-- the subscriptions in order of creation, and how many more there is room for
pub record Subscriptions : Type 0 where
  pub list : List Subscription
  pub spare : ℕ

-- who publishes the message: the connection of the session that sent it, which has that client identifier, if any
abbrev pub publisher : Content → Option (List ℕ) → Publisher
publisher m client = record { connection = m.sender.session.connection; client = client }

-- a subscription of the key takes the publisher's messages, local or not, and its selector selects the message
abbrev pub wants : Key → Definition → Publisher → Content → Bool
wants key d sender m = not (d.no_local && is_local key sender) && matches d.selector m

-- the subscription accepts the publisher's message
abbrev pub takes : Publisher → Content → Subscription → Bool
takes sender m s = accepts s.key s.definition sender m

-- the keys of those that accept the publisher's message, in order of creation
abbrev pub accepting : Publisher → Content → List Subscription → List Key
accepting sender m subscriptions = map (λ s. s.key) (filter (takes sender m) subscriptions)

-- where those stand that accept the publisher's message, where they are counted from that number on
abbrev pub accepting_from : Publisher → Content → ℕ → List Subscription → List ℕ
accepting_from sender m first [] = []
accepting_from sender m first (s ∷ subscriptions) =
    if takes sender m s then first ∷ accepting_from sender m (first + 1) subscriptions
    else accepting_from sender m (first + 1) subscriptions

-- where those stand that accept the publisher's message, from 0 in order of creation
abbrev pub accepting_places : Publisher → Content → List Subscription → List ℕ
accepting_places sender m subscriptions = accepting_from sender m 0 subscriptions

-- what the subscription of the key asks for, if there is one
abbrev pub definition_at : Key → List Subscription → Option Definition
definition_at key subscriptions = option_map (λ s. s.definition) (find (λ s. key_eq s.key key) subscriptions)

-- the subscription that is to be created for a consumer of the key: none where that of the key asks for the same
abbrev pub needed : Key → Definition → List Subscription → Option Subscription
needed key asked subscriptions = if is_same (definition_at key subscriptions) asked then None else Some (record { key = key; definition = asked })

-- why a durable subscription is not deleted, by what is held under its key, and whether no consumer of it is active and no
-- row out; none where it is
abbrev pub unsubscribe_refusal : Option Definition → Bool → Bool → Option Refusal
unsubscribe_refusal held idle home = first_cause (unless (is_some held) InvalidDestination) (unless (idle && home) SubscriptionInUse)

-- all but the subscription of the key
abbrev pub without : Key → List Subscription → List Subscription
without key subscriptions = filter (λ s. not (key_eq s.key key)) subscriptions

-- a new subscription, in place of any other of its key
abbrev pub put : Subscription → List Subscription → List Subscription
put s subscriptions = without s.key subscriptions ++ s ∷ []

-- all but the own subscriptions of these consumers
abbrev pub without_own : Consumers → List Subscription → List Subscription
without_own which subscriptions = filter (λ s. not (is_own_of which s.key)) subscriptions

-- all but those that end once these consumers are closed, where so many active ones are left at each key
abbrev pub without_ended : Consumers → Counts → List Subscription → List Subscription
without_ended which left subscriptions = filter (λ s. not (ended which left s.key)) subscriptions

-- how many topics the subscriptions have, where those of one topic count once
abbrev pub number_of_topics : List Subscription → ℕ
number_of_topics subscriptions = distinct_count text_eq (map (λ s. s.definition.topic) subscriptions)

-- the key is of a shared subscription that is not durable
abbrev pub is_shared_own : Key → Bool
is_shared_own (Queue name) = false
is_shared_own (Own s c) = false
is_shared_own (SharedOwn client name) = true
is_shared_own (Durable client name) = false

-- how many of the subscriptions are shared and not durable
abbrev pub number_of_shared : List Subscription → ℕ
number_of_shared subscriptions = count_by (λ s. is_shared_own s.key) subscriptions
