-- Subscriptions that have names: their keys, and whether each may be had.
use Rattle.std.specs.Prelude.{◌<◌, ◌&&◌, ℕ, Bool, true, List, [], ◌∷◌, ◌++◌, Option, Some, None, filter, is_some, not}
use Rattle.std.specs.List.{list_any}
use Rattle.jm_base.specs.declared.refusal.Refusal.{Refusal}
use Rattle.jm_base.specs.declared.refusal.Refusal.TheVariants.{SubscriptionInUse}
use Rattle.jm_dest.specs.declared.session.SessionId.{SessionId}
use Rattle.jm_dest.specs.declared.key.Key.{Key}
use Rattle.jm_dest.specs.Keys.{key_eq}
use Rattle.jm_machine.specs.declared.state.Consumer.{Consumer}
use Rattle.jm_machine.specs.declared.state.Definition.{Definition}
use Rattle.jm_machine.specs.Life.{Life, client_of}
use Rattle.jm_machine.specs.Machine.{defined, durable_of, first_cause, held, may_begin, shared_of, unless}
use Rattle.jm_selector.specs.Selectors.{selector_refusal}
use Rattle.jm_stations.specs.Backlogs.{Backlog, are_home, empty, kept_under}
use Rattle.jm_stations.specs.Stations.{Stations, index_in}
use Rattle.jm_sub.specs.declared.sharing.Sharing.{Sharing}
use Rattle.jm_sub.specs.declared.sharing.Sharing.TheVariants.{Unshared, SharedDurable, Shared}
use Rattle.jm_sub.specs.Sharing.{is_shared, may}
use Rattle.jm_sub.specs.Subscriptions.{Subscription, Subscriptions, definition_at, put as put_last}
use Rattle.jm_parts.specs.declared.named.Wanted.{Wanted}
use Rattle.jm_parts.specs.Closing.{is_other, kept_keys}
use Rattle.jm_parts.specs.State.{limit_of}
use Rattle.jm_parts.specs.Takings.{backlog_at}

-- the key of the subscription that a session means by the name, the connections having these clients
abbrev pub named_key : Sharing → (ℕ → Option (List ℕ)) → SessionId → List ℕ → Key
named_key Unshared = durable_of
named_key SharedDurable = durable_of
named_key Shared = shared_of

-- the session's consumer of that number may be asked for: it may be made, and where the subscription is unshared the
-- connection has a client identifier
abbrev pub may_ask : Sharing → Life → List Consumer → SessionId → ℕ → Bool
may_ask Unshared life consumers s c = may_begin life consumers s c && is_some (client_of life s.connection)
may_ask SharedDurable life consumers s c = may_begin life consumers s c
may_ask Shared life consumers s c = may_begin life consumers s c

-- what a subscription of the topic asks for that is wanted
abbrev pub asked_by : List ℕ → Wanted → Definition
asked_by topic w = defined topic w.selector.now w.no_local (is_shared w.sharing)

-- none of the consumers of the key is active
abbrev pub idle_in : Key → List Consumer → Bool
idle_in key consumers = not (list_any (λ x. x.is_active) (filter (λ x. key_eq x.key key) consumers))

-- none of the rows is out of what is held, where something is
abbrev pub home_at : Option Backlog → Bool
home_at None = true
home_at (Some b) = are_home b.rows

-- none of the rows under the key is out
abbrev pub home_in : Key → List Key → List Backlog → Bool
home_in key keys list = home_at (backlog_at list (index_in keys key))

-- the subscription of the key may be had, shared in that way, where it asks for that: by the consumers, the subscriptions
-- and what is held under their keys
abbrev pub may_have : Sharing → Key → Definition → List Consumer → List Subscription → List Key → List Backlog → Bool
may_have sharing key d consumers subscriptions keys list = may sharing (definition_at key subscriptions) (idle_in key consumers) (home_in key keys list) d

-- why a subscription is not had whose selector is that, and that may be had or not
abbrev pub had_refusal : Option (List ℕ) → Bool → Option Refusal
had_refusal selector had = first_cause (selector_refusal selector) (unless had SubscriptionInUse)

-- there is room for what was decided, where something was
abbrev pub IsRoomy : Option (Key × Subscription) → Subscriptions → Stations → Type 0
IsRoomy None subscriptions held = Unit {0}
IsRoomy (Some d) subscriptions held = (0 < subscriptions.spare) × (0 < held.key_room)

-- the subscriptions, and the keys, and what is held under them, after that
abbrev pub subscriptions_with : Option (Key × Subscription) → List Subscription → List Subscription
subscriptions_with None subscriptions = subscriptions
subscriptions_with (Some d) subscriptions = put_last d.1 subscriptions

abbrev pub keys_with : Option (Key × Subscription) → List Key → List Key
keys_with None keys = keys
keys_with (Some d) keys = kept_keys (is_other d.0) keys ++ d.0 ∷ []

abbrev pub list_with : ℕ → Option (Key × Subscription) → List Key → List Backlog → List Backlog
list_with limit None keys list = list
list_with limit (Some d) keys list = kept_under (is_other d.0) keys list ++ empty (limit_of limit d.0) ∷ []
