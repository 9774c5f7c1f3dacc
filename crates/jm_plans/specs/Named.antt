-- Subscriptions that have names, as requests ask for them.
use Rattle.std.specs.Prelude.{◌≡◌, ◌<◌, ◌&&◌, ℕ, Bool, true, false, List, [], Option, Some, None, if◌then◌else◌}
use Rattle.jm_base.specs.declared.refusal.Refusal.{Refusal}
use Rattle.jm_base.specs.declared.refusal.Refusal.TheVariants.{IllegalState}
use Rattle.jm_dest.specs.declared.session.SessionId.{SessionId}
use Rattle.jm_dest.specs.declared.key.Key.{Key}
use Rattle.jm_machine.specs.declared.answer.Answer.TheVariants.{Done}
use Rattle.jm_machine.specs.declared.call.Request.{Request}
use Rattle.jm_machine.specs.declared.call.Request.TheVariants.{CreateConsumer, CreateDurable, CreateShared, CreateSharedDurable}
use Rattle.jm_machine.specs.declared.call.Who.TheVariants.{Session}
use Rattle.jm_machine.specs.declared.state.Definition.{Definition}
use Rattle.jm_machine.specs.Life.{client_of}
use Rattle.jm_machine.specs.Machine.{Holding, State, after, answer, asked, definition_of, durable_of, first_cause, held, holding_of, is_home, is_idle, is_of_topic, is_same, put, refusal, selected_by, shared_of, station_of, subscribed, subscription_refusal, unless}
use Rattle.jm_machine.specs.Wants.{takes_memory}
use Rattle.jm_selector.specs.Selectors.{selector_refusal}
use Rattle.jm_session.specs.Sources.{Origin}
use Rattle.jm_sub.specs.declared.sharing.Sharing.{Sharing}
use Rattle.jm_sub.specs.Sharing.{is_shared, may}
use Rattle.jm_sub.specs.Subscriptions.{Subscription}
use Rattle.jm_parts.specs.declared.named.Wanted.{Wanted}
use Rattle.jm_plans.specs.Provider.{Provider, state_of}
use Rattle.jm_parts.specs.Takings.{is_queue}
use Rattle.jm_parts.specs.Named.{named_key, may_ask}

-- what the state holds of the key
abbrev pub held_of : Key → State → Holding
held_of key state = holding_of (selected_by None) key state

-- the same by the state
abbrev pub is_had : Sharing → Key → Definition → State → Bool
is_had sharing key d state = may sharing (held_of key state).definition (is_idle (held_of key state)) (is_home (held_of key state)) d

-- the state with the subscription that was decided, where one was: the decision stands beside a copy of its key
abbrev pub put_decided : Option (Key × Subscription) → State → State
put_decided None state = state
put_decided (Some d) state = put d.1.key d.1.definition state

-- the decision, where there is one, is of that key, which is no queue's, and there is room for its subscription and its key
abbrev pub IsDecided : Provider → Key → Option (Key × Subscription) → Type 0
IsDecided p key None = Unit {0}
IsDecided p key (Some d) = (d.0 ≡ key) × (d.1.key ≡ key) × (is_queue (Some key) ≡ false) × (0 < p.subscriptions.spare) × (0 < p.held.key_room)

-- what is decided of the subscription of the key, of which that is held, and which is to ask for that: nothing where it does,
-- and else one that does, beside a copy of its key
abbrev pub decision_of : Option Definition → Key → Definition → Option (Key × Subscription)
decision_of held key d = if is_same held d then None else Some (key, record { key = key; definition = d })

-- that is decided for a session's request for a consumer, where it asks for a subscription that has a name; for no other
-- request a consumer is made
abbrev pub IsDecidedFor : State → SessionId → Request → Option (Key × Subscription) → Type 0
IsDecidedFor state s (CreateDurable c destination name selector no_local) decision =
    decision ≡ decision_of (definition_of (station_of (durable_of (client_of state.life) s name) state.stations)) (durable_of (client_of state.life) s name) (asked destination selector no_local false)
IsDecidedFor state s (CreateShared c destination name selector) decision =
    decision ≡ decision_of (definition_of (station_of (shared_of (client_of state.life) s name) state.stations)) (shared_of (client_of state.life) s name) (asked destination selector false true)
IsDecidedFor state s (CreateSharedDurable c destination name selector) decision =
    decision ≡ decision_of (definition_of (station_of (durable_of (client_of state.life) s name) state.stations)) (durable_of (client_of state.life) s name) (asked destination selector false true)
IsDecidedFor state s (CreateConsumer c destination selector no_local) decision = Unit {0}
IsDecidedFor state s _ decision = ⊥

-- a consumer's source and what was decided for it, the subscription of the key asking for that: the selector is read, the
-- subscription may be had, a new one takes the place of what asks for another thing, and there is room for all
pub record IsPrepared (p : Provider) (sharing : Sharing) (key : Key) (selector : Option (List ℕ)) (d : Definition) (source : Origin) (decision : Option (Key × Subscription)) : Type 0 where
  pub source_is : source ≡ record { key = key; selector = None }
  pub valid : selector_refusal selector ≡ None
  pub had : is_had sharing key d (state_of p) ≡ true
  pub chosen : decision ≡ decision_of (definition_of (station_of key (state_of p).stations)) key d
  pub left : put_decided decision (state_of p) ≡ (if is_same (definition_of (station_of key (state_of p).stations)) d then state_of p else put key d (state_of p))
  pub room : 0 < p.known.spare
  pub decided : IsDecided p key decision

-- the key of the subscription that the session wants, and what it asks for
abbrev pub key_wanted : State → SessionId → Wanted → Key
key_wanted state s w = named_key w.sharing (client_of state.life) s w.name.now

abbrev pub definition_wanted : Wanted → Definition
definition_wanted w = asked w.destination.now w.selector.now w.no_local (is_shared w.sharing)

-- why a request for the session's consumer of that number, of the subscription that is wanted, is refused
abbrev pub naming_refusal : State → SessionId → ℕ → Wanted → Option Refusal
naming_refusal state s c w =
    first_cause (unless (may_ask w.sharing state.life state.consumers s c) IllegalState) (subscription_refusal w.destination.now w.selector.now (is_had w.sharing (key_wanted state s w) (definition_wanted w) state))

-- the session's request asks for its consumer of that number, of the subscription that is wanted: it is refused, answered
-- and carried out as such a request is, takes memory as such a request does, and has that subscription decided
pub record IsNaming (state : State) (s : SessionId) (c : ℕ) (w : Wanted) (request : Request) : Type 0 where
  pub refused : refusal state.life state.consumers (held state (Session s) request) (Session s) request ≡ naming_refusal state s c w
  pub told : answer state.life state.consumers (held state (Session s) request) (Session s) request ≡ Done
  pub left : after state (Session s) request ≡ subscribed s c (key_wanted state s w) (definition_wanted w) state
  pub takes : takes_memory state (Session s) request ≡ (may_ask w.sharing state.life state.consumers s c && is_of_topic w.destination.now)
  pub decides : (decision : Option (Key × Subscription)) → decision ≡ decision_of (definition_of (station_of (key_wanted state s w) state.stations)) (key_wanted state s w) (definition_wanted w) → IsDecidedFor state s request decision
