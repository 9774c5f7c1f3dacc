-- The law of isolation: to its own sessions a subscription answers what it would answer alone.
use Rattle.std.specs.Prelude.{◌≡◌, ℕ, ◌&&◌, ◌||◌, not, Bool, true, false, List, [], ◌∷◌, map, Option, Some, None, Result}
use Rattle.std.specs.List.{list_all}
use Rattle.jm_base.specs.declared.refusal.Refusal.{Refusal}
use Rattle.jm_dest.specs.declared.key.Key.{Key}
use Rattle.jm_dest.specs.declared.key.Key.TheVariants.{Own, SharedOwn, Durable, Queue as OfQueue}
use Rattle.jm_dest.specs.declared.session.SessionId.{SessionId}
use Rattle.jm_dest.specs.Keys.{key_eq}
use Rattle.jm_machine.specs.declared.call.Who.{Who}
use Rattle.jm_machine.specs.declared.call.Call.{Call}
use Rattle.jm_machine.specs.declared.call.ClientCall.{ClientCall}
use Rattle.jm_machine.specs.declared.answer.Answer.{Answer}
use Rattle.jm_machine.specs.declared.call.Who.TheVariants.{Session}
use Rattle.jm_machine.specs.declared.call.Request.TheVariants.{CreateSharedDurable}
use Rattle.jm_machine.specs.declared.state.Consumer.{Consumer}
use Rattle.jm_machine.specs.declared.state.Definition.{Definition}
use Rattle.jm_machine.specs.declared.state.PlacedRow.{PlacedRow}
use Rattle.jm_machine.specs.declared.state.Station.{Station}
use Rattle.jm_machine.specs.declared.entry.Entry.{Entry}
use Rattle.jm_machine.specs.declared.entry.Entry.TheVariants.{Asked}
use Rattle.jm_machine.specs.declared.entry.Event.{Event}
use Rattle.jm_machine.specs.Machine.{State, new_core, station_of, definition_of, durable_of, has_number, reply, step}
use Rattle.jm_machine.specs.Reopened.{AreStored, reopened}
use Rattle.jm_machine.specs.Client.{Progress, begun, RepliesFit, RunOwed}
use Rattle.jm_machine.specs.Entries.{entries_of, expand}
use Rattle.jm_machine.specs.Lone.{Lone, Item, clients_in, names_key, number_made, creates, entry_names, scope_of, lone_of, lone_replies, feed, replies_in}

-- the states that the provider reaches: from a new core, or one that is made of what was stored, by steps of any kind
pub data Reached : State → Type 0 where
  New : (opening limit : ℕ) → Reached (new_core opening limit)
  Reopened : (opening limit : ℕ) (stations : List Station) (queues : List ℕ → List PlacedRow) (next_place : ℕ) → AreStored stations queues next_place → Reached (reopened opening limit stations queues next_place)
  Stepped : (state : State) → (who : Who) → (call : Call) → Reached state → Reached (step state who call)

-- a creating call that names the number names the key
abbrev pub names_no_other : Key → (ℕ → Option (List ℕ)) → SessionId → ℕ → Entry → Bool
names_no_other key clients s c e = not (creates s c e) || entry_names key clients e

-- the number names nothing but the key, in the opening or by a creating call, whether that was accepted or not
abbrev pub keeps_number : Key → State → List Entry → SessionId → ℕ → Bool
keeps_number key opening entries s c =
    list_all (λ x. not (has_number s c x) || key_eq x.key key) opening.consumers && list_all (names_no_other key (clients_in opening entries) s c) entries

-- so does a number that may be absent
abbrev pub keeps_made : Key → State → List Entry → SessionId → Option ℕ → Bool
keeps_made key opening entries s None = true
keeps_made key opening entries s (Some c) = keeps_number key opening entries s c

-- where an entry is a creating call that names the key, its number names nothing else
abbrev pub keeps_named : Key → State → List Entry → Entry → Bool
keeps_named key opening entries (Asked (Session s) request told) = not (names_key key (clients_in opening entries) s request) || keeps_made key opening entries s (number_made request)
keeps_named key opening entries _ = true

-- where a consumer of the opening is the key's, its number names nothing else
abbrev pub keeps_consumer : Key → State → List Entry → Consumer → Bool
keeps_consumer key opening entries x = not (key_eq x.key key) || keeps_number key opening entries x.session x.id

-- there is a subscription, and it is shared
abbrev pub is_shared : Option Definition → Bool
is_shared None = false
is_shared (Some d) = d.shared

-- the entry does not ask for a shared durable subscription of the key
abbrev pub asks_no_shared : Key → (ℕ → Option (List ℕ)) → Entry → Bool
asks_no_shared key clients (Asked (Session s) (CreateSharedDurable c destination name selector) told) = not (key_eq (durable_of clients s name) key)
asks_no_shared key clients _ = true

-- the key is that of an unshared topic subscription: a consumer's own, whose number names nothing else; or a durable one of
-- a client, that is not shared in the opening, and that no call asks for as a shared one
abbrev pub is_unshared : Key → State → List Entry → Bool
is_unshared (OfQueue name) opening entries = false
is_unshared (Own s c) opening entries = keeps_number (Own s c) opening entries s c
is_unshared (SharedOwn client name) opening entries = false
is_unshared (Durable None name) opening entries = false
is_unshared (Durable (Some client) name) opening entries =
    not (is_shared (definition_of (station_of (Durable (Some client) name) opening.stations))) && list_all (asks_no_shared (Durable (Some client) name) (clients_in opening entries)) entries

-- the numbers with which the key's consumers are made, or were in the opening, name nothing else; of a consumer's own key
-- that is said already
abbrev pub keeps_numbers : Key → State → List Entry → Bool
keeps_numbers (OfQueue name) opening entries = true
keeps_numbers (Own s c) opening entries = true
keeps_numbers (SharedOwn client name) opening entries = true
keeps_numbers (Durable client name) opening entries =
    list_all (keeps_consumer (Durable client name) opening entries) opening.consumers && list_all (keeps_named (Durable client name) opening entries) entries

-- the premises of the law at a key, for what a list of calls or events leaves in the record
pub record Premises (key : Key) (opening : State) (entries : List Entry) : Type 0 where
  pub unshared : is_unshared key opening entries ≡ true
  pub numbers : keeps_numbers key opening entries ≡ true
  pub reached : Reached opening

-- the replies to the key's calls in the record of a run, each with its place in it
abbrev pub answered : Key → State → List Entry → List (ℕ × Result Answer Refusal)
answered key opening entries = replies_in (scope_of key opening entries) 0 entries

-- what the key's subscription starts with
abbrev pub starts_with : Key → State → List Entry → Lone
starts_with key opening entries = lone_of (scope_of key opening entries) opening

-- what it is fed, each item with its place in the record
abbrev pub feed_of : Key → State → List Entry → List (ℕ × Item)
feed_of key opening entries = feed (scope_of key opening entries) 0 opening.life [] (starts_with key opening entries) entries

-- what the key's subscription answers alone, fed with its own sessions' calls and with the committed
-- publications that it accepts, each reply with the place of the call
abbrev pub alone : Key → State → List Entry → List (ℕ × Result Answer Refusal)
alone key opening entries = lone_replies (scope_of key opening entries) (starts_with key opening entries) (feed_of key opening entries)

-- Over every list of calls of any sessions, with replies that fit it, the replies to the calls of an
-- unshared topic subscription are those of that subscription alone.
abbrev pub Isolation : Type 0
Isolation =
    (opening : State) (calls : List ClientCall) (replies : List (Result Answer Refusal)) (end : Progress) (key : Key) →
    RepliesFit (begun opening) calls replies end →
    Premises key opening (entries_of opening.opening calls replies) →
    answered key opening (entries_of opening.opening calls replies) ≡ alone key opening (entries_of opening.opening calls replies)

-- The replies to a list of calls from that opening are isolated: at each key that is unshared in their record, and whose
-- numbers it keeps, they are what its subscription answers alone.
abbrev pub AreIsolated : State → List ClientCall → List (Result Answer Refusal) → Type 0
AreIsolated opening calls replies =
    (key : Key) →
    is_unshared key opening (entries_of opening.opening calls replies) ≡ true →
    keeps_numbers key opening (entries_of opening.opening calls replies) ≡ true →
    answered key opening (entries_of opening.opening calls replies) ≡ alone key opening (entries_of opening.opening calls replies)

-- The same from one state: over every list of calls that is run on it.
abbrev pub IsolationFrom : State → Type 0
IsolationFrom opening =
    (calls : List ClientCall) (replies : List (Result Answer Refusal)) (end : Progress) →
    RepliesFit (begun opening) calls replies end → AreIsolated opening calls replies

-- What a run owes to a list of calls, from a state that the provider reaches, is isolated.
abbrev pub IsolationOfRuns : Type 0
IsolationOfRuns =
    (opening : State) (calls : List ClientCall) (replies : List (Result Answer Refusal)) (end : Progress) →
    Reached opening → RunOwed (begun opening) calls replies end → AreIsolated opening calls replies

-- Replies that fit a list of calls lead from a state that the provider reaches to one that it reaches, so
-- that the law holds of the next list too.
abbrev pub RunsReach : Type 0
RunsReach =
    (opening : State) (calls : List ClientCall) (replies : List (Result Answer Refusal)) (end : Progress) →
    Reached opening → RepliesFit (begun opening) calls replies end → Reached end.state

-- What a run owes to a list of calls fits it, so the law holds of it.
abbrev pub RunsFit : Type 0
RunsFit =
    (begin : Progress) (calls : List ClientCall) (replies : List (Result Answer Refusal)) (end : Progress) →
    RunOwed begin calls replies end → RepliesFit begin calls replies end

-- a list of events is legal from a state: each reply is the machine's
abbrev pub IsLegal : State → List Event → Type 0
IsLegal state [] = Unit {0}
IsLegal state (e ∷ events) = (e.reply ≡ reply state e.step.who e.step.call) × IsLegal (step state e.step.who e.step.call) events

-- the state after a list of events
abbrev pub after_events : State → List Event → State
after_events state [] = state
after_events state (e ∷ events) = after_events (step state e.step.who e.step.call) events

-- A legal list of events leads from a state that the provider reaches to one that it reaches.
abbrev pub EventsReach : Type 0
EventsReach = (opening : State) (events : List Event) → Reached opening → IsLegal opening events → Reached (after_events opening events)

-- The same over every legal list of events: what they expand to has the law.
abbrev pub IsolationOfEvents : Type 0
IsolationOfEvents =
    (opening : State) (events : List Event) (key : Key) →
    IsLegal opening events →
    Premises key opening (expand events) →
    answered key opening (expand events) ≡ alone key opening (expand events)

-- things without their places
abbrev pub in_order : {A : Type 0} → List (ℕ × A) → List A
in_order things = map (λ x. x.1) things

-- Two worlds: where two lists of calls feed the key's subscription alike, whatever else is in them, from openings that
-- agree on what it starts with, its sessions get the same replies in the same order. So what others send in transactions
-- that are not committed, what it does not accept, and all that concerns others alone, changes nothing.
abbrev pub TwoWorlds : Type 0
TwoWorlds =
    (one other : State) (calls others : List ClientCall) (replies told : List (Result Answer Refusal)) (end finish : Progress) (key : Key) →
    RepliesFit (begun one) calls replies end → Premises key one (entries_of one.opening calls replies) →
    RepliesFit (begun other) others told finish → Premises key other (entries_of other.opening others told) →
    starts_with key one (entries_of one.opening calls replies) ≡ starts_with key other (entries_of other.opening others told) →
    in_order (feed_of key one (entries_of one.opening calls replies)) ≡ in_order (feed_of key other (entries_of other.opening others told)) →
    in_order (answered key one (entries_of one.opening calls replies)) ≡ in_order (answered key other (entries_of other.opening others told))

-- The same over two legal lists of events.
abbrev pub TwoWorldsOfEvents : Type 0
TwoWorldsOfEvents =
    (one other : State) (events others : List Event) (key : Key) →
    IsLegal one events → Premises key one (expand events) →
    IsLegal other others → Premises key other (expand others) →
    starts_with key one (expand events) ≡ starts_with key other (expand others) →
    in_order (feed_of key one (expand events)) ≡ in_order (feed_of key other (expand others)) →
    in_order (answered key one (expand events)) ≡ in_order (answered key other (expand others))
