-- The changes that each kind of call asks for lead from what is stored before it to what is stored after it.
use Rattle.std.proofs.Common.{◌≡◌, ℕ, ◌+◌, Bool, true, false, cond, List, [], ◌∷◌, ◌++◌, refl, sym, subst, ◌∙◌, ap, Option, Some, None}
use Rattle.std.specs.Prelude.{◌||◌, IsOk, IsErr, MatchBool}
use Rattle.std.specs.List.{list_any}
use Rattle.jm_base.specs.declared.mode.Mode.{Mode}
use Rattle.jm_base.specs.declared.mode.Mode.TheVariants.{Client}
use Rattle.jm_base.specs.declared.refusal.Refusal.{Refusal}
use Rattle.jm_dest.specs.declared.destination.Destination.{Destination}
use Rattle.jm_dest.specs.declared.destination.Destination.TheVariants.{Queue as ToQueue, Topic as ToTopic}
use Rattle.jm_dest.specs.declared.key.Key.{Key}
use Rattle.jm_dest.specs.declared.key.Key.TheVariants.{Queue, SharedOwn, Durable}
use Rattle.jm_dest.specs.declared.session.SessionId.{SessionId}
use Rattle.jm_dest.specs.Keys.{key_eq}
use Rattle.jm_header.specs.declared.content.Content.{Content}
use Rattle.jm_machine.specs.declared.answer.Answer.{Answer}
use Rattle.jm_machine.specs.declared.answer.Answer.TheVariants.{Done}
use Rattle.jm_machine.specs.declared.call.Who.{Who}
use Rattle.jm_machine.specs.declared.call.Who.TheVariants.{Connection, Session}
use Rattle.jm_machine.specs.declared.call.Request.{Request}
use Rattle.jm_machine.specs.declared.call.Request.TheVariants.{CloseConnection, CreateSession, CloseSession, CreateConsumer, CreateDurable, CreateShared, CreateSharedDurable, Unsubscribe, CloseConsumer, Receive, Acknowledge, Recover, Rollback, SetListener, Take, Done as DoneWith}
use Rattle.jm_machine.specs.declared.call.Call.TheVariants.{Ask, Publish, Commit}
use Rattle.jm_machine.specs.declared.state.Definition.{Definition}
use Rattle.jm_machine.specs.declared.state.Row.{Row}
use Rattle.jm_machine.specs.Life.{client_of, is_started, mode_of}
use Rattle.jm_machine.specs.Rows.{settles_at_once, sent_out, left_of, taken, deliver_placed, deliver_chosen}
use Rattle.jm_machine.specs.Machine.{State, after, after_commit, answer, asked, closed, commit_refusal, consumer_of, definition_of, deleted, held, holding_at, is_coming, set_busy, set_listening, take, is_client, is_same, joined, key_at, made, moved, of_connection, of_number, of_session, publish_refusal, published, put, receive, refusal, replied, reply, returned, same_definition, selected_by, settled, station_of, step, subscribed, with_life, with_message}
use Rattle.jm_machine.specs.Under.{is_persistent, lasts_at, next_under, placed_under}
use Rattle.jm_machine.proofs.Keys.{key_refl}
use Rattle.jm_keep.specs.declared.change.RowChange.{RowChange}
use Rattle.jm_keep.specs.declared.change.RowChange.TheVariants.{DropStation, PutStation}
use Rattle.jm_keep.specs.Persisted.{is_lasting, LeadsTo}
use Rattle.jm_keep.specs.Leads.{drops, puts, StoresTheSame}
use Rattle.jm_keep.specs.Steps.{StandsInOrder, AreGone, taken_under, lapsed_under, out_through, all_under, counted}
use Rattle.jm_keep.specs.Calls.{queue_station, come, brought, AreTakers, ArePublished, DropsThen, AreDelivered, AreReceived, AreSubscribed, AreRequested, AreCommitted, AreChanges, ChangesLead, RefusedLeads}
use Rattle.jm_keep_law.proofs.Leads.{chain, drops_lead, puts_lead, station_leads, nothing_leads}
use Rattle.jm_keep_law.proofs.Published.{publish_gains, unstored, taken_nowhere, takes_after, takes_settled}
use Rattle.jm_keep_law.proofs.Ordered.{order_message, order_settled}
use Rattle.jm_keep_law.proofs.Settled.{settle_loses, return_stores}
use Rattle.jm_keep_law.proofs.Received.{receive_loses}
use Rattle.jm_keep_law.proofs.Counted.{counted_receive_leads}
use Rattle.jm_keep_law.proofs.Deleted.{emptied, empties, ends, delete_leads, put_leads}
use Rattle.jm_keep_law.proofs.Done.{consumers_same, done_lead, lead_on}
use Rattle.jm_keep_law.proofs.Quiet.{none_lead, same_trans, same_refl, closed_same, life_same, given_closed, joined_same, put_same, made_same, changes_same, deleted_same}

-- ---- publications

-- the station of a queue may stand before what follows
with_station : (d : Destination) (a b : State) (cs : List RowChange) → LeadsTo a b cs → LeadsTo a b (queue_station d ++ cs)
with_station (ToTopic name) a b cs h = h
with_station (ToQueue name) a b cs h =
    chain a a b (PutStation (Queue name) None ∷ []) cs ((station_leads a a (Queue name) None).1 (record { definitions = λ key. refl; rows = λ key place. refl })) h

message_leads : (state : State) (m : Content) (keys : List Key) → StandsInOrder state → (is_persistent m.mode ≡ true → AreTakers state m keys) → LeadsTo state (with_message state m) (brought m state.next_place keys)
message_leads state m keys o t = go (is_persistent m.mode) refl
  where
    taken : is_persistent m.mode ≡ true → (keys : List Key) → AreTakers state m keys → LeadsTo state (with_message state m) (come m state.next_place keys)
    taken e [] h = nothing_leads state (with_message state m) (taken_nowhere state m (λ key. sym (h key)))
    taken e (key ∷ keys) h = with_station m.destination state (with_message state m) (puts (key ∷ keys) state.next_place m)
        (puts_lead state (with_message state m) (key ∷ keys) state.next_place m
        (publish_gains state m (key ∷ keys) key o e h (sym (h key) ∙ ap (λ b. b || list_any (λ k. key_eq k key) keys) (key_refl key))))

    go : (b : Bool) → is_persistent m.mode ≡ b → LeadsTo state (with_message state m) (cond b (come m state.next_place keys) [])
    go true e = taken e keys (t e)
    go false e = nothing_leads state (with_message state m) (unstored state m o e)

-- which keys take a message is asked of an earlier state
published_from : (a b : State) → ((m : Content) (key : Key) → lasts_at b m key ≡ lasts_at a m key) → (place : ℕ) (ms : List Content) (cs : List RowChange) → ArePublished a place ms cs → ArePublished b place ms cs
published_from a b t place [] cs h = h
published_from a b t place (m ∷ ms) cs h = (h.0, h.1, (λ e key. h.2 e key ∙ sym (t m key)), published_from a b t (place + 1) ms h.1 h.3, h.4)

pub published_lead : (state : State) (ms : List Content) (cs : List RowChange) → StandsInOrder state → ArePublished state state.next_place ms cs → LeadsTo state (published state ms) cs
unfolding published
published_lead state [] cs o h = none_lead state state cs (same_refl state) h
published_lead state (m ∷ ms) cs o h = subst (λ t. LeadsTo state (published (with_message state m) ms) t) (sym h.4)
    (chain state (with_message state m) (published (with_message state m) ms) (brought m state.next_place h.0) h.1
    (message_leads state m h.0 o h.2)
    (published_lead (with_message state m) ms h.1 (order_message state m o)
    (published_from state (with_message state m) (λ n key. takes_after state m n key) (state.next_place + 1) ms h.1 h.3)))

-- ---- rows that go

dropped_lead : (goes : Key → ℕ → Row → Bool) (a b : State) (others cs : List RowChange) →
    ((rows : List (Key × ℕ)) (delays places : List ℕ) → AreGone goes a rows delays places → LeadsTo a b (drops rows delays places ++ others)) →
    DropsThen goes a others cs → LeadsTo a b cs
dropped_lead goes a b others cs f h = subst (λ t. LeadsTo a b t) (sym h.changes_are) (f h.rows h.delays h.places h.are_gone)

pub settled_lead : (state : State) (p : SessionId → ℕ → Bool) (b : State) (others cs : List RowChange) → StandsInOrder state → LeadsTo (settled p state) b others → DropsThen (out_through p) state others cs → LeadsTo state b cs
settled_lead state p b others cs o g h = dropped_lead (out_through p) state b others cs
    (λ rows delays places gone. chain state (settled p state) b (drops rows delays places) others (drops_lead state (settled p state) rows delays places (settle_loses state p rows delays places o gone)) g) h

-- ---- requests

all_left : (mode : Option Mode) (s : SessionId) (c : ℕ) (b : Bool) → settles_at_once mode ≡ b → (λ (r : Row). cond b [] (sent_out s c r ∷ [])) ≡ left_of mode s c
unfolding left_of
all_left mode s c b e = ap (λ d. λ (r : Row). cond d [] (sent_out s c r ∷ [])) (sym e)

delivered_lead : (state : State) (mode : Option Mode) (p : Content → Bool) (s : SessionId) (c now : ℕ) (k : Key) (cs : List RowChange) → StandsInOrder state → AreDelivered mode p now k state cs → LeadsTo state (receive p (left_of mode s c) now (Some k) state) cs
delivered_lead state mode p s c now k cs o h = go (is_lasting k) refl h
  where
    settle : is_lasting k ≡ true → (b : Bool) → settles_at_once mode ≡ b
        → MatchBool b (DropsThen (taken_under k now (next_under p now k (placed_under state k))) state [] cs) (DropsThen (lapsed_under k now) state (counted k (next_under p now k (placed_under state k))) cs)
        → LeadsTo state (receive p (left_of mode s c) now (Some k) state) cs
    settle l true e h = subst (λ f. LeadsTo state (receive p f now (Some k) state) cs) (all_left mode s c true e)
        (dropped_lead (taken_under k now (next_under p now k (placed_under state k))) state (receive p (λ r. []) now (Some k) state) [] cs
        (λ rows delays places gone. chain state (receive p (λ r. []) now (Some k) state) (receive p (λ r. []) now (Some k) state) (drops rows delays places) []
        (drops_lead state (receive p (λ r. []) now (Some k) state) rows delays places (receive_loses state p now k rows delays places o l gone))
        (nothing_leads (receive p (λ r. []) now (Some k) state) (receive p (λ r. []) now (Some k) state) (same_refl (receive p (λ r. []) now (Some k) state)))) h)
    settle l false e h = subst (λ f. LeadsTo state (receive p f now (Some k) state) cs) (all_left mode s c false e)
        (dropped_lead (lapsed_under k now) state (receive p (λ r. sent_out s c r ∷ []) now (Some k) state) (counted k (next_under p now k (placed_under state k))) cs
        (λ rows delays places gone. counted_receive_leads state p s c now k rows delays places o l gone) h)

    go : (b : Bool) → is_lasting k ≡ b
        → MatchBool b (MatchBool (settles_at_once mode) (DropsThen (taken_under k now (next_under p now k (placed_under state k))) state [] cs) (DropsThen (lapsed_under k now) state (counted k (next_under p now k (placed_under state k))) cs)) (cs ≡ [])
        → LeadsTo state (receive p (left_of mode s c) now (Some k) state) cs
    go true l h = settle l (settles_at_once mode) refl h
    go false l h = none_lead state (receive p (left_of mode s c) now (Some k) state) cs (changes_same (deliver_placed now (left_of mode s c)) (deliver_chosen p now (left_of mode s c)) k state l) h

pub received_lead : (state : State) (mode : Option Mode) (p : Content → Bool) (s : SessionId) (c now : ℕ) (k : Option Key) (cs : List RowChange) → StandsInOrder state → AreReceived mode p now k state cs → LeadsTo state (receive p (left_of mode s c) now k state) cs
received_lead state mode p s c now None cs o h = none_lead state state cs (same_refl state) h
received_lead state mode p s c now (Some k) cs o h = delivered_lead state mode p s c now k cs o h

-- what a listener lasts_at leads there as a receive that leaves the row out; that the consumer is busy is not stored
pub taken_lead : (state : State) (p : Content → Bool) (s : SessionId) (c now : ℕ) (k : Option Key) (cs : List RowChange) → StandsInOrder state → AreReceived (Some Client) p now k state cs → LeadsTo state (take p s c now k state) cs
taken_lead state p s c now k cs o h =
    lead_on state (receive p (taken s c) now k state) (take p s c now k state) cs
    (subst (λ f. LeadsTo state (receive p f now k state) cs) (sym (all_left (Some Client) s c false refl)) (received_lead state (Some Client) p s c now k cs o h))
    (consumers_same (set_busy s c (is_coming now (holding_at p k state).rows) state.consumers) (receive p (taken s c) now k state))

pub subscribed_lead : (state : State) (s : SessionId) (c : ℕ) (client : Option (List ℕ)) (name : List ℕ) (d : Definition) (cs : List RowChange) →
    AreSubscribed (Durable client name) d (definition_of (station_of (Durable client name) state.stations)) state cs → LeadsTo state (subscribed s c (Durable client name) d state) cs
subscribed_lead state s c client name d cs h = go (definition_of (station_of (Durable client name) state.stations)) refl h
  where
    comes : LeadsTo (deleted (Durable client name) state) (joined s c (Durable client name) None (put (Durable client name) d state)) (PutStation (Durable client name) (Some d) ∷ [])
    comes = chain (deleted (Durable client name) state) (put (Durable client name) d state) (joined s c (Durable client name) None (put (Durable client name) d state)) (PutStation (Durable client name) (Some d) ∷ []) []
        (put_leads state client name d)
        (nothing_leads (put (Durable client name) d state) (joined s c (Durable client name) None (put (Durable client name) d state)) (joined_same s c (Durable client name) None (put (Durable client name) d state)))

    go : (o : Option Definition) → definition_of (station_of (Durable client name) state.stations) ≡ o → AreSubscribed (Durable client name) d o state cs
        → LeadsTo state (joined s c (Durable client name) None (cond (is_same o d) state (put (Durable client name) d state))) cs
    go None e h = subst (λ t. LeadsTo state (joined s c (Durable client name) None (put (Durable client name) d state)) t) (sym h)
        (chain state (deleted (Durable client name) state) (joined s c (Durable client name) None (put (Durable client name) d state)) [] (PutStation (Durable client name) (Some d) ∷ [])
        (nothing_leads state (deleted (Durable client name) state) (deleted_same client name state e)) comes)
    go (Some old) e h = by (same_definition old d) h
      where
        by : (b : Bool) → MatchBool b (cs ≡ []) (DropsThen (all_under (Durable client name)) state (DropStation (Durable client name) ∷ PutStation (Durable client name) (Some d) ∷ []) cs)
            → LeadsTo state (joined s c (Durable client name) None (cond b state (put (Durable client name) d state))) cs
        by true h = none_lead state (joined s c (Durable client name) None state) cs (joined_same s c (Durable client name) None state) h
        by false h = dropped_lead (all_under (Durable client name)) state (joined s c (Durable client name) None (put (Durable client name) d state)) (DropStation (Durable client name) ∷ PutStation (Durable client name) (Some d) ∷ []) cs
            (λ rows delays places gone. chain state (emptied (Durable client name) state) (joined s c (Durable client name) None (put (Durable client name) d state)) (drops rows delays places) (DropStation (Durable client name) ∷ PutStation (Durable client name) (Some d) ∷ [])
            (empties state client name rows delays places gone)
            (chain (emptied (Durable client name) state) (deleted (Durable client name) state) (joined s c (Durable client name) None (put (Durable client name) d state)) (DropStation (Durable client name) ∷ []) (PutStation (Durable client name) (Some d) ∷ [])
            (ends state client name) comes)) h

pub unsubscribed_lead : (state : State) (client : Option (List ℕ)) (name : List ℕ) (cs : List RowChange) → DropsThen (all_under (Durable client name)) state (DropStation (Durable client name) ∷ []) cs → LeadsTo state (deleted (Durable client name) state) cs
unsubscribed_lead state client name cs h = dropped_lead (all_under (Durable client name)) state (deleted (Durable client name) state) (DropStation (Durable client name) ∷ []) cs
    (λ rows delays places gone. delete_leads state client name rows delays places gone) h

shared_same : (state : State) (s : SessionId) (c : ℕ) (client : Option (List ℕ)) (name : List ℕ) (d : Definition) → StoresTheSame state (subscribed s c (SharedOwn client name) d state)
shared_same state s c client name d = go (is_same (definition_of (station_of (SharedOwn client name) state.stations)) d)
  where
    go : (b : Bool) → StoresTheSame state (joined s c (SharedOwn client name) None (cond b state (put (SharedOwn client name) d state)))
    go true = joined_same s c (SharedOwn client name) None state
    go false = same_trans state (put (SharedOwn client name) d state) (joined s c (SharedOwn client name) None (put (SharedOwn client name) d state))
        (put_same (SharedOwn client name) d state (λ cl n. refl)) (joined_same s c (SharedOwn client name) None (put (SharedOwn client name) d state))

requested_lead : (state : State) (s : SessionId) (request : Request) (cs : List RowChange) → StandsInOrder state → AreRequested state s request cs → LeadsTo state (after state (Session s) request) cs
unfolding after
requested_lead state s (CreateSession mode) cs o h = none_lead state (with_life (Session s) (CreateSession mode) state) cs (life_same (Session s) (CreateSession mode) state) h
requested_lead state s CloseSession cs o h = none_lead state (closed (of_session s) (returned (of_session s) (with_life (Session s) CloseSession state))) cs (given_closed (Session s) CloseSession (of_session s) state) h
requested_lead state s (CreateConsumer c destination selector no_local) cs o h = none_lead state (made s c destination selector no_local state) cs (made_same s c destination selector no_local state) h
requested_lead state s (CreateDurable c destination name selector no_local) cs o h = subscribed_lead state s c (client_of state.life s.connection) name (asked destination selector no_local false) cs h
requested_lead state s (CreateShared c destination name selector) cs o h = none_lead state (subscribed s c (SharedOwn (client_of state.life s.connection) name) (asked destination selector false true) state) cs (shared_same state s c (client_of state.life s.connection) name (asked destination selector false true)) h
requested_lead state s (CreateSharedDurable c destination name selector) cs o h = subscribed_lead state s c (client_of state.life s.connection) name (asked destination selector false true) cs h
requested_lead state s (Unsubscribe name) cs o h = unsubscribed_lead state (client_of state.life s.connection) name cs h
requested_lead state s (Receive c now) cs o h = go (is_started state.life s.connection) h
  where
    go : (b : Bool) → MatchBool b (AreReceived (mode_of state.life s) (selected_by (consumer_of state.consumers s c)) now (key_at (consumer_of state.consumers s c)) state cs) (cs ≡ [])
        → LeadsTo state (cond b (receive (selected_by (consumer_of state.consumers s c)) (left_of (mode_of state.life s) s c) now (key_at (consumer_of state.consumers s c)) state) state) cs
    go true h = received_lead state (mode_of state.life s) (selected_by (consumer_of state.consumers s c)) s c now (key_at (consumer_of state.consumers s c)) cs o h
    go false h = none_lead state state cs (same_refl state) h
requested_lead state s (CloseConsumer c) cs o h = none_lead state (closed (of_number s c) state) cs (closed_same (of_number s c) state) h
requested_lead state s Acknowledge cs o h = go (is_client (mode_of state.life s)) h
  where
    go : (b : Bool) → MatchBool b (DropsThen (out_through (of_session s)) state [] cs) (cs ≡ []) → LeadsTo state (cond b (settled (of_session s) state) state) cs
    go true h = settled_lead state (of_session s) (settled (of_session s) state) [] cs o (nothing_leads (settled (of_session s) state) (settled (of_session s) state) (same_refl (settled (of_session s) state))) h
    go false h = none_lead state state cs (same_refl state) h
requested_lead state s Recover cs o h = none_lead state (returned (of_session s) state) cs (return_stores state (of_session s)) h
requested_lead state s Rollback cs o h = none_lead state (returned (of_session s) state) cs (return_stores state (of_session s)) h
requested_lead state s (SetListener c on) cs o h = none_lead state (record state { consumers = set_listening s c on state.consumers }) cs (consumers_same (set_listening s c on state.consumers) state) h
requested_lead state s (Take c now) cs o h = go (is_started state.life s.connection) h
  where
    go : (b : Bool) → MatchBool b (AreReceived (Some Client) (selected_by (consumer_of state.consumers s c)) now (key_at (consumer_of state.consumers s c)) state cs) (cs ≡ [])
        → LeadsTo state (cond b (take (selected_by (consumer_of state.consumers s c)) s c now (key_at (consumer_of state.consumers s c)) state) state) cs
    go true h = taken_lead state (selected_by (consumer_of state.consumers s c)) s c now (key_at (consumer_of state.consumers s c)) cs o h
    go false h = none_lead state state cs (same_refl state) h
requested_lead state s (DoneWith c ok) cs o h = done_lead state s c ok (mode_of state.life s) (key_at (consumer_of state.consumers s c)) cs o h
requested_lead state s _ cs o h = none_lead state state cs (same_refl state) h

-- of what a connection asks for nothing is stored
connected_lead : (state : State) (c : ℕ) (request : Request) (cs : List RowChange) → cs ≡ [] → LeadsTo state (after state (Connection c) request) cs
unfolding after
connected_lead state c CloseConnection cs h = none_lead state (closed (of_connection c) (returned (of_connection c) (with_life (Connection c) CloseConnection state))) cs (given_closed (Connection c) CloseConnection (of_connection c) state) h
connected_lead state c request cs h = none_lead state (with_life (Connection c) request state) cs (life_same (Connection c) request state) h

asked_lead : (state : State) (who : Who) (request : Request) (cs : List RowChange) → StandsInOrder state → AreChanges state who (Ask request) cs → LeadsTo state (after state who request) cs
asked_lead state (Connection c) request cs o h = connected_lead state c request cs h
asked_lead state (Session s) request cs o h = requested_lead state s request cs o h

-- ---- calls

committed_lead : (state : State) (s : SessionId) (ms : List Content) (cs : List RowChange) → StandsInOrder state → AreCommitted state s ms cs → LeadsTo state (after_commit state (Session s) ms) cs
unfolding after_commit
committed_lead state s ms cs o h = settled_lead state (of_session s) (published (settled (of_session s) state) ms) h.published cs o
    (published_lead (settled (of_session s) state) ms h.published (order_settled state (of_session s) o)
    (published_from state (settled (of_session s) state) (λ m key. takes_settled (of_session s) state m key) state.next_place ms h.published h.are_published))
    h.are_settled

-- a call that is not refused moves the state on, and one that is refused leaves it
accepted_moves : (o : Option Refusal) (a : Answer) (new old : State) (P : State → Type 0) → IsOk (replied o a) → P new → P (moved o new old)
accepted_moves None a new old P h p = p
accepted_moves (Some r) a new old P h p = cc

refused_stays : (o : Option Refusal) (a : Answer) (new old : State) (P : State → Type 0) → IsErr (replied o a) → P old → P (moved o new old)
refused_stays None a new old P h p = cc
refused_stays (Some r) a new old P h p = p

pub changes_lead : ChangesLead
unfolding step reply publish_refusal commit_refusal
changes_lead state who (Ask request) cs o ok h =
    accepted_moves (refusal state.life state.consumers (held state who request) who request) (answer state.life state.consumers (held state who request) who request) (after state who request) state (λ t. LeadsTo state t cs) ok (asked_lead state who request cs o h)
changes_lead state (Connection c) (Publish ms) cs o ok h = none_lead state state cs (same_refl state) h
changes_lead state (Connection c) (Commit ms) cs o ok h = none_lead state state cs (same_refl state) h
changes_lead state (Session s) (Publish ms) cs o ok h =
    accepted_moves (publish_refusal state (Session s) ms) Done (published state ms) state (λ t. LeadsTo state t cs) ok (published_lead state ms cs o h)
changes_lead state (Session s) (Commit ms) cs o ok h =
    accepted_moves (commit_refusal state (Session s) ms) Done (after_commit state (Session s) ms) state (λ t. LeadsTo state t cs) ok (committed_lead state s ms cs o h)

pub refused_leads : RefusedLeads
unfolding step reply
refused_leads state who (Ask request) e =
    refused_stays (refusal state.life state.consumers (held state who request) who request) (answer state.life state.consumers (held state who request) who request) (after state who request) state (λ t. LeadsTo state t []) e (nothing_leads state state (same_refl state))
refused_leads state who (Publish ms) e = refused_stays (publish_refusal state who ms) Done (published state ms) state (λ t. LeadsTo state t []) e (nothing_leads state state (same_refl state))
refused_leads state who (Commit ms) e = refused_stays (commit_refusal state who ms) Done (after_commit state who ms) state (λ t. LeadsTo state t []) e (nothing_leads state state (same_refl state))
