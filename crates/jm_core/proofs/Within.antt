-- In every state that the provider reaches each subscription is within the limit.
use Rattle.std.proofs.Common.{◌≡◌, ◌≤◌, ◌+◌, ℕ, Bool, true, false, cond, List, [], ◌∷◌, ◌++◌, map, length, refl, subst, arith, Option, Some, None}
use Rattle.std.specs.Prelude.{filter, nat_le, not}
use Rattle.std.proofs.lemmas.Bool.Decides.{nat_tests}
use Rattle.std.proofs.lemmas.List.{length-append, length-map}
use Rattle.jm_base.specs.declared.mode.Mode.{Mode}
use Rattle.jm_base.specs.declared.mode.Mode.TheVariants.{Client}
use Rattle.jm_base.specs.declared.refusal.Refusal.{Refusal}
use Rattle.jm_dest.specs.declared.session.SessionId.{SessionId}
use Rattle.jm_dest.specs.declared.destination.Destination.{Destination}
use Rattle.jm_dest.specs.declared.destination.Destination.TheVariants.{Queue, Topic}
use Rattle.jm_dest.specs.declared.key.Key.{Key}
use Rattle.jm_dest.specs.declared.key.Key.TheVariants.{Own, SharedOwn, Durable, Queue as OfQueue}
use Rattle.jm_dest.specs.Keys.{key_eq}
use Rattle.jm_header.specs.declared.content.Content.{Content}
use Rattle.jm_machine.specs.declared.call.Who.{Who}
use Rattle.jm_machine.specs.declared.call.Who.TheVariants.{Connection, Session}
use Rattle.jm_machine.specs.declared.call.Request.{Request}
use Rattle.jm_machine.specs.declared.call.Request.TheVariants.{CloseConnection, CreateSession, CloseSession, CreateConsumer, CreateDurable, CreateShared, CreateSharedDurable, Unsubscribe, CloseConsumer, Receive, Acknowledge, Recover, Rollback, SetListener, Take, Done}
use Rattle.jm_machine.specs.declared.call.Call.{Call}
use Rattle.jm_machine.specs.declared.call.Call.TheVariants.{Ask, Publish, Commit}
use Rattle.jm_machine.specs.declared.state.Definition.{Definition}
use Rattle.jm_machine.specs.declared.state.PlacedRow.{PlacedRow}
use Rattle.jm_machine.specs.declared.state.Row.{Row}
use Rattle.jm_machine.specs.declared.state.Station.{Station}
use Rattle.jm_machine.specs.Life.{client_of, mode_of, is_started}
use Rattle.jm_machine.specs.Rows.{bare, fresh, has_lapsed, is_next, is_out, live, settles_at_once, sent_out, left_of, live_placed, change_placed, deliver_placed}
use Rattle.jm_machine.specs.Machine.{State, is_limited, Publisher, publisher_of, accepts, is_full, one_missed, brought, offered, with_message, with_rows, at_key, without, published, receive, consumer_of, key_at, asked, definition_of, deleted, durable_of, is_same, made, put, selected_by, shared_of, station_of, subscribed, defined, of_session, of_connection, of_number, settled_rows, returned_row, returned_rows, settled, returned, closed, with_life, is_client, done, done_rows, set_busy, take, with_done, held, refusal, publish_refusal, commit_refusal, after, after_commit, moved, step}
use Rattle.jm_machine.specs.Reopened.{AreDurable, is_durable}
use Rattle.jm_machine.specs.Isolation.{Reached}
use Rattle.jm_machine.specs.Isolation.Reached.{New, Reopened, Stepped}
use Rattle.jm_plans.proofs.Listening.{left_client}
use Rattle.jm_core.specs.Limits.{AllWithin, IsWithin}

-- ---- rows

fewer_filter : (p : PlacedRow → Bool) (rows : List PlacedRow) → length (filter p rows) ≤ length rows
fewer_filter p [] = omega arith
fewer_filter p (x ∷ rows) = go (p x) (fewer_filter p rows)
  where
    go : (b : Bool) → length (filter p rows) ≤ length rows → length (cond b (x ∷ filter p rows) (filter p rows)) ≤ length (x ∷ rows)
    go true r = omega (arith, r)
    go false r = omega (arith, r)

fewer_change : (mode : Option Mode) (s : SessionId) (c : ℕ) (p : Row → Bool) (rows : List PlacedRow) → length (change_placed p (left_of mode s c) rows) ≤ length rows
unfolding left_of
fewer_change mode s c p [] = omega arith
fewer_change mode s c p (x ∷ rows) = go (p x.row) (fewer_change mode s c p rows)
  where
    left : (b : Bool) → length (map (λ r. record { place = x.place; row = r }) (cond b [] (sent_out s c x.row ∷ [])) ++ rows) ≤ length (x ∷ rows)
    left true = omega arith
    left false = omega arith

    go : (b : Bool) → length (change_placed p (left_of mode s c) rows) ≤ length rows →
        length (cond b (map (λ r. record { place = x.place; row = r }) (cond (settles_at_once mode) [] (sent_out s c x.row ∷ [])) ++ rows) (x ∷ change_placed p (left_of mode s c) rows)) ≤ length (x ∷ rows)
    go true r = left (settles_at_once mode)
    go false r = omega (arith, r)

-- a change of rows that makes them no more
abbrev Fewer : (List PlacedRow → List PlacedRow) → Type 0
Fewer f = (rows : List PlacedRow) → length (f rows) ≤ length rows

fewer_delivered : (mode : Option Mode) (s : SessionId) (c now : ℕ) → Fewer (deliver_placed now (left_of mode s c))
fewer_delivered mode s c now rows =
    let stay = fewer_filter (λ x. not (has_lapsed now x.row)) rows in
    let changed = fewer_change mode s c (is_next now (live now (bare rows))) (live_placed now rows) in
    omega (arith, stay, changed)

fewer_returned : (p : SessionId → ℕ → Bool) → Fewer (returned_rows p)
fewer_returned p rows = omega (arith, length-map rows (returned_row p))

-- ---- stations

within_brought : (limit : ℕ) (m : Content) (n : ℕ) (x : Station) → IsWithin limit x → IsWithin limit (brought limit m n x)
within_brought limit m n x h = go (is_full limit x.key (length x.rows)) refl
  where
    go : (b : Bool) → is_full limit x.key (length x.rows) ≡ b →
        IsWithin limit (cond b (record { key = x.key; definition = x.definition; missed = one_missed x.missed; rows = x.rows }) (with_rows (λ rows. rows ++ record { place = n; row = fresh m } ∷ []) x))
    go true e l = h l
    go false e l =
        let below : nat_le limit (length x.rows) ≡ false = rw l at e in
        let less : length x.rows + 1 ≤ limit = grind (arith, nat_tests) in
        omega (arith, less, length-append x.rows (record { place = n; row = fresh m } ∷ []))

within_offered : (limit : ℕ) (p : Publisher) (m : Content) (n : ℕ) (x : Station) → IsWithin limit x → IsWithin limit (offered limit p m n x)
within_offered limit p m n x h = go (accepts x.key x.definition p m)
  where
    go : (b : Bool) → IsWithin limit (cond b (brought limit m n x) x)
    go true = within_brought limit m n x h
    go false = h

all_offered : (limit : ℕ) (p : Publisher) (m : Content) (n : ℕ) (xs : List Station) → AllWithin limit xs → AllWithin limit (map (offered limit p m n) xs)
all_offered limit p m n [] h = h
all_offered limit p m n (x ∷ xs) h = (within_offered limit p m n x h.0, all_offered limit p m n xs h.1)

all_filter : (limit : ℕ) (p : Station → Bool) (xs : List Station) → AllWithin limit xs → AllWithin limit (filter p xs)
all_filter limit p [] h = h
all_filter limit p (x ∷ xs) h = go (p x) (all_filter limit p xs h.1)
  where
    go : (b : Bool) → AllWithin limit (filter p xs) → AllWithin limit (cond b (x ∷ filter p xs) (filter p xs))
    go true r = (h.0, r)
    go false r = r

all_put : (limit : ℕ) (k : Key) (d : Definition) (xs : List Station) → AllWithin limit xs → AllWithin limit (xs ++ record { key = k; definition = d; missed = 0; rows = [] } ∷ [])
all_put limit k d [] h = (λ l. omega arith, tt)
all_put limit k d (x ∷ xs) h = (h.0, all_put limit k d xs h.1)

within_rows : (limit : ℕ) (f : List PlacedRow → List PlacedRow) → Fewer f → (x : Station) → IsWithin limit x → IsWithin limit (with_rows f x)
within_rows limit f g x h l = let was = h l in let fewer = g x.rows in omega (arith, was, fewer)

all_at : (limit : ℕ) (f : List PlacedRow → List PlacedRow) → Fewer f → (k : Key) (xs : List Station) → AllWithin limit xs → AllWithin limit (at_key k (with_rows f) xs)
all_at limit f g k [] h = h
all_at limit f g k (x ∷ xs) h = go (key_eq x.key k) (all_at limit f g k xs h.1)
  where
    go : (b : Bool) → AllWithin limit (at_key k (with_rows f) xs) → AllWithin limit (cond b (with_rows f x ∷ xs) (x ∷ at_key k (with_rows f) xs))
    go true r = (within_rows limit f g x h.0, h.1)
    go false r = (h.0, r)

all_each : (limit : ℕ) (f : List PlacedRow → List PlacedRow) → Fewer f → (xs : List Station) → AllWithin limit xs → AllWithin limit (map (with_rows f) xs)
all_each limit f g [] h = h
all_each limit f g (x ∷ xs) h = (within_rows limit f g x h.0, all_each limit f g xs h.1)

-- ---- states

abbrev HasLimits : State → Type 0
HasLimits state = AllWithin state.limit state.stations

within_published : (state : State) (ms : List Content) → HasLimits state → HasLimits (published state ms)
unfolding published
within_published state [] h = h
within_published state (m ∷ ms) h = within_published (with_message state m) ms (all_offered state.limit (publisher_of state.life m) m state.next_place state.stations h)

within_received : (p : Content → Bool) (mode : Option Mode) (s : SessionId) (c now : ℕ) (k : Option Key) (state : State) → HasLimits state → HasLimits (receive p (left_of mode s c) now k state)
within_received p mode s c now None state h = h
within_received p mode s c now (Some k) state h = all_at state.limit (deliver_placed now (left_of mode s c)) (fewer_delivered mode s c now) k state.stations h

within_taken : (p : Content → Bool) (s : SessionId) (c now : ℕ) (k : Option Key) (state : State) → HasLimits state → HasLimits (take p s c now k state)
within_taken p s c now k state h = subst (λ (f : Row → List Row). HasLimits (receive p f now k state)) (left_client s c) (within_received p (Some Client) s c now k state h)

fewer_done : (s : SessionId) (c : ℕ) (ok : Bool) → Fewer (done_rows s c ok)
fewer_done s c true = fewer_filter (λ x. not (is_out (of_number s c) x.row))
fewer_done s c false = fewer_returned (of_number s c)

within_with_done : (s : SessionId) (c : ℕ) (ok : Bool) (k : Option Key) (state : State) → HasLimits state → HasLimits (with_done s c ok k state)
within_with_done s c ok None state h = h
within_with_done s c ok (Some k) state h = all_at state.limit (done_rows s c ok) (fewer_done s c ok) k state.stations h

within_settled : (p : SessionId → ℕ → Bool) (state : State) → HasLimits state → HasLimits (settled p state)
within_settled p state h = all_each state.limit (settled_rows p) (fewer_filter (λ x. not (is_out p x.row))) state.stations h

within_closed : (p : SessionId → ℕ → Bool) (state : State) → HasLimits state → HasLimits (closed p state)
within_closed p state h = all_filter state.limit _ state.stations h

within_given : (p : SessionId → ℕ → Bool) (state : State) → HasLimits state → HasLimits (returned p state)
within_given p state h = all_each state.limit (returned_rows p) (fewer_returned p) state.stations h

within_put : (k : Key) (d : Definition) (state : State) → HasLimits state → HasLimits (put k d state)
within_put k d state h = all_put state.limit k d (without k state.stations) (all_filter state.limit _ state.stations h)

within_made : (s : SessionId) (c : ℕ) (destination : Destination) (selector : Option (List ℕ)) (no_local : Bool) (state : State) → HasLimits state → HasLimits (made s c destination selector no_local state)
within_made s c (Queue name) selector no_local state h = h
within_made s c (Topic name) selector no_local state h = within_put (Own s c) (defined name selector no_local false) state h

within_if : (b : Bool) (x y : State) → HasLimits x → HasLimits y → HasLimits (cond b x y)
within_if true x y p q = p
within_if false x y p q = q

within_done : (s : SessionId) (c : ℕ) (ok : Bool) (mode : Option Mode) (k : Option Key) (state : State) → HasLimits state → HasLimits (done s c ok mode k state)
within_done s c ok mode k state h =
    let free : State = record state { consumers = set_busy s c false state.consumers } in
    within_if (settles_at_once mode) (with_done s c ok k free) free (within_with_done s c ok k free h) h

within_subscribed : (s : SessionId) (c : ℕ) (k : Key) (d : Definition) (state : State) → HasLimits state → HasLimits (subscribed s c k d state)
within_subscribed s c k d state h = within_if (is_same (definition_of (station_of k state.stations)) d) state (put k d state) h (within_put k d state h)

within_deleted : (k : Key) (state : State) → HasLimits state → HasLimits (deleted k state)
within_deleted k state h = all_filter state.limit _ state.stations h

within_moved : (o : Option Refusal) (x y : State) → HasLimits x → HasLimits y → HasLimits (moved o x y)
within_moved None x y p q = p
within_moved (Some r) x y p q = q

within_after : (state : State) (who : Who) (request : Request) → HasLimits state → HasLimits (after state who request)
unfolding after
within_after state (Connection c) CloseConnection h = within_closed (of_connection c) (returned (of_connection c) (with_life (Connection c) CloseConnection state)) (within_given (of_connection c) (with_life (Connection c) CloseConnection state) h)
within_after state (Connection c) request h = h
within_after state (Session s) (CreateSession mode) h = h
within_after state (Session s) CloseSession h = within_closed (of_session s) (returned (of_session s) (with_life (Session s) CloseSession state)) (within_given (of_session s) (with_life (Session s) CloseSession state) h)
within_after state (Session s) (CreateConsumer c destination selector no_local) h = within_made s c destination selector no_local state h
within_after state (Session s) (CreateDurable c destination name selector no_local) h = within_subscribed s c (durable_of (client_of state.life) s name) (asked destination selector no_local false) state h
within_after state (Session s) (CreateShared c destination name selector) h = within_subscribed s c (shared_of (client_of state.life) s name) (asked destination selector false true) state h
within_after state (Session s) (CreateSharedDurable c destination name selector) h = within_subscribed s c (durable_of (client_of state.life) s name) (asked destination selector false true) state h
within_after state (Session s) (Unsubscribe name) h = within_deleted (durable_of (client_of state.life) s name) state h
within_after state (Session s) (Receive c now) h =
    within_if (is_started state.life s.connection) (receive (selected_by (consumer_of state.consumers s c)) (left_of (mode_of state.life s) s c) now (key_at (consumer_of state.consumers s c)) state) state
    (within_received (selected_by (consumer_of state.consumers s c)) (mode_of state.life s) s c now (key_at (consumer_of state.consumers s c)) state h) h
within_after state (Session s) (CloseConsumer c) h = within_closed (of_number s c) state h
within_after state (Session s) Acknowledge h = within_if (is_client (mode_of state.life s)) (settled (of_session s) state) state (within_settled (of_session s) state h) h
within_after state (Session s) Recover h = within_given (of_session s) state h
within_after state (Session s) Rollback h = within_given (of_session s) state h
within_after state (Session s) (SetListener c on) h = h
within_after state (Session s) (Take c now) h =
    within_if (is_started state.life s.connection) (take (selected_by (consumer_of state.consumers s c)) s c now (key_at (consumer_of state.consumers s c)) state) state
    (within_taken (selected_by (consumer_of state.consumers s c)) s c now (key_at (consumer_of state.consumers s c)) state h) h
within_after state (Session s) (Done c ok) h = within_done s c ok (mode_of state.life s) (key_at (consumer_of state.consumers s c)) state h
within_after state (Session s) _ h = h

within_committed : (state : State) (who : Who) (ms : List Content) → HasLimits state → HasLimits (after_commit state who ms)
unfolding after_commit
within_committed state (Connection c) ms h = h
within_committed state (Session s) ms h = within_published (settled (of_session s) state) ms (within_settled (of_session s) state h)

within_step : (state : State) (who : Who) (call : Call) → HasLimits state → HasLimits (step state who call)
unfolding step
within_step state who (Ask request) h = within_moved (refusal state.life state.consumers (held state who request) who request) (after state who request) state (within_after state who request h) h
within_step state who (Publish messages) h = within_moved (publish_refusal state who messages) (published state messages) state (within_published state messages h) h
within_step state who (Commit messages) h = within_moved (commit_refusal state who messages) (after_commit state who messages) state (within_committed state who messages h) h

-- a durable subscription has no limit
within_stored : (limit : ℕ) (messages : ℕ → Option Content) (stations : List Station) → AreDurable messages stations → AllWithin limit stations
within_stored limit messages [] h = tt
within_stored limit messages (x ∷ stations) h = (λ l. absurd (limited x.key h.0 l), within_stored limit messages stations h.4)
  where
    limited : (key : Key) → is_durable key ≡ true → is_limited key ≡ true → ⊥
    limited (OfQueue name) d l = cc
    limited (Own s c) d l = cc
    limited (SharedOwn client name) d l = cc
    limited (Durable client name) d l = cc

pub reached_within : (state : State) → Reached state → AllWithin state.limit state.stations
reached_within state (New opening limit) = tt
reached_within state (Reopened opening limit stations queues next_place h) = within_stored limit h.messages stations h.durable
reached_within state (Stepped before who call r) = within_step before who call (reached_within before r)
