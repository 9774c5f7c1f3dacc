-- In every state that the provider reaches a row is out to the consumer whose subscription holds it alone.
use Rattle.std.proofs.Common.{◌≡◌, ℕ, Bool, true, false, cond, List, [], ◌∷◌, ◌++◌, map, refl, sym, subst, arith, Option, Some, None}
use Rattle.std.specs.Prelude.{filter, length}
use Rattle.std.proofs.lemmas.Bool.Decides.{nat_tests}
use Rattle.jm_base.specs.declared.mode.Mode.{Mode}
use Rattle.jm_base.specs.declared.refusal.Refusal.{Refusal}
use Rattle.jm_dest.specs.declared.session.SessionId.{SessionId}
use Rattle.jm_dest.specs.declared.key.Key.{Key}
use Rattle.jm_dest.specs.declared.key.Key.TheVariants.{Own}
use Rattle.jm_dest.specs.declared.destination.Destination.TheVariants.{Queue, Topic}
use Rattle.jm_dest.specs.Keys.{key_eq}
use Rattle.jm_header.specs.declared.content.Content.{Content}
use Rattle.jm_machine.specs.declared.call.Who.{Who}
use Rattle.jm_machine.specs.declared.call.Who.TheVariants.{Connection, Session}
use Rattle.jm_machine.specs.declared.call.Request.{Request}
use Rattle.jm_machine.specs.declared.call.Request.TheVariants.{CloseConnection, CloseSession, CreateConsumer, CreateDurable, CreateShared, CreateSharedDurable, Unsubscribe, CloseConsumer, Receive, Acknowledge, Recover, Rollback, Take, Done as DoneWith}
use Rattle.jm_machine.specs.declared.call.Call.{Call}
use Rattle.jm_machine.specs.declared.call.Call.TheVariants.{Ask, Publish, Commit}
use Rattle.jm_machine.specs.declared.state.Consumer.{Consumer}
use Rattle.jm_machine.specs.declared.state.Definition.{Definition}
use Rattle.jm_machine.specs.declared.state.PlacedRow.{PlacedRow}
use Rattle.jm_machine.specs.declared.state.Row.{Row}
use Rattle.jm_machine.specs.declared.state.RowState.{RowState}
use Rattle.jm_machine.specs.declared.state.RowState.TheVariants.{Waiting, Out}
use Rattle.jm_machine.specs.declared.state.Station.{Station}
use Rattle.jm_machine.specs.Life.{client_of, mode_of, is_started}
use Rattle.jm_machine.specs.Rows.{bare, fresh, is_out, left_of, taken, sent_out, settles_at_once, live_placed, change_placed, deliver_placed}
use Rattle.jm_machine.specs.Machine.{State, Publisher, publisher_of, accepts, is_full, one_missed, brought, offered, with_message, published, with_rows, at_key, without, station_of, rows_of, consumer_of, key_at, defined, selected_by, durable_of, shared_of, asked, is_same, subscribed, put, joined, definition_of, of_session, of_connection, of_number, settled_rows, returned_rows, settled, returned, closed, with_life, is_client, receive, set_busy, take, done_rows, with_done, held, refusal, publish_refusal, commit_refusal, after, after_commit, moved, step}
use Rattle.jm_machine.specs.Reopened.{AreDurable, AreWaiting}
use Rattle.jm_machine.specs.Isolation.{Reached}
use Rattle.jm_machine.specs.Isolation.Reached.{New, Reopened, Stepped}
use Rattle.jm_machine.proofs.Keys.{key_same}
use Rattle.jm_law.proofs.Consumers.{OutBy, OwnOut}
use Rattle.jm_law.proofs.Keyed.{OwnFits, FitsOwn, found_fits, reached_keyed}

-- a row of the key's subscription waits, or is out to a consumer that the key fits
abbrev Home : Key → RowState → Type 0
Home k Waiting = Unit {0}
Home k (Out s c) = OwnFits k s c

abbrev RowsHome : Key → List PlacedRow → Type 0
RowsHome k [] = Unit {0}
RowsHome k (x ∷ xs) = Home k x.row.state × RowsHome k xs

abbrev AllHome : List Station → Type 0
AllHome [] = Unit {0}
AllHome (x ∷ xs) = RowsHome x.key x.rows × AllHome xs

-- ---- rows

home_filter : (k : Key) (p : PlacedRow → Bool) (xs : List PlacedRow) → RowsHome k xs → RowsHome k (filter p xs)
home_filter k p [] h = tt
home_filter k p (x ∷ xs) h = go (p x) (home_filter k p xs h.1)
  where
    go : (b : Bool) → RowsHome k (filter p xs) → RowsHome k (cond b (x ∷ filter p xs) (filter p xs))
    go true r = (h.0, r)
    go false r = r

home_append : (k : Key) (xs ys : List PlacedRow) → RowsHome k xs → RowsHome k ys → RowsHome k (xs ++ ys)
home_append k [] ys a b = b
home_append k (x ∷ xs) ys a b = (a.0, home_append k xs ys a.1 b)

home_returned : (k : Key) (p : SessionId → ℕ → Bool) (xs : List PlacedRow) → RowsHome k xs → RowsHome k (returned_rows p xs)
home_returned k p [] h = tt
home_returned k p (x ∷ xs) h = (go (is_out p x.row), home_returned k p xs h.1)
  where
    go : (b : Bool) → Home k (cond b (record x.row { state = Waiting }) x.row).state
    go true = tt
    go false = h.0

home_left : (k : Key) (mode : Option Mode) (s : SessionId) (c place : ℕ) (r : Row) → OwnFits k s c → RowsHome k (map (λ x. record { place = place; row = x }) (left_of mode s c r))
unfolding left_of
home_left k mode s c place r i = go (settles_at_once mode)
  where
    go : (b : Bool) → RowsHome k (map (λ x. record { place = place; row = x }) (cond b [] (sent_out s c r ∷ [])))
    go true = tt
    go false = (i, tt)

-- what is left of a delivered row waits, or is out to a consumer that the key fits
abbrev LeavesHome : Key → (Row → List Row) → Type 0
LeavesHome k f = (place : ℕ) (r : Row) → RowsHome k (map (λ x. record { place = place; row = x }) (f r))

home_change : (k : Key) (f : Row → List Row) → LeavesHome k f → (p : Row → Bool) (xs : List PlacedRow) → RowsHome k xs → RowsHome k (change_placed p f xs)
home_change k f i p [] h = tt
home_change k f i p (x ∷ xs) h = go (p x.row) (home_change k f i p xs h.1)
  where
    go : (b : Bool) → RowsHome k (change_placed p f xs) → RowsHome k (cond b (map (λ r. record { place = x.place; row = r }) (f x.row) ++ xs) (x ∷ change_placed p f xs))
    go true r = home_append k (map (λ r. record { place = x.place; row = r }) (f x.row)) xs (i x.place x.row) h.1
    go false r = (h.0, r)

home_done : (k : Key) (s : SessionId) (c : ℕ) (ok : Bool) (xs : List PlacedRow) → RowsHome k xs → RowsHome k (done_rows s c ok xs)
home_done k s c true xs h = home_filter k _ xs h
home_done k s c false xs h = home_returned k (of_number s c) xs h

-- ---- subscriptions

abbrev KeepsHome : Key → (List PlacedRow → List PlacedRow) → Type 0
KeepsHome k f = (xs : List PlacedRow) → RowsHome k xs → RowsHome k (f xs)

all_each : (f : List PlacedRow → List PlacedRow) → ((k : Key) → KeepsHome k f) → (xs : List Station) → AllHome xs → AllHome (map (with_rows f) xs)
all_each f g [] h = tt
all_each f g (x ∷ xs) h = (g x.key x.rows h.0, all_each f g xs h.1)

all_at : (f : List PlacedRow → List PlacedRow) (k : Key) → KeepsHome k f → (xs : List Station) → AllHome xs → AllHome (at_key k (with_rows f) xs)
all_at f k g [] h = tt
all_at f k g (x ∷ xs) h = go (key_eq x.key k) refl (all_at f k g xs h.1)
  where
    go : (b : Bool) → key_eq x.key k ≡ b → AllHome (at_key k (with_rows f) xs) → AllHome (cond b (with_rows f x ∷ xs) (x ∷ at_key k (with_rows f) xs))
    go true e r =
        let same : x.key ≡ k = key_same x.key k e in
        (subst (λ (y : Key). RowsHome y (f x.rows)) (sym same) (g x.rows (subst (λ (y : Key). RowsHome y x.rows) same h.0)), h.1)
    go false e r = (h.0, r)

all_filter : (p : Station → Bool) (xs : List Station) → AllHome xs → AllHome (filter p xs)
all_filter p [] h = tt
all_filter p (x ∷ xs) h = go (p x) (all_filter p xs h.1)
  where
    go : (b : Bool) → AllHome (filter p xs) → AllHome (cond b (x ∷ filter p xs) (filter p xs))
    go true r = (h.0, r)
    go false r = r

all_put : (k : Key) (d : Definition) (xs : List Station) → AllHome xs → AllHome (xs ++ record { key = k; definition = d; missed = 0; rows = [] } ∷ [])
all_put k d [] h = (tt, tt)
all_put k d (x ∷ xs) h = (h.0, all_put k d xs h.1)

home_brought : (limit : ℕ) (m : Content) (place : ℕ) (x : Station) → RowsHome x.key x.rows → RowsHome (brought limit m place x).key (brought limit m place x).rows
home_brought limit m place x h = go (is_full limit x.key (length x.rows))
  where
    full : Station
    full = record { key = x.key; definition = x.definition; missed = one_missed x.missed; rows = x.rows }

    more : Station
    more = with_rows (λ rows. rows ++ record { place = place; row = fresh m } ∷ []) x

    go : (b : Bool) → RowsHome (cond b full more).key (cond b full more).rows
    go true = h
    go false = home_append x.key x.rows (record { place = place; row = fresh m } ∷ []) h (tt, tt)

home_offered : (limit : ℕ) (p : Publisher) (m : Content) (place : ℕ) (x : Station) → RowsHome x.key x.rows → RowsHome (offered limit p m place x).key (offered limit p m place x).rows
home_offered limit p m place x h = go (accepts x.key x.definition p m)
  where
    go : (b : Bool) → RowsHome (cond b (brought limit m place x) x).key (cond b (brought limit m place x) x).rows
    go true = home_brought limit m place x h
    go false = h

all_offered : (limit : ℕ) (p : Publisher) (m : Content) (place : ℕ) (xs : List Station) → AllHome xs → AllHome (map (offered limit p m place) xs)
all_offered limit p m place [] h = tt
all_offered limit p m place (x ∷ xs) h = (home_offered limit p m place x h.0, all_offered limit p m place xs h.1)

-- ---- states

abbrev Homed : State → Type 0
Homed state = AllHome state.stations

home_published : (state : State) (ms : List Content) → Homed state → Homed (published state ms)
unfolding published
home_published state [] h = h
home_published state (m ∷ ms) h = home_published (with_message state m) ms (all_offered state.limit (publisher_of state.life m) m state.next_place state.stations h)

home_received : (p : Content → Bool) (f : Row → List Row) (now : ℕ) (s : SessionId) (c : ℕ) (o : Option Consumer) (state : State) → ((k : Key) → OwnFits k s c → LeavesHome k f) → FitsOwn s c o → Homed state → Homed (receive p f now (key_at o) state)
home_received p f now s c None state i k h = h
home_received p f now s c (Some x) state i k h = all_at (deliver_placed now f) x.key (λ xs g. home_change x.key f (i x.key k) _ (live_placed now xs) (home_filter x.key _ xs g)) state.stations h

home_with_done : (s : SessionId) (c : ℕ) (ok : Bool) (o : Option Key) (state : State) → Homed state → Homed (with_done s c ok o state)
home_with_done s c ok None state h = h
home_with_done s c ok (Some k) state h = all_at (done_rows s c ok) k (home_done k s c ok) state.stations h

home_if : (b : Bool) (x y : State) → Homed x → Homed y → Homed (cond b x y)
home_if true x y p q = p
home_if false x y p q = q

home_moved : (o : Option Refusal) (x y : State) → Homed x → Homed y → Homed (moved o x y)
home_moved None x y p q = p
home_moved (Some r) x y p q = q

home_shut : (p : SessionId → ℕ → Bool) (who : Who) (request : Request) (state : State) → Homed state → Homed (closed p (returned p (with_life who request state)))
home_shut p who request state h = all_filter _ (map (with_rows (returned_rows p)) state.stations) (all_each (returned_rows p) (λ k. home_returned k p) state.stations h)

home_subscribed : (s : SessionId) (c : ℕ) (k : Key) (d : Definition) (state : State) → Homed state → Homed (subscribed s c k d state)
home_subscribed s c k d state h = go (is_same (definition_of (station_of k state.stations)) d)
  where
    go : (b : Bool) → Homed (joined s c k None (cond b state (put k d state)))
    go true = h
    go false = all_put k d (without k state.stations) (all_filter _ state.stations h)

home_after : (state : State) (who : Who) (request : Request) → ((s : SessionId) (c : ℕ) → FitsOwn s c (consumer_of state.consumers s c)) → Homed state → Homed (after state who request)
unfolding after
home_after state (Connection c) CloseConnection k h = home_shut (of_connection c) (Connection c) CloseConnection state h
home_after state (Connection c) request k h = h
home_after state (Session s) CloseSession k h = home_shut (of_session s) (Session s) CloseSession state h
home_after state (Session s) (CreateConsumer c (Queue name) selector no_local) k h = h
home_after state (Session s) (CreateConsumer c (Topic name) selector no_local) k h = all_put (Own s c) (defined name selector no_local false) (without (Own s c) state.stations) (all_filter _ state.stations h)
home_after state (Session s) (CreateDurable c destination name selector no_local) k h = home_subscribed s c (durable_of (client_of state.life) s name) (asked destination selector no_local false) state h
home_after state (Session s) (CreateShared c destination name selector) k h = home_subscribed s c (shared_of (client_of state.life) s name) (asked destination selector false true) state h
home_after state (Session s) (CreateSharedDurable c destination name selector) k h = home_subscribed s c (durable_of (client_of state.life) s name) (asked destination selector false true) state h
home_after state (Session s) (Unsubscribe name) k h = all_filter _ state.stations h
home_after state (Session s) (CloseConsumer c) k h = all_filter _ state.stations h
home_after state (Session s) (Receive c now) k h =
    home_if (is_started state.life s.connection) (receive (selected_by (consumer_of state.consumers s c)) (left_of (mode_of state.life s) s c) now (key_at (consumer_of state.consumers s c)) state) state
    (home_received (selected_by (consumer_of state.consumers s c)) (left_of (mode_of state.life s) s c) now s c (consumer_of state.consumers s c) state (λ y i place r. home_left y (mode_of state.life s) s c place r i) (k s c) h) h
home_after state (Session s) Acknowledge k h = home_if (is_client (mode_of state.life s)) (settled (of_session s) state) state (all_each (settled_rows (of_session s)) (λ k. home_filter k _) state.stations h) h
home_after state (Session s) Recover k h = all_each (returned_rows (of_session s)) (λ k. home_returned k (of_session s)) state.stations h
home_after state (Session s) Rollback k h = all_each (returned_rows (of_session s)) (λ k. home_returned k (of_session s)) state.stations h
home_after state (Session s) (Take c now) k h =
    home_if (is_started state.life s.connection) (take (selected_by (consumer_of state.consumers s c)) s c now (key_at (consumer_of state.consumers s c)) state) state
    (home_received (selected_by (consumer_of state.consumers s c)) (taken s c) now s c (consumer_of state.consumers s c) state (λ y i place r. (i, tt)) (k s c) h) h
home_after state (Session s) (DoneWith c ok) k h =
    let free : State = record state { consumers = set_busy s c false state.consumers } in
    home_if (settles_at_once (mode_of state.life s)) (with_done s c ok (key_at (consumer_of state.consumers s c)) free) free (home_with_done s c ok (key_at (consumer_of state.consumers s c)) free h) h
home_after state (Session s) _ k h = h

home_committed : (state : State) (who : Who) (ms : List Content) → Homed state → Homed (after_commit state who ms)
unfolding after_commit
home_committed state (Connection c) ms h = h
home_committed state (Session s) ms h = home_published (settled (of_session s) state) ms (all_each (settled_rows (of_session s)) (λ k. home_filter k _) state.stations h)

home_step : (state : State) (who : Who) (call : Call) → ((s : SessionId) (c : ℕ) → FitsOwn s c (consumer_of state.consumers s c)) → Homed state → Homed (step state who call)
unfolding step
home_step state who (Ask request) k h = home_moved (refusal state.life state.consumers (held state who request) who request) (after state who request) state (home_after state who request k h) h
home_step state who (Publish messages) k h = home_moved (publish_refusal state who messages) (published state messages) state (home_published state messages h) h
home_step state who (Commit messages) k h = home_moved (commit_refusal state who messages) (after_commit state who messages) state (home_committed state who messages h) h

home_waiting : (k : Key) (rows : List PlacedRow) → AreWaiting rows → RowsHome k rows
home_waiting k [] h = tt
home_waiting k (x ∷ rows) h = (subst (Home k) (sym h.0) tt, home_waiting k rows h.1)

home_stored : (messages : ℕ → Option Content) (stations : List Station) → AreDurable messages stations → AllHome stations
home_stored messages [] h = tt
home_stored messages (x ∷ stations) h = (home_waiting x.key x.rows h.2, home_stored messages stations h.4)

reached_homed : (state : State) → Reached state → Homed state
reached_homed state (New opening limit) = tt
reached_homed state (Reopened opening limit stations queues next_place h) = home_stored h.messages stations h.durable
reached_homed state (Stepped before who call r) = home_step before who call (λ s c. found_fits s c before.consumers (reached_keyed before r)) (reached_homed before r)

-- ---- one key

own_state : (t : SessionId) (d : ℕ) (a : RowState) → Home (Own t d) a → OutBy (t ∷ []) a
own_state t d Waiting h = tt
own_state t d (Out s c) h = grind (arith, nat_tests)

own_rows : (t : SessionId) (d : ℕ) (xs : List PlacedRow) → RowsHome (Own t d) xs → OwnOut (t ∷ []) (bare xs)
own_rows t d [] h = tt
own_rows t d (x ∷ xs) h = (own_state t d x.row.state h.0, own_rows t d xs h.1)

own_station : (t : SessionId) (d : ℕ) (xs : List Station) → AllHome xs → OwnOut (t ∷ []) (rows_of (station_of (Own t d) xs))
own_station t d [] h = tt
own_station t d (x ∷ xs) h = go (key_eq x.key (Own t d)) refl (own_station t d xs h.1)
  where
    go : (b : Bool) → key_eq x.key (Own t d) ≡ b → OwnOut (t ∷ []) (rows_of (station_of (Own t d) xs)) → OwnOut (t ∷ []) (rows_of (cond b (Some x) (station_of (Own t d) xs)))
    go true e r = own_rows t d x.rows (subst (λ (y : Key). RowsHome y x.rows) (key_same x.key (Own t d) e) h.0)
    go false e r = r

-- a row of a consumer's own subscription is out to its session alone
pub out_own : (t : SessionId) (d : ℕ) (state : State) → Reached state → OwnOut (t ∷ []) (rows_of (station_of (Own t d) state.stations))
out_own t d state r = own_station t d state.stations (reached_homed state r)
