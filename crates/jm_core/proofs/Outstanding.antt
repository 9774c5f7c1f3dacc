-- In every state that the provider reaches what is out is out to a session that is open.
use Rattle.std.proofs.Common.{◌≡◌, ℕ, Bool, true, false, cond, List, [], ◌∷◌, ◌++◌, map, length, refl, sym, subst, ◌∙◌, arith, Option, Some, None}
use Rattle.std.specs.Prelude.{◌==◌, ◌&&◌, filter, find, is_some, not}
use Rattle.std.proofs.lemmas.Bool.Decides.{nat_tests}
use Rattle.jm_base.specs.declared.mode.Mode.{Mode}
use Rattle.jm_base.specs.declared.mode.Mode.TheVariants.{Client}
use Rattle.jm_base.specs.declared.refusal.Refusal.{Refusal}
use Rattle.jm_base.specs.declared.refusal.Refusal.TheVariants.{IllegalState}
use Rattle.jm_dest.specs.declared.session.SessionId.{SessionId}
use Rattle.jm_dest.specs.declared.destination.Destination.{Destination}
use Rattle.jm_dest.specs.declared.destination.Destination.TheVariants.{Queue, Topic}
use Rattle.jm_dest.specs.declared.key.Key.{Key}
use Rattle.jm_dest.specs.declared.key.Key.TheVariants.{Own, SharedOwn, Durable, Queue as OfQueue}
use Rattle.jm_dest.specs.Keys.{key_eq}
use Rattle.jm_dest.specs.Names.{session_eq, text_eq}
use Rattle.jm_header.specs.declared.content.Content.{Content}
use Rattle.jm_machine.specs.declared.call.Who.{Who}
use Rattle.jm_machine.specs.declared.call.Who.TheVariants.{Connection, Session}
use Rattle.jm_machine.specs.declared.call.Request.{Request}
use Rattle.jm_machine.specs.declared.call.Request.TheVariants.{Open, Start, Stop, CloseConnection, CreateSession, CloseSession, CreateConsumer, CreateDurable, CreateShared, CreateSharedDurable, Unsubscribe, CloseConsumer, Receive, Acknowledge, Recover, Rollback, SetListener, Take, Done}
use Rattle.jm_machine.specs.declared.call.Call.{Call}
use Rattle.jm_machine.specs.declared.call.Call.TheVariants.{Ask, Publish, Commit}
use Rattle.jm_machine.specs.declared.state.Definition.{Definition}
use Rattle.jm_machine.specs.declared.state.PlacedRow.{PlacedRow}
use Rattle.jm_machine.specs.declared.state.Row.{Row}
use Rattle.jm_machine.specs.declared.state.RowState.{RowState}
use Rattle.jm_machine.specs.declared.state.RowState.TheVariants.{Waiting, Out}
use Rattle.jm_machine.specs.declared.state.ConnectionState.{ConnectionState}
use Rattle.jm_machine.specs.declared.state.SessionState.{SessionState}
use Rattle.jm_machine.specs.declared.state.Station.{Station}
use Rattle.jm_machine.specs.Life.{Life, client_of, open_mode, mode_of, is_started, is_new_session, close_sessions, life_after}
use Rattle.jm_machine.specs.Rows.{bare, fresh, goes_out, has_lapsed, is_next, is_out, live, settles_at_once, sent_out, left_of, live_placed, change_placed, deliver_placed, deliver_chosen, is_next_chosen}
use Rattle.jm_machine.specs.Machine.{State, Publisher, publisher_of, accepts, is_full, one_missed, brought, offered, with_message, with_rows, at_key, without, published, receive, consumer_of, key_at, asked, definition_of, deleted, durable_of, is_same, joined, made, put, shared_of, standing_as, station_of, subscribed, selected_by, at_queue, at_queue_of, at_queues, queued, defined, of_number, unless, of_session, of_connection, settled_rows, returned_rows, settled, returned, closed, with_life, is_client, is_active, is_busy, is_listening, done, done_rows, set_busy, take, with_done, held, refusal, publish_refusal, commit_refusal, after, after_commit, moved, step}
use Rattle.jm_machine.specs.Reopened.{AreDurable, AreWaiting}
use Rattle.jm_machine.specs.Isolation.{Reached}
use Rattle.jm_machine.specs.Isolation.Reached.{New, Reopened, Stepped}
use Rattle.jm_plans.proofs.Listening.{left_client}
use Rattle.jm_core.specs.Outstanding.{IsOutToOpen, AllOutToOpen, HoldsOutToOpen, QueuesOutToOpen, AreOutToOpen}

-- ---- sessions that stay open

-- an open session is open then, unless it passes
abbrev StaysOpen : (SessionId → ℕ → Bool) → Life → Life → Type 0
StaysOpen p life new = (s : SessionId) (c : ℕ) → p s c ≡ false → is_some (mode_of life s) ≡ true → is_some (mode_of new s) ≡ true

-- nobody passes
abbrev nobody : SessionId → ℕ → Bool
nobody s c = false

same_parts : (a b : SessionId) → session_eq a b ≡ true → (a.connection ≡ b.connection) × (a.number ≡ b.number)
same_parts a b e = (grind (arith, nat_tests), grind (arith, nat_tests))

same_session : (p : SessionId → Bool) (a b : SessionId) → session_eq a b ≡ true → p b ≡ false → p a ≡ false
same_session p a b e h = let parts = same_parts a b e in (λ i. p (record { connection = parts.0 i; number = parts.1 i })) ∙ h

-- the session of that number is open after others were closed, if it was
abbrev StaysFirst : (SessionId → Bool) → SessionId → List SessionState → Type 0
StaysFirst p s xs = is_some (open_mode (find (λ x. session_eq x.id s) xs)) ≡ true → is_some (open_mode (find (λ x. session_eq x.id s) (close_sessions p xs))) ≡ true

open_first : (p : SessionId → Bool) (s : SessionId) → p s ≡ false → (xs : List SessionState) → StaysFirst p s xs
open_first p s n [] h = h
open_first p s n (x ∷ xs) h = go (p x.id) (session_eq x.id s) refl refl h (open_first p s n xs)
  where
    pick : (d : Bool) (a : SessionState) → (d ≡ true → is_some (open_mode (Some x)) ≡ true → is_some (open_mode (Some a)) ≡ true) → StaysFirst p s xs →
        is_some (open_mode (cond d (Some x) (find (λ y. session_eq y.id s) xs))) ≡ true →
        is_some (open_mode (cond d (Some a) (find (λ y. session_eq y.id s) (close_sessions p xs)))) ≡ true
    pick true a f r h = f refl h
    pick false a f r h = r h

    go : (b d : Bool) → p x.id ≡ b → session_eq x.id s ≡ d → is_some (open_mode (cond (session_eq x.id s) (Some x) (find (λ y. session_eq y.id s) xs))) ≡ true → StaysFirst p s xs →
        is_some (open_mode (find (λ y. session_eq y.id s) (cond b (record x { is_open = false }) x ∷ close_sessions p xs))) ≡ true
    go true d e q h r = pick (session_eq x.id s) (record x { is_open = false }) (λ i o. let out : p x.id ≡ false = same_session p x.id s i n in absurd cc) r h
    go false d e q h r = pick (session_eq x.id s) x (λ i o. o) r h

-- the same after one was opened
open_before : (s : SessionId) (t : SessionState) (xs : List SessionState) → is_some (open_mode (find (λ x. session_eq x.id s) xs)) ≡ true → is_some (open_mode (find (λ x. session_eq x.id s) (xs ++ t ∷ []))) ≡ true
open_before s t [] h = absurd cc
open_before s t (x ∷ xs) h = go (session_eq x.id s) h (open_before s t xs)
  where
    go : (d : Bool) → is_some (open_mode (cond d (Some x) (find (λ y. session_eq y.id s) xs))) ≡ true → (is_some (open_mode (find (λ y. session_eq y.id s) xs)) ≡ true → is_some (open_mode (find (λ y. session_eq y.id s) (xs ++ t ∷ []))) ≡ true) →
        is_some (open_mode (cond d (Some x) (find (λ y. session_eq y.id s) (xs ++ t ∷ [])))) ≡ true
    go true h r = h
    go false h r = r h

stays_opened : (s : SessionId) (mode : Mode) (life : Life) → StaysOpen nobody life (life_after life (Session s) (CreateSession mode))
unfolding life_after
stays_opened s mode life t c n h = go (is_new_session life s)
  where
    go : (b : Bool) → is_some (mode_of (cond b (record life { sessions = life.sessions ++ record { id = s; mode = mode; is_open = true } ∷ [] }) life) t) ≡ true
    go true = open_before t (record { id = s; mode = mode; is_open = true }) life.sessions h
    go false = h

stays_closed : (s : SessionId) (life : Life) → StaysOpen (of_session s) life (life_after life (Session s) CloseSession)
unfolding life_after
stays_closed s life t c n h = open_first (λ u. session_eq u s) t n life.sessions h

stays_ended : (c : ℕ) (life : Life) → StaysOpen (of_connection c) life (life_after life (Connection c) CloseConnection)
unfolding life_after
stays_ended c life t d n h = open_first (λ u. u.connection == c) t n life.sessions h

stays : (p : SessionId → ℕ → Bool) (life : Life) → StaysOpen p life life
stays p life s c n h = h

-- ---- rows

rows_filter : (life : Life) (p : PlacedRow → Bool) (rows : List PlacedRow) → AllOutToOpen life rows → AllOutToOpen life (filter p rows)
rows_filter life p [] h = h
rows_filter life p (x ∷ rows) h = go (p x) (rows_filter life p rows h.1)
  where
    go : (b : Bool) → AllOutToOpen life (filter p rows) → AllOutToOpen life (cond b (x ∷ filter p rows) (filter p rows))
    go true r = (h.0, r)
    go false r = r

-- what goes out to an open session
rows_change : (life : Life) (mode : Option Mode) (s : SessionId) (c : ℕ) (p : Row → Bool) → is_some (mode_of life s) ≡ true → (rows : List PlacedRow) → AllOutToOpen life rows → AllOutToOpen life (change_placed p (left_of mode s c) rows)
unfolding left_of
rows_change life mode s c p o [] h = h
rows_change life mode s c p o (x ∷ rows) h = go (p x.row) (rows_change life mode s c p o rows h.1)
  where
    left : (b : Bool) → AllOutToOpen life (map (λ r. record { place = x.place; row = r }) (cond b [] (sent_out s c x.row ∷ [])) ++ rows)
    left true = h.1
    left false = (o, h.1)

    go : (b : Bool) → AllOutToOpen life (change_placed p (left_of mode s c) rows) →
        AllOutToOpen life (cond b (map (λ r. record { place = x.place; row = r }) (cond (settles_at_once mode) [] (sent_out s c x.row ∷ [])) ++ rows) (x ∷ change_placed p (left_of mode s c) rows))
    go true r = left (settles_at_once mode)
    go false r = (h.0, r)

rows_delivered : (life : Life) (mode : Option Mode) (s : SessionId) (c now : ℕ) → is_some (mode_of life s) ≡ true → (rows : List PlacedRow) → AllOutToOpen life rows → AllOutToOpen life (deliver_placed now (left_of mode s c) rows)
rows_delivered life mode s c now o rows h = rows_change life mode s c (is_next now (live now (bare rows))) o (live_placed now rows) (rows_filter life (λ x. not (has_lapsed now x.row)) rows h)

rows_chosen : (life : Life) (pass : Content → Bool) (mode : Option Mode) (s : SessionId) (c now : ℕ) → is_some (mode_of life s) ≡ true → (rows : List PlacedRow) → AllOutToOpen life rows → AllOutToOpen life (deliver_chosen pass now (left_of mode s c) rows)
rows_chosen life pass mode s c now o rows h = rows_change life mode s c (is_next_chosen pass now (live now (bare rows))) o (live_placed now rows) (rows_filter life (λ x. not (has_lapsed now x.row)) rows h)

-- what waits again where a session closes, or before it does
row_returned : (p : SessionId → ℕ → Bool) (life new : Life) → StaysOpen p life new → (r : Row) (t : RowState) → IsOutToOpen life t →
    IsOutToOpen new (cond (goes_out p t) (record r { state = Waiting }) (record r { state = t })).state
row_returned p life new f r Waiting h = tt
row_returned p life new f r (Out s c) h = go (p s c) refl
  where
    go : (b : Bool) → p s c ≡ b → IsOutToOpen new (cond b (record r { state = Waiting }) (record r { state = Out s c })).state
    go true e = tt
    go false e = f s c e h

rows_returned : (p : SessionId → ℕ → Bool) (life new : Life) → StaysOpen p life new → (rows : List PlacedRow) → AllOutToOpen life rows → AllOutToOpen new (returned_rows p rows)
rows_returned p life new f [] h = h
rows_returned p life new f (x ∷ rows) h = (row_returned p life new f x.row x.row.state h.0, rows_returned p life new f rows h.1)

-- what is out to sessions that all stay open
row_kept : (life new : Life) → StaysOpen nobody life new → (t : RowState) → IsOutToOpen life t → IsOutToOpen new t
row_kept life new f Waiting h = tt
row_kept life new f (Out s c) h = f s c refl h

rows_kept : (life new : Life) → StaysOpen nobody life new → (rows : List PlacedRow) → AllOutToOpen life rows → AllOutToOpen new rows
rows_kept life new f [] h = h
rows_kept life new f (x ∷ rows) h = (row_kept life new f x.row.state h.0, rows_kept life new f rows h.1)

rows_push : (life : Life) (n : ℕ) (m : Content) (rows : List PlacedRow) → AllOutToOpen life rows → AllOutToOpen life (rows ++ record { place = n; row = fresh m } ∷ [])
rows_push life n m [] h = (tt, tt)
rows_push life n m (x ∷ rows) h = (h.0, rows_push life n m rows h.1)

-- ---- stations

brought_open : (life : Life) (limit : ℕ) (m : Content) (n : ℕ) (x : Station) → AllOutToOpen life x.rows → AllOutToOpen life (brought limit m n x).rows
brought_open life limit m n x h = go (is_full limit x.key (length x.rows))
  where
    go : (b : Bool) → AllOutToOpen life (cond b (record { key = x.key; definition = x.definition; missed = one_missed x.missed; rows = x.rows }) (with_rows (λ rows. rows ++ record { place = n; row = fresh m } ∷ []) x)).rows
    go true = h
    go false = rows_push life n m x.rows h

offered_open : (life : Life) (limit : ℕ) (p : Publisher) (m : Content) (n : ℕ) (x : Station) → AllOutToOpen life x.rows → AllOutToOpen life (offered limit p m n x).rows
offered_open life limit p m n x h = go (accepts x.key x.definition p m)
  where
    go : (b : Bool) → AllOutToOpen life (cond b (brought limit m n x) x).rows
    go true = brought_open life limit m n x h
    go false = h

all_offered : (life : Life) (limit : ℕ) (p : Publisher) (m : Content) (n : ℕ) (xs : List Station) → HoldsOutToOpen life xs → HoldsOutToOpen life (map (offered limit p m n) xs)
all_offered life limit p m n [] h = h
all_offered life limit p m n (x ∷ xs) h = (offered_open life limit p m n x h.0, all_offered life limit p m n xs h.1)

all_filter : (life : Life) (p : Station → Bool) (xs : List Station) → HoldsOutToOpen life xs → HoldsOutToOpen life (filter p xs)
all_filter life p [] h = h
all_filter life p (x ∷ xs) h = go (p x) (all_filter life p xs h.1)
  where
    go : (b : Bool) → HoldsOutToOpen life (filter p xs) → HoldsOutToOpen life (cond b (x ∷ filter p xs) (filter p xs))
    go true r = (h.0, r)
    go false r = r

all_put : (life : Life) (k : Key) (d : Definition) (xs : List Station) → HoldsOutToOpen life xs → HoldsOutToOpen life (xs ++ record { key = k; definition = d; missed = 0; rows = [] } ∷ [])
all_put life k d [] h = (tt, tt)
all_put life k d (x ∷ xs) h = (h.0, all_put life k d xs h.1)

-- a change of rows from one life to another
abbrev KeepsOpen : Life → Life → (List PlacedRow → List PlacedRow) → Type 0
KeepsOpen life new f = (rows : List PlacedRow) → AllOutToOpen life rows → AllOutToOpen new (f rows)

all_at : (life : Life) (f : List PlacedRow → List PlacedRow) → KeepsOpen life life f → (k : Key) (xs : List Station) → HoldsOutToOpen life xs → HoldsOutToOpen life (at_key k (with_rows f) xs)
all_at life f g k [] h = h
all_at life f g k (x ∷ xs) h = go (key_eq x.key k) (all_at life f g k xs h.1)
  where
    go : (b : Bool) → HoldsOutToOpen life (at_key k (with_rows f) xs) → HoldsOutToOpen life (cond b (with_rows f x ∷ xs) (x ∷ at_key k (with_rows f) xs))
    go true r = (g x.rows h.0, h.1)
    go false r = (h.0, r)

all_each : (life new : Life) (f : List PlacedRow → List PlacedRow) → KeepsOpen life new f → (xs : List Station) → HoldsOutToOpen life xs → HoldsOutToOpen new (map (with_rows f) xs)
all_each life new f g [] h = h
all_each life new f g (x ∷ xs) h = (g x.rows h.0, all_each life new f g xs h.1)

all_kept : (life new : Life) → StaysOpen nobody life new → (xs : List Station) → HoldsOutToOpen life xs → HoldsOutToOpen new xs
all_kept life new f [] h = h
all_kept life new f (x ∷ xs) h = (rows_kept life new f x.rows h.0, all_kept life new f xs h.1)

-- ---- queues

queue_at : (life : Life) (name : List ℕ) (f : List PlacedRow → List PlacedRow) → KeepsOpen life life f → (queues : List ℕ → List PlacedRow) → QueuesOutToOpen life queues → QueuesOutToOpen life (at_queue name f queues)
queue_at life name f g queues h other = go (text_eq name other)
  where
    go : (b : Bool) → AllOutToOpen life (cond b (f (queues other)) (queues other))
    go true = g (queues other) (h other)
    go false = h other

queue_queued : (life : Life) (d : Destination) (m : Content) (n : ℕ) (queues : List ℕ → List PlacedRow) → QueuesOutToOpen life queues → QueuesOutToOpen life (queued d m n queues)
queue_queued life (Queue name) m n queues h = queue_at life name (λ rows. rows ++ record { place = n; row = fresh m } ∷ []) (rows_push life n m) queues h
queue_queued life (Topic name) m n queues h = h

-- ---- states

open_published : (state : State) (ms : List Content) → AreOutToOpen state → AreOutToOpen (published state ms)
unfolding published
open_published state [] h = h
open_published state (m ∷ ms) h = open_published (with_message state m) ms (record {
  stations = all_offered state.life state.limit (publisher_of state.life m) m state.next_place state.stations h.stations;
  queues = queue_queued state.life m.destination m state.next_place state.queues h.queues;
})

open_received : (pass : Content → Bool) (mode : Option Mode) (s : SessionId) (c now : ℕ) (k : Option Key) (state : State) → is_some (mode_of state.life s) ≡ true → AreOutToOpen state → AreOutToOpen (receive pass (left_of mode s c) now k state)
open_received pass mode s c now None state o h = h
open_received pass mode s c now (Some k) state o h = record {
  stations = all_at state.life (deliver_placed now (left_of mode s c)) (rows_delivered state.life mode s c now o) k state.stations h.stations;
  queues = by k;
}
  where
    by : (key : Key) → QueuesOutToOpen state.life (at_queue_of key (deliver_chosen pass now (left_of mode s c)) state.queues)
    by (OfQueue name) = queue_at state.life name (deliver_chosen pass now (left_of mode s c)) (rows_chosen state.life pass mode s c now o) state.queues h.queues
    by (Own t d) = h.queues
    by (SharedOwn client name) = h.queues
    by (Durable client name) = h.queues

-- a change of the rows of all
open_each : (new : Life) (f : List PlacedRow → List PlacedRow) (state : State) → KeepsOpen state.life new f → AreOutToOpen state →
    AreOutToOpen (record state { life = new; stations = map (with_rows f) state.stations; queues = at_queues f state.queues })
open_each new f state g h = record { stations = all_each state.life new f g state.stations h.stations; queues = λ name. g (state.queues name) (h.queues name) }

open_settled : (p : SessionId → ℕ → Bool) (state : State) → AreOutToOpen state → AreOutToOpen (settled p state)
open_settled p state h = open_each state.life (settled_rows p) state (rows_filter state.life (λ x. not (is_out p x.row))) h

open_returned : (p : SessionId → ℕ → Bool) (state : State) → AreOutToOpen state → AreOutToOpen (returned p state)
open_returned p state h = open_each state.life (returned_rows p) state (rows_returned p state.life state.life (stays p state.life)) h

open_ended : (p : SessionId → ℕ → Bool) (state : State) → AreOutToOpen state → AreOutToOpen (closed p state)
open_ended p state h = record { stations = all_filter state.life _ state.stations h.stations; queues = h.queues }

-- those that close give back first what is out to them
open_closed : (p : SessionId → ℕ → Bool) (who : Who) (request : Request) (state : State) → StaysOpen p state.life (life_after state.life who request) → AreOutToOpen state → AreOutToOpen (closed p (returned p (with_life who request state)))
open_closed p who request state f h =
    let new = life_after state.life who request in
    open_ended p (returned p (with_life who request state)) (open_each new (returned_rows p) state (rows_returned p state.life new f) h)

open_kept : (new : Life) (state : State) → StaysOpen nobody state.life new → AreOutToOpen state → AreOutToOpen (record state { life = new })
open_kept new state f h = record { stations = all_kept state.life new f state.stations h.stations; queues = λ name. rows_kept state.life new f (state.queues name) (h.queues name) }

open_put : (k : Key) (d : Definition) (state : State) → AreOutToOpen state → AreOutToOpen (put k d state)
open_put k d state h = record { stations = all_put state.life k d (without k state.stations) (all_filter state.life _ state.stations h.stations); queues = h.queues }

-- a consumer that joins changes no row
open_joined : (s : SessionId) (c : ℕ) (k : Key) (selector : Option (List ℕ)) (state : State) → AreOutToOpen state → AreOutToOpen (joined s c k selector state)
open_joined s c k selector state h = record { stations = h.stations; queues = h.queues }

open_made : (s : SessionId) (c : ℕ) (destination : Destination) (selector : Option (List ℕ)) (no_local : Bool) (state : State) → AreOutToOpen state → AreOutToOpen (made s c destination selector no_local state)
open_made s c (Queue name) selector no_local state h = open_joined s c (OfQueue name) (standing_as selector) state h
open_made s c (Topic name) selector no_local state h = open_joined s c (Own s c) None (put (Own s c) (defined name selector no_local false) state) (open_put (Own s c) (defined name selector no_local false) state h)

open_if : (b : Bool) (x y : State) → AreOutToOpen x → AreOutToOpen y → AreOutToOpen (cond b x y)
open_if true x y p q = p
open_if false x y p q = q

open_subscribed : (s : SessionId) (c : ℕ) (k : Key) (d : Definition) (state : State) → AreOutToOpen state → AreOutToOpen (subscribed s c k d state)
open_subscribed s c k d state h =
    let same = is_same (definition_of (station_of k state.stations)) d in
    open_joined s c k None (cond same state (put k d state)) (open_if same state (put k d state) h (open_put k d state h))

open_deleted : (k : Key) (state : State) → AreOutToOpen state → AreOutToOpen (deleted k state)
open_deleted k state h = record { stations = all_filter state.life _ state.stations h.stations; queues = h.queues }

open_moved : (o : Option Refusal) (x y : State) → (o ≡ None → AreOutToOpen x) → AreOutToOpen y → AreOutToOpen (moved o x y)
open_moved None x y p q = p refl
open_moved (Some r) x y p q = q

-- a consumer that may be used is one of an open session
both_open : (a b d : Bool) → unless ((a && b) && d) IllegalState ≡ None → a ≡ true
both_open true b d e = refl
both_open false b d e = absurd cc

open_received_now : (state : State) (s : SessionId) (c now : ℕ) → refusal state.life state.consumers (held state (Session s) (Receive c now)) (Session s) (Receive c now) ≡ None → AreOutToOpen state → AreOutToOpen (after state (Session s) (Receive c now))
unfolding after refusal
open_received_now state s c now e h =
    let pass = selected_by (consumer_of state.consumers s c) in
    open_if (is_started state.life s.connection) (receive pass (left_of (mode_of state.life s) s c) now (key_at (consumer_of state.consumers s c)) state) state
    (open_received pass (mode_of state.life s) s c now (key_at (consumer_of state.consumers s c)) state (both_open (is_some (mode_of state.life s)) (is_active (consumer_of state.consumers s c)) (not (is_listening (consumer_of state.consumers s c))) e) h) h

-- what a listener takes goes out as where the client acknowledges
open_taken : (pass : Content → Bool) (s : SessionId) (c now : ℕ) (k : Option Key) (state : State) → is_some (mode_of state.life s) ≡ true → AreOutToOpen state → AreOutToOpen (take pass s c now k state)
open_taken pass s c now k state o h =
    let received = subst (λ (f : Row → List Row). AreOutToOpen (receive pass f now k state)) (left_client s c) (open_received pass (Some Client) s c now k state o h) in
    record { stations = received.stations; queues = received.queues }

open_taken_now : (state : State) (s : SessionId) (c now : ℕ) → refusal state.life state.consumers (held state (Session s) (Take c now)) (Session s) (Take c now) ≡ None → AreOutToOpen state → AreOutToOpen (after state (Session s) (Take c now))
unfolding after refusal
open_taken_now state s c now e h =
    let x = consumer_of state.consumers s c in
    open_if (is_started state.life s.connection) (take (selected_by x) s c now (key_at x) state) state
    (open_taken (selected_by x) s c now (key_at x) state (both_open (is_some (mode_of state.life s)) (is_active x) (is_listening x && not (is_busy x)) e) h) h

-- a listener that is done
rows_done : (life : Life) (s : SessionId) (c : ℕ) (ok : Bool) → KeepsOpen life life (done_rows s c ok)
rows_done life s c true = rows_filter life (λ x. not (is_out (of_number s c) x.row))
rows_done life s c false = rows_returned (of_number s c) life life (stays (of_number s c) life)

open_with_done : (s : SessionId) (c : ℕ) (ok : Bool) (k : Option Key) (state : State) → AreOutToOpen state → AreOutToOpen (with_done s c ok k state)
open_with_done s c ok None state h = h
open_with_done s c ok (Some k) state h = record {
  stations = all_at state.life (done_rows s c ok) (rows_done state.life s c ok) k state.stations h.stations;
  queues = by k;
}
  where
    by : (key : Key) → QueuesOutToOpen state.life (at_queue_of key (done_rows s c ok) state.queues)
    by (OfQueue name) = queue_at state.life name (done_rows s c ok) (rows_done state.life s c ok) state.queues h.queues
    by (Own t d) = h.queues
    by (SharedOwn client name) = h.queues
    by (Durable client name) = h.queues

open_done : (s : SessionId) (c : ℕ) (ok : Bool) (mode : Option Mode) (k : Option Key) (state : State) → AreOutToOpen state → AreOutToOpen (done s c ok mode k state)
open_done s c ok mode k state h =
    let free : State = record state { consumers = set_busy s c false state.consumers } in
    let kept : AreOutToOpen free = record { stations = h.stations; queues = h.queues } in
    open_if (settles_at_once mode) (with_done s c ok k free) free (open_with_done s c ok k free kept) kept

-- a connection that is opened, started or stopped leaves the sessions
open_same : (connections : List ConnectionState) (state : State) → AreOutToOpen state → AreOutToOpen (record state { life = record { connections = connections; sessions = state.life.sessions } })
open_same connections state h = open_kept (record { connections = connections; sessions = state.life.sessions }) state (λ s c n o. o) h

open_after : (state : State) (who : Who) (request : Request) → refusal state.life state.consumers (held state who request) who request ≡ None → AreOutToOpen state → AreOutToOpen (after state who request)
unfolding after life_after
open_after state (Connection c) (Open client) e h = open_same _ state h
open_after state (Connection c) Start e h = open_same _ state h
open_after state (Connection c) Stop e h = open_same _ state h
open_after state (Connection c) CloseConnection e h = open_closed (of_connection c) (Connection c) CloseConnection state (stays_ended c state.life) h
open_after state (Connection c) request e h = open_same _ state h
open_after state (Session s) (CreateSession mode) e h = open_kept (life_after state.life (Session s) (CreateSession mode)) state (stays_opened s mode state.life) h
open_after state (Session s) CloseSession e h = open_closed (of_session s) (Session s) CloseSession state (stays_closed s state.life) h
open_after state (Session s) (CreateConsumer c destination selector no_local) e h = open_made s c destination selector no_local state h
open_after state (Session s) (CreateDurable c destination name selector no_local) e h = open_subscribed s c (durable_of (client_of state.life) s name) (asked destination selector no_local false) state h
open_after state (Session s) (CreateShared c destination name selector) e h = open_subscribed s c (shared_of (client_of state.life) s name) (asked destination selector false true) state h
open_after state (Session s) (CreateSharedDurable c destination name selector) e h = open_subscribed s c (durable_of (client_of state.life) s name) (asked destination selector false true) state h
open_after state (Session s) (Unsubscribe name) e h = open_deleted (durable_of (client_of state.life) s name) state h
open_after state (Session s) (Receive c now) e h = open_received_now state s c now e h
open_after state (Session s) (CloseConsumer c) e h = open_ended (of_number s c) state h
open_after state (Session s) Acknowledge e h = open_if (is_client (mode_of state.life s)) (settled (of_session s) state) state (open_settled (of_session s) state h) h
open_after state (Session s) Recover e h = open_returned (of_session s) state h
open_after state (Session s) Rollback e h = open_returned (of_session s) state h
open_after state (Session s) (SetListener c on) e h = record { stations = h.stations; queues = h.queues }
open_after state (Session s) (Take c now) e h = open_taken_now state s c now e h
open_after state (Session s) (Done c ok) e h = open_done s c ok (mode_of state.life s) (key_at (consumer_of state.consumers s c)) state h
open_after state (Session s) _ e h = h

open_committed : (state : State) (who : Who) (ms : List Content) → AreOutToOpen state → AreOutToOpen (after_commit state who ms)
unfolding after_commit
open_committed state (Connection c) ms h = h
open_committed state (Session s) ms h = open_published (settled (of_session s) state) ms (open_settled (of_session s) state h)

open_step : (state : State) (who : Who) (call : Call) → AreOutToOpen state → AreOutToOpen (step state who call)
unfolding step
open_step state who (Ask request) h = open_moved (refusal state.life state.consumers (held state who request) who request) (after state who request) state (λ e. open_after state who request e h) h
open_step state who (Publish messages) h = open_moved (publish_refusal state who messages) (published state messages) state (λ e. open_published state messages h) h
open_step state who (Commit messages) h = open_moved (commit_refusal state who messages) (after_commit state who messages) state (λ e. open_committed state who messages h) h

-- what was stored waits
open_waiting : (life : Life) (rows : List PlacedRow) → AreWaiting rows → AllOutToOpen life rows
open_waiting life [] h = tt
open_waiting life (x ∷ rows) h = (subst (IsOutToOpen life) (sym h.0) tt, open_waiting life rows h.1)

open_stored : (life : Life) (messages : ℕ → Option Content) (stations : List Station) → AreDurable messages stations → HoldsOutToOpen life stations
open_stored life messages [] h = tt
open_stored life messages (x ∷ stations) h = (open_waiting life x.rows h.2, open_stored life messages stations h.4)

pub reached_open : (state : State) → Reached state → AreOutToOpen state
reached_open state (New opening limit) = record { stations = tt; queues = λ name. tt }
reached_open state (Reopened opening limit stations queues next_place h) = record {
  stations = open_stored (record { connections = []; sessions = [] }) h.messages stations h.durable;
  queues = λ name. open_waiting (record { connections = []; sessions = [] }) (queues name) (h.waiting name);
}
reached_open state (Stepped before who call r) = open_step before who call (reached_open before r)
