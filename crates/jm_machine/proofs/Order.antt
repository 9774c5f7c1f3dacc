-- In every state that the provider reaches the rows of each subscription and of each queue stand by place.
use Rattle.std.proofs.Common.{◌≡◌, ◌<◌, ◌+◌, ℕ, Bool, true, false, cond, List, [], ◌∷◌, ◌++◌, map, length, refl, sym, subst, ◌⊎◌, inl, inr, arith, Option, Some, None}
use Rattle.std.specs.Prelude.{filter}
use Rattle.jm_base.specs.declared.mode.Mode.{Mode}
use Rattle.jm_base.specs.declared.refusal.Refusal.{Refusal}
use Rattle.jm_dest.specs.declared.session.SessionId.{SessionId}
use Rattle.jm_dest.specs.declared.key.Key.{Key}
use Rattle.jm_dest.specs.declared.key.Key.TheVariants.{Own, SharedOwn, Durable, Queue as OfQueue}
use Rattle.jm_dest.specs.declared.destination.Destination.{Destination}
use Rattle.jm_dest.specs.declared.destination.Destination.TheVariants.{Queue, Topic}
use Rattle.jm_dest.specs.Names.{text_eq}
use Rattle.jm_dest.specs.Keys.{key_eq}
use Rattle.jm_header.specs.declared.content.Content.{Content}
use Rattle.jm_machine.specs.declared.call.Who.{Who}
use Rattle.jm_machine.specs.declared.call.Who.TheVariants.{Connection, Session}
use Rattle.jm_machine.specs.declared.call.Request.{Request}
use Rattle.jm_machine.specs.declared.call.Request.TheVariants.{CloseConnection, CreateSession, CloseSession, CreateConsumer, CreateDurable, CreateShared, CreateSharedDurable, Unsubscribe, CloseConsumer, Receive, Acknowledge, Recover, Rollback, Take, Done as DoneWith}
use Rattle.jm_machine.specs.declared.call.Call.{Call}
use Rattle.jm_machine.specs.declared.call.Call.TheVariants.{Ask, Publish, Commit}
use Rattle.jm_machine.specs.declared.state.Definition.{Definition}
use Rattle.jm_machine.specs.declared.state.PlacedRow.{PlacedRow}
use Rattle.jm_machine.specs.declared.state.Row.{Row}
use Rattle.jm_machine.specs.declared.state.Station.{Station}
use Rattle.jm_machine.specs.Life.{client_of, mode_of, is_started}
use Rattle.jm_machine.specs.Rows.{AllAbove, InOrder, fresh, settles_at_once, sent_out, left_of, taken, live_placed, change_placed, deliver_placed, deliver_chosen}
use Rattle.jm_machine.specs.Machine.{State, durable_of, shared_of, asked, is_same, subscribed, put, joined, definition_of, station_of, Publisher, publisher_of, accepts, is_full, one_missed, brought, offered, with_message, with_rows, at_key, at_queue, at_queue_of, queued, without, published, AllInOrder, receive, take, done_rows, with_done, set_busy, consumer_of, key_at, made, selected_by, defined, of_session, of_connection, of_number, settled_rows, returned_rows, settled, returned, closed, with_life, is_client, held, refusal, publish_refusal, commit_refusal, after, after_commit, moved, step}
use Rattle.jm_machine.specs.Isolation.{Reached}
use Rattle.jm_machine.specs.Isolation.Reached.{New, Reopened, Stepped}

-- ---- rows

-- fewer rows stand above a place
above_filter : (n : ℕ) (p : PlacedRow → Bool) (rows : List PlacedRow) → AllAbove n rows → AllAbove n (filter p rows)
above_filter n p [] h = h
above_filter n p (x ∷ rows) h = go (p x) (above_filter n p rows h.1)
  where
    go : (b : Bool) → AllAbove n (filter p rows) → AllAbove n (cond b (x ∷ filter p rows) (filter p rows))
    go true r = (h.0, r)
    go false r = r

order_filter : (n : ℕ) (p : PlacedRow → Bool) (rows : List PlacedRow) → InOrder n rows → InOrder n (filter p rows)
order_filter n p [] h = h
order_filter n p (x ∷ rows) h = go (p x) (order_filter n p rows h.2)
  where
    go : (b : Bool) → InOrder n (filter p rows) → InOrder n (cond b (x ∷ filter p rows) (filter p rows))
    go true r = (h.0, above_filter x.place p rows h.1, r)
    go false r = r

-- a row that passes goes, or stays at its place
abbrev LeavesOne : (Row → List Row) → Type 0
LeavesOne f = (r : Row) → (f r ≡ []) ⊎ ((x : Row) × (f r ≡ x ∷ []))

taken_one : (s : SessionId) (c : ℕ) → LeavesOne (taken s c)
taken_one s c r = inr (sent_out s c r, refl)

left_one : (mode : Option Mode) (s : SessionId) (c : ℕ) → LeavesOne (left_of mode s c)
unfolding left_of
left_one mode s c r = go (settles_at_once mode)
  where
    go : (b : Bool) → (cond b [] (sent_out s c r ∷ []) ≡ []) ⊎ ((x : Row) × (cond b [] (sent_out s c r ∷ []) ≡ x ∷ []))
    go true = inl refl
    go false = inr (sent_out s c r, refl)

above_at : (n m : ℕ) (rs : List Row) (rows : List PlacedRow) → (rs ≡ []) ⊎ ((x : Row) × (rs ≡ x ∷ [])) → n < m → AllAbove n rows → AllAbove n (map (λ r. record { place = m; row = r }) rs ++ rows)
above_at n m rs rows (inl e) l h = subst (λ (t : List Row). AllAbove n (map (λ r. record { place = m; row = r }) t ++ rows)) (sym e) h
above_at n m rs rows (inr e) l h = subst (λ (t : List Row). AllAbove n (map (λ r. record { place = m; row = r }) t ++ rows)) (sym e.1) (l, h)

above_change : (n : ℕ) (p : Row → Bool) (f : Row → List Row) → LeavesOne f → (rows : List PlacedRow) → AllAbove n rows → AllAbove n (change_placed p f rows)
above_change n p f o [] h = h
above_change n p f o (x ∷ rows) h = go (p x.row) (above_change n p f o rows h.1)
  where
    go : (b : Bool) → AllAbove n (change_placed p f rows) → AllAbove n (cond b (map (λ r. record { place = x.place; row = r }) (f x.row) ++ rows) (x ∷ change_placed p f rows))
    go true r = above_at n x.place (f x.row) rows (o x.row) h.0 h.1
    go false r = (h.0, r)

order_at : (n m : ℕ) (rs : List Row) (rows : List PlacedRow) → (rs ≡ []) ⊎ ((x : Row) × (rs ≡ x ∷ [])) → m < n → AllAbove m rows → InOrder n rows → InOrder n (map (λ r. record { place = m; row = r }) rs ++ rows)
order_at n m rs rows (inl e) l a h = subst (λ (t : List Row). InOrder n (map (λ r. record { place = m; row = r }) t ++ rows)) (sym e) h
order_at n m rs rows (inr e) l a h = subst (λ (t : List Row). InOrder n (map (λ r. record { place = m; row = r }) t ++ rows)) (sym e.1) (l, a, h)

order_change : (n : ℕ) (p : Row → Bool) (f : Row → List Row) → LeavesOne f → (rows : List PlacedRow) → InOrder n rows → InOrder n (change_placed p f rows)
order_change n p f o [] h = h
order_change n p f o (x ∷ rows) h = go (p x.row) (order_change n p f o rows h.2)
  where
    go : (b : Bool) → InOrder n (change_placed p f rows) → InOrder n (cond b (map (λ r. record { place = x.place; row = r }) (f x.row) ++ rows) (x ∷ change_placed p f rows))
    go true r = order_at n x.place (f x.row) rows (o x.row) h.0 h.1 h.2
    go false r = (h.0, above_change x.place p f o rows h.1, r)

delivered : (n now : ℕ) (f : Row → List Row) → LeavesOne f → (rows : List PlacedRow) → InOrder n rows → InOrder n (deliver_placed now f rows)
delivered n now f o rows h = order_change n _ f o (live_placed now rows) (order_filter n _ rows h)

-- rows that wait again stand where they stood
above_returned : (n : ℕ) (p : SessionId → ℕ → Bool) (rows : List PlacedRow) → AllAbove n rows → AllAbove n (returned_rows p rows)
above_returned n p [] h = h
above_returned n p (x ∷ rows) h = (h.0, above_returned n p rows h.1)

order_returned : (n : ℕ) (p : SessionId → ℕ → Bool) (rows : List PlacedRow) → InOrder n rows → InOrder n (returned_rows p rows)
order_returned n p [] h = h
order_returned n p (x ∷ rows) h = (h.0, above_returned x.place p rows h.1, order_returned n p rows h.2)

-- a row at the next place
above_push : (n m : ℕ) (r : Row) (rows : List PlacedRow) → n < m → AllAbove n rows → AllAbove n (rows ++ record { place = m; row = r } ∷ [])
above_push n m r [] l h = (l, tt)
above_push n m r (x ∷ rows) l h = (h.0, above_push n m r rows l h.1)

order_push : (n : ℕ) (r : Row) (rows : List PlacedRow) → InOrder n rows → InOrder (n + 1) (rows ++ record { place = n; row = r } ∷ [])
order_push n r [] h = (omega arith, tt, tt)
order_push n r (x ∷ rows) h = (omega (arith, h.0), above_push x.place n r rows h.0 h.1, order_push n r rows h.2)

-- a place further
order_on : (n : ℕ) (rows : List PlacedRow) → InOrder n rows → InOrder (n + 1) rows
order_on n [] h = h
order_on n (x ∷ rows) h = (omega (arith, h.0), h.1, order_on n rows h.2)

-- ---- stations

order_brought : (limit : ℕ) (m : Content) (n : ℕ) (x : Station) → InOrder n x.rows → InOrder (n + 1) (brought limit m n x).rows
order_brought limit m n x h = go (is_full limit x.key (length x.rows))
  where
    go : (b : Bool) → InOrder (n + 1) (cond b (record { key = x.key; definition = x.definition; missed = one_missed x.missed; rows = x.rows }) (with_rows (λ rows. rows ++ record { place = n; row = fresh m } ∷ []) x)).rows
    go true = order_on n x.rows h
    go false = order_push n (fresh m) x.rows h

order_offered : (limit : ℕ) (p : Publisher) (m : Content) (n : ℕ) (x : Station) → InOrder n x.rows → InOrder (n + 1) (offered limit p m n x).rows
order_offered limit p m n x h = go (accepts x.key x.definition p m)
  where
    go : (b : Bool) → InOrder (n + 1) (cond b (brought limit m n x) x).rows
    go true = order_brought limit m n x h
    go false = order_on n x.rows h

all_offered : (limit : ℕ) (p : Publisher) (m : Content) (n : ℕ) (xs : List Station) → AllInOrder n xs → AllInOrder (n + 1) (map (offered limit p m n) xs)
all_offered limit p m n [] h = h
all_offered limit p m n (x ∷ xs) h = (order_offered limit p m n x h.0, all_offered limit p m n xs h.1)

all_filter : (n : ℕ) (p : Station → Bool) (xs : List Station) → AllInOrder n xs → AllInOrder n (filter p xs)
all_filter n p [] h = h
all_filter n p (x ∷ xs) h = go (p x) (all_filter n p xs h.1)
  where
    go : (b : Bool) → AllInOrder n (filter p xs) → AllInOrder n (cond b (x ∷ filter p xs) (filter p xs))
    go true r = (h.0, r)
    go false r = r

all_put : (n : ℕ) (k : Key) (d : Definition) (xs : List Station) → AllInOrder n xs → AllInOrder n (xs ++ record { key = k; definition = d; missed = 0; rows = [] } ∷ [])
all_put n k d [] h = (tt, tt)
all_put n k d (x ∷ xs) h = (h.0, all_put n k d xs h.1)

-- a change of rows that keeps their order
abbrev KeepsOrder : ℕ → (List PlacedRow → List PlacedRow) → Type 0
KeepsOrder n f = (rows : List PlacedRow) → InOrder n rows → InOrder n (f rows)

all_at : (n : ℕ) (f : List PlacedRow → List PlacedRow) → KeepsOrder n f → (k : Key) (xs : List Station) → AllInOrder n xs → AllInOrder n (at_key k (with_rows f) xs)
all_at n f g k [] h = h
all_at n f g k (x ∷ xs) h = go (key_eq x.key k) (all_at n f g k xs h.1)
  where
    go : (b : Bool) → AllInOrder n (at_key k (with_rows f) xs) → AllInOrder n (cond b (with_rows f x ∷ xs) (x ∷ at_key k (with_rows f) xs))
    go true r = (g x.rows h.0, h.1)
    go false r = (h.0, r)

all_each : (n : ℕ) (f : List PlacedRow → List PlacedRow) → KeepsOrder n f → (xs : List Station) → AllInOrder n xs → AllInOrder n (map (with_rows f) xs)
all_each n f g [] h = h
all_each n f g (x ∷ xs) h = (g x.rows h.0, all_each n f g xs h.1)

-- ---- states

abbrev pub HasOrder : State → Type 0
HasOrder state = AllInOrder state.next_place state.stations

order_published : (state : State) (ms : List Content) → HasOrder state → HasOrder (published state ms)
unfolding published
order_published state [] h = h
order_published state (m ∷ ms) h = order_published (with_message state m) ms (all_offered state.limit (publisher_of state.life m) m state.next_place state.stations h)

order_received : (p : Content → Bool) (f : Row → List Row) → LeavesOne f → (now : ℕ) (k : Option Key) (state : State) → HasOrder state → HasOrder (receive p f now k state)
order_received p f o now None state h = h
order_received p f o now (Some k) state h = all_at state.next_place (deliver_placed now f) (delivered state.next_place now f o) k state.stations h

-- what a listener is done with goes, or stands where it stood
order_done_rows : (n : ℕ) (s : SessionId) (c : ℕ) (ok : Bool) → KeepsOrder n (done_rows s c ok)
order_done_rows n s c true rows h = order_filter n _ rows h
order_done_rows n s c false rows h = order_returned n (of_number s c) rows h

order_with_done : (s : SessionId) (c : ℕ) (ok : Bool) (k : Option Key) (state : State) → HasOrder state → HasOrder (with_done s c ok k state)
order_with_done s c ok None state h = h
order_with_done s c ok (Some k) state h = all_at state.next_place (done_rows s c ok) (order_done_rows state.next_place s c ok) k state.stations h

order_settled : (p : SessionId → ℕ → Bool) (state : State) → HasOrder state → HasOrder (settled p state)
order_settled p state h = all_each state.next_place (settled_rows p) (order_filter state.next_place _) state.stations h

-- what closes gives back first
order_closed : (p : SessionId → ℕ → Bool) (state : State) → HasOrder state → HasOrder (closed p state)
order_closed p state h = all_filter state.next_place _ state.stations h

order_given : (p : SessionId → ℕ → Bool) (state : State) → HasOrder state → HasOrder (returned p state)
order_given p state h = all_each state.next_place (returned_rows p) (order_returned state.next_place p) state.stations h

order_made : (s : SessionId) (c : ℕ) (destination : Destination) (selector : Option (List ℕ)) (no_local : Bool) (state : State) → HasOrder state → HasOrder (made s c destination selector no_local state)
order_made s c (Queue name) selector no_local state h = h
order_made s c (Topic name) selector no_local state h = all_put state.next_place (Own s c) (defined name selector no_local false) (without (Own s c) state.stations) (all_filter state.next_place _ state.stations h)

order_subscribed : (s : SessionId) (c : ℕ) (k : Key) (d : Definition) (state : State) → HasOrder state → HasOrder (subscribed s c k d state)
order_subscribed s c k d state h = go (is_same (definition_of (station_of k state.stations)) d)
  where
    go : (b : Bool) → HasOrder (joined s c k None (cond b state (put k d state)))
    go true = h
    go false = all_put state.next_place k d (without k state.stations) (all_filter state.next_place _ state.stations h)

order_if : (b : Bool) (x y : State) → HasOrder x → HasOrder y → HasOrder (cond b x y)
order_if true x y p q = p
order_if false x y p q = q

order_moved : (o : Option Refusal) (x y : State) → HasOrder x → HasOrder y → HasOrder (moved o x y)
order_moved None x y p q = p
order_moved (Some r) x y p q = q

order_after : (state : State) (who : Who) (request : Request) → HasOrder state → HasOrder (after state who request)
unfolding after
order_after state (Connection c) CloseConnection h = order_closed (of_connection c) (returned (of_connection c) (with_life (Connection c) CloseConnection state)) (order_given (of_connection c) (with_life (Connection c) CloseConnection state) h)
order_after state (Connection c) request h = h
order_after state (Session s) (CreateSession mode) h = h
order_after state (Session s) CloseSession h = order_closed (of_session s) (returned (of_session s) (with_life (Session s) CloseSession state)) (order_given (of_session s) (with_life (Session s) CloseSession state) h)
order_after state (Session s) (CreateConsumer c destination selector no_local) h = order_made s c destination selector no_local state h
order_after state (Session s) (CreateDurable c destination name selector no_local) h = order_subscribed s c (durable_of (client_of state.life) s name) (asked destination selector no_local false) state h
order_after state (Session s) (CreateShared c destination name selector) h = order_subscribed s c (shared_of (client_of state.life) s name) (asked destination selector false true) state h
order_after state (Session s) (CreateSharedDurable c destination name selector) h = order_subscribed s c (durable_of (client_of state.life) s name) (asked destination selector false true) state h
order_after state (Session s) (Unsubscribe name) h = all_filter state.next_place _ state.stations h
order_after state (Session s) (Receive c now) h =
    order_if (is_started state.life s.connection) (receive (selected_by (consumer_of state.consumers s c)) (left_of (mode_of state.life s) s c) now (key_at (consumer_of state.consumers s c)) state) state
    (order_received (selected_by (consumer_of state.consumers s c)) (left_of (mode_of state.life s) s c) (left_one (mode_of state.life s) s c) now (key_at (consumer_of state.consumers s c)) state h) h
order_after state (Session s) (CloseConsumer c) h = order_closed (of_number s c) state h
order_after state (Session s) Acknowledge h = order_if (is_client (mode_of state.life s)) (settled (of_session s) state) state (order_settled (of_session s) state h) h
order_after state (Session s) Recover h = order_given (of_session s) state h
order_after state (Session s) Rollback h = order_given (of_session s) state h
order_after state (Session s) (Take c now) h =
    order_if (is_started state.life s.connection) (take (selected_by (consumer_of state.consumers s c)) s c now (key_at (consumer_of state.consumers s c)) state) state
    (order_received (selected_by (consumer_of state.consumers s c)) (taken s c) (taken_one s c) now (key_at (consumer_of state.consumers s c)) state h) h
order_after state (Session s) (DoneWith c ok) h =
    let free : State = record state { consumers = set_busy s c false state.consumers } in
    order_if (settles_at_once (mode_of state.life s)) (with_done s c ok (key_at (consumer_of state.consumers s c)) free) free
    (order_with_done s c ok (key_at (consumer_of state.consumers s c)) free h) h
order_after state (Session s) _ h = h

order_committed : (state : State) (who : Who) (ms : List Content) → HasOrder state → HasOrder (after_commit state who ms)
unfolding after_commit
order_committed state (Connection c) ms h = h
order_committed state (Session s) ms h = order_published (settled (of_session s) state) ms (order_settled (of_session s) state h)

order_step : (state : State) (who : Who) (call : Call) → HasOrder state → HasOrder (step state who call)
unfolding step
order_step state who (Ask request) h = order_moved (refusal state.life state.consumers (held state who request) who request) (after state who request) state (order_after state who request h) h
order_step state who (Publish messages) h = order_moved (publish_refusal state who messages) (published state messages) state (order_published state messages h) h
order_step state who (Commit messages) h = order_moved (commit_refusal state who messages) (after_commit state who messages) state (order_committed state who messages h) h

pub reached_in_order : (state : State) → Reached state → AllInOrder state.next_place state.stations
reached_in_order state (New opening limit) = tt
reached_in_order state (Reopened opening limit stations queues next_place h) = h.ordered
reached_in_order state (Stepped before who call r) = order_step before who call (reached_in_order before r)

-- ---- queues

-- the rows of each queue stand by place, below the next place
abbrev pub QueuesInOrder : State → Type 0
QueuesInOrder state = (name : List ℕ) → InOrder state.next_place (state.queues name)

chosen_order : (n now : ℕ) (p : Content → Bool) (f : Row → List Row) → LeavesOne f → KeepsOrder n (deliver_chosen p now f)
chosen_order n now p f o rows h = order_change n _ f o (live_placed now rows) (order_filter n _ rows h)

queues_at : (n : ℕ) (f : List PlacedRow → List PlacedRow) → KeepsOrder n f → (name : List ℕ) (queues : List ℕ → List PlacedRow) → ((other : List ℕ) → InOrder n (queues other)) → (other : List ℕ) → InOrder n (at_queue name f queues other)
queues_at n f g name queues h other = go (text_eq name other)
  where
    go : (b : Bool) → InOrder n (cond b (f (queues other)) (queues other))
    go true = g (queues other) (h other)
    go false = h other

queues_of : (n : ℕ) (f : List PlacedRow → List PlacedRow) → KeepsOrder n f → (k : Key) (queues : List ℕ → List PlacedRow) → ((other : List ℕ) → InOrder n (queues other)) → (other : List ℕ) → InOrder n (at_queue_of k f queues other)
queues_of n f g (OfQueue name) queues h other = queues_at n f g name queues h other
queues_of n f g (Own s c) queues h other = h other
queues_of n f g (SharedOwn client name) queues h other = h other
queues_of n f g (Durable client name) queues h other = h other

queues_queued : (n : ℕ) (destination : Destination) (m : Content) (queues : List ℕ → List PlacedRow) → ((other : List ℕ) → InOrder n (queues other)) → (other : List ℕ) → InOrder (n + 1) (queued destination m n queues other)
queues_queued n (Topic name) m queues h other = order_on n (queues other) (h other)
queues_queued n (Queue name) m queues h other = go (text_eq name other)
  where
    go : (b : Bool) → InOrder (n + 1) (cond b (queues other ++ record { place = n; row = fresh m } ∷ []) (queues other))
    go true = order_push n (fresh m) (queues other) (h other)
    go false = order_on n (queues other) (h other)

queues_published : (state : State) (ms : List Content) → QueuesInOrder state → QueuesInOrder (published state ms)
unfolding published
queues_published state [] h = h
queues_published state (m ∷ ms) h = queues_published (with_message state m) ms (queues_queued state.next_place m.destination m state.queues h)

queues_received : (p : Content → Bool) (f : Row → List Row) → LeavesOne f → (now : ℕ) (k : Option Key) (state : State) → QueuesInOrder state → QueuesInOrder (receive p f now k state)
queues_received p f o now None state h = h
queues_received p f o now (Some k) state h = queues_of state.next_place (deliver_chosen p now f) (chosen_order state.next_place now p f o) k state.queues h

queues_with_done : (s : SessionId) (c : ℕ) (ok : Bool) (k : Option Key) (state : State) → QueuesInOrder state → QueuesInOrder (with_done s c ok k state)
queues_with_done s c ok None state h = h
queues_with_done s c ok (Some k) state h = queues_of state.next_place (done_rows s c ok) (order_done_rows state.next_place s c ok) k state.queues h

queues_settled : (p : SessionId → ℕ → Bool) (state : State) → QueuesInOrder state → QueuesInOrder (settled p state)
queues_settled p state h name = order_filter state.next_place _ (state.queues name) (h name)

queues_given : (p : SessionId → ℕ → Bool) (state : State) → QueuesInOrder state → QueuesInOrder (returned p state)
queues_given p state h name = order_returned state.next_place p (state.queues name) (h name)

queues_made : (s : SessionId) (c : ℕ) (destination : Destination) (selector : Option (List ℕ)) (no_local : Bool) (state : State) → QueuesInOrder state → QueuesInOrder (made s c destination selector no_local state)
queues_made s c (Queue name) selector no_local state h = h
queues_made s c (Topic name) selector no_local state h = h

queues_subscribed : (s : SessionId) (c : ℕ) (k : Key) (d : Definition) (state : State) → QueuesInOrder state → QueuesInOrder (subscribed s c k d state)
queues_subscribed s c k d state h = go (is_same (definition_of (station_of k state.stations)) d)
  where
    go : (b : Bool) → QueuesInOrder (joined s c k None (cond b state (put k d state)))
    go true = h
    go false = h

queues_if : (b : Bool) (x y : State) → QueuesInOrder x → QueuesInOrder y → QueuesInOrder (cond b x y)
queues_if true x y p q = p
queues_if false x y p q = q

queues_moved : (o : Option Refusal) (x y : State) → QueuesInOrder x → QueuesInOrder y → QueuesInOrder (moved o x y)
queues_moved None x y p q = p
queues_moved (Some r) x y p q = q

queues_after : (state : State) (who : Who) (request : Request) → QueuesInOrder state → QueuesInOrder (after state who request)
unfolding after
queues_after state (Connection c) CloseConnection h = queues_given (of_connection c) (with_life (Connection c) CloseConnection state) h
queues_after state (Connection c) request h = h
queues_after state (Session s) (CreateSession mode) h = h
queues_after state (Session s) CloseSession h = queues_given (of_session s) (with_life (Session s) CloseSession state) h
queues_after state (Session s) (CreateConsumer c destination selector no_local) h = queues_made s c destination selector no_local state h
queues_after state (Session s) (CreateDurable c destination name selector no_local) h = queues_subscribed s c (durable_of (client_of state.life) s name) (asked destination selector no_local false) state h
queues_after state (Session s) (CreateShared c destination name selector) h = queues_subscribed s c (shared_of (client_of state.life) s name) (asked destination selector false true) state h
queues_after state (Session s) (CreateSharedDurable c destination name selector) h = queues_subscribed s c (durable_of (client_of state.life) s name) (asked destination selector false true) state h
queues_after state (Session s) (Receive c now) h =
    queues_if (is_started state.life s.connection) (receive (selected_by (consumer_of state.consumers s c)) (left_of (mode_of state.life s) s c) now (key_at (consumer_of state.consumers s c)) state) state
    (queues_received (selected_by (consumer_of state.consumers s c)) (left_of (mode_of state.life s) s c) (left_one (mode_of state.life s) s c) now (key_at (consumer_of state.consumers s c)) state h) h
queues_after state (Session s) Acknowledge h = queues_if (is_client (mode_of state.life s)) (settled (of_session s) state) state (queues_settled (of_session s) state h) h
queues_after state (Session s) Recover h = queues_given (of_session s) state h
queues_after state (Session s) Rollback h = queues_given (of_session s) state h
queues_after state (Session s) (Take c now) h =
    queues_if (is_started state.life s.connection) (take (selected_by (consumer_of state.consumers s c)) s c now (key_at (consumer_of state.consumers s c)) state) state
    (queues_received (selected_by (consumer_of state.consumers s c)) (taken s c) (taken_one s c) now (key_at (consumer_of state.consumers s c)) state h) h
queues_after state (Session s) (DoneWith c ok) h =
    let free : State = record state { consumers = set_busy s c false state.consumers } in
    queues_if (settles_at_once (mode_of state.life s)) (with_done s c ok (key_at (consumer_of state.consumers s c)) free) free
    (queues_with_done s c ok (key_at (consumer_of state.consumers s c)) free h) h
queues_after state (Session s) _ h = h

queues_committed : (state : State) (who : Who) (ms : List Content) → QueuesInOrder state → QueuesInOrder (after_commit state who ms)
unfolding after_commit
queues_committed state (Connection c) ms h = h
queues_committed state (Session s) ms h = queues_published (settled (of_session s) state) ms (queues_settled (of_session s) state h)

queues_step : (state : State) (who : Who) (call : Call) → QueuesInOrder state → QueuesInOrder (step state who call)
unfolding step
queues_step state who (Ask request) h = queues_moved (refusal state.life state.consumers (held state who request) who request) (after state who request) state (queues_after state who request h) h
queues_step state who (Publish messages) h = queues_moved (publish_refusal state who messages) (published state messages) state (queues_published state messages h) h
queues_step state who (Commit messages) h = queues_moved (commit_refusal state who messages) (after_commit state who messages) state (queues_committed state who messages h) h

pub queues_in_order : (state : State) → Reached state → QueuesInOrder state
queues_in_order state (New opening limit) = λ name. tt
queues_in_order state (Reopened opening limit stations queues next_place h) = h.queued
queues_in_order state (Stepped before who call r) = queues_step before who call (queues_in_order before r)
