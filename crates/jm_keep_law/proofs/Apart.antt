-- In every state that the provider reaches the rows at one place are of one queue, or of subscriptions.
use Rattle.std.proofs.Common.{◌≡◌, ◌<◌, ◌+◌, ℕ, Bool, true, false, cond, List, [], ◌∷◌, ◌++◌, map, length, refl, sym, subst, ap, ◌∙◌, arith, Option, Some, None}
use Rattle.std.specs.Prelude.{filter, IsSome, ◌==◌, ◌&&◌}
use Rattle.std.proofs.lemmas.Bool.Decides.{nat_tests}
use Rattle.jm_base.specs.declared.refusal.Refusal.{Refusal}
use Rattle.jm_dest.specs.declared.session.SessionId.{SessionId}
use Rattle.jm_dest.specs.declared.key.Key.{Key}
use Rattle.jm_dest.specs.declared.key.Key.TheVariants.{Own, SharedOwn, Durable, Queue as OfQueue}
use Rattle.jm_dest.specs.declared.destination.Destination.{Destination}
use Rattle.jm_dest.specs.declared.destination.Destination.TheVariants.{Queue, Topic}
use Rattle.jm_dest.specs.Names.{text_eq}
use Rattle.jm_dest.specs.Keys.{key_eq}
use Rattle.jm_header.specs.declared.content.Content.{Content}
use Rattle.jm_machine.specs.declared.call.Who.{Who}
use Rattle.jm_machine.specs.declared.call.Who.TheVariants.{Connection, Session}
use Rattle.jm_machine.specs.declared.call.Request.{Request}
use Rattle.jm_machine.specs.declared.call.Request.TheVariants.{CloseConnection, CreateSession, CloseSession, CreateConsumer, CreateDurable, CreateShared, CreateSharedDurable, Unsubscribe, CloseConsumer, Receive, Acknowledge, Recover, Rollback, SetListener, Take, Done as DoneWith}
use Rattle.jm_machine.specs.declared.call.Call.{Call}
use Rattle.jm_machine.specs.declared.call.Call.TheVariants.{Ask, Publish, Commit}
use Rattle.jm_machine.specs.declared.state.Consumer.{Consumer}
use Rattle.jm_machine.specs.declared.state.Definition.{Definition}
use Rattle.jm_machine.specs.declared.state.PlacedRow.{PlacedRow}
use Rattle.jm_machine.specs.declared.state.Row.{Row}
use Rattle.jm_machine.specs.declared.state.Station.{Station}
use Rattle.jm_machine.specs.Life.{client_of, mode_of, is_started}
use Rattle.jm_machine.specs.Rows.{fresh, left_of, taken, settles_at_once, live_placed, change_placed, deliver_placed, deliver_chosen}
use Rattle.jm_machine.specs.Machine.{State, is_of_topic, is_to, durable_of, shared_of, asked, is_same, subscribed, put, joined, definition_of, station_of, Publisher, publisher_of, accepts, is_full, one_missed, brought, offered, with_message, with_rows, at_key, at_queue, at_queue_of, queued, without, published, receive, take, with_done, done_rows, holding_at, is_coming, set_busy, set_listening, consumer_of, key_at, made, selected_by, defined, of_session, of_connection, of_number, settled_rows, returned_rows, settled, returned, closed, with_life, is_client, held, refusal, publish_refusal, commit_refusal, after, after_commit, moved, step, AllInOrder}
use Rattle.jm_machine.specs.Wants.{placed_rows}
use Rattle.jm_machine.specs.Isolation.{Reached}
use Rattle.jm_machine.specs.Accepted.{AllAccepted, HoldsAccepted}
use Rattle.jm_machine.specs.Reopened.{AreDurable, AreSentTo, HoldMessages}
use Rattle.jm_machine.specs.Rows.{InOrder}
use Rattle.jm_machine.specs.Isolation.Reached.{New, Reopened, Stepped}
use Rattle.jm_machine.specs.Under.{placed_under}
use Rattle.jm_machine.proofs.Keys.{text_same}
use Rattle.jm_keep.specs.Persisted.{row_at}
use Rattle.jm_keep.specs.Apart.{QueuesApart}

-- ---- rows at places that pass

AllAt : (ℕ → Type 0) → List PlacedRow → Type 0
AllAt P [] = Unit {0}
AllAt P (x ∷ rows) = P x.place × AllAt P rows

filter_at : (P : ℕ → Type 0) (p : PlacedRow → Bool) (rows : List PlacedRow) → AllAt P rows → AllAt P (filter p rows)
unfolding AllAt
filter_at P p [] h = h
filter_at P p (x ∷ rows) h = go (p x) (filter_at P p rows h.1)
  where
    go : (b : Bool) → AllAt P (filter p rows) → AllAt P (cond b (x ∷ filter p rows) (filter p rows))
    go true r = (h.0, r)
    go false r = r

placed_at : (P : ℕ → Type 0) (m : ℕ) (rs : List Row) (rows : List PlacedRow) → P m → AllAt P rows → AllAt P (map (λ r. record { place = m; row = r }) rs ++ rows)
unfolding AllAt
placed_at P m [] rows l h = h
placed_at P m (r ∷ rs) rows l h = (l, placed_at P m rs rows l h)

change_at : (P : ℕ → Type 0) (p : Row → Bool) (f : Row → List Row) (rows : List PlacedRow) → AllAt P rows → AllAt P (change_placed p f rows)
unfolding AllAt
change_at P p f [] h = h
change_at P p f (x ∷ rows) h = go (p x.row) (change_at P p f rows h.1)
  where
    go : (b : Bool) → AllAt P (change_placed p f rows) → AllAt P (cond b (map (λ r. record { place = x.place; row = r }) (f x.row) ++ rows) (x ∷ change_placed p f rows))
    go true r = placed_at P x.place (f x.row) rows h.0 h.1
    go false r = (h.0, r)

returned_at : (P : ℕ → Type 0) (p : SessionId → ℕ → Bool) (rows : List PlacedRow) → AllAt P rows → AllAt P (returned_rows p rows)
unfolding AllAt
returned_at P p [] h = h
returned_at P p (x ∷ rows) h = (h.0, returned_at P p rows h.1)

push_at : (P : ℕ → Type 0) (n : ℕ) (r : Row) (rows : List PlacedRow) → P n → AllAt P rows → AllAt P (rows ++ record { place = n; row = r } ∷ [])
unfolding AllAt
push_at P n r [] l h = (l, tt)
push_at P n r (x ∷ rows) l h = (h.0, push_at P n r rows l h.1)

other_at : (P Q : ℕ → Type 0) → ((p : ℕ) → P p → Q p) → (rows : List PlacedRow) → AllAt P rows → AllAt Q rows
unfolding AllAt
other_at P Q f [] h = h
other_at P Q f (x ∷ rows) h = (f x.place h.0, other_at P Q f rows h.1)

found_at : (P : ℕ → Type 0) (place : ℕ) (rows : List PlacedRow) → AllAt P rows → IsSome (row_at place rows) → P place
unfolding AllAt
found_at P place [] h s = cc
found_at P place (x ∷ rows) h s = go (x.place == place) refl s (λ t. found_at P place rows h.1 t)
  where
    go : (b : Bool) → (x.place == place) ≡ b → IsSome (cond b (Some x.row) (row_at place rows)) → (IsSome (row_at place rows) → P place) → P place
    go true e s r = let same : x.place ≡ place = grind (arith, nat_tests) in subst P same h.0
    go false e s r = r s

-- ---- stations

EachAt : (ℕ → Type 0) → List Station → Type 0
EachAt P [] = Unit {0}
EachAt P (x ∷ xs) = AllAt P x.rows × EachAt P xs

each_filter : (P : ℕ → Type 0) (p : Station → Bool) (xs : List Station) → EachAt P xs → EachAt P (filter p xs)
unfolding EachAt
each_filter P p [] h = h
each_filter P p (x ∷ xs) h = go (p x) (each_filter P p xs h.1)
  where
    go : (b : Bool) → EachAt P (filter p xs) → EachAt P (cond b (x ∷ filter p xs) (filter p xs))
    go true r = (h.0, r)
    go false r = r

each_put : (P : ℕ → Type 0) (k : Key) (d : Definition) (xs : List Station) → EachAt P xs → EachAt P (xs ++ record { key = k; definition = d; missed = 0; rows = [] } ∷ [])
unfolding EachAt AllAt
each_put P k d [] h = (tt, tt)
each_put P k d (x ∷ xs) h = (h.0, each_put P k d xs h.1)

abbrev Keeps : (ℕ → Type 0) → (List PlacedRow → List PlacedRow) → Type 0
Keeps P f = (rows : List PlacedRow) → AllAt P rows → AllAt P (f rows)

each_at : (P : ℕ → Type 0) (f : List PlacedRow → List PlacedRow) → Keeps P f → (k : Key) (xs : List Station) → EachAt P xs → EachAt P (at_key k (with_rows f) xs)
unfolding EachAt
each_at P f g k [] h = h
each_at P f g k (x ∷ xs) h = go (key_eq x.key k) (each_at P f g k xs h.1)
  where
    go : (b : Bool) → EachAt P (at_key k (with_rows f) xs) → EachAt P (cond b (with_rows f x ∷ xs) (x ∷ at_key k (with_rows f) xs))
    go true r = (g x.rows h.0, h.1)
    go false r = (h.0, r)

each_map : (P : ℕ → Type 0) (f : List PlacedRow → List PlacedRow) → Keeps P f → (xs : List Station) → EachAt P xs → EachAt P (map (with_rows f) xs)
unfolding EachAt
each_map P f g [] h = h
each_map P f g (x ∷ xs) h = (g x.rows h.0, each_map P f g xs h.1)

each_found : (P : ℕ → Type 0) (key : Key) (xs : List Station) → EachAt P xs → AllAt P (placed_rows (station_of key xs))
unfolding EachAt AllAt
each_found P key [] h = tt
each_found P key (x ∷ xs) h = go (key_eq x.key key) (each_found P key xs h.1)
  where
    go : (b : Bool) → AllAt P (placed_rows (station_of key xs)) → AllAt P (placed_rows (cond b (Some x) (station_of key xs)))
    go true r = h.0
    go false r = r

-- ---- where what was published went

-- a place below the next one, at which a message went to a topic, or to that queue
abbrev OfTopic : (ℕ → Destination) → ℕ → ℕ → Type 0
OfTopic d n p = (p < n) × (is_of_topic (d p) ≡ true)

abbrev OfThis : (ℕ → Destination) → ℕ → List ℕ → ℕ → Type 0
OfThis d n name p = (p < n) × (d p ≡ Queue name)

record Sorted (d : ℕ → Destination) (state : State) : Type 0 where
  stations : EachAt (OfTopic d state.next_place) state.stations
  queues : (name : List ℕ) → AllAt (OfThis d state.next_place name) (state.queues name)

-- one publication more
abbrev went : (ℕ → Destination) → ℕ → Destination → ℕ → Destination
went d n new p = cond (n == p) new (d p)

went_before : (d : ℕ → Destination) (n : ℕ) (new : Destination) (p : ℕ) → p < n → d p ≡ went d n new p
went_before d n new p l = let other : (n == p) ≡ false = grind (arith, nat_tests) in sym (ap (λ b. cond b new (d p)) other)

went_here : (d : ℕ → Destination) (n : ℕ) (new : Destination) → went d n new n ≡ new
went_here d n new = let same : (n == n) ≡ true = grind (arith, nat_tests) in ap (λ b. cond b new (d n)) same

topic_on : (d : ℕ → Destination) (n : ℕ) (new : Destination) (p : ℕ) → OfTopic d n p → OfTopic (went d n new) (n + 1) p
topic_on d n new p h = let l = h.0 in (omega (arith, l), ap is_of_topic (sym (went_before d n new p h.0)) ∙ h.1)

this_on : (d : ℕ → Destination) (n : ℕ) (new : Destination) (name : List ℕ) (p : ℕ) → OfThis d n name p → OfThis (went d n new) (n + 1) name p
this_on d n new name p h = let l = h.0 in (omega (arith, l), sym (went_before d n new p h.0) ∙ h.1)

-- ---- publications

to_topic : (topic : List ℕ) (new : Destination) → is_to topic new ≡ true → is_of_topic new ≡ true
to_topic topic (Queue name) e = cc
to_topic topic (Topic name) e = refl

first_of : (a b : Bool) → (a && b) ≡ true → a ≡ true
first_of true b e = refl
first_of false b e = cc

accepted_topic : (key : Key) (definition : Definition) (p : Publisher) (m : Content) → accepts key definition p m ≡ true → is_of_topic m.destination ≡ true
unfolding accepts
accepted_topic key definition p m e = to_topic definition.topic m.destination (first_of _ _ e)

offered_at : (d : ℕ → Destination) (limit : ℕ) (p : Publisher) (m : Content) (n : ℕ) (x : Station) → AllAt (OfTopic d n) x.rows → AllAt (OfTopic (went d n m.destination) (n + 1)) (offered limit p m n x).rows
offered_at d limit p m n x h = go (accepts x.key x.definition p m) refl
  where
    on : AllAt (OfTopic (went d n m.destination) (n + 1)) x.rows
    on = other_at (OfTopic d n) (OfTopic (went d n m.destination) (n + 1)) (topic_on d n m.destination) x.rows h

    full : is_of_topic m.destination ≡ true → (b : Bool) → AllAt (OfTopic (went d n m.destination) (n + 1)) (cond b (record { key = x.key; definition = x.definition; missed = one_missed x.missed; rows = x.rows }) (with_rows (λ rows. rows ++ record { place = n; row = fresh m } ∷ []) x)).rows
    full e true = on
    full e false = push_at (OfTopic (went d n m.destination) (n + 1)) n (fresh m) x.rows (omega arith, ap is_of_topic (went_here d n m.destination) ∙ e) on

    go : (b : Bool) → accepts x.key x.definition p m ≡ b → AllAt (OfTopic (went d n m.destination) (n + 1)) (cond b (brought limit m n x) x).rows
    go true e = full (accepted_topic x.key x.definition p m e) (is_full limit x.key (length x.rows))
    go false e = on

each_offered : (d : ℕ → Destination) (limit : ℕ) (p : Publisher) (m : Content) (n : ℕ) (xs : List Station) → EachAt (OfTopic d n) xs → EachAt (OfTopic (went d n m.destination) (n + 1)) (map (offered limit p m n) xs)
unfolding EachAt
each_offered d limit p m n [] h = h
each_offered d limit p m n (x ∷ xs) h = (offered_at d limit p m n x h.0, each_offered d limit p m n xs h.1)

queued_at : (d : ℕ → Destination) (n : ℕ) (new : Destination) (m : Content) (queues : List ℕ → List PlacedRow) → ((name : List ℕ) → AllAt (OfThis d n name) (queues name)) → (name : List ℕ) → AllAt (OfThis (went d n new) (n + 1) name) (queued new m n queues name)
queued_at d n (Topic topic) m queues h name = other_at _ _ (this_on d n (Topic topic) name) (queues name) (h name)
queued_at d n (Queue other) m queues h name = go (text_eq other name) refl
  where
    on : AllAt (OfThis (went d n (Queue other)) (n + 1) name) (queues name)
    on = other_at _ _ (this_on d n (Queue other) name) (queues name) (h name)

    go : (b : Bool) → text_eq other name ≡ b → AllAt (OfThis (went d n (Queue other)) (n + 1) name) (cond b (queues name ++ record { place = n; row = fresh m } ∷ []) (queues name))
    go true e = push_at (OfThis (went d n (Queue other)) (n + 1) name) n (fresh m) (queues name) (omega arith, went_here d n (Queue other) ∙ ap (λ t. Queue t) (text_same other name e)) on
    go false e = on

abbrev IsSorted : State → Type 0
IsSorted state = (d : ℕ → Destination) × Sorted d state

sorted_published : (state : State) (ms : List Content) → IsSorted state → IsSorted (published state ms)
unfolding published
sorted_published state [] h = h
sorted_published state (m ∷ ms) h = sorted_published (with_message state m) ms (
  went h.0 state.next_place m.destination,
  record {
    stations = each_offered h.0 state.limit (publisher_of state.life m) m state.next_place state.stations h.1.stations;
    queues = queued_at h.0 state.next_place m.destination m state.queues h.1.queues;
  },
)

-- ---- requests

queues_at : (P : List ℕ → ℕ → Type 0) (f : List PlacedRow → List PlacedRow) → ((Q : ℕ → Type 0) → Keeps Q f) → (name : List ℕ) (queues : List ℕ → List PlacedRow) → ((other : List ℕ) → AllAt (P other) (queues other)) → (other : List ℕ) → AllAt (P other) (at_queue name f queues other)
queues_at P f g name queues h other = go (text_eq name other)
  where
    go : (b : Bool) → AllAt (P other) (cond b (f (queues other)) (queues other))
    go true = g (P other) (queues other) (h other)
    go false = h other

queues_of : (P : List ℕ → ℕ → Type 0) (f : List PlacedRow → List PlacedRow) → ((Q : ℕ → Type 0) → Keeps Q f) → (k : Key) (queues : List ℕ → List PlacedRow) → ((other : List ℕ) → AllAt (P other) (queues other)) → (other : List ℕ) → AllAt (P other) (at_queue_of k f queues other)
queues_of P f g (OfQueue name) queues h other = queues_at P f g name queues h other
queues_of P f g (Own s c) queues h other = h other
queues_of P f g (SharedOwn client name) queues h other = h other
queues_of P f g (Durable client name) queues h other = h other

placed_kept : (now : ℕ) (f : Row → List Row) (P : ℕ → Type 0) → Keeps P (deliver_placed now f)
placed_kept now f P rows h = change_at P _ f (live_placed now rows) (filter_at P _ rows h)

chosen_kept : (now : ℕ) (p : Content → Bool) (f : Row → List Row) (P : ℕ → Type 0) → Keeps P (deliver_chosen p now f)
chosen_kept now p f P rows h = change_at P _ f (live_placed now rows) (filter_at P _ rows h)

sorted_received : (p : Content → Bool) (f : Row → List Row) (now : ℕ) (k : Option Key) (state : State) → IsSorted state → IsSorted (receive p f now k state)
sorted_received p f now None state h = h
sorted_received p f now (Some k) state h = (
  h.0,
  record {
    stations = each_at (OfTopic h.0 state.next_place) (deliver_placed now f) (placed_kept now f (OfTopic h.0 state.next_place)) k state.stations h.1.stations;
    queues = queues_of (OfThis h.0 state.next_place) (deliver_chosen p now f) (chosen_kept now p f) k state.queues h.1.queues;
  },
)

sorted_settled : (p : SessionId → ℕ → Bool) (state : State) → IsSorted state → IsSorted (settled p state)
sorted_settled p state h = (
  h.0,
  record {
    stations = each_map (OfTopic h.0 state.next_place) (settled_rows p) (filter_at (OfTopic h.0 state.next_place) _) state.stations h.1.stations;
    queues = λ name. filter_at (OfThis h.0 state.next_place name) _ (state.queues name) (h.1.queues name);
  },
)

sorted_given : (p : SessionId → ℕ → Bool) (state : State) → IsSorted state → IsSorted (returned p state)
sorted_given p state h = (
  h.0,
  record {
    stations = each_map (OfTopic h.0 state.next_place) (returned_rows p) (returned_at (OfTopic h.0 state.next_place) p) state.stations h.1.stations;
    queues = λ name. returned_at (OfThis h.0 state.next_place name) p (state.queues name) (h.1.queues name);
  },
)

-- what is settled or given back under one key
done_kept : (s : SessionId) (c : ℕ) (ok : Bool) (P : ℕ → Type 0) → Keeps P (done_rows s c ok)
done_kept s c true P rows h = filter_at P _ rows h
done_kept s c false P rows h = returned_at P (of_number s c) rows h

sorted_done : (s : SessionId) (c : ℕ) (ok : Bool) (k : Option Key) (state : State) → IsSorted state → IsSorted (with_done s c ok k state)
sorted_done s c ok None state h = h
sorted_done s c ok (Some k) state h = (
  h.0,
  record {
    stations = each_at (OfTopic h.0 state.next_place) (done_rows s c ok) (done_kept s c ok (OfTopic h.0 state.next_place)) k state.stations h.1.stations;
    queues = queues_of (OfThis h.0 state.next_place) (done_rows s c ok) (done_kept s c ok) k state.queues h.1.queues;
  },
)

sorted_consumers : (consumers : List Consumer) (state : State) → IsSorted state → IsSorted (record state { consumers = consumers })
sorted_consumers consumers state h = (h.0, record { stations = h.1.stations; queues = h.1.queues })

sorted_closed : (p : SessionId → ℕ → Bool) (state : State) → IsSorted state → IsSorted (closed p state)
sorted_closed p state h = (h.0, record { stations = each_filter (OfTopic h.0 state.next_place) _ state.stations h.1.stations; queues = h.1.queues })

sorted_life : (who : Who) (request : Request) (state : State) → IsSorted state → IsSorted (with_life who request state)
sorted_life who request state h = (h.0, record { stations = h.1.stations; queues = h.1.queues })

sorted_put : (k : Key) (d : Definition) (state : State) → IsSorted state → IsSorted (put k d state)
sorted_put k d state h = (h.0, record { stations = each_put (OfTopic h.0 state.next_place) k d (without k state.stations) (each_filter (OfTopic h.0 state.next_place) _ state.stations h.1.stations); queues = h.1.queues })

sorted_joined : (s : SessionId) (c : ℕ) (k : Key) (selector : Option (List ℕ)) (state : State) → IsSorted state → IsSorted (joined s c k selector state)
sorted_joined s c k selector state h = (h.0, record { stations = h.1.stations; queues = h.1.queues })

sorted_made : (s : SessionId) (c : ℕ) (destination : Destination) (selector : Option (List ℕ)) (no_local : Bool) (state : State) → IsSorted state → IsSorted (made s c destination selector no_local state)
sorted_made s c (Queue name) selector no_local state h = sorted_joined s c (OfQueue name) _ state h
sorted_made s c (Topic name) selector no_local state h = sorted_joined s c (Own s c) None (put (Own s c) (defined name selector no_local false) state) (sorted_put (Own s c) (defined name selector no_local false) state h)

sorted_if : (b : Bool) (x y : State) → IsSorted x → IsSorted y → IsSorted (cond b x y)
sorted_if true x y p q = p
sorted_if false x y p q = q

sorted_subscribed : (s : SessionId) (c : ℕ) (k : Key) (d : Definition) (state : State) → IsSorted state → IsSorted (subscribed s c k d state)
sorted_subscribed s c k d state h = sorted_joined s c k None _ (sorted_if (is_same (definition_of (station_of k state.stations)) d) state (put k d state) h (sorted_put k d state h))

sorted_moved : (o : Option Refusal) (x y : State) → IsSorted x → IsSorted y → IsSorted (moved o x y)
sorted_moved None x y p q = p
sorted_moved (Some r) x y p q = q

sorted_after : (state : State) (who : Who) (request : Request) → IsSorted state → IsSorted (after state who request)
unfolding after
sorted_after state (Connection c) CloseConnection h = sorted_closed (of_connection c) (returned (of_connection c) (with_life (Connection c) CloseConnection state)) (sorted_given (of_connection c) (with_life (Connection c) CloseConnection state) (sorted_life (Connection c) CloseConnection state h))
sorted_after state (Connection c) request h = sorted_life (Connection c) request state h
sorted_after state (Session s) (CreateSession mode) h = sorted_life (Session s) (CreateSession mode) state h
sorted_after state (Session s) CloseSession h = sorted_closed (of_session s) (returned (of_session s) (with_life (Session s) CloseSession state)) (sorted_given (of_session s) (with_life (Session s) CloseSession state) (sorted_life (Session s) CloseSession state h))
sorted_after state (Session s) (CreateConsumer c destination selector no_local) h = sorted_made s c destination selector no_local state h
sorted_after state (Session s) (CreateDurable c destination name selector no_local) h = sorted_subscribed s c (durable_of (client_of state.life) s name) (asked destination selector no_local false) state h
sorted_after state (Session s) (CreateShared c destination name selector) h = sorted_subscribed s c (shared_of (client_of state.life) s name) (asked destination selector false true) state h
sorted_after state (Session s) (CreateSharedDurable c destination name selector) h = sorted_subscribed s c (durable_of (client_of state.life) s name) (asked destination selector false true) state h
sorted_after state (Session s) (Unsubscribe name) h = (h.0, record { stations = each_filter (OfTopic h.0 state.next_place) _ state.stations h.1.stations; queues = h.1.queues })
sorted_after state (Session s) (Receive c now) h =
    sorted_if (is_started state.life s.connection) (receive (selected_by (consumer_of state.consumers s c)) (left_of (mode_of state.life s) s c) now (key_at (consumer_of state.consumers s c)) state) state
    (sorted_received (selected_by (consumer_of state.consumers s c)) (left_of (mode_of state.life s) s c) now (key_at (consumer_of state.consumers s c)) state h) h
sorted_after state (Session s) (CloseConsumer c) h = sorted_closed (of_number s c) state h
sorted_after state (Session s) Acknowledge h = sorted_if (is_client (mode_of state.life s)) (settled (of_session s) state) state (sorted_settled (of_session s) state h) h
sorted_after state (Session s) Recover h = sorted_given (of_session s) state h
sorted_after state (Session s) Rollback h = sorted_given (of_session s) state h
sorted_after state (Session s) (SetListener c on) h = sorted_consumers (set_listening s c on state.consumers) state h
sorted_after state (Session s) (Take c now) h =
    let p : Content → Bool = selected_by (consumer_of state.consumers s c) in
    let k : Option Key = key_at (consumer_of state.consumers s c) in
    sorted_if (is_started state.life s.connection) (take p s c now k state) state
    (sorted_consumers (set_busy s c (is_coming now (holding_at p k state).rows) state.consumers) (receive p (taken s c) now k state) (sorted_received p (taken s c) now k state h)) h
sorted_after state (Session s) (DoneWith c ok) h =
    let free : State = record state { consumers = set_busy s c false state.consumers } in
    let still : IsSorted free = sorted_consumers (set_busy s c false state.consumers) state h in
    sorted_if (settles_at_once (mode_of state.life s)) (with_done s c ok (key_at (consumer_of state.consumers s c)) free) free (sorted_done s c ok (key_at (consumer_of state.consumers s c)) free still) still
sorted_after state (Session s) _ h = h

sorted_committed : (state : State) (who : Who) (ms : List Content) → IsSorted state → IsSorted (after_commit state who ms)
unfolding after_commit
sorted_committed state (Connection c) ms h = h
sorted_committed state (Session s) ms h = sorted_published (settled (of_session s) state) ms (sorted_settled (of_session s) state h)

sorted_step : (state : State) (who : Who) (call : Call) → IsSorted state → IsSorted (step state who call)
unfolding step
sorted_step state who (Ask request) h = sorted_moved (refusal state.life state.consumers (held state who request) who request) (after state who request) state (sorted_after state who request h) h
sorted_step state who (Publish messages) h = sorted_moved (publish_refusal state who messages) (published state messages) state (sorted_published state messages h) h
sorted_step state who (Commit messages) h = sorted_moved (commit_refusal state who messages) (after_commit state who messages) state (sorted_committed state who messages h) h

-- ---- what was stored

-- where the message of a place went, if there is one
abbrev went_to : Option Content → Destination
went_to None = Queue []
went_to (Some m) = m.destination

topic_rows : (messages : ℕ → Option Content) (n : ℕ) (d : Definition) (rows : List PlacedRow) → InOrder n rows → HoldMessages messages rows → AllAccepted d rows → AllAt (OfTopic (λ p. went_to (messages p)) n) rows
unfolding AllAt
topic_rows messages n d [] o h a = tt
topic_rows messages n d (x ∷ rows) o h a = ((o.0, ap (λ t. is_of_topic (went_to t)) h.0 ∙ to_topic d.topic x.row.message.destination a.0.0), topic_rows messages n d rows o.2 h.1 a.1)

topic_stations : (messages : ℕ → Option Content) (n : ℕ) (stations : List Station) → AllInOrder n stations → AreDurable messages stations → HoldsAccepted stations → EachAt (OfTopic (λ p. went_to (messages p)) n) stations
unfolding EachAt
topic_stations messages n [] o d a = tt
topic_stations messages n (x ∷ stations) o d a = (topic_rows messages n x.definition x.rows o.0 d.3 a.0, topic_stations messages n stations o.1 d.4 a.1)

queue_rows : (messages : ℕ → Option Content) (n : ℕ) (name : List ℕ) (rows : List PlacedRow) → InOrder n rows → AreSentTo name rows → HoldMessages messages rows → AllAt (OfThis (λ p. went_to (messages p)) n name) rows
unfolding AllAt
queue_rows messages n name [] o s h = tt
queue_rows messages n name (x ∷ rows) o s h = ((o.0, ap (λ t. went_to t) h.0 ∙ s.0), queue_rows messages n name rows o.2 s.1 h.1)

reached_sorted : (state : State) → Reached state → IsSorted state
unfolding AllAt EachAt
reached_sorted state (New opening limit) = ((λ p. Queue []), record { stations = tt; queues = λ name. tt })
reached_sorted state (Reopened opening limit stations queues next_place h) = (
  (λ p. went_to (h.messages p)),
  record {
    stations = topic_stations h.messages next_place stations h.ordered h.durable h.accepted;
    queues = λ name. queue_rows h.messages next_place name (queues name) (h.queued name) (h.sent name) (h.held name);
  },
)
reached_sorted state (Stepped before who call r) = sorted_step before who call (reached_sorted before r)

-- ---- so queues are apart

-- to what a key's messages went
abbrev Fits : (ℕ → Destination) → ℕ → Key → ℕ → Type 0
Fits d n (OfQueue name) p = d p ≡ Queue name
Fits d n (Own s c) p = is_of_topic (d p) ≡ true
Fits d n (SharedOwn client name) p = is_of_topic (d p) ≡ true
Fits d n (Durable client name) p = is_of_topic (d p) ≡ true

fits_at : (state : State) (h : IsSorted state) (key : Key) (place : ℕ) → IsSome (row_at place (placed_under state key)) → Fits h.0 state.next_place key place
fits_at state h (OfQueue name) place s = (found_at (OfThis h.0 state.next_place name) place (state.queues name) (h.1.queues name) s).1
fits_at state h (Own t c) place s = (found_at (OfTopic h.0 state.next_place) place (placed_rows (station_of (Own t c) state.stations)) (each_found _ (Own t c) state.stations h.1.stations) s).1
fits_at state h (SharedOwn client name) place s = (found_at (OfTopic h.0 state.next_place) place (placed_rows (station_of (SharedOwn client name) state.stations)) (each_found _ (SharedOwn client name) state.stations h.1.stations) s).1
fits_at state h (Durable client name) place s = (found_at (OfTopic h.0 state.next_place) place (placed_rows (station_of (Durable client name) state.stations)) (each_found _ (Durable client name) state.stations h.1.stations) s).1

no_topic : (d : Destination) (name : List ℕ) → d ≡ Queue name → is_of_topic d ≡ true → ⊥
no_topic d name e t = let f : is_of_topic (Queue name) ≡ true = ap is_of_topic (sym e) ∙ t in cc

one_queue : (a b : List ℕ) → Queue a ≡ Queue b → a ≡ b
one_queue a b e = cc

pub queues_apart : QueuesApart
queues_apart state r name (OfQueue other) place s t =
    let h = reached_sorted state r in
    ap (λ n. OfQueue n) (one_queue other name (sym (fits_at state h (OfQueue other) place t) ∙ fits_at state h (OfQueue name) place s))
queues_apart state r name (Own u c) place s t = let h = reached_sorted state r in absurd (no_topic (h.0 place) name (fits_at state h (OfQueue name) place s) (fits_at state h (Own u c) place t))
queues_apart state r name (SharedOwn client n) place s t = let h = reached_sorted state r in absurd (no_topic (h.0 place) name (fits_at state h (OfQueue name) place s) (fits_at state h (SharedOwn client n) place t))
queues_apart state r name (Durable client n) place s t = let h = reached_sorted state r in absurd (no_topic (h.0 place) name (fits_at state h (OfQueue name) place s) (fits_at state h (Durable client n) place t))
