-- In every state that the provider reaches a consumer's own subscription is there only once the consumer was made.
use Rattle.std.proofs.Common.{◌≡◌, ℕ, Bool, true, false, cond, List, [], ◌∷◌, ◌++◌, refl, ap, sym, ◌∙◌, Option, Some, None}
use Rattle.std.specs.Prelude.{filter, map, not, is_some, ◌&&◌, ◌==◌}
use Rattle.jm_base.specs.declared.refusal.Refusal.{Refusal}
use Rattle.jm_dest.specs.declared.session.SessionId.{SessionId}
use Rattle.jm_dest.specs.declared.destination.Destination.TheVariants.{Queue, Topic}
use Rattle.jm_dest.specs.declared.key.Key.{Key}
use Rattle.jm_dest.specs.declared.key.Key.TheVariants.{Own, SharedOwn, Durable, Queue as OfQueue}
use Rattle.jm_dest.specs.Names.{session_eq}
use Rattle.jm_dest.specs.Keys.{key_eq}
use Rattle.jm_header.specs.declared.content.Content.{Content}
use Rattle.jm_machine.specs.declared.call.Who.{Who}
use Rattle.jm_machine.specs.declared.call.Who.TheVariants.{Connection, Session}
use Rattle.jm_machine.specs.declared.call.Request.{Request}
use Rattle.jm_machine.specs.declared.call.Request.TheVariants.{CloseConnection, CloseSession, CreateConsumer, CreateDurable, CreateShared, CreateSharedDurable, Unsubscribe, CloseConsumer, Receive, Acknowledge, Recover, Rollback, SetListener, Take, Done as DoneWith}
use Rattle.jm_machine.specs.declared.call.Call.{Call}
use Rattle.jm_machine.specs.declared.call.Call.TheVariants.{Ask, Publish, Commit}
use Rattle.jm_machine.specs.declared.state.Consumer.{Consumer}
use Rattle.jm_machine.specs.declared.state.Definition.{Definition}
use Rattle.jm_machine.specs.declared.state.PlacedRow.{PlacedRow}
use Rattle.jm_machine.specs.declared.state.Row.{Row}
use Rattle.jm_machine.specs.declared.state.Station.{Station}
use Rattle.jm_machine.specs.Life.{client_of, is_started, mode_of}
use Rattle.jm_machine.specs.Rows.{left_of, taken, settles_at_once, deliver_placed}
use Rattle.jm_machine.specs.Machine.{State, publisher_of, offered, with_message, published, with_rows, at_key, station_of, definition_of, has_number, consumer_of, key_at, selected_by, new_consumer, standing_as, defined, durable_of, shared_of, asked, is_same, put, joined, subscribed, of_session, of_connection, of_number, settled_rows, returned_rows, settled, returned, closed_consumer, ends, closed, with_life, is_client, receive, listening_if, busy_if, set_busy, is_coming, take, done_rows, with_done, rows_under, held, refusal, publish_refusal, commit_refusal, after, after_commit, moved, step}
use Rattle.jm_machine.specs.Reopened.{AreDurable, is_durable}
use Rattle.jm_machine.specs.Isolation.{Reached}
use Rattle.jm_machine.specs.Isolation.Reached.{New, Reopened, Stepped}
use Rattle.jm_machine.proofs.Keys.{key_same}
use Rattle.jm_machine.proofs.Marks.{KeepsName, closed_keeps, listening_keeps, busy_keeps}
use Rattle.jm_law.proofs.Stations.{mapped, station_of-map, station_of-at, station_of_other-at, other-put, station-ended}
use Rattle.jm_law.proofs.OneConsumer.{offered_parts}

-- while no consumer of the number was made, it has no subscription
abbrev Founded : SessionId → ℕ → State → Type 0
Founded s c state = is_some (consumer_of state.consumers s c) ≡ false → station_of (Own s c) state.stations ≡ None

-- ---- consumers

made_map : (f : Consumer → Consumer) → KeepsName f → (s : SessionId) (c : ℕ) (xs : List Consumer) → is_some (consumer_of (map f xs) s c) ≡ is_some (consumer_of xs s c)
made_map f k s c [] = refl
made_map f k s c (x ∷ xs) = found (has_number s c (f x)) (has_number s c x) same (made_map f k s c xs)
  where
    same : has_number s c (f x) ≡ has_number s c x
    same = ap (λ (t : SessionId). session_eq t s && ((f x).id == c)) (k.session x) ∙ ap (λ (n : ℕ). session_eq x.session s && (n == c)) (k.id x)

    found : (a b : Bool) → a ≡ b → is_some (consumer_of (map f xs) s c) ≡ is_some (consumer_of xs s c) → is_some (cond a (Some (f x)) (consumer_of (map f xs) s c)) ≡ is_some (cond b (Some x) (consumer_of xs s c))
    found true true e r = refl
    found true false e r = cc
    found false true e r = cc
    found false false e r = r

made_closed : (p : SessionId → ℕ → Bool) (s : SessionId) (c : ℕ) (xs : List Consumer) → is_some (consumer_of (map (closed_consumer p) xs) s c) ≡ is_some (consumer_of xs s c)
made_closed p s c xs = made_map (closed_consumer p) (closed_keeps p) s c xs

-- a number that no consumer has once one more joins, none had before, and that one has it not
made_before : (s : SessionId) (c : ℕ) (y : Consumer) (xs : List Consumer) → is_some (consumer_of (xs ++ y ∷ []) s c) ≡ false → (is_some (consumer_of xs s c) ≡ false) × (has_number s c y ≡ false)
made_before s c y [] h = go (has_number s c y) h
  where
    go : (b : Bool) → is_some (cond b (Some y) None) ≡ false → (false ≡ false) × (b ≡ false)
    go true h = cc
    go false h = (refl, refl)
made_before s c y (x ∷ xs) h = go (has_number s c x) h (made_before s c y xs)
  where
    go : (b : Bool) → is_some (cond b (Some x) (consumer_of (xs ++ y ∷ []) s c)) ≡ false → (is_some (consumer_of (xs ++ y ∷ []) s c) ≡ false → (is_some (consumer_of xs s c) ≡ false) × (has_number s c y ≡ false)) →
        (is_some (cond b (Some x) (consumer_of xs s c)) ≡ false) × (has_number s c y ≡ false)
    go true h r = cc
    go false h r = r h

-- ---- subscriptions

none_at : (k l : Key) (f : List PlacedRow → List PlacedRow) (xs : List Station) → station_of k xs ≡ None → station_of k (at_key l (with_rows f) xs) ≡ None
none_at k l f xs h = go (key_eq l k) refl
  where
    go : (b : Bool) → key_eq l k ≡ b → station_of k (at_key l (with_rows f) xs) ≡ None
    go true e = ap (λ (y : Key). station_of k (at_key y (with_rows f) xs)) (key_same l k e) ∙ station_of-at k (with_rows f) (λ x. refl) xs ∙ ap (mapped (with_rows f)) h
    go false e = station_of_other-at k l (with_rows f) (λ x. refl) e xs ∙ h

none_each : (k : Key) (f : List PlacedRow → List PlacedRow) (xs : List Station) → station_of k xs ≡ None → station_of k (map (with_rows f) xs) ≡ None
none_each k f xs h = station_of-map k (with_rows f) (λ x. refl) xs ∙ ap (mapped (with_rows f)) h

none_without : (k l : Key) (xs : List Station) → station_of k xs ≡ None → station_of k (filter (λ x. not (key_eq x.key l)) xs) ≡ None
none_without k l xs h = station-ended k (λ y. key_eq y l) xs ∙ go (key_eq k l)
  where
    go : (b : Bool) → cond b None (station_of k xs) ≡ None
    go true = refl
    go false = h

-- ---- states

founded_closed : (s : SessionId) (c : ℕ) (p : SessionId → ℕ → Bool) (state : State) → Founded s c state → Founded s c (closed p state)
founded_closed s c p state h = λ m. station-ended (Own s c) (ends p state.consumers) state.stations ∙ go (ends p state.consumers (Own s c)) (h (sym (made_closed p s c state.consumers) ∙ m))
  where
    go : (b : Bool) → station_of (Own s c) state.stations ≡ None → cond b None (station_of (Own s c) state.stations) ≡ None
    go true i = refl
    go false i = i

founded_returned : (s : SessionId) (c : ℕ) (p : SessionId → ℕ → Bool) (state : State) → Founded s c state → Founded s c (returned p state)
founded_returned s c p state h = λ m. none_each (Own s c) (returned_rows p) state.stations (h m)

founded_settled : (s : SessionId) (c : ℕ) (p : SessionId → ℕ → Bool) (state : State) → Founded s c state → Founded s c (settled p state)
founded_settled s c p state h = λ m. none_each (Own s c) (settled_rows p) state.stations (h m)

founded_published : (s : SessionId) (c : ℕ) (state : State) (ms : List Content) → Founded s c state → Founded s c (published state ms)
unfolding published
founded_published s c state [] h = h
founded_published s c state (m ∷ ms) h =
    founded_published s c (with_message state m) ms
    (λ n. station_of-map (Own s c) (offered state.limit (publisher_of state.life m) m state.next_place) (λ x. (offered_parts state.limit (publisher_of state.life m) m state.next_place x).0) state.stations
    ∙ ap (mapped (offered state.limit (publisher_of state.life m) m state.next_place)) (h n))

founded_received : (s : SessionId) (c : ℕ) (p : Content → Bool) (f : Row → List Row) (now : ℕ) (o : Option Key) (state : State) → Founded s c state → Founded s c (receive p f now o state)
founded_received s c p f now None state h = h
founded_received s c p f now (Some l) state h = λ m. none_at (Own s c) l (deliver_placed now f) state.stations (h m)

founded_marked : (s : SessionId) (c : ℕ) (f : Consumer → Consumer) → KeepsName f → (state : State) → Founded s c state → Founded s c (record state { consumers = map f state.consumers })
founded_marked s c f k state h = λ m. h (sym (made_map f k s c state.consumers) ∙ m)

founded_taken : (s : SessionId) (c : ℕ) (p : Content → Bool) (t : SessionId) (n now : ℕ) (o : Option Key) (state : State) → Founded s c state → Founded s c (take p t n now o state)
founded_taken s c p t n now None state h = founded_marked s c (busy_if t n false) (busy_keeps t n false) state h
founded_taken s c p t n now (Some l) state h =
    let coming : Bool = is_coming now (rows_under p l state) in
    λ m. none_at (Own s c) l (deliver_placed now (taken t n)) state.stations (h (sym (made_map (busy_if t n coming) (busy_keeps t n coming) s c state.consumers) ∙ m))

founded_done : (s : SessionId) (c : ℕ) (t : SessionId) (n : ℕ) (ok : Bool) (o : Option Key) (state : State) → Founded s c state → Founded s c (with_done t n ok o state)
founded_done s c t n ok None state h = h
founded_done s c t n ok (Some l) state h = λ m. none_at (Own s c) l (done_rows t n ok) state.stations (h m)

-- a subscription of another key is had
founded_subscribed : (s : SessionId) (c : ℕ) (t : SessionId) (n : ℕ) (l : Key) (d : Definition) (state : State) → key_eq l (Own s c) ≡ false → Founded s c state → Founded s c (subscribed t n l d state)
founded_subscribed s c t n l d state e h = go (is_same (definition_of (station_of l state.stations)) d)
  where
    go : (b : Bool) → Founded s c (joined t n l None (cond b state (put l d state)))
    go true = λ m. h (made_before s c (new_consumer t n l None) state.consumers m).0
    go false = λ m. other-put (Own s c) l d e state.stations ∙ h (made_before s c (new_consumer t n l None) state.consumers m).0

-- a consumer of a topic is made
founded_made : (s : SessionId) (c : ℕ) (t : SessionId) (n : ℕ) (d : Definition) (state : State) → Founded s c state → Founded s c (joined t n (Own t n) None (put (Own t n) d state))
founded_made s c t n d state h m =
    let i : (is_some (consumer_of state.consumers s c) ≡ false) × (has_number s c (new_consumer t n (Own t n) None) ≡ false) = made_before s c (new_consumer t n (Own t n) None) state.consumers m in
    other-put (Own s c) (Own t n) d i.1 state.stations ∙ h i.0

founded_if : (s : SessionId) (c : ℕ) (b : Bool) (x y : State) → Founded s c x → Founded s c y → Founded s c (cond b x y)
founded_if s c true x y p q = p
founded_if s c false x y p q = q

founded_after : (s : SessionId) (c : ℕ) (state : State) (who : Who) (request : Request) → Founded s c state → Founded s c (after state who request)
unfolding after
founded_after s c state (Connection n) CloseConnection h = founded_closed s c (of_connection n) (returned (of_connection n) (with_life (Connection n) CloseConnection state)) (founded_returned s c (of_connection n) (with_life (Connection n) CloseConnection state) h)
founded_after s c state (Connection n) request h = h
founded_after s c state (Session t) CloseSession h = founded_closed s c (of_session t) (returned (of_session t) (with_life (Session t) CloseSession state)) (founded_returned s c (of_session t) (with_life (Session t) CloseSession state) h)
founded_after s c state (Session t) (CreateConsumer n (Queue name) selector no_local) h = λ m. h (made_before s c (new_consumer t n (OfQueue name) (standing_as selector)) state.consumers m).0
founded_after s c state (Session t) (CreateConsumer n (Topic name) selector no_local) h = founded_made s c t n (defined name selector no_local false) state h
founded_after s c state (Session t) (CreateDurable n destination name selector no_local) h = founded_subscribed s c t n (durable_of (client_of state.life) t name) (asked destination selector no_local false) state refl h
founded_after s c state (Session t) (CreateShared n destination name selector) h = founded_subscribed s c t n (shared_of (client_of state.life) t name) (asked destination selector false true) state refl h
founded_after s c state (Session t) (CreateSharedDurable n destination name selector) h = founded_subscribed s c t n (durable_of (client_of state.life) t name) (asked destination selector false true) state refl h
founded_after s c state (Session t) (Unsubscribe name) h = λ m. none_without (Own s c) (durable_of (client_of state.life) t name) state.stations (h m)
founded_after s c state (Session t) (CloseConsumer n) h = founded_closed s c (of_number t n) state h
founded_after s c state (Session t) (Receive n now) h =
    founded_if s c (is_started state.life t.connection) (receive (selected_by (consumer_of state.consumers t n)) (left_of (mode_of state.life t) t n) now (key_at (consumer_of state.consumers t n)) state) state
    (founded_received s c (selected_by (consumer_of state.consumers t n)) (left_of (mode_of state.life t) t n) now (key_at (consumer_of state.consumers t n)) state h) h
founded_after s c state (Session t) Acknowledge h = founded_if s c (is_client (mode_of state.life t)) (settled (of_session t) state) state (founded_settled s c (of_session t) state h) h
founded_after s c state (Session t) Recover h = founded_returned s c (of_session t) state h
founded_after s c state (Session t) Rollback h = founded_returned s c (of_session t) state h
founded_after s c state (Session t) (SetListener n on) h = founded_marked s c (listening_if t n on) (listening_keeps t n on) state h
founded_after s c state (Session t) (Take n now) h =
    founded_if s c (is_started state.life t.connection) (take (selected_by (consumer_of state.consumers t n)) t n now (key_at (consumer_of state.consumers t n)) state) state
    (founded_taken s c (selected_by (consumer_of state.consumers t n)) t n now (key_at (consumer_of state.consumers t n)) state h) h
founded_after s c state (Session t) (DoneWith n ok) h =
    let free : State = record state { consumers = set_busy t n false state.consumers } in
    let marked : Founded s c free = founded_marked s c (busy_if t n false) (busy_keeps t n false) state h in
    founded_if s c (settles_at_once (mode_of state.life t)) (with_done t n ok (key_at (consumer_of state.consumers t n)) free) free (founded_done s c t n ok (key_at (consumer_of state.consumers t n)) free marked) marked
founded_after s c state (Session t) _ h = h

founded_moved : (s : SessionId) (c : ℕ) (o : Option Refusal) (x y : State) → Founded s c x → Founded s c y → Founded s c (moved o x y)
founded_moved s c None x y p q = p
founded_moved s c (Some r) x y p q = q

founded_committed : (s : SessionId) (c : ℕ) (state : State) (who : Who) (ms : List Content) → Founded s c state → Founded s c (after_commit state who ms)
unfolding after_commit
founded_committed s c state (Connection n) ms h = h
founded_committed s c state (Session t) ms h = founded_published s c (settled (of_session t) state) ms (founded_settled s c (of_session t) state h)

founded_step : (s : SessionId) (c : ℕ) (state : State) (who : Who) (call : Call) → Founded s c state → Founded s c (step state who call)
unfolding step
founded_step s c state who (Ask request) h = founded_moved s c (refusal state.life state.consumers (held state who request) who request) (after state who request) state (founded_after s c state who request h) h
founded_step s c state who (Publish messages) h = founded_moved s c (publish_refusal state who messages) (published state messages) state (founded_published s c state messages h) h
founded_step s c state who (Commit messages) h = founded_moved s c (commit_refusal state who messages) (after_commit state who messages) state (founded_committed s c state who messages h) h

no_own : (messages : ℕ → Option Content) (s : SessionId) (c : ℕ) (stations : List Station) → AreDurable messages stations → station_of (Own s c) stations ≡ None
no_own messages s c [] h = refl
no_own messages s c (x ∷ stations) h = ap (λ b. cond b (Some x) (station_of (Own s c) stations)) (other x.key h.0) ∙ no_own messages s c stations h.4
  where
    other : (key : Key) → is_durable key ≡ true → key_eq key (Own s c) ≡ false
    other (OfQueue name) e = cc
    other (Own t d) e = cc
    other (SharedOwn client name) e = cc
    other (Durable client name) e = refl

pub reached_founded : (s : SessionId) (c : ℕ) (state : State) → Reached state → is_some (consumer_of state.consumers s c) ≡ false → station_of (Own s c) state.stations ≡ None
reached_founded s c state (New opening limit) = λ m. refl
reached_founded s c state (Reopened opening limit stations queues next_place h) = λ m. no_own h.messages s c stations h.durable
reached_founded s c state (Stepped before who call r) = founded_step s c before who call (reached_founded s c before r)
