-- In every state that the provider reaches an unshared durable subscription has one active consumer at most.
use Rattle.std.proofs.Common.{◌≡◌, ℕ, ◌+◌, ◌≤◌, Bool, true, false, cond, List, [], ◌∷◌, ◌++◌, length, refl, ap, sym, subst, ◌∙◌, arith, Option, Some, None}
use Rattle.std.specs.Prelude.{filter, map, not, ◌&&◌, ◌||◌, is_some}
use Rattle.std.specs.List.{list_any}
use Rattle.jm_base.specs.declared.refusal.Refusal.{Refusal}
use Rattle.jm_base.specs.declared.refusal.Refusal.TheVariants.{IllegalState, InvalidDestination, SubscriptionInUse}
use Rattle.jm_dest.specs.declared.session.SessionId.{SessionId}
use Rattle.jm_dest.specs.declared.destination.Destination.{Destination}
use Rattle.jm_dest.specs.declared.destination.Destination.TheVariants.{Queue, Topic}
use Rattle.jm_dest.specs.declared.key.Key.{Key}
use Rattle.jm_dest.specs.declared.key.Key.TheVariants.{Own, Durable, Queue as OfQueue}
use Rattle.jm_dest.specs.Names.{text_eq}
use Rattle.jm_dest.specs.Keys.{key_eq}
use Rattle.jm_selector.specs.Selectors.{selector_refusal}
use Rattle.jm_header.specs.declared.content.Content.{Content}
use Rattle.jm_machine.specs.declared.call.Who.{Who}
use Rattle.jm_machine.specs.declared.call.Who.TheVariants.{Connection, Session}
use Rattle.jm_machine.specs.declared.call.Request.{Request}
use Rattle.jm_machine.specs.declared.call.Request.TheVariants.{CloseConnection, CloseSession, CreateConsumer, CreateDurable, CreateShared, CreateSharedDurable, Unsubscribe, CloseConsumer, Receive, Acknowledge, Recover, Rollback, SetListener, Take, Done as DoneWith}
use Rattle.jm_machine.specs.declared.call.Call.{Call}
use Rattle.jm_machine.specs.declared.call.Call.TheVariants.{Ask, Publish, Commit}
use Rattle.jm_machine.specs.declared.state.Consumer.{Consumer}
use Rattle.jm_machine.specs.declared.state.Definition.{Definition}
use Rattle.jm_machine.specs.declared.state.PlacedRow.{PlacedRow}
use Rattle.jm_machine.specs.declared.state.Row.{Row}
use Rattle.jm_machine.specs.declared.state.Station.{Station}
use Rattle.jm_machine.specs.Life.{client_of, is_started, mode_of}
use Rattle.jm_machine.specs.Rows.{fresh, left_of, taken, settles_at_once, deliver_placed}
use Rattle.jm_machine.specs.Attached.{is_at, active_at}
use Rattle.jm_machine.specs.Machine.{State, Publisher, publisher_of, accepts, is_full, one_missed, brought, offered, with_message, published, with_rows, at_key, station_of, definition_of, consumer_of, key_at, selected_by, new_consumer, standing_as, defined, durable_of, shared_of, asked, same_definition, is_same, is_same_kind, same_mark, is_idle, is_home, is_free, may_resume, put, joined, subscribed, deleted, of_session, of_connection, of_number, settled_rows, returned_rows, settled, returned, shut, closed_consumer, ends, closed, with_life, is_client, receive, listening_if, busy_if, set_busy, is_coming, take, done_rows, with_done, rows_under, held, Holding, holding_of, is_of_topic, may_begin, subscription_refusal, same_selector, unless, first_cause, refusal, publish_refusal, commit_refusal, after, after_commit, moved, step}
use Rattle.jm_machine.specs.Isolation.{Reached, is_shared}
use Rattle.jm_machine.specs.Isolation.Reached.{New, Reopened, Stepped}
use Rattle.jm_law.specs.OneConsumer.{OneConsumerEach}
use Rattle.jm_machine.proofs.Keys.{key_same}
use Rattle.jm_machine.proofs.Marks.{KeepsName, listening_keeps, busy_keeps, listening_active, busy_active}
use Rattle.jm_law.proofs.Lists.{push_out}
use Rattle.jm_law.proofs.Stations.{mapped, station_of-map, station_of-at, station_of_other-at, station-put, other-put, station-without, other-without, station-ended}
use Rattle.jm_law.proofs.Projection.{refused}

-- so many active consumers may a subscription have: none where it is not there, and one at most where it is not shared
record Few (o : Option Definition) (n : ℕ) : Type 0 where
  none : o ≡ None → n ≡ 0
  one : (d : Definition) → o ≡ Some d → d.shared ≡ false → n ≤ 1

alike : (o p : Option Definition) (m n : ℕ) → o ≡ p → m ≤ n → Few p n → Few o m
alike o p m n e l h = record {
  none = λ i. let j = h.none (sym e ∙ i) in omega (arith, j);
  one = λ d i u. let j = h.one d (sym e ∙ i) u in omega (arith, j);
}

-- ---- consumers

less_same : (n : ℕ) → n ≤ n
less_same n = omega arith

more : (a b : Bool) (x y : Consumer) (xs ys : List Consumer) → (a ≡ true → b ≡ true) → length xs ≤ length ys → length (cond a (x ∷ xs) xs) ≤ length (cond b (y ∷ ys) ys)
more true true x y xs ys h l = omega (arith, l)
more true false x y xs ys h l = let i = h refl in cc
more false true x y xs ys h l = omega (arith, l)
more false false x y xs ys h l = l

last_false : (a : Bool) → (a && false) ≡ true → false ≡ true
last_false true h = h
last_false false h = h

still_at : (k : Key) (p : SessionId → ℕ → Bool) (x : Consumer) → is_at k (closed_consumer p x) ≡ true → is_at k x ≡ true
still_at k p x = go (p x.session x.id)
  where
    go : (b : Bool) → is_at k (cond b (shut x) x) ≡ true → is_at k x ≡ true
    go true h = let i = last_false (key_eq x.key k) h in cc
    go false h = h

-- as consumers close, no more are active
active_closed : (k : Key) (p : SessionId → ℕ → Bool) (xs : List Consumer) → active_at k (map (closed_consumer p) xs) ≤ active_at k xs
active_closed k p [] = omega arith
active_closed k p (x ∷ xs) = more (is_at k (closed_consumer p x)) (is_at k x) (closed_consumer p x) x (filter (is_at k) (map (closed_consumer p) xs)) (filter (is_at k) xs) (still_at k p x) (active_closed k p xs)

-- the marks of listeners leave as many active
active_marked : (k : Key) (f : Consumer → Consumer) → KeepsName f → ((x : Consumer) → (f x).is_active ≡ x.is_active) → (xs : List Consumer) → active_at k (map f xs) ≤ active_at k xs
active_marked k f n a [] = omega arith
active_marked k f n a (x ∷ xs) =
    more (is_at k (f x)) (is_at k x) (f x) x (filter (is_at k) (map f xs)) (filter (is_at k) xs) (λ h. sym (ap (λ (b : Bool). key_eq (f x).key k && b) (a x) ∙ ap (λ (y : Key). key_eq y k && x.is_active) (n.key x)) ∙ h) (active_marked k f n a xs)

-- a consumer of another key joins, and one of any
active_other : (k : Key) (y : Consumer) (xs : List Consumer) → is_at k y ≡ false → active_at k (xs ++ y ∷ []) ≤ active_at k xs
active_other k y xs e = let h = ap (λ (t : List Consumer). length t) (push_out (is_at k) y e xs) in omega (arith, h)

active_joined : (k : Key) (y : Consumer) (xs : List Consumer) → active_at k (xs ++ y ∷ []) ≤ active_at k xs + 1
active_joined k y [] = go (is_at k y)
  where
    go : (b : Bool) → length (cond b (y ∷ []) []) ≤ 0 + 1
    go true = omega arith
    go false = omega arith
active_joined k y (x ∷ xs) = go (is_at k x) (active_joined k y xs)
  where
    go : (b : Bool) → active_at k (xs ++ y ∷ []) ≤ active_at k xs + 1 → length (cond b (x ∷ filter (is_at k) (xs ++ y ∷ [])) (filter (is_at k) (xs ++ y ∷ []))) ≤ length (cond b (x ∷ filter (is_at k) xs) (filter (is_at k) xs)) + 1
    go true r = omega (arith, r)
    go false r = r

-- where no consumer of the key is active, none is counted
none_here : (b t : Bool) (y : Consumer) (ys : List Consumer) → (b || t) ≡ false → (t ≡ false → length ys ≡ 0) → length (cond b (y ∷ ys) ys) ≡ 0
none_here true t y ys h r = cc
none_here false t y ys h r = r h

idle_none : (k : Key) (xs : List Consumer) → list_any (λ x. x.is_active) (filter (λ x. key_eq x.key k) xs) ≡ false → active_at k xs ≡ 0
idle_none k [] h = refl
idle_none k (x ∷ xs) h = go (key_eq x.key k) h (idle_none k xs)
  where
    rest : List Consumer
    rest = filter (λ y. key_eq y.key k) xs

    go : (a : Bool) → list_any (λ y. y.is_active) (cond a (x ∷ rest) rest) ≡ false → (list_any (λ y. y.is_active) rest ≡ false → active_at k xs ≡ 0) → length (cond (a && x.is_active) (x ∷ filter (is_at k) xs) (filter (is_at k) xs)) ≡ 0
    go true h r = none_here x.is_active (list_any (λ y. y.is_active) rest) x (filter (is_at k) xs) h r
    go false h r = r h

-- ---- subscriptions

defined_mapped : (f : List PlacedRow → List PlacedRow) (o : Option Station) → definition_of (mapped (with_rows f) o) ≡ definition_of o
defined_mapped f None = refl
defined_mapped f (Some x) = refl

-- a change of rows leaves what a subscription asks for
defined_each : (k : Key) (f : List PlacedRow → List PlacedRow) (xs : List Station) → definition_of (station_of k (map (with_rows f) xs)) ≡ definition_of (station_of k xs)
defined_each k f xs = ap definition_of (station_of-map k (with_rows f) (λ x. refl) xs) ∙ defined_mapped f (station_of k xs)

defined_at : (k l : Key) (f : List PlacedRow → List PlacedRow) (xs : List Station) → definition_of (station_of k (at_key l (with_rows f) xs)) ≡ definition_of (station_of k xs)
defined_at k l f xs = go (key_eq l k) refl
  where
    go : (b : Bool) → key_eq l k ≡ b → definition_of (station_of k (at_key l (with_rows f) xs)) ≡ definition_of (station_of k xs)
    go true e =
        ap (λ (y : Key). definition_of (station_of k (at_key y (with_rows f) xs))) (key_same l k e)
        ∙ ap definition_of (station_of-at k (with_rows f) (λ x. refl) xs)
        ∙ defined_mapped f (station_of k xs)
    go false e = ap definition_of (station_of_other-at k l (with_rows f) (λ x. refl) e xs)

-- and so does a publication
brought_parts : (limit : ℕ) (m : Content) (place : ℕ) (x : Station) → ((brought limit m place x).key ≡ x.key) × ((brought limit m place x).definition ≡ x.definition)
brought_parts limit m place x = go (is_full limit x.key (length x.rows))
  where
    full : Station
    full = record { key = x.key; definition = x.definition; missed = one_missed x.missed; rows = x.rows }

    more : Station
    more = with_rows (λ rows. rows ++ record { place = place; row = fresh m } ∷ []) x

    go : (b : Bool) → ((cond b full more).key ≡ x.key) × ((cond b full more).definition ≡ x.definition)
    go true = (refl, refl)
    go false = (refl, refl)

pub offered_parts : (limit : ℕ) (p : Publisher) (m : Content) (place : ℕ) (x : Station) → ((offered limit p m place x).key ≡ x.key) × ((offered limit p m place x).definition ≡ x.definition)
offered_parts limit p m place x = go (accepts x.key x.definition p m)
  where
    go : (b : Bool) → ((cond b (brought limit m place x) x).key ≡ x.key) × ((cond b (brought limit m place x) x).definition ≡ x.definition)
    go true = brought_parts limit m place x
    go false = (refl, refl)

defined_offered : (k : Key) (limit : ℕ) (p : Publisher) (m : Content) (place : ℕ) (xs : List Station) → definition_of (station_of k (map (offered limit p m place) xs)) ≡ definition_of (station_of k xs)
defined_offered k limit p m place xs = ap definition_of (station_of-map k (offered limit p m place) (λ x. (offered_parts limit p m place x).0) xs) ∙ go (station_of k xs)
  where
    go : (o : Option Station) → definition_of (mapped (offered limit p m place) o) ≡ definition_of o
    go None = refl
    go (Some x) = ap (λ (d : Definition). Some d) (offered_parts limit p m place x).1

-- ---- states

-- so many consumers of the key are active as may be
abbrev Fine : Key → State → Type 0
Fine k state = Few (definition_of (station_of k state.stations)) (active_at k state.consumers)

fine_published : (k : Key) (state : State) (ms : List Content) → Fine k state → Fine k (published state ms)
unfolding published
fine_published k state [] h = h
fine_published k state (m ∷ ms) h = fine_published k (with_message state m) ms (alike _ _ _ _ (defined_offered k state.limit (publisher_of state.life m) m state.next_place state.stations) (less_same (active_at k state.consumers)) h)

fine_received : (k : Key) (p : Content → Bool) (f : Row → List Row) (now : ℕ) (o : Option Key) (state : State) → Fine k state → Fine k (receive p f now o state)
fine_received k p f now None state h = h
fine_received k p f now (Some l) state h = alike _ _ _ _ (defined_at k l (deliver_placed now f) state.stations) (less_same (active_at k state.consumers)) h

fine_marked : (k : Key) (f : Consumer → Consumer) → KeepsName f → ((x : Consumer) → (f x).is_active ≡ x.is_active) → (state : State) → Fine k state → Fine k (record state { consumers = map f state.consumers })
fine_marked k f n a state h = alike _ _ _ _ refl (active_marked k f n a state.consumers) h

fine_taken : (k : Key) (p : Content → Bool) (s : SessionId) (c now : ℕ) (o : Option Key) (state : State) → Fine k state → Fine k (take p s c now o state)
fine_taken k p s c now None state h = alike _ _ _ _ refl (active_marked k (busy_if s c false) (busy_keeps s c false) (busy_active s c false) state.consumers) h
fine_taken k p s c now (Some l) state h =
    let coming : Bool = is_coming now (rows_under p l state) in
    alike _ _ _ _ (defined_at k l (deliver_placed now (taken s c)) state.stations) (active_marked k (busy_if s c coming) (busy_keeps s c coming) (busy_active s c coming) state.consumers) h

fine_done : (k : Key) (s : SessionId) (c : ℕ) (ok : Bool) (o : Option Key) (state : State) → Fine k state → Fine k (with_done s c ok o state)
fine_done k s c ok None state h = h
fine_done k s c ok (Some l) state h = alike _ _ _ _ (defined_at k l (done_rows s c ok) state.stations) (less_same (active_at k state.consumers)) h

fine_settled : (k : Key) (p : SessionId → ℕ → Bool) (state : State) → Fine k state → Fine k (settled p state)
fine_settled k p state h = alike _ _ _ _ (defined_each k (settled_rows p) state.stations) (less_same (active_at k state.consumers)) h

fine_returned : (k : Key) (p : SessionId → ℕ → Bool) (state : State) → Fine k state → Fine k (returned p state)
fine_returned k p state h = alike _ _ _ _ (defined_each k (returned_rows p) state.stations) (less_same (active_at k state.consumers)) h

fine_closed : (client : Option (List ℕ)) (name : List ℕ) (p : SessionId → ℕ → Bool) (state : State) → Fine (Durable client name) state → Fine (Durable client name) (closed p state)
fine_closed client name p state h = alike _ _ _ _ (ap definition_of (station-ended (Durable client name) (ends p state.consumers) state.stations)) (active_closed (Durable client name) p state.consumers) h

-- a subscription that has a name is had: another one, and the key's
fine_other : (k l : Key) (s : SessionId) (c : ℕ) (d : Definition) (state : State) → key_eq l k ≡ false → Fine k state → Fine k (subscribed s c l d state)
fine_other k l s c d state e h = go (is_same (definition_of (station_of l state.stations)) d)
  where
    few : active_at k (state.consumers ++ new_consumer s c l None ∷ []) ≤ active_at k state.consumers
    few = active_other k (new_consumer s c l None) state.consumers (ap (λ (b : Bool). b && true) e)

    go : (b : Bool) → Fine k (joined s c l None (cond b state (put l d state)))
    go true = alike _ _ _ _ refl few h
    go false = alike _ _ _ _ (ap definition_of (other-put k l d e state.stations)) few h

-- the key's own, where no consumer is active
fine_resumed : (k : Key) (s : SessionId) (c : ℕ) (d : Definition) (state : State) → active_at k state.consumers ≡ 0 → Fine k (subscribed s c k d state)
fine_resumed k s c d state n = go (is_same (definition_of (station_of k state.stations)) d) refl
  where
    few : active_at k (state.consumers ++ new_consumer s c k None ∷ []) ≤ 1
    few = let h = active_joined k (new_consumer s c k None) state.consumers in omega (arith, h, n)

    go : (b : Bool) → is_same (definition_of (station_of k state.stations)) d ≡ b → Fine k (joined s c k None (cond b state (put k d state)))
    go true e = record {
      none = λ i. let j : is_same None d ≡ true = sym (ap (λ o. is_same o d) i) ∙ e in cc;
      one = λ x i u. few;
    }
    go false e = record {
      none = λ i. let j : Some d ≡ None = sym (ap definition_of (station-put k d state.stations)) ∙ i in cc;
      one = λ x i u. few;
    }

and_end : (a b c x : Bool) → (a && b && c && x) ≡ true → x ≡ true
and_end true true true x h = h
and_end true true false x h = cc
and_end true false c x h = cc
and_end false b c x h = cc

shared_alike : (a b : Bool) → same_mark a b ≡ true → b ≡ true → a ≡ true
shared_alike true b h e = refl
shared_alike false true h e = cc
shared_alike false false h e = cc

same_shared : (x d : Definition) → same_definition x d ≡ true → d.shared ≡ true → x.shared ≡ true
same_shared x d h e = shared_alike x.shared d.shared (and_end (text_eq x.topic d.topic) (same_selector x.selector d.selector) (same_mark x.no_local d.no_local) (same_mark x.shared d.shared) h) e

-- the key's own, as a shared one
fine_joined : (k : Key) (s : SessionId) (c : ℕ) (d : Definition) (state : State) → d.shared ≡ true → Fine k (subscribed s c k d state)
fine_joined k s c d state t = go (is_same (definition_of (station_of k state.stations)) d) refl
  where
    go : (b : Bool) → is_same (definition_of (station_of k state.stations)) d ≡ b → Fine k (joined s c k None (cond b state (put k d state)))
    go true e = record {
      none = λ i. let j : is_same None d ≡ true = sym (ap (λ o. is_same o d) i) ∙ e in cc;
      one = λ x i u. let j : is_same (Some x) d ≡ true = sym (ap (λ o. is_same o d) i) ∙ e in let v : x.shared ≡ true = same_shared x d j t in cc;
    }
    go false e = record {
      none = λ i. let j : Some d ≡ None = sym (ap definition_of (station-put k d state.stations)) ∙ i in cc;
      one = λ x i u. let j : Some d ≡ Some x = sym (ap definition_of (station-put k d state.stations)) ∙ i in cc;
    }

fine_deleted : (k l : Key) (state : State) → (l ≡ k → active_at k state.consumers ≡ 0) → Fine k state → Fine k (deleted l state)
fine_deleted k l state n h = go (key_eq l k) refl
  where
    go : (b : Bool) → key_eq l k ≡ b → Fine k (deleted l state)
    go true e =
        let i : l ≡ k = key_same l k e in
        let gone : definition_of (station_of k (deleted l state).stations) ≡ None = ap (λ (y : Key). definition_of (station_of k (deleted y state).stations)) i ∙ ap definition_of (station-without k state.stations) in
        record { none = λ _. n i; one = λ d j u. let m = n i in omega (arith, m) }
    go false e = alike _ _ _ _ (ap definition_of (other-without k l e state.stations)) (less_same (active_at k state.consumers)) h

-- ---- what was checked

pub later : (a b : Option Refusal) → first_cause a b ≡ None → b ≡ None
later None b h = h
later (Some r) b h = cc

checked : (b : Bool) (r : Refusal) → unless b r ≡ None → b ≡ true
checked true r h = refl
checked false r h = cc

second : (a b : Bool) → (a && b) ≡ true → b ≡ true
second true b h = h
second false b h = cc

first : (a b : Bool) → (a && b) ≡ true → a ≡ true
first true b h = refl
first false b h = cc

not_true : (a : Bool) → not a ≡ true → a ≡ false
not_true true h = cc
not_true false h = refl

pub may_subscribe : (destination : Destination) (selector : Option (List ℕ)) (may : Bool) → subscription_refusal destination selector may ≡ None → may ≡ true
may_subscribe destination selector may h =
    checked may SubscriptionInUse
    (later (selector_refusal selector) (unless may SubscriptionInUse)
    (later (unless (is_of_topic destination) InvalidDestination) (first_cause (selector_refusal selector) (unless may SubscriptionInUse)) h))

idle_resumes : (o : Option Definition) (idle home : Bool) (d : Definition) → may_resume o idle home d ≡ true → idle ≡ true
idle_resumes o idle home d h = first idle (is_same o d || home) (second (is_same_kind o d) (idle && (is_same o d || home)) h)

-- no consumer of a key is active where it is idle
idle_key : (p : Content → Bool) (k : Key) (state : State) → is_idle (holding_of p k state) ≡ true → active_at k state.consumers ≡ 0
idle_key p k state h = idle_none k state.consumers (not_true (list_any (λ x. x.is_active) (filter (λ x. key_eq x.key k) state.consumers)) h)

resumed_idle : (state : State) (s : SessionId) (c : ℕ) (destination : Destination) (name : List ℕ) (selector : Option (List ℕ)) (no_local : Bool) →
    refused state s (CreateDurable c destination name selector no_local) ≡ None → active_at (durable_of (client_of state.life) s name) state.consumers ≡ 0
unfolding refusal
resumed_idle state s c destination name selector no_local h =
    let holding : Holding = holding_of (selected_by None) (durable_of (client_of state.life) s name) state in
    let d : Definition = asked destination selector no_local false in
    let may : Bool = may_resume holding.definition (is_idle holding) (is_home holding) d in
    idle_key (selected_by None) (durable_of (client_of state.life) s name) state
    (idle_resumes holding.definition (is_idle holding) (is_home holding) d
    (may_subscribe destination selector may
    (later (unless (may_begin state.life state.consumers s c && is_some (client_of state.life s.connection)) IllegalState) (subscription_refusal destination selector may) h)))

deleted_idle : (state : State) (s : SessionId) (name : List ℕ) → refused state s (Unsubscribe name) ≡ None → active_at (durable_of (client_of state.life) s name) state.consumers ≡ 0
unfolding refusal
deleted_idle state s name h =
    let holding : Holding = holding_of (selected_by None) (durable_of (client_of state.life) s name) state in
    idle_key (selected_by None) (durable_of (client_of state.life) s name) state
    (first (is_idle holding) (is_home holding)
    (checked (is_free holding) SubscriptionInUse
    (later (unless (is_some holding.definition) InvalidDestination) (unless (is_free holding) SubscriptionInUse)
    (later (unless (is_some (mode_of state.life s)) IllegalState) (first_cause (unless (is_some holding.definition) InvalidDestination) (unless (is_free holding) SubscriptionInUse)) h))))

asked_shared : (destination : Destination) (selector : Option (List ℕ)) (no_local shared : Bool) → (asked destination selector no_local shared).shared ≡ shared
unfolding defined
asked_shared destination selector no_local shared = refl

-- ---- steps

fine_durable : (k l : Key) (s : SessionId) (c : ℕ) (d : Definition) (state : State) → active_at l state.consumers ≡ 0 → Fine k state → Fine k (subscribed s c l d state)
fine_durable k l s c d state n h = go (key_eq l k) refl
  where
    go : (b : Bool) → key_eq l k ≡ b → Fine k (subscribed s c l d state)
    go true e = subst (λ (y : Key). Fine y (subscribed s c l d state)) (key_same l k e) (fine_resumed l s c d state n)
    go false e = fine_other k l s c d state e h

fine_shared : (k l : Key) (s : SessionId) (c : ℕ) (d : Definition) (state : State) → d.shared ≡ true → Fine k state → Fine k (subscribed s c l d state)
fine_shared k l s c d state t h = go (key_eq l k) refl
  where
    go : (b : Bool) → key_eq l k ≡ b → Fine k (subscribed s c l d state)
    go true e = subst (λ (y : Key). Fine y (subscribed s c l d state)) (key_same l k e) (fine_joined l s c d state t)
    go false e = fine_other k l s c d state e h

fine_if : (k : Key) (b : Bool) (x y : State) → Fine k x → Fine k y → Fine k (cond b x y)
fine_if k true x y p q = p
fine_if k false x y p q = q

fine_after : (client : Option (List ℕ)) (name : List ℕ) (state : State) (who : Who) (request : Request) → refusal state.life state.consumers (held state who request) who request ≡ None →
    Fine (Durable client name) state → Fine (Durable client name) (after state who request)
unfolding after
fine_after client name state (Connection c) CloseConnection n h = fine_closed client name (of_connection c) (returned (of_connection c) (with_life (Connection c) CloseConnection state)) (fine_returned (Durable client name) (of_connection c) (with_life (Connection c) CloseConnection state) h)
fine_after client name state (Connection c) request n h = h
fine_after client name state (Session s) CloseSession n h = fine_closed client name (of_session s) (returned (of_session s) (with_life (Session s) CloseSession state)) (fine_returned (Durable client name) (of_session s) (with_life (Session s) CloseSession state) h)
fine_after client name state (Session s) (CreateConsumer c (Queue other) selector no_local) n h = alike _ _ _ _ refl (active_other (Durable client name) (new_consumer s c (OfQueue other) (standing_as selector)) state.consumers refl) h
fine_after client name state (Session s) (CreateConsumer c (Topic other) selector no_local) n h =
    alike _ _ _ _ (ap definition_of (other-put (Durable client name) (Own s c) (defined other selector no_local false) refl state.stations)) (active_other (Durable client name) (new_consumer s c (Own s c) None) state.consumers refl) h
fine_after client name state (Session s) (CreateDurable c destination other selector no_local) n h =
    fine_durable (Durable client name) (durable_of (client_of state.life) s other) s c (asked destination selector no_local false) state (resumed_idle state s c destination other selector no_local n) h
fine_after client name state (Session s) (CreateShared c destination other selector) n h = fine_other (Durable client name) (shared_of (client_of state.life) s other) s c (asked destination selector false true) state refl h
fine_after client name state (Session s) (CreateSharedDurable c destination other selector) n h =
    fine_shared (Durable client name) (durable_of (client_of state.life) s other) s c (asked destination selector false true) state (asked_shared destination selector false true) h
fine_after client name state (Session s) (Unsubscribe other) n h =
    fine_deleted (Durable client name) (durable_of (client_of state.life) s other) state (λ e. subst (λ (y : Key). active_at y state.consumers ≡ 0) e (deleted_idle state s other n)) h
fine_after client name state (Session s) (CloseConsumer c) n h = fine_closed client name (of_number s c) state h
fine_after client name state (Session s) (Receive c now) n h =
    fine_if (Durable client name) (is_started state.life s.connection) (receive (selected_by (consumer_of state.consumers s c)) (left_of (mode_of state.life s) s c) now (key_at (consumer_of state.consumers s c)) state) state
    (fine_received (Durable client name) (selected_by (consumer_of state.consumers s c)) (left_of (mode_of state.life s) s c) now (key_at (consumer_of state.consumers s c)) state h) h
fine_after client name state (Session s) Acknowledge n h = fine_if (Durable client name) (is_client (mode_of state.life s)) (settled (of_session s) state) state (fine_settled (Durable client name) (of_session s) state h) h
fine_after client name state (Session s) Recover n h = fine_returned (Durable client name) (of_session s) state h
fine_after client name state (Session s) Rollback n h = fine_returned (Durable client name) (of_session s) state h
fine_after client name state (Session s) (SetListener c on) n h = fine_marked (Durable client name) (listening_if s c on) (listening_keeps s c on) (listening_active s c on) state h
fine_after client name state (Session s) (Take c now) n h =
    fine_if (Durable client name) (is_started state.life s.connection) (take (selected_by (consumer_of state.consumers s c)) s c now (key_at (consumer_of state.consumers s c)) state) state
    (fine_taken (Durable client name) (selected_by (consumer_of state.consumers s c)) s c now (key_at (consumer_of state.consumers s c)) state h) h
fine_after client name state (Session s) (DoneWith c ok) n h =
    let free : State = record state { consumers = set_busy s c false state.consumers } in
    let marked : Fine (Durable client name) free = fine_marked (Durable client name) (busy_if s c false) (busy_keeps s c false) (busy_active s c false) state h in
    fine_if (Durable client name) (settles_at_once (mode_of state.life s)) (with_done s c ok (key_at (consumer_of state.consumers s c)) free) free (fine_done (Durable client name) s c ok (key_at (consumer_of state.consumers s c)) free marked) marked
fine_after client name state (Session s) _ n h = h

fine_moved : (k : Key) (o : Option Refusal) (x y : State) → (o ≡ None → Fine k x) → Fine k y → Fine k (moved o x y)
fine_moved k None x y p q = p refl
fine_moved k (Some r) x y p q = q

fine_committed : (k : Key) (state : State) (who : Who) (ms : List Content) → Fine k state → Fine k (after_commit state who ms)
unfolding after_commit
fine_committed k state (Connection c) ms h = h
fine_committed k state (Session s) ms h = fine_published k (settled (of_session s) state) ms (fine_settled k (of_session s) state h)

fine_step : (client : Option (List ℕ)) (name : List ℕ) (state : State) (who : Who) (call : Call) → Fine (Durable client name) state → Fine (Durable client name) (step state who call)
unfolding step
fine_step client name state who (Ask request) h =
    fine_moved (Durable client name) (refusal state.life state.consumers (held state who request) who request) (after state who request) state (λ n. fine_after client name state who request n h) h
fine_step client name state who (Publish messages) h = fine_moved (Durable client name) (publish_refusal state who messages) (published state messages) state (λ n. fine_published (Durable client name) state messages h) h
fine_step client name state who (Commit messages) h = fine_moved (Durable client name) (commit_refusal state who messages) (after_commit state who messages) state (λ n. fine_committed (Durable client name) state who messages h) h

reached_fine : (client : Option (List ℕ)) (name : List ℕ) (state : State) → Reached state → Fine (Durable client name) state
reached_fine client name state (New opening limit) = record { none = λ i. refl; one = λ d i u. omega arith }
reached_fine client name state (Reopened opening limit stations queues next_place h) = record { none = λ i. refl; one = λ d i u. omega arith }
reached_fine client name state (Stepped before who call r) = fine_step client name before who call (reached_fine client name before r)

one_at_most : (o : Option Definition) (n : ℕ) → Few o n → is_shared o ≡ false → n ≤ 1
one_at_most None n f h = let i = f.none refl in omega (arith, i)
one_at_most (Some d) n f h = f.one d refl h

pub one_consumer_each : OneConsumerEach
one_consumer_each state client name r h = one_at_most (definition_of (station_of (Durable client name) state.stations)) (active_at (Durable client name) state.consumers) (reached_fine client name state r) h
