-- What a request of the machine is to one key's subscription.
use Rattle.std.proofs.Common.{◌≡◌, ℕ, Bool, true, false, cond, List, [], ◌∷◌, map, refl, ap, sym, ◌∙◌, arith, Option, Some, None}
use Rattle.std.specs.Prelude.{filter, not, ◌&&◌, is_some}
use Rattle.std.proofs.lemmas.Bool.Decides.{nat_tests}
use Rattle.jm_base.specs.declared.refusal.Refusal.{Refusal}
use Rattle.jm_base.specs.declared.refusal.Refusal.TheVariants.{IllegalState, InvalidDestination, SubscriptionInUse}
use Rattle.jm_dest.specs.declared.session.SessionId.{SessionId}
use Rattle.jm_dest.specs.declared.key.Key.{Key}
use Rattle.jm_dest.specs.declared.key.Key.TheVariants.{Own, SharedOwn, Durable, Queue as OfQueue}
use Rattle.jm_dest.specs.Keys.{key_eq}
use Rattle.jm_dest.specs.declared.destination.Destination.{Destination}
use Rattle.jm_dest.specs.declared.destination.Destination.TheVariants.{Queue, Topic}
use Rattle.jm_header.specs.declared.content.Content.{Content}
use Rattle.jm_machine.specs.declared.call.Who.TheVariants.{Connection, Session}
use Rattle.jm_machine.specs.declared.call.Request.{Request}
use Rattle.jm_machine.specs.declared.call.Request.TheVariants.{CloseConnection, CreateSession, CloseSession, CreateConsumer, CreateDurable, CreateShared, CreateSharedDurable, Unsubscribe, CloseConsumer, Receive, Acknowledge, Recover, Rollback, Missed, SetListener, Take, Done as DoneWith}
use Rattle.jm_machine.specs.declared.call.Call.TheVariants.{Ask}
use Rattle.jm_machine.specs.declared.answer.Answer.{Answer}
use Rattle.jm_machine.specs.declared.call.Who.{Who}
use Rattle.jm_machine.specs.declared.state.Row.{Row}
use Rattle.jm_machine.specs.declared.state.RowState.{RowState}
use Rattle.jm_machine.specs.declared.state.RowState.TheVariants.{Waiting, Out}
use Rattle.jm_machine.specs.declared.state.PlacedRow.{PlacedRow}
use Rattle.jm_machine.specs.declared.state.Station.{Station}
use Rattle.jm_machine.specs.declared.state.Definition.{Definition}
use Rattle.jm_machine.specs.declared.state.Consumer.{Consumer}
use Rattle.jm_machine.specs.Owns.{is_own, is_own_connection}
use Rattle.jm_machine.specs.Life.{Life, client_of, mode_of, is_started, life_after, own_life}
use Rattle.jm_machine.specs.Rows.{is_out, goes_out, given_back, left_of, taken, settles_at_once, bare, deliver, deliver_placed}
use Rattle.jm_machine.specs.Machine.{State, station_of, definition_of, missed_of, rows_of, with_rows, put, joined, made, subscribed, deleted, durable_of, shared_of, asked, is_same, may_resume, is_home, is_idle, may_begin, subscription_refusal, first_cause, is_free, holding_of, Holding, key_made, rows_under, selected_by, consumer_of, is_active, key_at, held, unless, defined, of_session, of_connection, of_number, settled_rows, returned_rows, settled, returned, closed_consumer, ends, closed, with_life, is_client, receive, listening_if, busy_if, set_busy, is_coming, take, done_rows, with_done, refusal, answer, after, replied, reply}
use Rattle.jm_machine.specs.Lone.{Scope, Lone, lone_of, lone_put, lone_joined, lone_made, lone_subscribed, lone_ended, lone_settled, lone_returned, lone_closed, lone_life, lone_receive, lone_take, lone_did, about, belongs, is_this_key, is_other_key, lone_holding, lone_refusal, lone_reply}
use Rattle.jm_machine.proofs.Keys.{session_same, key_same, key_refl}
use Rattle.jm_machine.proofs.Marks.{KeepsName, listening_keeps, busy_keeps}
use Rattle.jm_law.proofs.Owned.{own_connection}
use Rattle.jm_law.proofs.Lists.{push_in, push_out, cond_map, cond_one}
use Rattle.jm_machine.proofs.Bare.{bare-deliver, bare-settled, bare-returned}
use Rattle.jm_law.proofs.Stations.{mapped, station_of-map, station_of-at, station_of_other-at, station-put, other-put, station-without, other-without, station-ended}
use Rattle.jm_law.proofs.Life.{own_mode, own_client, own_started, own_session, own_new, own_closes, life_own, life_other}
use Rattle.jm_law.proofs.About.{Elsewhere, fails, holds, is_so, no_other}
use Rattle.jm_law.proofs.Consumers.{Unshared, FairRequest, Placed, Sound, OutBy, OwnOut, Passes, IsOther, consumer_own, key_mine, key_not_mine, closed_in, closed_out, kept_in, kept_out, listening_out, busy_out, ends_in, ends_out}

-- what is held of a key, from its station
abbrev pub lone_at : ℕ → Life → List Consumer → Option Station → Lone
lone_at n l cs o = record { limit = n; life = l; consumers = cs; definition = definition_of o; missed = missed_of o; rows = rows_of o }

pub three : {n : ℕ} {l m : Life} {cs ds : List Consumer} {o p : Option Station} → l ≡ m → cs ≡ ds → o ≡ p → lone_at n l cs o ≡ lone_at n m ds p
three {n} {l} {m} {cs} {ds} {o} {p} e f g =
    ap (λ (x : Life). lone_at n x cs o) e ∙ ap (λ (x : List Consumer). lone_at n m x o) f ∙ ap (λ (x : Option Station). lone_at n m ds x) g

-- a change of the key's rows
pub rows_case : (f : List PlacedRow → List PlacedRow) (g : List Row → List Row) → ((xs : List PlacedRow) → bare (f xs) ≡ g (bare xs)) → g [] ≡ [] →
    (n : ℕ) (l : Life) (cs : List Consumer) (o : Option Station) → lone_at n l cs (mapped (with_rows f) o) ≡ record (lone_at n l cs o) { rows = g (rows_of o) }
rows_case f g h e n l cs None = ap (λ (rs : List Row). record (lone_at n l cs None) { rows = rs }) (sym e)
rows_case f g h e n l cs (Some x) = ap (λ (rs : List Row). record (lone_at n l cs (Some x)) { rows = rs }) (h x.rows)

-- rows that are out through consumers that pass are settled, and wait again
pub project_settled : (S : Scope) (p : SessionId → ℕ → Bool) (state : State) → lone_of S (settled p state) ≡ lone_settled p (lone_of S state)
unfolding lone_of
project_settled S p state =
    three refl refl (station_of-map S.key (with_rows (settled_rows p)) (λ x. refl) state.stations)
    ∙ rows_case (settled_rows p) (filter (λ r. not (is_out p r))) (bare-settled p) refl state.limit (own_life S.sessions state.life) (filter (λ x. key_eq x.key S.key) state.consumers) (station_of S.key state.stations)

project_returned : (S : Scope) (p : SessionId → ℕ → Bool) (state : State) → lone_of S (returned p state) ≡ lone_returned p (lone_of S state)
unfolding lone_of
project_returned S p state =
    three refl refl (station_of-map S.key (with_rows (returned_rows p)) (λ x. refl) state.stations)
    ∙ rows_case (returned_rows p) (map (given_back p)) (bare-returned p) refl state.limit (own_life S.sessions state.life) (filter (λ x. key_eq x.key S.key) state.consumers) (station_of S.key state.stations)

-- consumers close
closed_case : (n : ℕ) (l : Life) (cs : List Consumer) (o : Option Station) (b : Bool) → lone_at n l cs (cond b None o) ≡ cond b (lone_ended (lone_at n l cs o)) (lone_at n l cs o)
closed_case n l cs o true = refl
closed_case n l cs o false = refl

project_closed : (S : Scope) (p : SessionId → ℕ → Bool) (state : State) → Unshared S.key → lone_of S (closed p state) ≡ lone_closed S.key p (lone_of S state)
unfolding lone_of
project_closed S p state u =
    let cs : List Consumer = map (closed_consumer p) (filter (λ x. key_eq x.key S.key) state.consumers) in
    three refl (closed_in S p state.consumers)
    (station-ended S.key (ends p state.consumers) state.stations ∙ ap (λ b. cond b None (station_of S.key state.stations)) (sym (ends_in p S.key u state.consumers)))
    ∙ closed_case state.limit (own_life S.sessions state.life) cs (station_of S.key state.stations) (ends p (filter (λ x. key_eq x.key S.key) state.consumers) S.key)

closed_other : (S : Scope) (p : SessionId → ℕ → Bool) (state : State) → Unshared S.key → Passes S p → Placed S state.consumers → lone_of S (closed p state) ≡ lone_of S state
unfolding lone_of
closed_other S p state u h q =
    three refl (closed_out S p h state.consumers q)
    (station-ended S.key (ends p state.consumers) state.stations ∙ ap (λ b. cond b None (station_of S.key state.stations)) (ends_out S p u h state.consumers q))

-- none of the own sessions passes
abbrev pub NoneOf : List SessionId → (SessionId → ℕ → Bool) → Type 0
NoneOf sessions p = (s : SessionId) (c : ℕ) → is_own sessions s ≡ true → p s c ≡ false

not_out : (sessions : List SessionId) (p : SessionId → ℕ → Bool) → NoneOf sessions p → (a : RowState) → OutBy sessions a → goes_out p a ≡ false
not_out sessions p h Waiting o = refl
not_out sessions p h (Out s c) o = h s c o

none_settled : (sessions : List SessionId) (p : SessionId → ℕ → Bool) → NoneOf sessions p → (rows : List Row) → OwnOut sessions rows → filter (λ r. not (is_out p r)) rows ≡ rows
none_settled sessions p h [] o = refl
none_settled sessions p h (r ∷ rows) o = let e : is_out p r ≡ false = not_out sessions p h r.state o.0 in rw e (ap (λ rs. r ∷ rs) (none_settled sessions p h rows o.1))

none_returned : (sessions : List SessionId) (p : SessionId → ℕ → Bool) → NoneOf sessions p → (rows : List Row) → OwnOut sessions rows → map (given_back p) rows ≡ rows
none_returned sessions p h [] o = refl
none_returned sessions p h (r ∷ rows) o = let e : is_out p r ≡ false = not_out sessions p h r.state o.0 in rw e (ap (λ rs. r ∷ rs) (none_returned sessions p h rows o.1))

pub settled_other : (S : Scope) (p : SessionId → ℕ → Bool) (state : State) → NoneOf S.sessions p → Sound S state → lone_of S (settled p state) ≡ lone_of S state
unfolding lone_of
settled_other S p state h d = project_settled S p state ∙ ap (λ (rs : List Row). record (lone_of S state) { rows = rs }) (none_settled S.sessions p h (rows_of (station_of S.key state.stations)) d.out)

returned_other : (S : Scope) (p : SessionId → ℕ → Bool) (state : State) → NoneOf S.sessions p → Sound S state → lone_of S (returned p state) ≡ lone_of S state
unfolding lone_of
returned_other S p state h d = project_returned S p state ∙ ap (λ (rs : List Row). record (lone_of S state) { rows = rs }) (none_returned S.sessions p h (rows_of (station_of S.key state.stations)) d.out)

pub other_session : (sessions : List SessionId) (s : SessionId) → is_own sessions s ≡ false → NoneOf sessions (of_session s)
other_session sessions s h t d o = grind (arith, nat_tests, session_same t s)

other_connection : (sessions : List SessionId) (c : ℕ) → is_own_connection sessions c ≡ false → NoneOf sessions (of_connection c)
other_connection sessions c h t d o = grind (arith, nat_tests, own_connection sessions t)

other_number : (S : Scope) (s : SessionId) (c : ℕ) → belongs S s c ≡ false → Passes S (of_number s c)
other_number S s c h t d o = go (of_number s c t d) refl
  where
    go : (b : Bool) → of_number s c t d ≡ b → b ≡ false
    go false e = refl
    go true e =
        let i : t ≡ s = grind (arith, nat_tests, session_same t s) in
        let j : d ≡ c = grind (arith, nat_tests) in
        cc

belongs_own : (S : Scope) (s : SessionId) (c : ℕ) → belongs S s c ≡ true → is_own S.sessions s ≡ true
belongs_own S s c h = grind (arith, nat_tests)

-- sessions close, with their connection or alone
project_life : (S : Scope) (who : Who) (request : Request) (state : State) → own_life S.sessions (life_after state.life who request) ≡ life_after (own_life S.sessions state.life) who request → lone_of S (with_life who request state) ≡ lone_life who request (lone_of S state)
unfolding lone_of
project_life S who request state e = three e refl refl

shut_own : (S : Scope) (p : SessionId → ℕ → Bool) (who : Who) (request : Request) (state : State) → Unshared S.key → own_life S.sessions (life_after state.life who request) ≡ life_after (own_life S.sessions state.life) who request →
    lone_of S (closed p (returned p (with_life who request state))) ≡ lone_closed S.key p (lone_returned p (lone_life who request (lone_of S state)))
shut_own S p who request state u e =
    project_closed S p (returned p (with_life who request state)) u
    ∙ ap (lone_closed S.key p) (project_returned S p (with_life who request state) ∙ ap (lone_returned p) (project_life S who request state e))

shut_other : (S : Scope) (p : SessionId → ℕ → Bool) (who : Who) (request : Request) (state : State) → Unshared S.key → NoneOf S.sessions p → Sound S state → own_life S.sessions (life_after state.life who request) ≡ own_life S.sessions state.life →
    lone_of S (closed p (returned p (with_life who request state))) ≡ lone_of S state
unfolding lone_of
shut_other S p who request state u h d e =
    closed_other S p (returned p (with_life who request state)) u (λ t c b. h t c (belongs_own S t c b)) d.placed
    ∙ returned_other S p (with_life who request state) h (record { placed = d.placed; out = d.out })
    ∙ three e refl refl

-- a consumer of the key receives, and one of another key
receive_own : (S : Scope) (p : Content → Bool) (f : Row → List Row) (now : ℕ) (k : Option Key) (state : State) → k ≡ Some S.key → lone_of S (receive p f now k state) ≡ lone_receive f now (lone_of S state)
unfolding lone_of
receive_own S p f now k state e =
    ap (λ (k : Option Key). lone_of S (receive p f now k state)) e
    ∙ three refl refl (station_of-at S.key (with_rows (deliver_placed now f)) (λ y. refl) state.stations)
    ∙ rows_case (deliver_placed now f) (deliver now f) (bare-deliver now f) refl state.limit (own_life S.sessions state.life) (filter (λ y. key_eq y.key S.key) state.consumers) (station_of S.key state.stations)

receive_other : (S : Scope) (p : Content → Bool) (f : Row → List Row) (now : ℕ) (k : Option Key) (state : State) → IsOther S k → lone_of S (receive p f now k state) ≡ lone_of S state
unfolding lone_of
receive_other S p f now None state h = refl
receive_other S p f now (Some k) state h = three refl refl (station_of_other-at S.key k (with_rows (deliver_placed now f)) (λ y. refl) h state.stations)

-- consumers change that keep their keys and numbers, and others alone
marked_own : (S : Scope) (f : Consumer → Consumer) → KeepsName f → (state : State) → lone_of S (record state { consumers = map f state.consumers }) ≡ record (lone_of S state) { consumers = map f (lone_of S state).consumers }
unfolding lone_of
marked_own S f k state = three refl (kept_in S f k state.consumers) refl

marked_other : (S : Scope) (f : Consumer → Consumer) → KeepsName f → ((x : Consumer) → belongs S x.session x.id ≡ true → f x ≡ x) → (state : State) → Placed S state.consumers → lone_of S (record state { consumers = map f state.consumers }) ≡ lone_of S state
unfolding lone_of
marked_other S f k h state q = three refl (kept_out S f k h state.consumers q) refl

-- the key's subscription is made, and another's
put_own : (S : Scope) (s : SessionId) (c : ℕ) (d : Definition) (state : State) → Own s c ≡ S.key → lone_of S (joined s c (Own s c) None (put (Own s c) d state)) ≡ lone_joined s c S.key (lone_put d (lone_of S state))
unfolding lone_of
put_own S s c d state e =
    ap (λ (k : Key). lone_of S (joined s c k None (put k d state))) e
    ∙ three refl (push_in _ _ (key_refl S.key) state.consumers) (station-put S.key d state.stations)

no_queue : {A : Type 0} (name : List ℕ) (k : Key) → Unshared k → key_eq (OfQueue name) k ≡ true → A
no_queue name (OfQueue other) u h = absurd u
no_queue name (Own s c) u h = cc
no_queue name (SharedOwn client other) u h = absurd u
no_queue name (Durable client other) u h = cc

created_own : (S : Scope) (s : SessionId) (c : ℕ) (destination : Destination) (selector : Option (List ℕ)) (no_local : Bool) (state : State) → Unshared S.key → key_eq (key_made s c destination) S.key ≡ true →
    lone_of S (made s c destination selector no_local state) ≡ lone_made S.key s c destination selector no_local (lone_of S state)
created_own S s c (Queue name) selector no_local state u h = no_queue name S.key u h
created_own S s c (Topic name) selector no_local state u h = put_own S s c (defined name selector no_local false) state (key_same (Own s c) S.key h)

created_other : (S : Scope) (s : SessionId) (c : ℕ) (destination : Destination) (selector : Option (List ℕ)) (no_local : Bool) (state : State) → key_eq (key_made s c destination) S.key ≡ false →
    lone_of S (made s c destination selector no_local state) ≡ lone_of S state
unfolding lone_of
created_other S s c (Queue name) selector no_local state h = three refl (push_out _ _ h state.consumers) refl
created_other S s c (Topic name) selector no_local state h = three refl (push_out _ _ h state.consumers) (other-put S.key (Own s c) (defined name selector no_local false) h state.stations)

-- a consumer attaches to the key's subscription or has it made anew, or another's
subscribed_own : (S : Scope) (s : SessionId) (c : ℕ) (k : Key) (d : Definition) (state : State) → key_eq k S.key ≡ true → lone_of S (subscribed s c k d state) ≡ lone_subscribed s c S.key d (lone_of S state)
unfolding lone_of
subscribed_own S s c k d state e = ap (λ (k : Key). lone_of S (subscribed s c k d state)) (key_same k S.key e) ∙ go (is_same (definition_of (station_of S.key state.stations)) d)
  where
    go : (b : Bool) → lone_of S (joined s c S.key None (cond b state (put S.key d state))) ≡ lone_joined s c S.key (cond b (lone_of S state) (lone_put d (lone_of S state)))
    go true = three refl (push_in _ _ (key_refl S.key) state.consumers) refl
    go false = three refl (push_in _ _ (key_refl S.key) state.consumers) (station-put S.key d state.stations)

subscribed_other : (S : Scope) (s : SessionId) (c : ℕ) (k : Key) (d : Definition) (state : State) → key_eq k S.key ≡ false → lone_of S (subscribed s c k d state) ≡ lone_of S state
unfolding lone_of
subscribed_other S s c k d state h = go (is_same (definition_of (station_of k state.stations)) d)
  where
    go : (b : Bool) → lone_of S (joined s c k None (cond b state (put k d state))) ≡ lone_of S state
    go true = three refl (push_out _ _ h state.consumers) refl
    go false = three refl (push_out _ _ h state.consumers) (other-put S.key k d h state.stations)

-- the key's subscription is deleted, and another's
deleted_own : (S : Scope) (k : Key) (state : State) → key_eq k S.key ≡ true → lone_of S (deleted k state) ≡ lone_ended (lone_of S state)
unfolding lone_of
deleted_own S k state e = ap (λ (k : Key). lone_of S (deleted k state)) (key_same k S.key e) ∙ three refl refl (station-without S.key state.stations)

deleted_other : (S : Scope) (k : Key) (state : State) → key_eq k S.key ≡ false → lone_of S (deleted k state) ≡ lone_of S state
unfolding lone_of
deleted_other S k state h = three refl refl (other-without S.key k h state.stations)

-- of the key a request sees all rows, whatever a consumer selects, and what the subscription holds
rows_all : (S : Scope) (p : Content → Bool) (state : State) → Unshared S.key → rows_under p S.key state ≡ rows_of (station_of S.key state.stations)
rows_all S p state u = go S.key u
  where
    go : (k : Key) → Unshared k → rows_under p k state ≡ rows_of (station_of k state.stations)
    go (OfQueue name) u = absurd u
    go (Own s c) u = refl
    go (SharedOwn client name) u = absurd u
    go (Durable client name) u = refl

holding_own : (S : Scope) (p : Content → Bool) (k : Key) (state : State) → Unshared S.key → key_eq k S.key ≡ true → lone_holding (lone_of S state) ≡ holding_of p k state
unfolding lone_of
holding_own S p k state u h = ap (λ (rs : List Row). record (lone_holding (lone_of S state)) { rows = rs }) (sym (rows_all S p state u)) ∙ ap (λ (l : Key). holding_of p l state) (sym (key_same k S.key h))

-- the listener of a consumer of the key takes a message, and that of one of another key
take_own : (S : Scope) (p : Content → Bool) (s : SessionId) (c now : ℕ) (k : Option Key) (state : State) → Unshared S.key → k ≡ Some S.key → lone_of S (take p s c now k state) ≡ lone_take s c now (lone_of S state)
unfolding lone_of
take_own S p s c now k state u e =
    let own : List Consumer = filter (λ y. key_eq y.key S.key) state.consumers in
    let coming : Bool = is_coming now (rows_under p S.key state) in
    ap (λ (k : Option Key). lone_of S (take p s c now k state)) e
    ∙ three refl (kept_in S (busy_if s c coming) (busy_keeps s c coming) state.consumers ∙ ap (λ (rs : List Row). set_busy s c (is_coming now rs) own) (rows_all S p state u)) (station_of-at S.key (with_rows (deliver_placed now (taken s c))) (λ y. refl) state.stations)
    ∙ rows_case (deliver_placed now (taken s c)) (deliver now (taken s c)) (bare-deliver now (taken s c)) refl state.limit (own_life S.sessions state.life)
    (set_busy s c (is_coming now (rows_of (station_of S.key state.stations))) own) (station_of S.key state.stations)

take_other : (S : Scope) (p : Content → Bool) (s : SessionId) (c now : ℕ) (k : Option Key) (state : State) → belongs S s c ≡ false → Placed S state.consumers → IsOther S k → lone_of S (take p s c now k state) ≡ lone_of S state
unfolding lone_of
take_other S p s c now None state n q h = three refl (kept_out S (busy_if s c false) (busy_keeps s c false) (busy_out S s c false n) state.consumers q) refl
take_other S p s c now (Some k) state n q h =
    let coming : Bool = is_coming now (rows_under p k state) in
    three refl (kept_out S (busy_if s c coming) (busy_keeps s c coming) (busy_out S s c coming n) state.consumers q) (station_of_other-at S.key k (with_rows (deliver_placed now (taken s c))) (λ y. refl) h state.stations)

-- it is done with one, and that of one of another key
rows_done_own : (S : Scope) (s : SessionId) (c : ℕ) (ok : Bool) (state : State) → lone_of S (with_done s c ok (Some S.key) state) ≡ cond ok (lone_settled (of_number s c) (lone_of S state)) (lone_returned (of_number s c) (lone_of S state))
unfolding lone_of
rows_done_own S s c true state =
    three refl refl (station_of-at S.key (with_rows (settled_rows (of_number s c))) (λ y. refl) state.stations)
    ∙ rows_case (settled_rows (of_number s c)) (filter (λ r. not (is_out (of_number s c) r))) (bare-settled (of_number s c)) refl state.limit (own_life S.sessions state.life) (filter (λ y. key_eq y.key S.key) state.consumers) (station_of S.key state.stations)
rows_done_own S s c false state =
    three refl refl (station_of-at S.key (with_rows (returned_rows (of_number s c))) (λ y. refl) state.stations)
    ∙ rows_case (returned_rows (of_number s c)) (map (given_back (of_number s c))) (bare-returned (of_number s c)) refl state.limit (own_life S.sessions state.life) (filter (λ y. key_eq y.key S.key) state.consumers) (station_of S.key state.stations)

done_own : (S : Scope) (s : SessionId) (c : ℕ) (ok : Bool) (k : Option Key) (state : State) → k ≡ Some S.key →
    lone_of S (with_done s c ok k (record state { consumers = set_busy s c false state.consumers }))
    ≡ cond ok (lone_settled (of_number s c) (record (lone_of S state) { consumers = set_busy s c false (lone_of S state).consumers })) (lone_returned (of_number s c) (record (lone_of S state) { consumers = set_busy s c false (lone_of S state).consumers }))
done_own S s c ok k state e =
    let free : State = record state { consumers = set_busy s c false state.consumers } in
    ap (λ (k : Option Key). lone_of S (with_done s c ok k free)) e
    ∙ rows_done_own S s c ok free
    ∙ ap (λ (l : Lone). cond ok (lone_settled (of_number s c) l) (lone_returned (of_number s c) l)) (marked_own S (busy_if s c false) (busy_keeps s c false) state)

rows_done_other : (S : Scope) (s : SessionId) (c : ℕ) (ok : Bool) (k : Option Key) (state : State) → IsOther S k → lone_of S (with_done s c ok k state) ≡ lone_of S state
unfolding lone_of
rows_done_other S s c ok None state h = refl
rows_done_other S s c ok (Some k) state h = three refl refl (station_of_other-at S.key k (with_rows (done_rows s c ok)) (λ y. refl) h state.stations)

and_one : (x y : Bool) → (x && y) ≡ true → x ≡ true
and_one true y h = refl
and_one false y h = cc

and_two : (x y : Bool) → (x && y) ≡ true → y ≡ true
and_two true y h = h
and_two false y h = cc

-- why the machine refuses a session's request; none where it does not
abbrev pub refused : State → SessionId → Request → Option Refusal
refused state s request = refusal state.life state.consumers (held state (Session s) request) (Session s) request

-- the checks of an own session's request that names no consumer of another key
-- after a first cause a second counts only where the first check holds
first_same : (b : Bool) (x y : Option Refusal) → (b ≡ true → x ≡ y) → first_cause (unless b IllegalState) x ≡ first_cause (unless b IllegalState) y
first_same true x y h = h refl
first_same false x y h = refl

pub own_refusal : (S : Scope) (state : State) (s : SessionId) (request : Request) → Unshared S.key → is_own S.sessions s ≡ true → FairRequest S state.life s request → Placed S state.consumers → not (is_other_key (about S s request)) ≡ true →
    lone_refusal (lone_of S state) (Session s) request ≡ refusal state.life state.consumers (held state (Session s) request) (Session s) request
unfolding lone_of refusal
own_refusal S state s (CreateSession mode) u o f p n = rw (own_new S.sessions state.life s o)
own_refusal S state s (CreateConsumer c destination selector no_local) u o f p n =
    rw (own_mode S.sessions state.life s o, consumer_own S s c (sym f.1 ∙ (holds _ n)) state.consumers p)
own_refusal S state s (CreateDurable c destination name selector no_local) u o f p n =
    rw (own_mode S.sessions state.life s o, own_client S.sessions state.life s o, consumer_own S s c (sym f.1 ∙ (holds _ n)) state.consumers p)
    (first_same (may_begin state.life state.consumers s c && is_some (client_of state.life s.connection)) _ _
    (λ b. ap (λ (h : Holding). subscription_refusal destination selector (may_resume h.definition (is_idle h) (is_home h) (asked destination selector no_local false)))
    (holding_own S (selected_by None) (durable_of (client_of state.life) s name) state u (f.0 (and_one _ _ (and_one _ _ b)) ∙ (holds _ n)))))
own_refusal S state s (CreateShared c destination name selector) u o f p n = let i : true ≡ false = sym (holds _ n) ∙ f.1 in cc
own_refusal S state s (CreateSharedDurable c destination name selector) u o f p n = let i : true ≡ false = sym (holds _ n) ∙ f.1 in cc
own_refusal S state s (Unsubscribe name) u o f p n =
    rw (own_mode S.sessions state.life s o)
    (first_same (is_some (mode_of state.life s)) _ _
    (λ b. ap (λ (h : Holding). first_cause (unless (is_some h.definition) InvalidDestination) (unless (is_free h) SubscriptionInUse))
    (holding_own S (selected_by None) (durable_of (client_of state.life) s name) state u (f b ∙ (holds _ n)))))
own_refusal S state s CloseSession u o f p n = rw (own_closes S.sessions state.life s o)
own_refusal S state s (CloseConsumer c) u o f p n = rw (own_mode S.sessions state.life s o, own_session S.sessions state.life s o, consumer_own S s c (holds _ n) state.consumers p)
own_refusal S state s (Receive c now) u o f p n = rw (own_mode S.sessions state.life s o, consumer_own S s c (holds _ n) state.consumers p)
own_refusal S state s Acknowledge u o f p n = rw (own_mode S.sessions state.life s o)
own_refusal S state s Recover u o f p n = rw (own_mode S.sessions state.life s o)
own_refusal S state s Rollback u o f p n = rw (own_mode S.sessions state.life s o)
own_refusal S state s (Missed c) u o f p n = rw (own_mode S.sessions state.life s o, consumer_own S s c (holds _ n) state.consumers p)
own_refusal S state s (SetListener c on) u o f p n = rw (own_mode S.sessions state.life s o, consumer_own S s c (holds _ n) state.consumers p)
own_refusal S state s (Take c now) u o f p n = rw (own_mode S.sessions state.life s o, consumer_own S s c (holds _ n) state.consumers p)
own_refusal S state s (DoneWith c ok) u o f p n = rw (own_mode S.sessions state.life s o, consumer_own S s c (holds _ n) state.consumers p)
own_refusal S state s _ u o f p n = refl

-- a request that names a key, and is not refused, is an open session's
abbrev names_one : Request → Bool
names_one (CreateConsumer c destination selector no_local) = true
names_one (CreateDurable c destination name selector no_local) = true
names_one (CreateShared c destination name selector) = true
names_one (CreateSharedDurable c destination name selector) = true
names_one (Unsubscribe name) = true
names_one _ = false

first_passed : (b : Bool) (x : Option Refusal) → first_cause (unless b IllegalState) x ≡ None → b ≡ true
first_passed true x h = refl
first_passed false x h = cc

pub opened : (state : State) (s : SessionId) (request : Request) → names_one request ≡ true → refused state s request ≡ None → is_some (mode_of state.life s) ≡ true
unfolding refusal
opened state s (CreateConsumer c destination selector no_local) i h = and_one _ _ (first_passed _ _ h)
opened state s (CreateDurable c destination name selector no_local) i h = and_one _ _ (and_one _ _ (first_passed _ _ h))
opened state s (CreateShared c destination name selector) i h = and_one _ _ (first_passed _ _ h)
opened state s (CreateSharedDurable c destination name selector) i h = and_one _ _ (first_passed _ _ h)
opened state s (Unsubscribe name) i h = first_passed _ _ h
opened state s _ i h = cc

-- a receive that is not refused is a standing consumer's, and so is what its listener asks
passed : (b : Bool) → unless b IllegalState ≡ None → b ≡ true
passed true h = refl
passed false h = cc

receives : (state : State) (s : SessionId) (c now : ℕ) → refused state s (Receive c now) ≡ None → is_active (consumer_of state.consumers s c) ≡ true
unfolding refusal
receives state s c now h = and_two (is_some (mode_of state.life s)) _ (and_one _ _ (passed _ h))

takes : (state : State) (s : SessionId) (c now : ℕ) → refused state s (Take c now) ≡ None → is_active (consumer_of state.consumers s c) ≡ true
unfolding refusal
takes state s c now h = and_two (is_some (mode_of state.life s)) _ (and_one _ _ (passed _ h))

is_done : (state : State) (s : SessionId) (c : ℕ) (ok : Bool) → refused state s (DoneWith c ok) ≡ None → is_active (consumer_of state.consumers s c) ≡ true
unfolding refusal
is_done state s c ok h = and_two (is_some (mode_of state.life s)) _ (and_one _ _ (passed _ h))

counts : (state : State) (s : SessionId) (c : ℕ) → refused state s (Missed c) ≡ None → is_active (consumer_of state.consumers s c) ≡ true
unfolding refusal
counts state s c h = and_two (is_some (mode_of state.life s)) _ (passed _ h)

-- the answer to an own session's request that names the key's consumer
own_answer : (S : Scope) (state : State) (s : SessionId) (request : Request) → Unshared S.key → is_own S.sessions s ≡ true → Placed S state.consumers → is_this_key (about S s request) ≡ true → refused state s request ≡ None →
    answer state.life state.consumers (held state (Session s) request) (Session s) request ≡ answer (lone_of S state).life (lone_of S state).consumers (lone_holding (lone_of S state)) (Session s) request
unfolding lone_of answer
own_answer S state s (Receive c now) f o p n m = rw (own_started S.sessions state.life s o, key_mine S s c state.consumers p (is_so _ n) (receives state s c now m), rows_all S (selected_by (consumer_of state.consumers s c)) state f)
own_answer S state s (Missed c) f o p n m = rw (key_mine S s c state.consumers p (is_so _ n) (counts state s c m))
own_answer S state s (Take c now) f o p n m = rw (own_started S.sessions state.life s o, key_mine S s c state.consumers p (is_so _ n) (takes state s c now m), rows_all S (selected_by (consumer_of state.consumers s c)) state f)
own_answer S state s _ f o p n m = refl

replied_same : (o : Option Refusal) (a b : Answer) → (o ≡ None → a ≡ b) → replied o a ≡ replied o b
replied_same None a b h = ap (λ x. replied None x) (h refl)
replied_same (Some r) a b h = refl

-- the machine's reply to it is the subscription's
pub own_reply : (S : Scope) (state : State) (s : SessionId) (request : Request) → Unshared S.key → is_own S.sessions s ≡ true → FairRequest S state.life s request → Placed S state.consumers → is_this_key (about S s request) ≡ true →
    reply state (Session s) (Ask request) ≡ lone_reply (lone_of S state) (Session s) request
unfolding reply
own_reply S state s request t o f p n =
    replied_same (refused state s request) _ _ (own_answer S state s request t o p n)
    ∙ ap (λ (x : Option Refusal). replied x (answer (lone_of S state).life (lone_of S state).consumers (lone_holding (lone_of S state)) (Session s) request)) (sym (own_refusal S state s request t o f p (no_other (about S s request) n)))

-- what an own session's request does that is not refused
pub own_after : (S : Scope) (state : State) (s : SessionId) (request : Request) → Unshared S.key → FairRequest S state.life s request → is_own S.sessions s ≡ true → Placed S state.consumers → not (is_other_key (about S s request)) ≡ true → refused state s request ≡ None →
    lone_of S (after state (Session s) request) ≡ lone_did S.key (lone_of S state) (Session s) request
unfolding lone_of after lone_did
own_after S state s (CreateSession mode) u f o p n m = three (life_own S.sessions state.life (Session s) (CreateSession mode) o) refl refl
own_after S state s (CreateConsumer c destination selector no_local) u f o p n m = created_own S s c destination selector no_local state u (and_two (is_own S.sessions s) (key_eq (key_made s c destination) S.key) (holds _ n))
own_after S state s (Receive c now) u f o p n m =
    rw (own_started S.sessions state.life s o, own_mode S.sessions state.life s o)
    (cond_map (lone_of S) (is_started state.life s.connection) (receive (selected_by (consumer_of state.consumers s c)) (left_of (mode_of state.life s) s c) now (key_at (consumer_of state.consumers s c)) state) state _ _
    (λ _. receive_own S (selected_by (consumer_of state.consumers s c)) (left_of (mode_of state.life s) s c) now (key_at (consumer_of state.consumers s c)) state (key_mine S s c state.consumers p (holds _ n) (receives state s c now m))) refl)
own_after S state s CloseSession u f o p n m = shut_own S (of_session s) (Session s) CloseSession state u (life_own S.sessions state.life (Session s) CloseSession o)
own_after S state s (CreateDurable c destination name selector no_local) u f o p n m =
    subscribed_own S s c (durable_of (client_of state.life) s name) (asked destination selector no_local false) state (f.0 (opened state s (CreateDurable c destination name selector no_local) refl m) ∙ (holds _ n))
own_after S state s (CreateShared c destination name selector) u f o p n m = let i : true ≡ false = sym (holds _ n) ∙ f.1 in cc
own_after S state s (CreateSharedDurable c destination name selector) u f o p n m = let i : true ≡ false = sym (holds _ n) ∙ f.1 in cc
own_after S state s (Unsubscribe name) u f o p n m = deleted_own S (durable_of (client_of state.life) s name) state (f (opened state s (Unsubscribe name) refl m) ∙ (holds _ n))
own_after S state s (CloseConsumer c) u f o p n m = project_closed S (of_number s c) state u
own_after S state s Acknowledge u f o p n m =
    rw (own_mode S.sessions state.life s o) (cond_map (lone_of S) (is_client (mode_of state.life s)) (settled (of_session s) state) state _ _ (λ _. project_settled S (of_session s) state) refl)
own_after S state s Recover u f o p n m = project_returned S (of_session s) state
own_after S state s Rollback u f o p n m = project_returned S (of_session s) state
own_after S state s (SetListener c on) u f o p n m = marked_own S (listening_if s c on) (listening_keeps s c on) state
own_after S state s (Take c now) u f o p n m =
    rw (own_started S.sessions state.life s o)
    (cond_map (lone_of S) (is_started state.life s.connection) (take (selected_by (consumer_of state.consumers s c)) s c now (key_at (consumer_of state.consumers s c)) state) state _ _
    (λ _. take_own S (selected_by (consumer_of state.consumers s c)) s c now (key_at (consumer_of state.consumers s c)) state u (key_mine S s c state.consumers p (holds _ n) (takes state s c now m))) refl)
own_after S state s (DoneWith c ok) u f o p n m =
    let free : State = record state { consumers = set_busy s c false state.consumers } in
    rw (own_mode S.sessions state.life s o)
    (cond_map (lone_of S) (settles_at_once (mode_of state.life s)) (with_done s c ok (key_at (consumer_of state.consumers s c)) free) free _ _
    (λ _. done_own S s c ok (key_at (consumer_of state.consumers s c)) state (key_mine S s c state.consumers p (holds _ n) (is_done state s c ok m))) (marked_own S (busy_if s c false) (busy_keeps s c false) state))
own_after S state s _ u f o p n m = refl

-- what a request does that is about nothing of the key's
pub other_after : (S : Scope) (state : State) (s : SessionId) (request : Request) → Unshared S.key → FairRequest S state.life s request → Sound S state → Elsewhere S s (about S s request) → refused state s request ≡ None → lone_of S (after state (Session s) request) ≡ lone_of S state
unfolding lone_of after
other_after S state s (CreateSession mode) u f d n m = three (life_other S.sessions state.life (Session s) (CreateSession mode) n) refl refl
other_after S state s (CreateConsumer c destination selector no_local) u f d n m =
    created_other S s c destination selector no_local state (f.0 (opened state s (CreateConsumer c destination selector no_local) refl m) ∙ (fails S s _ n))
other_after S state s (CreateDurable c destination name selector no_local) u f d n m =
    subscribed_other S s c (durable_of (client_of state.life) s name) (asked destination selector no_local false) state (f.0 (opened state s (CreateDurable c destination name selector no_local) refl m) ∙ (fails S s _ n))
other_after S state s (CreateShared c destination name selector) u f d n m =
    subscribed_other S s c (shared_of (client_of state.life) s name) (asked destination selector false true) state (f.0.0 (opened state s (CreateShared c destination name selector) refl m) ∙ (fails S s _ n))
other_after S state s (CreateSharedDurable c destination name selector) u f d n m =
    subscribed_other S s c (durable_of (client_of state.life) s name) (asked destination selector false true) state (f.0.0 (opened state s (CreateSharedDurable c destination name selector) refl m) ∙ (fails S s _ n))
other_after S state s (Unsubscribe name) u f d n m = deleted_other S (durable_of (client_of state.life) s name) state (f (opened state s (Unsubscribe name) refl m) ∙ (fails S s _ n))
other_after S state s CloseSession u f d n m = shut_other S (of_session s) (Session s) CloseSession state u (other_session S.sessions s n) d (life_other S.sessions state.life (Session s) CloseSession n)
other_after S state s (CloseConsumer c) u f d n m = closed_other S (of_number s c) state u (other_number S s c (fails S s _ n)) d.placed
other_after S state s (Receive c now) u f d n m =
    cond_one (lone_of S) (is_started state.life s.connection) _ state (lone_of S state)
    (λ _. receive_other S (selected_by (consumer_of state.consumers s c)) (left_of (mode_of state.life s) s c) now (key_at (consumer_of state.consumers s c)) state (key_not_mine S s c state.consumers d.placed (fails S s _ n))) refl
other_after S state s Acknowledge u f d n m =
    cond_one (lone_of S) (is_client (mode_of state.life s)) (settled (of_session s) state) state (lone_of S state) (λ _. settled_other S (of_session s) state (other_session S.sessions s n) d) refl
other_after S state s Recover u f d n m = returned_other S (of_session s) state (other_session S.sessions s n) d
other_after S state s Rollback u f d n m = returned_other S (of_session s) state (other_session S.sessions s n) d
other_after S state s (SetListener c on) u f d n m = marked_other S (listening_if s c on) (listening_keeps s c on) (listening_out S s c on (fails S s _ n)) state d.placed
other_after S state s (Take c now) u f d n m =
    cond_one (lone_of S) (is_started state.life s.connection) _ state (lone_of S state)
    (λ _. take_other S (selected_by (consumer_of state.consumers s c)) s c now (key_at (consumer_of state.consumers s c)) state (fails S s _ n) d.placed (key_not_mine S s c state.consumers d.placed (fails S s _ n))) refl
other_after S state s (DoneWith c ok) u f d n m =
    let free : State = record state { consumers = set_busy s c false state.consumers } in
    let same = marked_other S (busy_if s c false) (busy_keeps s c false) (busy_out S s c false (fails S s _ n)) state d.placed in
    cond_one (lone_of S) (settles_at_once (mode_of state.life s)) (with_done s c ok (key_at (consumer_of state.consumers s c)) free) free (lone_of S state)
    (λ _. rows_done_other S s c ok (key_at (consumer_of state.consumers s c)) free (key_not_mine S s c state.consumers d.placed (fails S s _ n)) ∙ same) same
other_after S state s _ u f d n m = refl

-- what a connection's request does
pub connection_own : (S : Scope) (state : State) (c : ℕ) (request : Request) → Unshared S.key → is_own_connection S.sessions c ≡ true → lone_of S (after state (Connection c) request) ≡ lone_did S.key (lone_of S state) (Connection c) request
unfolding lone_of after lone_did
connection_own S state c CloseConnection u o = shut_own S (of_connection c) (Connection c) CloseConnection state u (life_own S.sessions state.life (Connection c) CloseConnection o)
connection_own S state c request u o = three (life_own S.sessions state.life (Connection c) request o) refl refl

pub connection_other : (S : Scope) (state : State) (c : ℕ) (request : Request) → Unshared S.key → is_own_connection S.sessions c ≡ false → Sound S state → lone_of S (after state (Connection c) request) ≡ lone_of S state
unfolding lone_of after
connection_other S state c CloseConnection u n d = shut_other S (of_connection c) (Connection c) CloseConnection state u (other_connection S.sessions c n) d (life_other S.sessions state.life (Connection c) CloseConnection n)
connection_other S state c request u n d = three (life_other S.sessions state.life (Connection c) request n) refl refl
