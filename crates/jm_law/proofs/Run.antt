-- A run of the machine is, at one key, a run of its subscription alone.
use Rattle.std.proofs.Common.{◌≡◌, ℕ, ◌+◌, Bool, true, false, cond, List, [], ◌∷◌, ◌++◌, refl, ap, sym, subst, ◌∙◌, Option, Some, None}
use Rattle.std.specs.Prelude.{is_ok, is_none, is_some, find, filter, map, length, not, ◌&&◌, ◌||◌}
use Rattle.jm_dest.specs.Names.{session_eq}
use Rattle.jm_base.specs.declared.refusal.Refusal.{Refusal}
use Rattle.jm_base.specs.declared.refusal.Refusal.TheVariants.{IllegalState}
use Rattle.jm_dest.specs.declared.session.SessionId.{SessionId}
use Rattle.jm_dest.specs.declared.key.Key.{Key}
use Rattle.jm_dest.specs.declared.key.Key.TheVariants.{Own, Queue as OfQueue}
use Rattle.jm_dest.specs.declared.destination.Destination.TheVariants.{Queue, Topic}
use Rattle.jm_header.specs.declared.content.Content.{Content}
use Rattle.jm_machine.specs.declared.call.Who.{Who}
use Rattle.jm_machine.specs.declared.call.Who.TheVariants.{Connection, Session}
use Rattle.jm_machine.specs.declared.call.Request.{Request}
use Rattle.jm_machine.specs.declared.call.Request.TheVariants.{CloseConnection, CreateSession, CloseSession, CreateConsumer, CreateDurable, CreateShared, CreateSharedDurable, Unsubscribe, CloseConsumer, Receive, Acknowledge, Recover, Rollback, SetListener, Take, Done as DoneWith}
use Rattle.jm_machine.specs.declared.call.Call.TheVariants.{Publish}
use Rattle.jm_machine.specs.declared.entry.Entry.{Entry}
use Rattle.jm_machine.specs.declared.entry.Entry.TheVariants.{Asked, Sent, Committed}
use Rattle.jm_machine.specs.declared.answer.Answer.{Answer}
use Rattle.jm_machine.specs.declared.state.Consumer.{Consumer}
use Rattle.jm_machine.specs.declared.state.Row.{Row}
use Rattle.jm_machine.specs.declared.state.RowState.TheVariants.{Waiting}
use Rattle.jm_machine.specs.Owns.{is_own}
use Rattle.jm_base.specs.declared.mode.Mode.{Mode}
use Rattle.jm_machine.specs.Life.{Life, client_of, connection_of, session_of, is_closed_connection, mode_of, is_started, is_new_session, close_sessions, life_after}
use Rattle.jm_machine.specs.declared.state.SessionState.{SessionState}
use Rattle.jm_machine.specs.Rows.{fresh, given_back, is_next, is_out, live, change_first, deliver, left_of, taken, sent_out, settles_at_once}
use Rattle.jm_machine.specs.Machine.{State, Holding, consumer_of, key_at, with_message, published, receive, listening_if, busy_if, set_busy, take, with_done, held, selected_by, standing_as, new_consumer, durable_of, shared_of, asked, is_same, subscribed, put, joined, definition_of, station_of, unless, is_full, one_missed, closed_consumer, ends, of_session, of_connection, of_number, settled, is_client, is_transacted, refusal, publish_refusal, commit_refusal, after, after_commit, answer, replied, reply, moved, step}
use Rattle.jm_machine.specs.Entries.{pending, life_after_entry}
use Rattle.jm_machine.specs.Lone.{Scope, Lone, Item, belongs, lone_of, lone_put, lone_ended, lone_settled, lone_returned, lone_closed, lone_life, lone_receive, lone_take, lone_did, lone_after, lone_end, lone_refusal, lone_replies, about, is_other_key, fed, feed, replies_in}
use Rattle.jm_machine.specs.Lone.Item.{Called, Settled, Came}
use Rattle.jm_law.proofs.About.{holds}
use Rattle.jm_law.proofs.Consumers.{Unshared, FairRequest, FairEntry, FairAll, Placed, Sound, OutBy, OwnOut, placed_push, placed_map, placed_closed}
use Rattle.jm_dest.specs.Keys.{key_eq}
use Rattle.jm_machine.proofs.Marks.{listening_keeps, busy_keeps}
use Rattle.jm_machine.specs.declared.state.Definition.{Definition}
use Rattle.jm_law.proofs.Projection.{refused, opened}
use Rattle.jm_law.proofs.EntrySteps.{state_after_entry, Replied, EntriesFit}
use Rattle.jm_law.proofs.Steps.{lone_replies-append, entry_step, entry_told}

-- a publication makes no consumer
pub published_consumers : (state : State) (ms : List Content) → (published state ms).consumers ≡ state.consumers
unfolding published
published_consumers state [] = refl
published_consumers state (m ∷ ms) = published_consumers (with_message state m) ms

-- nor does a commit
pub committed_consumers : (state : State) (who : Who) (ms : List Content) → (after_commit state who ms).consumers ≡ state.consumers
unfolding after_commit
committed_consumers state (Connection c) ms = refl
committed_consumers state (Session s) ms = published_consumers (settled (of_session s) state) ms

-- a consumer that subscribes joins the others, and changes nothing else of this
pub subscribed_consumers : (s : SessionId) (c : ℕ) (k : Key) (d : Definition) (state : State) → (subscribed s c k d state).consumers ≡ state.consumers ++ new_consumer s c k None ∷ []
subscribed_consumers s c k d state = elim (is_same (definition_of (station_of k state.stations)) d) as (λ b. (joined s c k None (cond b state (put k d state))).consumers ≡ state.consumers ++ new_consumer s c k None ∷ []) [ true ↦ refl | false ↦ refl ]

pub subscribed_life : (s : SessionId) (c : ℕ) (k : Key) (d : Definition) (state : State) → (subscribed s c k d state).life ≡ state.life
subscribed_life s c k d state = elim (is_same (definition_of (station_of k state.stations)) d) as (λ b. (joined s c k None (cond b state (put k d state))).life ≡ state.life) [ true ↦ refl | false ↦ refl ]

-- a receive makes no consumer, nor does a listener that is done with its message
pub received_consumers : (p : Content → Bool) (f : Row → List Row) (now : ℕ) (k : Option Key) (state : State) → (receive p f now k state).consumers ≡ state.consumers
received_consumers p f now None state = refl
received_consumers p f now (Some k) state = refl

pub done_consumers : (s : SessionId) (c : ℕ) (ok : Bool) (k : Option Key) (state : State) → (with_done s c ok k state).consumers ≡ state.consumers
done_consumers s c ok None state = refl
done_consumers s c ok (Some k) state = refl

placed_if : (S : Scope) (b : Bool) (x y : State) → Placed S x.consumers → Placed S y.consumers → Placed S (cond b x y).consumers
placed_if S true x y p q = p
placed_if S false x y p q = q

placed_moved : (S : Scope) (o : Option Refusal) (x y : State) → (o ≡ None → Placed S x.consumers) → Placed S y.consumers → Placed S (moved o x y).consumers
placed_moved S None x y p q = p refl
placed_moved S (Some r) x y p q = q

placed_subscribed : (S : Scope) (s : SessionId) (c : ℕ) (k : Key) (d : Definition) (state : State) → key_eq k S.key ≡ belongs S s c → Placed S state.consumers → Placed S (subscribed s c k d state).consumers
placed_subscribed S s c k d state h p = subst (Placed S) (sym (subscribed_consumers s c k d state)) (placed_push S (new_consumer s c k None) h state.consumers p)

placed_after : (S : Scope) (state : State) (s : SessionId) (request : Request) → FairRequest S state.life s request → refused state s request ≡ None → Placed S state.consumers → Placed S (after state (Session s) request).consumers
unfolding after
placed_after S state s (CreateConsumer c (Queue name) selector no_local) f m p =
    placed_push S (new_consumer s c (OfQueue name) (standing_as selector)) (f.0 (opened state s (CreateConsumer c (Queue name) selector no_local) refl m) ∙ f.1) state.consumers p
placed_after S state s (CreateConsumer c (Topic name) selector no_local) f m p =
    placed_push S (new_consumer s c (Own s c) None) (f.0 (opened state s (CreateConsumer c (Topic name) selector no_local) refl m) ∙ f.1) state.consumers p
placed_after S state s (CreateDurable c destination name selector no_local) f m p =
    placed_subscribed S s c (durable_of (client_of state.life) s name) (asked destination selector no_local false) state (f.0 (opened state s (CreateDurable c destination name selector no_local) refl m) ∙ f.1) p
placed_after S state s (CreateShared c destination name selector) f m p =
    placed_subscribed S s c (shared_of (client_of state.life) s name) (asked destination selector false true) state (f.0.0 (opened state s (CreateShared c destination name selector) refl m) ∙ f.0.1) p
placed_after S state s (CreateSharedDurable c destination name selector) f m p =
    placed_subscribed S s c (durable_of (client_of state.life) s name) (asked destination selector false true) state (f.0.0 (opened state s (CreateSharedDurable c destination name selector) refl m) ∙ f.0.1) p
placed_after S state s CloseSession f m p = placed_closed S (of_session s) state.consumers p
placed_after S state s (CloseConsumer c) f m p = placed_closed S (of_number s c) state.consumers p
placed_after S state s Acknowledge f m p = placed_if S (is_client (mode_of state.life s)) (settled (of_session s) state) state p p
placed_after S state s (Receive c now) f m p =
    placed_if S (is_started state.life s.connection) (receive (selected_by (consumer_of state.consumers s c)) (left_of (mode_of state.life s) s c) now (key_at (consumer_of state.consumers s c)) state) state
    (subst (Placed S) (sym (received_consumers (selected_by (consumer_of state.consumers s c)) (left_of (mode_of state.life s) s c) now (key_at (consumer_of state.consumers s c)) state)) p) p
placed_after S state s (SetListener c on) f m p = placed_map S (listening_if s c on) (listening_keeps s c on) state.consumers p
placed_after S state s (Take c now) f m p =
    placed_if S (is_started state.life s.connection) (take (selected_by (consumer_of state.consumers s c)) s c now (key_at (consumer_of state.consumers s c)) state) state
    (placed_map S (busy_if s c _) (busy_keeps s c _) state.consumers p) p
placed_after S state s (DoneWith c ok) f m p =
    let free : State = record state { consumers = set_busy s c false state.consumers } in
    let marked : Placed S free.consumers = placed_map S (busy_if s c false) (busy_keeps s c false) state.consumers p in
    placed_if S (settles_at_once (mode_of state.life s)) (with_done s c ok (key_at (consumer_of state.consumers s c)) free) free
    (subst (Placed S) (sym (done_consumers s c ok (key_at (consumer_of state.consumers s c)) free)) marked) marked
placed_after S state s _ f m p = p

placed_connection : (S : Scope) (state : State) (c : ℕ) (request : Request) → Placed S state.consumers → Placed S (after state (Connection c) request).consumers
unfolding after
placed_connection S state c CloseConnection p = placed_closed S (of_connection c) state.consumers p
placed_connection S state c request p = p

-- each entry keeps which consumers are the key's
placed_entry : (S : Scope) (state : State) (before : List Entry) (e : Entry) → FairEntry S state.life e → Placed S state.consumers → Placed S (state_after_entry state before e).consumers
unfolding state_after_entry step
placed_entry S state before (Asked (Session s) request r) f p =
    placed_moved S (refusal state.life state.consumers (held state (Session s) request) (Session s) request) (after state (Session s) request) state (λ m. placed_after S state s request f m p) p
placed_entry S state before (Asked (Connection c) request r) f p =
    placed_moved S (refusal state.life state.consumers (held state (Connection c) request) (Connection c) request) (after state (Connection c) request) state
    (λ _. placed_connection S state c request p) p
placed_entry S state before (Sent m) f p =
    placed_if S (is_transacted (mode_of state.life m.sender.session)) state (step state (Session m.sender.session) (Publish (m ∷ []))) p
    (placed_moved S (publish_refusal state (Session m.sender.session) (m ∷ [])) (published state (m ∷ [])) state (λ _. subst (Placed S) (sym (published_consumers state (m ∷ []))) p) p)
placed_entry S state before (Committed s) f p =
    placed_moved S (commit_refusal state (Session s) (pending s before)) (after_commit state (Session s) (pending s before)) state
    (λ _. subst (Placed S) (sym (committed_consumers state (Session s) (pending s before))) p) p

-- rows that are out to own sessions alone, after each item
out_append : (sessions : List SessionId) (xs ys : List Row) → OwnOut sessions xs → OwnOut sessions ys → OwnOut sessions (xs ++ ys)
out_append sessions [] ys a b = b
out_append sessions (x ∷ xs) ys a b = (a.0, out_append sessions xs ys a.1 b)

out_filter : (sessions : List SessionId) (p : Row → Bool) (xs : List Row) → OwnOut sessions xs → OwnOut sessions (filter p xs)
out_filter sessions p [] a = tt
out_filter sessions p (x ∷ xs) a = go (p x) (out_filter sessions p xs a.1)
  where
    go : (b : Bool) → OwnOut sessions (filter p xs) → OwnOut sessions (cond b (x ∷ filter p xs) (filter p xs))
    go true r = (a.0, r)
    go false r = r

out_returned : (sessions : List SessionId) (p : SessionId → ℕ → Bool) (xs : List Row) → OwnOut sessions xs → OwnOut sessions (map (given_back p) xs)
out_returned sessions p [] a = tt
out_returned sessions p (x ∷ xs) a = (go (is_out p x), out_returned sessions p xs a.1)
  where
    go : (b : Bool) → OutBy sessions (cond b (record x { state = Waiting }) x).state
    go true = tt
    go false = a.0

out_change : (sessions : List SessionId) (p : Row → Bool) (f : Row → List Row) → ((r : Row) → OwnOut sessions (f r)) → (xs : List Row) → OwnOut sessions xs → OwnOut sessions (change_first p f xs)
out_change sessions p f h [] a = tt
out_change sessions p f h (x ∷ xs) a = go (p x) (out_change sessions p f h xs a.1)
  where
    go : (b : Bool) → OwnOut sessions (change_first p f xs) → OwnOut sessions (cond b (f x ++ xs) (x ∷ change_first p f xs))
    go true r = out_append sessions (f x) xs (h x) a.1
    go false r = (a.0, r)

out_deliver : (sessions : List SessionId) (now : ℕ) (f : Row → List Row) → ((r : Row) → OwnOut sessions (f r)) → (xs : List Row) → OwnOut sessions xs → OwnOut sessions (deliver now f xs)
out_deliver sessions now f h xs a = out_change sessions (is_next now (live now xs)) f h (live now xs) (out_filter sessions _ xs a)

out_left : (sessions : List SessionId) (mode : Option Mode) (s : SessionId) (c : ℕ) → is_own sessions s ≡ true → (r : Row) → OwnOut sessions (left_of mode s c r)
unfolding left_of
out_left sessions mode s c o r = go (settles_at_once mode)
  where
    go : (b : Bool) → OwnOut sessions (cond b [] (sent_out s c r ∷ []))
    go true = tt
    go false = (o, tt)

out_if : (sessions : List SessionId) (b : Bool) (x y : Lone) → OwnOut sessions x.rows → OwnOut sessions y.rows → OwnOut sessions (cond b x y).rows
out_if sessions true x y p q = p
out_if sessions false x y p q = q

out_closed : (sessions : List SessionId) (k : Key) (p : SessionId → ℕ → Bool) (l : Lone) → OwnOut sessions l.rows → OwnOut sessions (lone_closed k p l).rows
out_closed sessions k p l a =
    let left : Lone = record l { consumers = map (closed_consumer p) l.consumers } in
    out_if sessions (ends p l.consumers k) (lone_ended left) left tt a

own_one : (a b : Bool) → (a && b) ≡ true → a ≡ true
own_one true b h = refl
own_one false b h = cc

out_did : (S : Scope) (l : Lone) (s : SessionId) (request : Request) → not (is_other_key (about S s request)) ≡ true → OwnOut S.sessions l.rows → OwnOut S.sessions (lone_did S.key l (Session s) request).rows
unfolding lone_did
out_did S l s CloseSession n a = out_closed S.sessions S.key (of_session s) (lone_returned (of_session s) (lone_life (Session s) CloseSession l)) (out_returned S.sessions (of_session s) l.rows a)
out_did S l s (CreateConsumer c (Queue name) selector no_local) n a = a
out_did S l s (CreateConsumer c (Topic name) selector no_local) n a = tt
out_did S l s (CreateDurable c destination name selector no_local) n a =
    out_if S.sessions (is_same l.definition (asked destination selector no_local false)) l (lone_put (asked destination selector no_local false) l) a tt
out_did S l s (Unsubscribe name) n a = tt
out_did S l s (CloseConsumer c) n a = out_closed S.sessions S.key (of_number s c) l a
out_did S l s (Receive c now) n a =
    out_if S.sessions (is_started l.life s.connection) (lone_receive (left_of (mode_of l.life s) s c) now l) l
    (out_deliver S.sessions now (left_of (mode_of l.life s) s c) (out_left S.sessions (mode_of l.life s) s c (own_one (is_own S.sessions s) (S.numbers s c) (holds _ n))) l.rows a) a
out_did S l s Acknowledge n a = out_if S.sessions (is_client (mode_of l.life s)) (lone_settled (of_session s) l) l (out_filter S.sessions _ l.rows a) a
out_did S l s Recover n a = out_returned S.sessions (of_session s) l.rows a
out_did S l s Rollback n a = out_returned S.sessions (of_session s) l.rows a
out_did S l s (Take c now) n a =
    out_if S.sessions (is_started l.life s.connection) (lone_take s c now l) l
    (out_deliver S.sessions now (taken s c) (λ r. (own_one (is_own S.sessions s) (S.numbers s c) (holds _ n), tt)) l.rows a) a
out_did S l s (DoneWith c ok) n a =
    let free : Lone = record l { consumers = set_busy s c false l.consumers } in
    out_if S.sessions (settles_at_once (mode_of l.life s)) (cond ok (lone_settled (of_number s c) free) (lone_returned (of_number s c) free)) free
    (out_if S.sessions ok (lone_settled (of_number s c) free) (lone_returned (of_number s c) free) (out_filter S.sessions _ l.rows a) (out_returned S.sessions (of_number s c) l.rows a)) a
out_did S l s _ n a = a

out_connection : (S : Scope) (l : Lone) (c : ℕ) (request : Request) → OwnOut S.sessions l.rows → OwnOut S.sessions (lone_did S.key l (Connection c) request).rows
unfolding lone_did
out_connection S l c CloseConnection a = out_closed S.sessions S.key (of_connection c) (lone_returned (of_connection c) (lone_life (Connection c) CloseConnection l)) (out_returned S.sessions (of_connection c) l.rows a)
out_connection S l c request a = a

out_taken : (S : Scope) (l : Lone) (s : SessionId) (request : Request) (u v : Bool) → not (is_other_key (about S s request)) ≡ u → OwnOut S.sessions l.rows → OwnOut S.sessions (cond (u && v) (lone_did S.key l (Session s) request) l).rows
out_taken S l s request true true h a = out_did S l s request h a
out_taken S l s request true false h a = a
out_taken S l s request false v h a = a

out_after : (S : Scope) (l : Lone) (i : Item) → OwnOut S.sessions l.rows → OwnOut S.sessions (lone_after S l i).rows
out_after S l (Called (Connection c) request) a = out_connection S l c request a
out_after S l (Called (Session s) request) a = out_taken S l s request (not (is_other_key (about S s request))) (is_none (lone_refusal l (Session s) request)) refl a
out_after S l (Settled s) a = out_if S.sessions (is_transacted (mode_of l.life s)) (lone_settled (of_session s) l) l (out_filter S.sessions _ l.rows a) a
out_after S l (Came m) a = out_if S.sessions (is_full l.limit S.key (length l.rows)) (record l { missed = one_missed l.missed }) (record l { rows = l.rows ++ fresh m ∷ [] }) a (out_append S.sessions l.rows (fresh m ∷ []) a (tt, tt))

out_end : (S : Scope) (l : Lone) (items : List Item) → OwnOut S.sessions l.rows → OwnOut S.sessions (lone_end S l items).rows
out_end S l [] a = a
out_end S l (i ∷ items) a = out_end S (lone_after S l i) items (out_after S l i a)

-- each entry keeps what is kept at the key
sound_entry : (S : Scope) (state : State) (before : List Entry) (e : Entry) → Unshared S.key → FairEntry S state.life e → Sound S state → Replied state before e → Sound S (state_after_entry state before e)
unfolding lone_of
sound_entry S state before e f g d h = record {
  placed = placed_entry S state before e g d.placed;
  out = subst (λ (l : Lone). OwnOut S.sessions l.rows) (sym (entry_step S state before e f g d h)) (out_end S (lone_of S state) (fed S state.life before (lone_of S state) e) d.out);
}

both_same : {A : Type 0} {a b c d : List A} → a ≡ b → c ≡ d → a ++ c ≡ b ++ d
both_same p q = cc

-- the connections and sessions after a step
received_life : (p : Content → Bool) (f : Row → List Row) (now : ℕ) (k : Option Key) (state : State) → (receive p f now k state).life ≡ state.life
received_life p f now None state = refl
received_life p f now (Some k) state = refl

done_life : (s : SessionId) (c : ℕ) (ok : Bool) (k : Option Key) (state : State) → (with_done s c ok k state).life ≡ state.life
done_life s c ok None state = refl
done_life s c ok (Some k) state = refl

life_if : (b : Bool) (x y : State) (l : Life) → x.life ≡ l → y.life ≡ l → (cond b x y).life ≡ l
life_if true x y l p q = p
life_if false x y l p q = q

pub after_life : (state : State) (s : SessionId) (request : Request) → (after state (Session s) request).life ≡ life_after state.life (Session s) request
unfolding after life_after
after_life state s (CreateSession mode) = refl
after_life state s (CreateDurable c destination name selector no_local) = subscribed_life s c (durable_of (client_of state.life) s name) (asked destination selector no_local false) state
after_life state s (CreateShared c destination name selector) = subscribed_life s c (shared_of (client_of state.life) s name) (asked destination selector false true) state
after_life state s (CreateSharedDurable c destination name selector) = subscribed_life s c (durable_of (client_of state.life) s name) (asked destination selector false true) state
after_life state s (CreateConsumer c (Queue name) selector no_local) = refl
after_life state s (CreateConsumer c (Topic name) selector no_local) = refl
after_life state s Acknowledge = life_if (is_client (mode_of state.life s)) (settled (of_session s) state) state state.life refl refl
after_life state s (Receive c now) =
    life_if (is_started state.life s.connection) (receive (selected_by (consumer_of state.consumers s c)) (left_of (mode_of state.life s) s c) now (key_at (consumer_of state.consumers s c)) state) state state.life
    (received_life (selected_by (consumer_of state.consumers s c)) (left_of (mode_of state.life s) s c) now (key_at (consumer_of state.consumers s c)) state) refl
after_life state s (Take c now) =
    life_if (is_started state.life s.connection) (take (selected_by (consumer_of state.consumers s c)) s c now (key_at (consumer_of state.consumers s c)) state) state state.life
    (received_life (selected_by (consumer_of state.consumers s c)) (taken s c) now (key_at (consumer_of state.consumers s c)) state) refl
after_life state s (DoneWith c ok) =
    let free : State = record state { consumers = set_busy s c false state.consumers } in
    life_if (settles_at_once (mode_of state.life s)) (with_done s c ok (key_at (consumer_of state.consumers s c)) free) free state.life (done_life s c ok (key_at (consumer_of state.consumers s c)) free) refl
after_life state s _ = refl

-- nothing closes where no session has the number
close_none : (s : SessionId) (xs : List SessionState) → is_some (find (λ x. session_eq x.id s) xs) ≡ false → close_sessions (λ t. session_eq t s) xs ≡ xs
close_none s [] h = refl
close_none s (x ∷ xs) h = go (session_eq x.id s) refl h (close_none s xs)
  where
    go : (b : Bool) → session_eq x.id s ≡ b → is_some (cond b (Some x) (find (λ y. session_eq y.id s) xs)) ≡ false → (is_some (find (λ y. session_eq y.id s) xs) ≡ false → close_sessions (λ t. session_eq t s) xs ≡ xs) →
        cond b (record x { is_open = false }) x ∷ close_sessions (λ t. session_eq t s) xs ≡ x ∷ xs
    go true e i r = cc
    go false e i r = ap (λ t. x ∷ t) (r i)

none_opened : (a b : Bool) (r : Refusal) → unless (a || b) IllegalState ≡ Some r → a ≡ false
none_opened true b r e = cc
none_opened false b r e = refl

-- a session's request that is refused opens nothing, and closes nothing
refused_life : (life : Life) (consumers : List Consumer) (h : Holding) (s : SessionId) (request : Request) (r : Refusal) → refusal life consumers h (Session s) request ≡ Some r → life_after life (Session s) request ≡ life
unfolding refusal life_after
refused_life life consumers h s (CreateSession mode) r e = go (is_new_session life s) e
  where
    go : (b : Bool) → unless b IllegalState ≡ Some r → cond b (record life { sessions = life.sessions ++ record { id = s; mode = mode; is_open = true } ∷ [] }) life ≡ life
    go true e = cc
    go false e = refl
refused_life life consumers h s CloseSession r e =
    ap (λ (xs : List SessionState). record life { sessions = xs }) (close_none s life.sessions (none_opened (is_some (session_of life.sessions s)) (is_closed_connection (connection_of life.connections s.connection)) r e))
refused_life life consumers h s _ r e = refl

session_life : (state : State) (s : SessionId) (request : Request) (o : Option Refusal) → refusal state.life state.consumers (held state (Session s) request) (Session s) request ≡ o →
    (moved o (after state (Session s) request) state).life ≡ life_after state.life (Session s) request
session_life state s request None e = after_life state s request
session_life state s request (Some r) e = sym (refused_life state.life state.consumers (held state (Session s) request) s request r e)

connection_life : (state : State) (c : ℕ) (request : Request) (o : Option Refusal) (a : Answer) →
    (moved o (after state (Connection c) request) state).life ≡ cond (is_ok (replied o a)) (life_after state.life (Connection c) request) state.life
unfolding after
connection_life state c CloseConnection None a = refl
connection_life state c request None a = refl
connection_life state c request (Some r) a = refl

pub published_life : (state : State) (ms : List Content) → (published state ms).life ≡ state.life
unfolding published
published_life state [] = refl
published_life state (m ∷ ms) = published_life (with_message state m) ms

moved_life : (o : Option Refusal) (x y : State) → x.life ≡ y.life → (moved o x y).life ≡ y.life
moved_life None x y p = p
moved_life (Some r) x y p = refl

pub committed_life : (state : State) (who : Who) (ms : List Content) → (after_commit state who ms).life ≡ state.life
unfolding after_commit
committed_life state (Connection c) ms = refl
committed_life state (Session s) ms = published_life (settled (of_session s) state) ms

pub entry_life : (state : State) (before : List Entry) (e : Entry) → Replied state before e → (state_after_entry state before e).life ≡ life_after_entry state.life e
unfolding state_after_entry life_after_entry step reply
entry_life state before (Asked (Session s) request told) h = session_life state s request (refusal state.life state.consumers (held state (Session s) request) (Session s) request) refl
entry_life state before (Asked (Connection c) request told) h =
    rw h (connection_life state c request (refusal state.life state.consumers (held state (Connection c) request) (Connection c) request) (answer state.life state.consumers (held state (Connection c) request) (Connection c) request))
entry_life state before (Sent m) h =
    life_if (is_transacted (mode_of state.life m.sender.session)) state (step state (Session m.sender.session) (Publish (m ∷ []))) state.life refl
    (moved_life (publish_refusal state (Session m.sender.session) (m ∷ [])) (published state (m ∷ [])) state (published_life state (m ∷ [])))
entry_life state before (Committed s) h =
    moved_life (commit_refusal state (Session s) (pending s before)) (after_commit state (Session s) (pending s before)) state (committed_life state (Session s) (pending s before))

-- over a whole list of entries
pub run_alone : (S : Scope) → Unshared S.key → (entries : List Entry) (place : ℕ) (before : List Entry) (state : State) → FairAll S state.life entries → Sound S state → EntriesFit state before entries →
    replies_in S place entries ≡ lone_replies S (lone_of S state) (feed S place state.life before (lone_of S state) entries)
unfolding feed
run_alone S f [] place before state g p h = refl
run_alone S f (e ∷ entries) place before state g p h =
    let items : List Item = fed S state.life before (lone_of S state) e in
    let next : State = state_after_entry state before e in
    let rest = run_alone S f entries (place + 1) (e ∷ before) next (subst (λ (l : Life). FairAll S l entries) (sym (entry_life state before e h.0)) g.1) (sound_entry S state before e f g.0 p h.0) h.1 in
    both_same (entry_told S state place before e f g.0 p.placed h.0)
    (rest
    ∙ ap (λ (x : Lone). lone_replies S x (feed S (place + 1) next.life (e ∷ before) x entries)) (entry_step S state before e f g.0 p h.0)
    ∙ ap (λ (x : Life). lone_replies S (lone_end S (lone_of S state) items) (feed S (place + 1) x (e ∷ before) (lone_end S (lone_of S state) items) entries)) (entry_life state before e h.0))
    ∙ sym (lone_replies-append S (lone_of S state) place items (feed S (place + 1) (life_after_entry state.life e) (e ∷ before) (lone_end S (lone_of S state) items) entries))
