-- Each consumer of a state that the provider reaches has the key that its number says.
use Rattle.std.proofs.Common.{◌≡◌, ℕ, Bool, true, false, cond, List, [], ◌∷◌, ◌++◌, refl, sym, subst, arith, Option, Some, None}
use Rattle.std.specs.Prelude.{map, ◌&&◌, ◌==◌}
use Rattle.std.proofs.lemmas.Bool.Decides.{nat_tests}
use Rattle.jm_base.specs.declared.refusal.Refusal.{Refusal}
use Rattle.jm_dest.specs.declared.session.SessionId.{SessionId}
use Rattle.jm_dest.specs.declared.key.Key.{Key}
use Rattle.jm_dest.specs.declared.key.Key.TheVariants.{Own, SharedOwn, Durable, Queue as OfQueue}
use Rattle.jm_dest.specs.declared.destination.Destination.TheVariants.{Queue, Topic}
use Rattle.jm_dest.specs.Names.{session_eq}
use Rattle.jm_machine.specs.declared.call.Who.{Who}
use Rattle.jm_machine.specs.declared.call.Who.TheVariants.{Connection, Session}
use Rattle.jm_machine.specs.declared.call.Request.{Request}
use Rattle.jm_machine.specs.declared.call.Request.TheVariants.{CloseConnection, CloseSession, CreateConsumer, CreateDurable, CreateShared, CreateSharedDurable, CloseConsumer, Receive, Acknowledge, SetListener, Take, Done as DoneWith}
use Rattle.jm_machine.specs.declared.call.Call.{Call}
use Rattle.jm_machine.specs.declared.call.Call.TheVariants.{Ask, Publish, Commit}
use Rattle.jm_machine.specs.declared.state.Consumer.{Consumer}
use Rattle.jm_machine.specs.Life.{client_of, is_started, mode_of}
use Rattle.jm_machine.specs.Rows.{left_of, settles_at_once}
use Rattle.jm_machine.specs.Machine.{State, durable_of, shared_of, asked, subscribed, selected_by, standing_as, new_consumer, has_number, consumer_of, key_at, closed_consumer, of_session, of_connection, of_number, settled, is_client, receive, listening_if, busy_if, set_busy, take, with_done, held, refusal, publish_refusal, commit_refusal, after, after_commit, published, moved, step}
use Rattle.jm_machine.specs.Isolation.{Reached}
use Rattle.jm_machine.specs.Isolation.Reached.{New, Reopened, Stepped}
use Rattle.jm_machine.proofs.Keys.{session_same, session_refl}
use Rattle.jm_machine.proofs.Marks.{KeepsName, closed_keeps, listening_keeps, busy_keeps}
use Rattle.jm_machine.specs.declared.state.Definition.{Definition}
use Rattle.jm_law.proofs.Run.{subscribed_consumers, published_consumers, received_consumers, done_consumers, committed_consumers}

-- a consumer's own key is that of its number
abbrev pub OwnFits : Key → SessionId → ℕ → Type 0
OwnFits (OfQueue name) s c = Unit {0}
OwnFits (Own t d) s c = (session_eq s t && (c == d)) ≡ true
OwnFits (SharedOwn client name) s c = Unit {0}
OwnFits (Durable client name) s c = Unit {0}

abbrev pub Keyed : List Consumer → Type 0
Keyed [] = Unit {0}
Keyed (x ∷ xs) = OwnFits x.key x.session x.id × Keyed xs

keyed_push : (y : Consumer) → OwnFits y.key y.session y.id → (xs : List Consumer) → Keyed xs → Keyed (xs ++ y ∷ [])
keyed_push y h [] k = (h, tt)
keyed_push y h (x ∷ xs) k = (k.0, keyed_push y h xs k.1)

keyed_map : (f : Consumer → Consumer) → KeepsName f → (xs : List Consumer) → Keyed xs → Keyed (map f xs)
keyed_map f k [] h = tt
keyed_map f k (x ∷ xs) h =
    (subst (λ (y : Key). OwnFits y (f x).session (f x).id) (sym (k.key x)) (subst (λ (t : SessionId). OwnFits x.key t (f x).id) (sym (k.session x)) (subst (λ (n : ℕ). OwnFits x.key x.session n) (sym (k.id x)) h.0)), keyed_map f k xs h.1)

keyed_closed : (p : SessionId → ℕ → Bool) (xs : List Consumer) → Keyed xs → Keyed (map (closed_consumer p) xs)
keyed_closed p xs k = keyed_map (closed_consumer p) (closed_keeps p) xs k

self : (s : SessionId) (c : ℕ) → (session_eq s s && (c == c)) ≡ true
self s c = grind (arith, nat_tests, session_refl s)

keyed_subscribed : (s : SessionId) (c : ℕ) (k : Key) (d : Definition) (state : State) → OwnFits k s c → Keyed state.consumers → Keyed (subscribed s c k d state).consumers
keyed_subscribed s c k d state h g = subst Keyed (sym (subscribed_consumers s c k d state)) (keyed_push (new_consumer s c k None) h state.consumers g)

keyed_if : (b : Bool) (x y : State) → Keyed x.consumers → Keyed y.consumers → Keyed (cond b x y).consumers
keyed_if true x y p q = p
keyed_if false x y p q = q

keyed_moved : (o : Option Refusal) (x y : State) → Keyed x.consumers → Keyed y.consumers → Keyed (moved o x y).consumers
keyed_moved None x y p q = p
keyed_moved (Some r) x y p q = q

keyed_after : (state : State) (who : Who) (request : Request) → Keyed state.consumers → Keyed (after state who request).consumers
unfolding after
keyed_after state (Connection c) CloseConnection k = keyed_closed (of_connection c) state.consumers k
keyed_after state (Connection c) request k = k
keyed_after state (Session s) CloseSession k = keyed_closed (of_session s) state.consumers k
keyed_after state (Session s) (CloseConsumer c) k = keyed_closed (of_number s c) state.consumers k
keyed_after state (Session s) Acknowledge k = keyed_if (is_client (mode_of state.life s)) (settled (of_session s) state) state k k
keyed_after state (Session s) (CreateConsumer c (Queue name) selector no_local) k = keyed_push (new_consumer s c (OfQueue name) (standing_as selector)) tt state.consumers k
keyed_after state (Session s) (CreateConsumer c (Topic name) selector no_local) k = keyed_push (new_consumer s c (Own s c) None) (self s c) state.consumers k
keyed_after state (Session s) (CreateDurable c destination name selector no_local) k = keyed_subscribed s c (durable_of (client_of state.life) s name) (asked destination selector no_local false) state tt k
keyed_after state (Session s) (CreateShared c destination name selector) k = keyed_subscribed s c (shared_of (client_of state.life) s name) (asked destination selector false true) state tt k
keyed_after state (Session s) (CreateSharedDurable c destination name selector) k = keyed_subscribed s c (durable_of (client_of state.life) s name) (asked destination selector false true) state tt k
keyed_after state (Session s) (Receive c now) k =
    keyed_if (is_started state.life s.connection) (receive (selected_by (consumer_of state.consumers s c)) (left_of (mode_of state.life s) s c) now (key_at (consumer_of state.consumers s c)) state) state
    (subst Keyed (sym (received_consumers (selected_by (consumer_of state.consumers s c)) (left_of (mode_of state.life s) s c) now (key_at (consumer_of state.consumers s c)) state)) k) k
keyed_after state (Session s) (SetListener c on) k = keyed_map (listening_if s c on) (listening_keeps s c on) state.consumers k
keyed_after state (Session s) (Take c now) k =
    keyed_if (is_started state.life s.connection) (take (selected_by (consumer_of state.consumers s c)) s c now (key_at (consumer_of state.consumers s c)) state) state
    (keyed_map (busy_if s c _) (busy_keeps s c _) state.consumers k) k
keyed_after state (Session s) (DoneWith c ok) k =
    let free : State = record state { consumers = set_busy s c false state.consumers } in
    let marked : Keyed free.consumers = keyed_map (busy_if s c false) (busy_keeps s c false) state.consumers k in
    keyed_if (settles_at_once (mode_of state.life s)) (with_done s c ok (key_at (consumer_of state.consumers s c)) free) free
    (subst Keyed (sym (done_consumers s c ok (key_at (consumer_of state.consumers s c)) free)) marked) marked
keyed_after state (Session s) _ k = k

keyed_step : (state : State) (who : Who) (call : Call) → Keyed state.consumers → Keyed (step state who call).consumers
unfolding step
keyed_step state who (Ask request) k = keyed_moved (refusal state.life state.consumers (held state who request) who request) (after state who request) state (keyed_after state who request k) k
keyed_step state who (Publish messages) k = keyed_moved (publish_refusal state who messages) (published state messages) state (subst Keyed (sym (published_consumers state messages)) k) k
keyed_step state who (Commit messages) k = keyed_moved (commit_refusal state who messages) (after_commit state who messages) state (subst Keyed (sym (committed_consumers state who messages)) k) k

pub reached_keyed : (state : State) → Reached state → Keyed state.consumers
reached_keyed state (New opening limit) = tt
reached_keyed state (Reopened opening limit stations queues next_place h) = tt
reached_keyed state (Stepped before who call r) = keyed_step before who call (reached_keyed before r)

-- the consumer that a number finds has a key that fits it
abbrev pub FitsOwn : SessionId → ℕ → Option Consumer → Type 0
FitsOwn s c None = Unit {0}
FitsOwn s c (Some y) = OwnFits y.key s c

pub found_fits : (s : SessionId) (c : ℕ) (xs : List Consumer) → Keyed xs → FitsOwn s c (consumer_of xs s c)
found_fits s c [] k = tt
found_fits s c (x ∷ xs) k = go (has_number s c x) refl (found_fits s c xs k.1)
  where
    go : (b : Bool) → has_number s c x ≡ b → FitsOwn s c (consumer_of xs s c) → FitsOwn s c (cond b (Some x) (consumer_of xs s c))
    go true e r =
        let i : x.session ≡ s = grind (arith, nat_tests, session_same x.session s) in
        let j : x.id ≡ c = grind (arith, nat_tests) in
        subst (λ (n : ℕ). OwnFits x.key s n) j (subst (λ (t : SessionId). OwnFits x.key t x.id) i k.0)
    go false e r = r
