-- A change of the connections and sessions, seen by some of them.
use Rattle.std.proofs.Common.{◌≡◌, ℕ, Bool, true, false, List, refl, arith}
use Rattle.std.specs.Prelude.{filter, map, ◌==◌}
use Rattle.std.proofs.lemmas.Bool.Decides.{nat_tests}
use Rattle.jm_dest.specs.declared.session.SessionId.{SessionId}
use Rattle.jm_dest.specs.Names.{session_eq}
use Rattle.jm_machine.specs.declared.call.Who.{Who}
use Rattle.jm_machine.specs.declared.call.Who.TheVariants.{Connection, Session}
use Rattle.jm_machine.specs.declared.call.Request.{Request}
use Rattle.jm_machine.specs.declared.call.Request.TheVariants.{Open, Start, Stop, CloseConnection, CreateSession, CloseSession}
use Rattle.jm_machine.specs.declared.state.ConnectionState.{ConnectionState}
use Rattle.jm_machine.specs.declared.state.SessionState.{SessionState}
use Rattle.jm_machine.specs.Owns.{is_own, is_own_connection}
use Rattle.jm_machine.specs.Life.{Life, client_of, connection_of, session_of, mode_of, is_started, is_new_session, with_started, closed_if, close_sessions, life_after, own_life}
use Rattle.jm_law.proofs.Lists.{find_filter, filter_map_same, filter_map_out, push_in, push_out, cond_map, cond_one}
use Rattle.jm_machine.specs.Machine.{may_close_session}
use Rattle.jm_machine.proofs.Keys.{session_same}
use Rattle.jm_law.proofs.Owned.{own_connection}

-- what an own session sees of its connection and of itself is what there is
pub own_connection_of : (sessions : List SessionId) (life : Life) (c : ℕ) → is_own_connection sessions c ≡ true → connection_of (own_life sessions life).connections c ≡ connection_of life.connections c
unfolding own_life
own_connection_of sessions life c h = find_filter _ _ (λ x e. grind (arith, nat_tests)) life.connections

pub own_session : (sessions : List SessionId) (life : Life) (s : SessionId) → is_own sessions s ≡ true → session_of (own_life sessions life).sessions s ≡ session_of life.sessions s
unfolding own_life
own_session sessions life s h = find_filter _ _ (λ x e. let i : x.id ≡ s = session_same x.id s e in rw i h) life.sessions

pub own_mode : (sessions : List SessionId) (life : Life) (s : SessionId) → is_own sessions s ≡ true → mode_of (own_life sessions life) s ≡ mode_of life s
own_mode sessions life s h = rw (own_session sessions life s h)

pub own_started : (sessions : List SessionId) (life : Life) (s : SessionId) → is_own sessions s ≡ true → is_started (own_life sessions life) s.connection ≡ is_started life s.connection
own_started sessions life s h = rw (own_connection_of sessions life s.connection (own_connection sessions s h))

pub own_client : (sessions : List SessionId) (life : Life) (s : SessionId) → is_own sessions s ≡ true → client_of (own_life sessions life) s.connection ≡ client_of life s.connection
own_client sessions life s h = rw (own_connection_of sessions life s.connection (own_connection sessions s h))

pub own_new : (sessions : List SessionId) (life : Life) (s : SessionId) → is_own sessions s ≡ true → is_new_session (own_life sessions life) s ≡ is_new_session life s
own_new sessions life s h = rw (own_connection_of sessions life s.connection (own_connection sessions s h), own_session sessions life s h)

pub own_closes : (sessions : List SessionId) (life : Life) (s : SessionId) → is_own sessions s ≡ true → may_close_session (own_life sessions life) s ≡ may_close_session life s
own_closes sessions life s h = rw (own_connection_of sessions life s.connection (own_connection sessions s h), own_session sessions life s h)

-- the caller is one of the sessions or their connections
abbrev pub is_own_who : List SessionId → Who → Bool
is_own_who sessions (Connection c) = is_own_connection sessions c
is_own_who sessions (Session s) = is_own sessions s

started_in : (sessions : List SessionId) (c : ℕ) (on : Bool) (connections : List ConnectionState) → filter (λ x. is_own_connection sessions x.id) (with_started c on connections) ≡ with_started c on (filter (λ x. is_own_connection sessions x.id) connections)
started_in sessions c on connections = filter_map_same _ _ (λ x. grind (arith, nat_tests)) connections

started_out : (sessions : List SessionId) (c : ℕ) (on : Bool) → is_own_connection sessions c ≡ false → (connections : List ConnectionState) → filter (λ x. is_own_connection sessions x.id) (with_started c on connections) ≡ filter (λ x. is_own_connection sessions x.id) connections
started_out sessions c on o connections = filter_map_out _ _ (λ x. grind (arith, nat_tests)) (λ x e. grind (arith, nat_tests)) connections

-- what passes no own one is none of these sessions, and none of their connections
abbrev pub NotOf : List SessionId → (SessionId → Bool) → Type 0
NotOf sessions p = (t : SessionId) → is_own sessions t ≡ true → p t ≡ false

pub apart_session : (sessions : List SessionId) (s : SessionId) → is_own sessions s ≡ false → NotOf sessions (λ t. session_eq t s)
apart_session sessions s h t o = grind (arith, nat_tests, session_same t s)

pub apart_connection : (sessions : List SessionId) (c : ℕ) → is_own_connection sessions c ≡ false → NotOf sessions (λ t. t.connection == c)
apart_connection sessions c h t o = grind (arith, nat_tests, own_connection sessions t)

closed_in : (sessions : List SessionId) (c : ℕ) (connections : List ConnectionState) → filter (λ x. is_own_connection sessions x.id) (map (closed_if c) connections) ≡ map (closed_if c) (filter (λ x. is_own_connection sessions x.id) connections)
closed_in sessions c connections = filter_map_same _ _ (λ x. grind (arith, nat_tests)) connections

closed_out : (sessions : List SessionId) (c : ℕ) → is_own_connection sessions c ≡ false → (connections : List ConnectionState) → filter (λ x. is_own_connection sessions x.id) (map (closed_if c) connections) ≡ filter (λ x. is_own_connection sessions x.id) connections
closed_out sessions c o connections = filter_map_out _ _ (λ x. grind (arith, nat_tests)) (λ x e. grind (arith, nat_tests)) connections

shut_in : (sessions : List SessionId) (p : SessionId → Bool) (xs : List SessionState) → filter (λ x. is_own sessions x.id) (close_sessions p xs) ≡ close_sessions p (filter (λ x. is_own sessions x.id) xs)
shut_in sessions p xs = filter_map_same _ _ (λ x. grind (arith, nat_tests)) xs

shut_out : (sessions : List SessionId) (p : SessionId → Bool) → NotOf sessions p → (xs : List SessionState) → filter (λ x. is_own sessions x.id) (close_sessions p xs) ≡ filter (λ x. is_own sessions x.id) xs
shut_out sessions p h xs = filter_map_out _ _ (λ x. grind (arith, nat_tests)) (λ x e. let i : p x.id ≡ false = h x.id e in grind (arith, nat_tests)) xs

abbrev life_by : List ConnectionState → List SessionState → Life
life_by connections sessions = record { connections = connections; sessions = sessions }

two : {a b : List ConnectionState} {x y : List SessionState} → a ≡ b → x ≡ y → life_by a x ≡ life_by b y
two p q = cc

-- a call by one of them does to what they see what it does to all
pub life_own : (sessions : List SessionId) (life : Life) (who : Who) (request : Request) → is_own_who sessions who ≡ true → own_life sessions (life_after life who request) ≡ life_after (own_life sessions life) who request
unfolding own_life life_after
life_own sessions life (Connection c) (Open client) h = two (push_in _ _ h life.connections) refl
life_own sessions life (Connection c) Start h = two (started_in sessions c true life.connections) refl
life_own sessions life (Connection c) Stop h = two (started_in sessions c false life.connections) refl
life_own sessions life (Session s) (CreateSession mode) h =
    rw (own_new sessions life s h) (cond_map (own_life sessions) (is_new_session life s) _ life _ _ (λ _. two refl (push_in _ _ h life.sessions)) refl)
life_own sessions life (Connection c) CloseConnection h = two (closed_in sessions c life.connections) (shut_in sessions (λ s. s.connection == c) life.sessions)
life_own sessions life (Session s) CloseSession h = two refl (shut_in sessions (λ t. session_eq t s) life.sessions)
life_own sessions life _ _ h = refl

-- any other call does nothing to it
pub life_other : (sessions : List SessionId) (life : Life) (who : Who) (request : Request) → is_own_who sessions who ≡ false → own_life sessions (life_after life who request) ≡ own_life sessions life
unfolding own_life life_after
life_other sessions life (Connection c) (Open client) h = two (push_out _ _ h life.connections) refl
life_other sessions life (Connection c) Start h = two (started_out sessions c true h life.connections) refl
life_other sessions life (Connection c) Stop h = two (started_out sessions c false h life.connections) refl
life_other sessions life (Session s) (CreateSession mode) h =
    cond_one (own_life sessions) (is_new_session life s) _ life _ (λ _. two refl (push_out _ _ h life.sessions)) refl
life_other sessions life (Connection c) CloseConnection h = two (closed_out sessions c h life.connections) (shut_out sessions (λ s. s.connection == c) (apart_connection sessions c h) life.sessions)
life_other sessions life (Session s) CloseSession h = two refl (shut_out sessions (λ t. session_eq t s) (apart_session sessions s h) life.sessions)
life_other sessions life _ _ h = refl
