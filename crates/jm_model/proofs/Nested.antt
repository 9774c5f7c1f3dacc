-- In every state that the provider reaches what is open lies within what is.
use Rattle.std.proofs.Common.{◌≡◌, ℕ, Bool, true, false, cond, List, [], ◌∷◌, ◌++◌, refl, ap, sym, subst, ◌∙◌, Option, Some, None}
use Rattle.std.specs.Prelude.{map, find, ◌&&◌, ◌==◌, not, is_some}
use Rattle.std.specs.Option.{option_or}
use Rattle.std.proofs.lemmas.List.Folds.{find-append}
use Rattle.jm_base.specs.declared.refusal.Refusal.{Refusal}
use Rattle.jm_dest.specs.declared.session.SessionId.{SessionId}
use Rattle.jm_dest.specs.Names.{session_eq}
use Rattle.jm_machine.specs.declared.call.Who.{Who}
use Rattle.jm_machine.specs.declared.call.Who.TheVariants.{Connection, Session}
use Rattle.jm_machine.specs.declared.call.Request.{Request}
use Rattle.jm_machine.specs.declared.call.Request.TheVariants.{Open, Start, Stop, CloseConnection, CreateSession, CloseSession}
use Rattle.jm_machine.specs.declared.call.Call.{Call}
use Rattle.jm_machine.specs.declared.call.Call.TheVariants.{Ask, Publish, Commit}
use Rattle.jm_machine.specs.declared.state.ConnectionState.{ConnectionState}
use Rattle.jm_machine.specs.declared.state.SessionState.{SessionState}
use Rattle.jm_machine.specs.Life.{Life, connection_of, session_of, is_open_connection, is_new_session, with_started, started_if, closed_if, closed_where, close_sessions, life_after}
use Rattle.jm_machine.specs.Machine.{State, published, publish_refusal, refusal, held, after, commit_refusal, after_commit, moved, step}
use Rattle.jm_machine.specs.Isolation.{Reached}
use Rattle.jm_machine.specs.Isolation.Reached.{New, Reopened, Stepped}
use Rattle.jm_machine.proofs.Keys.{session_same}
use Rattle.jm_law.proofs.Run.{after_life, published_life, committed_life}
use Rattle.jm_law.proofs.Transactions.{connection_life}
use Rattle.jm_law.proofs.Opened.{reached_linked}
use Rattle.jm_transactions.specs.Transactions.{AreNested}
use Rattle.jm_transactions.proofs.Found.{found_started, found_closed, found_session, still_there}

-- a session that was opened has a connection that was opened
abbrev pub Known : Life → Type 0
Known life = (s : SessionId) → is_some (session_of life.sessions s) ≡ true → is_some (connection_of life.connections s.connection) ≡ true

some_more : {A : Type 0} (o p : Option A) → is_some o ≡ true → is_some (option_or o p) ≡ true
some_more None p h = cc
some_more (Some x) p h = refl

known_pushed : (life : Life) (new : ConnectionState) → Known life → Known (record life { connections = life.connections ++ new ∷ [] })
known_pushed life new h s e =
    ap is_some (find-append (λ x. x.id == s.connection) life.connections (new ∷ []))
    ∙ some_more (connection_of life.connections s.connection) (find (λ x. x.id == s.connection) (new ∷ [])) (h s e)

known_started : (life : Life) (c : ℕ) (on : Bool) → Known life → Known (record life { connections = with_started c on life.connections })
known_started life c on h s e = ap is_some (found_started c on s.connection life.connections) ∙ still_there (started_if c on) (connection_of life.connections s.connection) ∙ h s e

was_known : (p : SessionId → Bool) (s : SessionId) (sessions : List SessionState) → is_some (session_of (close_sessions p sessions) s) ≡ is_some (session_of sessions s)
was_known p s sessions = ap is_some (found_session p s sessions) ∙ still_there (closed_where p) (session_of sessions s)

known_closed : (life : Life) (c : ℕ) (p : SessionId → Bool) → Known life → Known (record { connections = map (closed_if c) life.connections; sessions = close_sessions p life.sessions })
known_closed life c p h s e =
    ap is_some (found_closed c s.connection life.connections) ∙ still_there (closed_if c) (connection_of life.connections s.connection) ∙ h s (sym (was_known p s life.sessions) ∙ e)

-- a session is opened in a connection that is open
there : (o : Option ConnectionState) → is_open_connection o ≡ true → is_some o ≡ true
there None h = cc
there (Some x) h = refl

first_true : (a b : Bool) → (a && b) ≡ true → a ≡ true
first_true true b h = refl
first_true false b h = cc

known_created : (life : Life) (new : SessionState) → is_open_connection (connection_of life.connections new.id.connection) ≡ true → Known life → Known (record life { sessions = life.sessions ++ new ∷ [] })
known_created life new o h s e =
    go (session_of life.sessions s) (session_eq new.id s) refl (h s) (sym (ap is_some (find-append (λ x. session_eq x.id s) life.sessions (new ∷ []))) ∙ e)
  where
    go : (was : Option SessionState) (b : Bool) → session_eq new.id s ≡ b → (is_some was ≡ true → is_some (connection_of life.connections s.connection) ≡ true) →
        is_some (option_or was (cond b (Some new) None)) ≡ true → is_some (connection_of life.connections s.connection) ≡ true
    go (Some x) b i f e = f refl
    go None true i f e = ap (λ (t : SessionId). is_some (connection_of life.connections t.connection)) (sym (session_same new.id s i)) ∙ there (connection_of life.connections new.id.connection) o
    go None false i f e = cc

known_life : (life : Life) (who : Who) (request : Request) → Known life → Known (life_after life who request)
unfolding life_after
known_life life (Connection c) (Open client) h = known_pushed life (record { id = c; client = client; is_started = false; is_open = true }) h
known_life life (Connection c) Start h = known_started life c true h
known_life life (Connection c) Stop h = known_started life c false h
known_life life (Connection c) CloseConnection h = known_closed life c (λ s. s.connection == c) h
known_life life (Session t) (CreateSession mode) h = go (is_new_session life t) refl
  where
    new : SessionState
    new = record { id = t; mode = mode; is_open = true }

    go : (b : Bool) → is_new_session life t ≡ b → Known (cond b (record life { sessions = life.sessions ++ new ∷ [] }) life)
    go true e = known_created life new (first_true _ (not (is_some (session_of life.sessions t))) e) h
    go false e = h
known_life life (Session t) CloseSession h = λ s e. h s (sym (was_known (λ u. session_eq u t) s life.sessions) ∙ e)
known_life life _ _ h = h

known_moved : (o : Option Refusal) (x y : State) → Known x.life → Known y.life → Known (moved o x y).life
known_moved None x y p q = p
known_moved (Some r) x y p q = q

known_after : (state : State) (who : Who) (request : Request) → Known state.life → Known (after state who request).life
known_after state (Connection c) request h = subst Known (sym (connection_life state c request)) (known_life state.life (Connection c) request h)
known_after state (Session s) request h = subst Known (sym (after_life state s request)) (known_life state.life (Session s) request h)

known_step : (state : State) (who : Who) (call : Call) → Known state.life → Known (step state who call).life
unfolding step
known_step state who (Ask request) h = known_moved (refusal state.life state.consumers (held state who request) who request) (after state who request) state (known_after state who request h) h
known_step state who (Publish messages) h = known_moved (publish_refusal state who messages) (published state messages) state (subst Known (sym (published_life state messages)) h) h
known_step state who (Commit messages) h = known_moved (commit_refusal state who messages) (after_commit state who messages) state (subst Known (sym (committed_life state who messages)) h) h

reached_known : (state : State) → Reached state → Known state.life
reached_known state (New opening limit) = λ s e. cc
reached_known state (Reopened opening limit stations queues next_place h) = λ s e. cc
reached_known state (Stepped before who call r) = known_step before who call (reached_known before r)

pub reached_nested : (state : State) → Reached state → AreNested state.life.connections state.life.sessions
reached_nested state r s = record { opened_in = reached_known state r s; open_in = reached_linked state r s }
