-- What a session sent in its transaction, in the record of a run and in the run itself.
use Rattle.std.proofs.Common.{◌≡◌, ℕ, Bool, true, false, cond, List, [], ◌∷◌, ◌++◌, refl, ap, sym, ◌∙◌, arith, Option, Some, None}
use Rattle.std.specs.Prelude.{not, ◌==◌, Result, Ok}
use Rattle.std.proofs.lemmas.Bool.Decides.{nat_tests}
use Rattle.jm_base.specs.declared.refusal.Refusal.{Refusal}
use Rattle.jm_dest.specs.declared.session.SessionId.{SessionId}
use Rattle.jm_dest.specs.Names.{session_eq}
use Rattle.jm_header.specs.declared.content.Content.{Content}
use Rattle.jm_machine.specs.declared.call.Who.{Who}
use Rattle.jm_machine.specs.declared.call.Who.TheVariants.{Connection, Session}
use Rattle.jm_machine.specs.declared.call.Request.{Request}
use Rattle.jm_machine.specs.declared.call.Request.TheVariants.{CloseConnection, CreateSession, CloseSession}
use Rattle.jm_machine.specs.declared.call.Call.{Call}
use Rattle.jm_machine.specs.declared.call.Call.TheVariants.{Ask, Publish, Commit}
use Rattle.jm_machine.specs.declared.answer.Answer.{Answer}
use Rattle.jm_machine.specs.declared.entry.Entry.{Entry}
use Rattle.jm_machine.specs.declared.entry.Entry.TheVariants.{Asked, Sent, Committed}
use Rattle.jm_machine.specs.declared.state.SessionState.{SessionState}
use Rattle.jm_machine.specs.Life.{Life, session_of, open_mode, is_new_session, close_sessions, closed_where, life_after}
use Rattle.jm_machine.specs.Machine.{State, is_transacted, is_untransacted, held, refusal, publish_refusal, commit_refusal, after, after_commit, published, moved, step}
use Rattle.jm_machine.specs.Entries.{drops, pending}
use Rattle.jm_machine.specs.Client.{with_kept, after_commit_of, after_request}
use Rattle.jm_machine.proofs.Keys.{session_same}
use Rattle.jm_law.proofs.Run.{after_life, published_life, committed_life}

-- a session that was opened, and not as a transacted one
abbrev pub is_plain : Option SessionState → Bool
is_plain None = false
is_plain (Some x) = is_untransacted (Some x.mode)

-- a session that was opened as no transacted one stays so
closed_id : (p : SessionId → Bool) (x : SessionState) → (closed_where p x).id ≡ x.id
closed_id p x = elim (p x.id) as (λ b. (cond b (record x { is_open = false }) x).id ≡ x.id) [ true ↦ refl | false ↦ refl ]

closed_mode : (p : SessionId → Bool) (x : SessionState) → (closed_where p x).mode ≡ x.mode
closed_mode p x = elim (p x.id) as (λ b. (cond b (record x { is_open = false }) x).mode ≡ x.mode) [ true ↦ refl | false ↦ refl ]

plain_close : (p : SessionId → Bool) (s : SessionId) (xs : List SessionState) → is_plain (session_of (close_sessions p xs) s) ≡ is_plain (session_of xs s)
plain_close p s [] = refl
plain_close p s (x ∷ xs) = grind (arith, nat_tests, closed_mode p x, closed_id p x, plain_close p s xs)

plain_push : (s : SessionId) (y : SessionState) (xs : List SessionState) → is_plain (session_of xs s) ≡ true → is_plain (session_of (xs ++ y ∷ []) s) ≡ true
plain_push s y [] h = cc
plain_push s y (x ∷ xs) h = go (session_eq x.id s) h (plain_push s y xs)
  where
    go : (b : Bool) → is_plain (cond b (Some x) (session_of xs s)) ≡ true → (is_plain (session_of xs s) ≡ true → is_plain (session_of (xs ++ y ∷ []) s) ≡ true) → is_plain (cond b (Some x) (session_of (xs ++ y ∷ []) s)) ≡ true
    go true h r = h
    go false h r = r h

plain_life : (life : Life) (who : Who) (request : Request) (s : SessionId) → is_plain (session_of life.sessions s) ≡ true → is_plain (session_of (life_after life who request).sessions s) ≡ true
unfolding life_after
plain_life life (Connection c) CloseConnection s h = plain_close (λ t. t.connection == c) s life.sessions ∙ h
plain_life life (Session t) (CreateSession mode) s h =
    elim (is_new_session life t) as (λ b. is_plain (session_of (cond b (record life { sessions = life.sessions ++ record { id = t; mode = mode; is_open = true } ∷ [] }) life).sessions s) ≡ true) [
      | true ↦ plain_push s (record { id = t; mode = mode; is_open = true }) life.sessions h
      | false ↦ h
    ]
plain_life life (Session t) CloseSession s h = plain_close (λ u. session_eq u t) s life.sessions ∙ h
plain_life life _ _ s h = h

pub connection_life : (state : State) (c : ℕ) (request : Request) → (after state (Connection c) request).life ≡ life_after state.life (Connection c) request
unfolding after
connection_life state c CloseConnection = refl
connection_life state c request = refl

plain_after : (state : State) (who : Who) (request : Request) (s : SessionId) → is_plain (session_of state.life.sessions s) ≡ true → is_plain (session_of (after state who request).life.sessions s) ≡ true
plain_after state (Connection c) request s h = ap (λ (l : Life). is_plain (session_of l.sessions s)) (connection_life state c request) ∙ plain_life state.life (Connection c) request s h
plain_after state (Session t) request s h = ap (λ (l : Life). is_plain (session_of l.sessions s)) (after_life state t request) ∙ plain_life state.life (Session t) request s h

plain_moved : (o : Option Refusal) (x y : State) (s : SessionId) → is_plain (session_of x.life.sessions s) ≡ true → is_plain (session_of y.life.sessions s) ≡ true → is_plain (session_of (moved o x y).life.sessions s) ≡ true
plain_moved None x y s p q = p
plain_moved (Some r) x y s p q = q

plain_step : (state : State) (who : Who) (call : Call) (s : SessionId) → is_plain (session_of state.life.sessions s) ≡ true → is_plain (session_of (step state who call).life.sessions s) ≡ true
unfolding step
plain_step state who (Ask request) s h = plain_moved (refusal state.life state.consumers (held state who request) who request) (after state who request) state s (plain_after state who request s h) h
plain_step state who (Publish ms) s h = plain_moved (publish_refusal state who ms) (published state ms) state s (ap (λ (l : Life). is_plain (session_of l.sessions s)) (published_life state ms) ∙ h) h
plain_step state who (Commit ms) s h = plain_moved (commit_refusal state who ms) (after_commit state who ms) state s (ap (λ (l : Life). is_plain (session_of l.sessions s)) (committed_life state who ms) ∙ h) h

not_plain_before : (state : State) (who : Who) (call : Call) (s : SessionId) → is_plain (session_of (step state who call).life.sessions s) ≡ false → is_plain (session_of state.life.sessions s) ≡ false
not_plain_before state who call s h = go (is_plain (session_of state.life.sessions s)) refl
  where
    go : (b : Bool) → is_plain (session_of state.life.sessions s) ≡ b → b ≡ false
    go true e = sym (plain_step state who call s e) ∙ h
    go false e = refl

-- an open session is transacted, or was opened otherwise
pub transacted_not_plain : (o : Option SessionState) → is_transacted (open_mode o) ≡ true → is_plain o ≡ false
transacted_not_plain None h = cc
transacted_not_plain (Some x) h = go x.is_open h
  where
    go : (b : Bool) → is_transacted (cond b (Some x.mode) None) ≡ true → not (is_transacted (Some x.mode)) ≡ false
    go true h = ap (λ (v : Bool). not v) h
    go false h = cc

pub untransacted_plain : (o : Option SessionState) → is_untransacted (open_mode o) ≡ true → is_plain o ≡ true
untransacted_plain None h = cc
untransacted_plain (Some x) h = go x.is_open h
  where
    go : (b : Bool) → is_untransacted (cond b (Some x.mode) None) ≡ true → is_untransacted (Some x.mode) ≡ true
    go true h = h
    go false h = cc

-- of each session but those that were opened as no transacted ones, what the record says it sent in its transaction is what
-- was kept
abbrev pub Agrees : State → (SessionId → List Content) → List Entry → Type 0
Agrees state kept before = (s : SessionId) → is_plain (session_of state.life.sessions s) ≡ false → pending s before ≡ kept s

-- a step keeps it
pub agrees_step : (state : State) (who : Who) (call : Call) (kept : SessionId → List Content) (before : List Entry) → Agrees state kept before → Agrees (step state who call) kept before
agrees_step state who call kept before a s h = a s (not_plain_before state who call s h)

-- so does a request, which ends the same transactions on both sides
pub agrees_asked : (state : State) (who : Who) (request : Request) (r : Result Answer Refusal) (kept : SessionId → List Content) (before : List Entry) → Agrees state kept before →
    Agrees (step state who (Ask request)) (after_request who request r kept) (Asked who request r ∷ before)
agrees_asked state who request r kept before a s h = ap (λ (ms : List Content). cond (drops s who request r) [] ms) (agrees_step state who (Ask request) kept before a s h)

-- a commit that is done
pub agrees_committed : (state : State) (s : SessionId) (ms : List Content) (x : Answer) (kept : SessionId → List Content) (before : List Entry) → Agrees state kept before →
    Agrees (step state (Session s) (Commit ms)) (after_commit_of s (Ok x) kept) (Committed s ∷ before)
agrees_committed state s ms x kept before a t h = ap (λ (ms : List Content). cond (session_eq s t) [] ms) (agrees_step state (Session s) (Commit ms) kept before a t h)

-- a message of a transacted session
pub agrees_kept : (state : State) (s : SessionId) (m : Content) (kept : SessionId → List Content) (before : List Entry) → m.sender.session ≡ s → Agrees state kept before → Agrees state (with_kept s m kept) (Sent m ∷ before)
agrees_kept state s m kept before e a t h = ap (λ (u : SessionId). cond (session_eq u t) (pending t before ++ m ∷ []) (pending t before)) e ∙ go (session_eq s t) refl
  where
    go : (b : Bool) → session_eq s t ≡ b → cond b (pending t before ++ m ∷ []) (pending t before) ≡ cond b (kept s ++ m ∷ []) (kept t)
    go true i = ap (λ (ms : List Content). ms ++ m ∷ []) (a t h ∙ ap kept (sym (session_same s t i)))
    go false i = a t h

-- a message of a session that was opened as no transacted one
pub agrees_plain : (state : State) (s : SessionId) (m : Content) (kept : SessionId → List Content) (before : List Entry) → m.sender.session ≡ s → is_plain (session_of state.life.sessions s) ≡ true → Agrees state kept before → Agrees state kept (Sent m ∷ before)
agrees_plain state s m kept before e p a t h = ap (λ (u : SessionId). cond (session_eq u t) (pending t before ++ m ∷ []) (pending t before)) e ∙ go (session_eq s t) refl
  where
    go : (b : Bool) → session_eq s t ≡ b → cond b (pending t before ++ m ∷ []) (pending t before) ≡ kept t
    go true i =
        let j : is_plain (session_of state.life.sessions s) ≡ false = ap (λ (u : SessionId). is_plain (session_of state.life.sessions u)) (session_same s t i) ∙ h in
        cc
    go false i = a t h
