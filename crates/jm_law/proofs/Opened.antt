-- An open session's connection is open, and keeps the client with which it was opened.
use Rattle.std.proofs.Common.{◌≡◌, ◌⊎◌, inl, inr, ℕ, Bool, true, false, cond, List, [], ◌∷◌, ◌++◌, refl, ap, sym, subst, ◌∙◌, arith, Option, Some, None}
use Rattle.std.specs.Prelude.{map, ◌&&◌, ◌==◌, not, is_ok, is_some, Result}
use Rattle.std.proofs.lemmas.Bool.Decides.{nat_tests}
use Rattle.jm_base.specs.declared.refusal.Refusal.{Refusal}
use Rattle.jm_base.specs.declared.refusal.Refusal.TheVariants.{IllegalState, InvalidClientId}
use Rattle.jm_dest.specs.declared.session.SessionId.{SessionId}
use Rattle.jm_dest.specs.Names.{session_eq}
use Rattle.jm_machine.specs.declared.call.Who.{Who}
use Rattle.jm_machine.specs.declared.call.Who.TheVariants.{Connection, Session}
use Rattle.jm_machine.specs.declared.call.Request.{Request}
use Rattle.jm_machine.specs.declared.call.Request.TheVariants.{Open, Start, Stop, CloseConnection, CreateSession, CloseSession}
use Rattle.jm_machine.specs.declared.call.Call.{Call}
use Rattle.jm_machine.specs.declared.call.Call.TheVariants.{Ask, Publish, Commit}
use Rattle.jm_machine.specs.declared.answer.Answer.{Answer}
use Rattle.jm_machine.specs.declared.entry.Entry.{Entry}
use Rattle.jm_machine.specs.declared.entry.Entry.TheVariants.{Asked, Sent, Committed}
use Rattle.jm_machine.specs.declared.state.ConnectionState.{ConnectionState}
use Rattle.jm_machine.specs.declared.state.SessionState.{SessionState}
use Rattle.jm_machine.specs.Life.{Life, connection_of, session_of, client_at, client_of, is_open_connection, is_client_taken, open_mode, mode_of, is_new_session, with_started, closed_if, close_sessions, life_after}
use Rattle.jm_machine.specs.Machine.{State, held, unless, first_cause, refusal, publish_refusal, commit_refusal, published, after, after_commit, replied, moved, reply, step}
use Rattle.jm_machine.specs.Entries.{life_after_entry}
use Rattle.jm_machine.specs.Lone.{client_opened, client_or, clients_in}
use Rattle.jm_machine.specs.Isolation.{Reached}
use Rattle.jm_machine.specs.Isolation.Reached.{New, Reopened, Stepped}
use Rattle.jm_machine.proofs.Keys.{session_same}
use Rattle.jm_law.proofs.EntrySteps.{Replied}
use Rattle.jm_law.proofs.Run.{after_life, published_life, committed_life}
use Rattle.jm_law.proofs.Transactions.{connection_life}

-- ---- an open session's connection is open

abbrev pub Linked : Life → Type 0
Linked life = (s : SessionId) → is_some (mode_of life s) ≡ true → is_open_connection (connection_of life.connections s.connection) ≡ true

open_pushed : (c : ℕ) (new : ConnectionState) (xs : List ConnectionState) → is_open_connection (connection_of xs c) ≡ true → is_open_connection (connection_of (xs ++ new ∷ []) c) ≡ true
open_pushed c new [] h = cc
open_pushed c new (x ∷ xs) h = go (x.id == c) h (open_pushed c new xs)
  where
    go : (b : Bool) → is_open_connection (cond b (Some x) (connection_of xs c)) ≡ true → (is_open_connection (connection_of xs c) ≡ true → is_open_connection (connection_of (xs ++ new ∷ []) c) ≡ true) →
        is_open_connection (cond b (Some x) (connection_of (xs ++ new ∷ []) c)) ≡ true
    go true h r = h
    go false h r = r h

open_started : (d : ℕ) (on : Bool) (c : ℕ) (xs : List ConnectionState) → is_open_connection (connection_of (with_started d on xs) c) ≡ is_open_connection (connection_of xs c)
open_started d on c [] = refl
open_started d on c (x ∷ xs) = grind (arith, nat_tests, open_started d on c xs)

open_closed : (d c : ℕ) → (c == d) ≡ false → (xs : List ConnectionState) → is_open_connection (connection_of (map (closed_if d) xs) c) ≡ is_open_connection (connection_of xs c)
open_closed d c h [] = refl
open_closed d c h (x ∷ xs) = grind (arith, nat_tests, open_closed d c h xs)

-- a session that stays open as those close that pass is none of them
shut_mode : (p : SessionId → Bool) (s : SessionId) (xs : List SessionState) → is_some (open_mode (session_of (close_sessions p xs) s)) ≡ true → (p s ≡ false) × (is_some (open_mode (session_of xs s)) ≡ true)
shut_mode p s [] h = cc
shut_mode p s (x ∷ xs) h = go (p x.id) refl (session_eq x.id s) refl (shut_mode p s xs) h
  where
    rest : Option SessionState
    rest = session_of (close_sessions p xs) s

    shut : SessionState
    shut = record x { is_open = false }

    go : (a : Bool) → p x.id ≡ a → (b : Bool) → session_eq x.id s ≡ b → (is_some (open_mode rest) ≡ true → (p s ≡ false) × (is_some (open_mode (session_of xs s)) ≡ true)) →
        is_some (open_mode (cond (session_eq (cond a shut x).id s) (Some (cond a shut x)) rest)) ≡ true → (p s ≡ false) × (is_some (open_mode (cond b (Some x) (session_of xs s))) ≡ true)
    go true e true f r h = let i : is_some (open_mode (Some shut)) ≡ true = sym (ap (λ v. is_some (open_mode (cond v (Some shut) rest))) f) ∙ h in cc
    go false e true f r h = (ap p (sym (session_same x.id s f)) ∙ e, sym (ap (λ v. is_some (open_mode (cond v (Some x) rest))) f) ∙ h)
    go true e false f r h = r (sym (ap (λ v. is_some (open_mode (cond v (Some shut) rest))) f) ∙ h)
    go false e false f r h = r (sym (ap (λ v. is_some (open_mode (cond v (Some x) rest))) f) ∙ h)

pushed_mode : (s : SessionId) (new : SessionState) (xs : List SessionState) → is_some (open_mode (session_of (xs ++ new ∷ []) s)) ≡ true → (is_some (open_mode (session_of xs s)) ≡ true) ⊎ (session_eq new.id s ≡ true)
pushed_mode s new [] h = go (session_eq new.id s) h
  where
    go : (b : Bool) → is_some (open_mode (cond b (Some new) None)) ≡ true → (false ≡ true) ⊎ (b ≡ true)
    go true h = inr refl
    go false h = inl h
pushed_mode s new (x ∷ xs) h = go (session_eq x.id s) h (pushed_mode s new xs)
  where
    go : (b : Bool) → is_some (open_mode (cond b (Some x) (session_of (xs ++ new ∷ []) s))) ≡ true →
        (is_some (open_mode (session_of (xs ++ new ∷ []) s)) ≡ true → (is_some (open_mode (session_of xs s)) ≡ true) ⊎ (session_eq new.id s ≡ true)) →
        (is_some (open_mode (cond b (Some x) (session_of xs s))) ≡ true) ⊎ (session_eq new.id s ≡ true)
    go true h r = inl h
    go false h r = r h

new_open : (a b : Bool) → (a && b) ≡ true → a ≡ true
new_open true b h = refl
new_open false b h = cc

linked_pushed : (life : Life) (new : SessionState) → is_open_connection (connection_of life.connections new.id.connection) ≡ true → Linked life → Linked (record life { sessions = life.sessions ++ new ∷ [] })
linked_pushed life new o h s m = go (pushed_mode s new life.sessions m)
  where
    go : (is_some (open_mode (session_of life.sessions s)) ≡ true) ⊎ (session_eq new.id s ≡ true) → is_open_connection (connection_of life.connections s.connection) ≡ true
    go (inl i) = h s i
    go (inr i) = ap (λ (t : SessionId). is_open_connection (connection_of life.connections t.connection)) (sym (session_same new.id s i)) ∙ o

linked_life : (life : Life) (who : Who) (request : Request) → Linked life → Linked (life_after life who request)
unfolding life_after
linked_life life (Connection d) (Open client) h = λ s m. open_pushed s.connection (record { id = d; client = client; is_started = false; is_open = true }) life.connections (h s m)
linked_life life (Connection d) Start h = λ s m. open_started d true s.connection life.connections ∙ h s m
linked_life life (Connection d) Stop h = λ s m. open_started d false s.connection life.connections ∙ h s m
linked_life life (Connection d) CloseConnection h = λ s m. let q = shut_mode (λ t. t.connection == d) s life.sessions m in open_closed d s.connection q.0 life.connections ∙ h s q.1
linked_life life (Session t) (CreateSession mode) h = go (is_new_session life t) refl
  where
    new : SessionState
    new = record { id = t; mode = mode; is_open = true }

    go : (b : Bool) → is_new_session life t ≡ b → Linked (cond b (record life { sessions = life.sessions ++ new ∷ [] }) life)
    go true e = linked_pushed life new (new_open _ _ e) h
    go false e = h
linked_life life (Session t) CloseSession h = λ s m. h s (shut_mode (λ u. session_eq u t) s life.sessions m).1
linked_life life _ _ h = h

linked_if : (b : Bool) (x y : Life) → Linked x → Linked y → Linked (cond b x y)
linked_if true x y p q = p
linked_if false x y p q = q

pub linked_entry : (life : Life) (e : Entry) → Linked life → Linked (life_after_entry life e)
unfolding life_after_entry
linked_entry life (Asked (Connection c) request told) h = linked_if (is_ok told) (life_after life (Connection c) request) life (linked_life life (Connection c) request h) h
linked_entry life (Asked (Session s) request told) h = linked_life life (Session s) request h
linked_entry life (Sent m) h = h
linked_entry life (Committed s) h = h

linked_moved : (o : Option Refusal) (x y : State) → Linked x.life → Linked y.life → Linked (moved o x y).life
linked_moved None x y p q = p
linked_moved (Some r) x y p q = q

linked_after : (state : State) (who : Who) (request : Request) → Linked state.life → Linked (after state who request).life
linked_after state (Connection c) request h = subst Linked (sym (connection_life state c request)) (linked_life state.life (Connection c) request h)
linked_after state (Session s) request h = subst Linked (sym (after_life state s request)) (linked_life state.life (Session s) request h)

linked_step : (state : State) (who : Who) (call : Call) → Linked state.life → Linked (step state who call).life
unfolding step
linked_step state who (Ask request) h = linked_moved (refusal state.life state.consumers (held state who request) who request) (after state who request) state (linked_after state who request h) h
linked_step state who (Publish messages) h = linked_moved (publish_refusal state who messages) (published state messages) state (subst Linked (sym (published_life state messages)) h) h
linked_step state who (Commit messages) h = linked_moved (commit_refusal state who messages) (after_commit state who messages) state (subst Linked (sym (committed_life state who messages)) h) h

pub reached_linked : (state : State) → Reached state → Linked state.life
reached_linked state (New opening limit) = λ s m. cc
reached_linked state (Reopened opening limit stations queues next_place h) = λ s m. cc
reached_linked state (Stepped before who call r) = linked_step before who call (reached_linked before r)

-- ---- the clients of connections

-- a connection that was not opened has the later client, and one that is open has this
abbrev ClientIs : Option (List ℕ) → Option (List ℕ) → Option ConnectionState → Type 0
ClientIs client later None = client ≡ later
ClientIs client later (Some x) = x.is_open ≡ true → client ≡ x.client

-- the connections that are open have these clients, and those that the entries open get them
abbrev pub Clients : (ℕ → Option (List ℕ)) → Life → List Entry → Type 0
Clients clients life entries = (c : ℕ) → ClientIs (clients c) (client_opened entries c) (connection_of life.connections c)

pub clients_begin : (opening : State) (entries : List Entry) → Clients (clients_in opening entries) opening.life entries
clients_begin opening entries c = go (connection_of opening.life.connections c)
  where
    go : (o : Option ConnectionState) → ClientIs (client_or o (client_opened entries c)) (client_opened entries c) o
    go None = refl
    go (Some x) = λ h. ap (λ b. cond b x.client None) h

-- a change that opens none, and keeps numbers, and the clients of those that stay open
record Closes (f : ConnectionState → ConnectionState) : Type 0 where
  id : (x : ConnectionState) → (f x).id ≡ x.id
  client : (x : ConnectionState) → (f x).is_open ≡ true → (f x).client ≡ x.client
  opens : (x : ConnectionState) → (f x).is_open ≡ true → x.is_open ≡ true

client_mapped : (f : ConnectionState → ConnectionState) → Closes f → (client later : Option (List ℕ)) (c : ℕ) (xs : List ConnectionState) → ClientIs client later (connection_of xs c) → ClientIs client later (connection_of (map f xs) c)
client_mapped f k client later c [] h = h
client_mapped f k client later c (x ∷ xs) h = subst (λ n. ClientIs client later (cond (n == c) (Some (f x)) (connection_of (map f xs) c))) (sym (k.id x)) (go (x.id == c) h (client_mapped f k client later c xs))
  where
    go : (b : Bool) → ClientIs client later (cond b (Some x) (connection_of xs c)) → (ClientIs client later (connection_of xs c) → ClientIs client later (connection_of (map f xs) c)) →
        ClientIs client later (cond b (Some (f x)) (connection_of (map f xs) c))
    go true h r = λ o. h (k.opens x o) ∙ sym (k.client x o)
    go false h r = r h

closes_started : (d : ℕ) (on : Bool) → Closes (λ x. cond (x.id == d) (record x { is_started = on }) x)
closes_started d on = record { id = λ x. grind (arith, nat_tests); client = λ x h. grind (arith, nat_tests); opens = λ x h. grind (arith, nat_tests) }

closes_closed : (d : ℕ) → Closes (closed_if d)
closes_closed d = record { id = λ x. grind (arith, nat_tests); client = λ x h. grind (arith, nat_tests); opens = λ x h. grind (arith, nat_tests) }

-- a connection that is opened
found_pushed : (new : ConnectionState) (xs : List ConnectionState) → is_some (connection_of xs new.id) ≡ false → connection_of (xs ++ new ∷ []) new.id ≡ Some new
found_pushed new [] h = grind (arith, nat_tests)
found_pushed new (x ∷ xs) h = grind (arith, nat_tests, found_pushed new xs)

found_other : (c : ℕ) (new : ConnectionState) → (new.id == c) ≡ false → (xs : List ConnectionState) → connection_of (xs ++ new ∷ []) c ≡ connection_of xs c
found_other c new h [] = grind (arith, nat_tests)
found_other c new h (x ∷ xs) = grind (arith, nat_tests, found_other c new h xs)

not_found : (client later : Option (List ℕ)) (o : Option ConnectionState) → is_some o ≡ false → ClientIs client later o → client ≡ later
not_found client later None h i = i
not_found client later (Some x) h i = cc

client_pushed : (a later : Option (List ℕ)) (c : ℕ) (new : ConnectionState) (xs : List ConnectionState) → is_some (connection_of xs new.id) ≡ false →
    ClientIs a (cond (new.id == c) new.client later) (connection_of xs c) → ClientIs a later (connection_of (xs ++ new ∷ []) c)
client_pushed a later c new xs n h = go (new.id == c) refl h
  where
    go : (b : Bool) → (new.id == c) ≡ b → ClientIs a (cond b new.client later) (connection_of xs c) → ClientIs a later (connection_of (xs ++ new ∷ []) c)
    go true e h =
        let i : new.id ≡ c = grind (arith, nat_tests) in
        subst (λ (k : ℕ). ClientIs a later (connection_of (xs ++ new ∷ []) k)) i
        (subst (λ (o : Option ConnectionState). ClientIs a later o) (sym (found_pushed new xs n))
        (λ o. not_found a new.client (connection_of xs new.id) n (subst (λ (k : ℕ). ClientIs a new.client (connection_of xs k)) (sym i) h)))
    go false e h = subst (λ (o : Option ConnectionState). ClientIs a later o) (sym (found_other c new e xs)) h

-- an entry that opens a connection opens a new one
abbrev OpensNew : Life → Entry → Type 0
OpensNew life (Asked (Connection d) (Open client) told) = is_ok told ≡ true → is_some (connection_of life.connections d) ≡ false
OpensNew life _ = Unit {0}

accepted_new : (a b : Bool) (x : Answer) → is_ok (replied (first_cause (unless (not a) IllegalState) (unless (not b) InvalidClientId)) x) ≡ true → a ≡ false
accepted_new true b x h = cc
accepted_new false b x h = refl

pub opens_new : (state : State) (before : List Entry) (e : Entry) → Replied state before e → OpensNew state.life e
unfolding reply refusal
opens_new state before (Asked (Connection d) (Open client) told) h = λ o. accepted_new (is_some (connection_of state.life.connections d)) (is_client_taken state.life client) _ (sym (ap (λ (r : Result Answer Refusal). is_ok r) h) ∙ o)
opens_new state before (Asked who request told) h = tt
opens_new state before (Sent m) h = tt
opens_new state before (Committed s) h = tt

clients_if : (clients : ℕ → Option (List ℕ)) (b : Bool) (x y : Life) (entries : List Entry) → (b ≡ true → Clients clients x entries) → (b ≡ false → Clients clients y entries) → Clients clients (cond b x y) entries
clients_if clients true x y entries p q = p refl
clients_if clients false x y entries p q = q refl

and_same : (x y : Bool) → y ≡ true → (x && y) ≡ x
and_same true y h = h
and_same false y h = refl

and_none : (x y : Bool) → y ≡ false → (x && y) ≡ false
and_none true y h = h
and_none false y h = refl

pub clients_entry : (clients : ℕ → Option (List ℕ)) (life : Life) (e : Entry) (entries : List Entry) → OpensNew life e → Clients clients life (e ∷ entries) → Clients clients (life_after_entry life e) entries
unfolding life_after_entry life_after
clients_entry clients life (Asked (Connection d) (Open client) told) entries n h =
    let new : ConnectionState = record { id = d; client = client; is_started = false; is_open = true } in
    clients_if clients (is_ok told) (record life { connections = life.connections ++ new ∷ [] }) life entries
    (λ o c. client_pushed (clients c) (client_opened entries c) c new life.connections (n o)
    (subst (λ (b : Bool). ClientIs (clients c) (cond b client (client_opened entries c)) (connection_of life.connections c)) (and_same (d == c) (is_ok told) o) (h c)))
    (λ o c. subst (λ (b : Bool). ClientIs (clients c) (cond b client (client_opened entries c)) (connection_of life.connections c)) (and_none (d == c) (is_ok told) o) (h c))
clients_entry clients life (Asked (Connection d) Start told) entries n h =
    clients_if clients (is_ok told) (record life { connections = with_started d true life.connections }) life entries
    (λ o c. client_mapped _ (closes_started d true) (clients c) (client_opened entries c) c life.connections (h c)) (λ o. h)
clients_entry clients life (Asked (Connection d) Stop told) entries n h =
    clients_if clients (is_ok told) (record life { connections = with_started d false life.connections }) life entries
    (λ o c. client_mapped _ (closes_started d false) (clients c) (client_opened entries c) c life.connections (h c)) (λ o. h)
clients_entry clients life (Asked (Connection d) CloseConnection told) entries n h =
    clients_if clients (is_ok told) (record { connections = map (closed_if d) life.connections; sessions = close_sessions (λ s. s.connection == d) life.sessions }) life entries
    (λ o c. client_mapped _ (closes_closed d) (clients c) (client_opened entries c) c life.connections (h c)) (λ o. h)
clients_entry clients life (Asked (Connection d) request told) entries n h = clients_if clients (is_ok told) life life entries (λ o. h) (λ o. h)
clients_entry clients life (Asked (Session s) (CreateSession mode) told) entries n h =
    clients_if clients (is_new_session life s) (record life { sessions = life.sessions ++ record { id = s; mode = mode; is_open = true } ∷ [] }) life entries (λ o. h) (λ o. h)
clients_entry clients life (Asked (Session s) CloseSession told) entries n h = h
clients_entry clients life (Asked (Session s) request told) entries n h = h
clients_entry clients life (Sent m) entries n h = h
clients_entry clients life (Committed s) entries n h = h

-- an open session's connection has the client
pub client_now : (clients : ℕ → Option (List ℕ)) (life : Life) (entries : List Entry) (s : SessionId) → Clients clients life entries → Linked life → is_some (mode_of life s) ≡ true → client_of life s.connection ≡ clients s.connection
client_now clients life entries s h l m = go (connection_of life.connections s.connection) (h s.connection) (l s m)
  where
    go : (o : Option ConnectionState) → ClientIs (clients s.connection) (client_opened entries s.connection) o → is_open_connection o ≡ true → client_at o ≡ clients s.connection
    go None i e = cc
    go (Some x) i e = sym (i e)
