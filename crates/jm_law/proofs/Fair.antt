-- What the calls of a list name, by the machine as each of them is made, is what they name by the scope of the key.
use Rattle.std.proofs.Common.{◌≡◌, ℕ, Bool, true, false, cond, List, [], ◌∷◌, refl, ap, sym, subst, ◌∙◌, Option, None}
use Rattle.std.specs.Prelude.{◌&&◌, is_some}
use Rattle.jm_dest.specs.declared.session.SessionId.{SessionId}
use Rattle.jm_dest.specs.declared.key.Key.{Key}
use Rattle.jm_dest.specs.declared.key.Key.TheVariants.{Own, SharedOwn, Durable, Queue as OfQueue}
use Rattle.jm_dest.specs.Keys.{key_eq}
use Rattle.jm_machine.specs.declared.call.Who.TheVariants.{Connection, Session}
use Rattle.jm_machine.specs.declared.call.Request.{Request}
use Rattle.jm_machine.specs.declared.call.Request.TheVariants.{CreateConsumer, CreateDurable, CreateShared, CreateSharedDurable, Unsubscribe}
use Rattle.jm_machine.specs.declared.entry.Entry.{Entry}
use Rattle.jm_machine.specs.declared.entry.Entry.TheVariants.{Asked, Sent, Committed}
use Rattle.jm_machine.specs.Owns.{is_own, is_own_connection}
use Rattle.jm_machine.specs.Life.{Life, client_of, mode_of}
use Rattle.jm_machine.specs.Machine.{State}
use Rattle.jm_machine.specs.Entries.{life_after_entry}
use Rattle.jm_machine.specs.Lone.{belongs, clients_in, names_key, deletes_key, own_sessions, scope_of}
use Rattle.jm_machine.specs.Isolation.{Reached}
use Rattle.jm_law.proofs.Owned.{own_connection}
use Rattle.jm_law.proofs.Consumers.{Unshared, FairMade, FairEntry, FairAll}
use Rattle.jm_law.proofs.EntrySteps.{state_after_entry, EntriesFit}
use Rattle.jm_law.proofs.Run.{entry_life}
use Rattle.jm_law.proofs.Opened.{Linked, linked_entry, reached_linked, Clients, clients_begin, opens_new, clients_entry, client_now}
use Rattle.jm_law.proofs.Numbers.{Numbers, Calls, all_calls, calls_left, call_number, and_both, self}

-- a request that creates no unshared subscription: one that deletes the key's is an own session's, and one that asks
-- for a shared subscription does not name the key
abbrev Aside : Key → State → List Entry → SessionId → Request → Type 0
Aside key opening all s (Unsubscribe name) = deletes_key key (clients_in opening all) s name ≡ true → is_own (own_sessions key opening all) s ≡ true
Aside key opening all s (CreateShared c destination name selector) = names_key key (clients_in opening all) s (CreateShared c destination name selector) ≡ false
Aside key opening all s (CreateSharedDurable c destination name selector) = names_key key (clients_in opening all) s (CreateSharedDurable c destination name selector) ≡ false
Aside key opening all s _ = Unit {0}

abbrev pub EntryAside : Key → State → List Entry → Entry → Type 0
EntryAside key opening all (Asked (Session s) request told) = Aside key opening all s request
EntryAside key opening all _ = Unit {0}

abbrev pub AllAside : Key → State → List Entry → List Entry → Type 0
AllAside key opening all [] = Unit {0}
AllAside key opening all (e ∷ entries) = EntryAside key opening all e × AllAside key opening all entries

-- equal clients name alike
pub names_same : (key : Key) (a b : ℕ → Option (List ℕ)) (s : SessionId) → a s.connection ≡ b s.connection → (request : Request) → names_key key a s request ≡ names_key key b s request
names_same key a b s e (CreateDurable c destination name selector no_local) = ap (λ (o : Option (List ℕ)). key_eq (Durable o name) key) e
names_same key a b s e (CreateShared c destination name selector) = ap (λ (o : Option (List ℕ)). key_eq (SharedOwn o name) key) e
names_same key a b s e (CreateSharedDurable c destination name selector) = ap (λ (o : Option (List ℕ)). key_eq (Durable o name) key) e
names_same key a b s e _ = refl

pub deletes_same : (key : Key) (a b : ℕ → Option (List ℕ)) (s : SessionId) → a s.connection ≡ b s.connection → (name : List ℕ) → deletes_key key a s name ≡ deletes_key key b s name
deletes_same key a b s e name = ap (λ (o : Option (List ℕ)). key_eq (Durable o name) key) e

-- a consumer's own key is named by no client
names_own : (t : SessionId) (d : ℕ) (a b : ℕ → Option (List ℕ)) (s : SessionId) (request : Request) → names_key (Own t d) a s request ≡ names_key (Own t d) b s request
names_own t d a b s (CreateDurable c destination name selector no_local) = refl
names_own t d a b s (CreateShared c destination name selector) = refl
names_own t d a b s (CreateSharedDurable c destination name selector) = refl
names_own t d a b s _ = refl

own_client_of : (sessions : List SessionId) (clients : ℕ → Option (List ℕ)) (s : SessionId) → is_own sessions s ≡ true → cond (is_own_connection sessions s.connection) (clients s.connection) None ≡ clients s.connection
own_client_of sessions clients s h = ap (λ (b : Bool). cond b (clients s.connection) None) (own_connection sessions s h)

-- an own session names by the scope what it names by all clients
scope_names : (key : Key) (opening : State) (all : List Entry) (s : SessionId) (request : Request) → Unshared key → is_own (own_sessions key opening all) s ≡ true →
    names_key key (scope_of key opening all).clients s request ≡ names_key key (clients_in opening all) s request
scope_names (OfQueue name) opening all s request u h = absurd u
scope_names (Own t d) opening all s request u h = names_own t d (scope_of (Own t d) opening all).clients (clients_in opening all) s request
scope_names (SharedOwn client name) opening all s request u h = absurd u
scope_names (Durable client name) opening all s request u h =
    names_same (Durable client name) (scope_of (Durable client name) opening all).clients (clients_in opening all) s (own_client_of (own_sessions (Durable client name) opening all) (clients_in opening all) s h) request

scope_deletes : (key : Key) (opening : State) (all : List Entry) (s : SessionId) (name : List ℕ) → Unshared key → is_own (own_sessions key opening all) s ≡ true →
    deletes_key key (scope_of key opening all).clients s name ≡ deletes_key key (clients_in opening all) s name
scope_deletes (OfQueue other) opening all s name u h = absurd u
scope_deletes (Own t d) opening all s name u h = refl
scope_deletes (SharedOwn client other) opening all s name u h = absurd u
scope_deletes (Durable client other) opening all s name u h =
    deletes_same (Durable client other) (scope_of (Durable client other) opening all).clients (clients_in opening all) s (own_client_of (own_sessions (Durable client other) opening all) (clients_in opening all) s h) name

own_named : (own a b : Bool) → (own ≡ true → a ≡ b) → (b ≡ true → own ≡ true) → (own && a) ≡ b
own_named true a b p q = p refl
own_named false a true p q = q refl
own_named false a false p q = refl

-- a creating call of a session
fair_made : (key : Key) (opening : State) (all : List Entry) (life : Life) (s : SessionId) (c : ℕ) (request : Request) → Unshared key → (is_some (mode_of life s) ≡ true → client_of life s.connection ≡ clients_in opening all s.connection) →
    names_key key (clients_in opening all) s request ≡ belongs (scope_of key opening all) s c → FairMade (scope_of key opening all) life s c request
fair_made key opening all life s c request u h n =
    let own : Bool = is_own (own_sessions key opening all) s in
    let v : (own && names_key key (scope_of key opening all).clients s request) ≡ names_key key (clients_in opening all) s request =
    own_named own _ _ (scope_names key opening all s request u) (λ i. (and_both own _ (sym n ∙ i)).0) in
    (λ m. names_same key (client_of life) (clients_in opening all) s (h m) request ∙ sym v, v ∙ n)

-- an entry
fair_entry : (key : Key) (opening : State) (all : List Entry) (life : Life) (e : Entry) (left : List Entry) → Unshared key → Numbers key opening all → Calls key opening all (e ∷ left) → EntryAside key opening all e →
    ((s : SessionId) → is_some (mode_of life s) ≡ true → client_of life s.connection ≡ clients_in opening all s.connection) → FairEntry (scope_of key opening all) life e
fair_entry key opening all life (Asked (Session s) (CreateConsumer c destination selector no_local) told) left u n q a h =
    fair_made key opening all life s c (CreateConsumer c destination selector no_local) u (h s) (call_number key opening all (Asked (Session s) (CreateConsumer c destination selector no_local) told) left s c u n q (self s c))
fair_entry key opening all life (Asked (Session s) (CreateDurable c destination name selector no_local) told) left u n q a h =
    fair_made key opening all life s c (CreateDurable c destination name selector no_local) u (h s) (call_number key opening all (Asked (Session s) (CreateDurable c destination name selector no_local) told) left s c u n q (self s c))
fair_entry key opening all life (Asked (Session s) (CreateShared c destination name selector) told) left u n q a h =
    let f : FairMade (scope_of key opening all) life s c (CreateShared c destination name selector) =
    fair_made key opening all life s c (CreateShared c destination name selector) u (h s) (call_number key opening all (Asked (Session s) (CreateShared c destination name selector) told) left s c u n q (self s c)) in
    (f, f.1 ∙ sym (call_number key opening all (Asked (Session s) (CreateShared c destination name selector) told) left s c u n q (self s c)) ∙ a)
fair_entry key opening all life (Asked (Session s) (CreateSharedDurable c destination name selector) told) left u n q a h =
    let f : FairMade (scope_of key opening all) life s c (CreateSharedDurable c destination name selector) =
    fair_made key opening all life s c (CreateSharedDurable c destination name selector) u (h s) (call_number key opening all (Asked (Session s) (CreateSharedDurable c destination name selector) told) left s c u n q (self s c)) in
    (f, f.1 ∙ sym (call_number key opening all (Asked (Session s) (CreateSharedDurable c destination name selector) told) left s c u n q (self s c)) ∙ a)
fair_entry key opening all life (Asked (Session s) (Unsubscribe name) told) left u n q a h =
    λ m. deletes_same key (client_of life) (clients_in opening all) s (h s m) name
    ∙ sym (own_named (is_own (own_sessions key opening all) s) _ _ (scope_deletes key opening all s name u) a)
fair_entry key opening all life (Asked (Session s) request told) left u n q a h = tt
fair_entry key opening all life (Asked (Connection c) request told) left u n q a h = tt
fair_entry key opening all life (Sent m) left u n q a h = tt
fair_entry key opening all life (Committed s) left u n q a h = tt

fair_from : (key : Key) (opening : State) (all : List Entry) → Unshared key → Numbers key opening all → (left before : List Entry) (state : State) → EntriesFit state before left → Calls key opening all left → AllAside key opening all left →
    Clients (clients_in opening all) state.life left → Linked state.life → FairAll (scope_of key opening all) state.life left
fair_from key opening all u n [] before state f q a h l = tt
fair_from key opening all u n (e ∷ left) before state f q a h l =
    let same : (state_after_entry state before e).life ≡ life_after_entry state.life e = entry_life state before e f.0 in (
      fair_entry key opening all state.life e left u n q a.0 (λ s m. client_now (clients_in opening all) state.life (e ∷ left) s h l m),
      subst (λ (x : Life). FairAll (scope_of key opening all) x left) same
          (fair_from key opening all u n left (e ∷ before) (state_after_entry state before e) f.1 (calls_left key opening all e left q) a.1
          (subst (λ (x : Life). Clients (clients_in opening all) x left) (sym same) (clients_entry (clients_in opening all) state.life e left (opens_new state before e f.0) h))
          (subst Linked (sym same) (linked_entry state.life e l))),
    )

pub fair_by : (key : Key) (opening : State) (all : List Entry) → Unshared key → Numbers key opening all → AllAside key opening all all → Reached opening → EntriesFit opening [] all → FairAll (scope_of key opening all) opening.life all
fair_by key opening all u n a r f = fair_from key opening all u n all [] opening f (all_calls key opening all n) a (clients_begin opening all) (reached_linked opening r)
