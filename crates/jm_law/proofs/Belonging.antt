-- What belongs to a durable key is seen from what its subscription starts with and from what it is fed.
use Rattle.std.proofs.Common.{◌≡◌, ℕ, ◌+◌, Bool, true, false, cond, List, [], ◌∷◌, ◌++◌, refl, ap, sym, ◌∙◌, ◌⊎◌, inl, inr, arith, Option, Some, None}
use Rattle.std.specs.Prelude.{filter, map, is_some, is_ok, ◌&&◌, ◌||◌, ◌==◌}
use Rattle.std.specs.List.{list_any}
use Rattle.std.proofs.lemmas.Bool.Decides.{nat_tests}
use Rattle.jm_dest.specs.declared.session.SessionId.{SessionId}
use Rattle.jm_dest.specs.declared.key.Key.{Key}
use Rattle.jm_dest.specs.declared.key.Key.TheVariants.{Durable}
use Rattle.jm_dest.specs.Names.{session_eq}
use Rattle.jm_dest.specs.Keys.{key_eq}
use Rattle.jm_header.specs.declared.content.Content.{Content}
use Rattle.jm_machine.specs.declared.call.Who.TheVariants.{Connection, Session}
use Rattle.jm_machine.specs.declared.call.Request.{Request}
use Rattle.jm_machine.specs.declared.call.Request.TheVariants.{Open, CreateDurable, Unsubscribe}
use Rattle.jm_machine.specs.declared.entry.Entry.{Entry}
use Rattle.jm_machine.specs.declared.entry.Entry.TheVariants.{Asked, Sent, Committed}
use Rattle.jm_machine.specs.declared.state.Consumer.{Consumer}
use Rattle.jm_machine.specs.Owns.{is_own, is_own_connection}
use Rattle.jm_machine.specs.Life.{Life, connection_of}
use Rattle.jm_machine.specs.Machine.{State, has_number, consumer_of, rows_of, station_of}
use Rattle.jm_machine.specs.Entries.{life_after_entry, committed}
use Rattle.jm_machine.specs.Lone.{Scope, Lone, Item, client_opened, client_or, clients_in, names_key, asks_for, askers, consuming, holding_rows, own_sessions, own_clients, clients_of, numbers_of, number_made, is_number, creates, entry_names, is_made_for, scope_of, lone_of, lone_end, came, accepted, own_items, fed, at_place, feed}
use Rattle.jm_machine.specs.Lone.Item.{Called, Settled, Came}
use Rattle.jm_machine.specs.Isolation.{keeps_number, starts_with, feed_of, in_order}
use Rattle.jm_machine.proofs.Keys.{session_same}
use Rattle.jm_law.proofs.Owned.{own_connection}
use Rattle.jm_law.proofs.Life.{own_connection_of}
use Rattle.jm_law.proofs.Fair.{names_same, deletes_same}
use Rattle.jm_law.proofs.Numbers.{keeps, all_name, ConsumersKept, CallsKept, Numbers, made_kept, made_keeps, same_number, and_both, both_ways}
use Rattle.jm_law.proofs.Unshared.{AskersOwn, asker_first, askers_left}

-- ---- items without their places

pub in_order-append : {A : Type 0} (xs ys : List (ℕ × A)) → in_order (xs ++ ys) ≡ in_order xs ++ in_order ys
in_order-append [] ys = refl
in_order-append (x ∷ xs) ys = ap (λ t. x.1 ∷ t) (in_order-append xs ys)

pub in_order-at : (place : ℕ) (items : List Item) → in_order (at_place place items) ≡ items
in_order-at place [] = refl
in_order-at place (i ∷ items) = ap (λ t. i ∷ t) (in_order-at place items)

-- ---- what is made of a feed, item by item

-- what is made of items, from the last one to the first
abbrev folded : {R : Type 0} → (Item → R → R) → R → List Item → R
folded f z [] = z
folded f z (i ∷ items) = f i (folded f z items)

folded-append : {R : Type 0} (f : Item → R → R) (z : R) (xs ys : List Item) → folded f z (xs ++ ys) ≡ folded f (folded f z ys) xs
folded-append f z [] ys = refl
folded-append f z (x ∷ xs) ys = ap (f x) (folded-append f z xs ys)

folded-came : {R : Type 0} (f : Item → R → R) → ((m : Content) (r : R) → f (Came m) r ≡ r) → (z : R) (ms : List Content) → folded f z (came ms) ≡ z
folded-came f g z [] = refl
folded-came f g z (m ∷ ms) = g m (folded f z (came ms)) ∙ folded-came f g z ms

folded-none : {R : Type 0} (f : Item → R → R) (r : R) (i : Item) (b : Bool) → f i r ≡ r → folded f r (cond b (i ∷ []) []) ≡ r
folded-none f r i true h = h
folded-none f r i false h = refl

-- where publications play no part, and each entry's own item adds what the entry does, the feed makes what the entries do
feed_folded : {R : Type 0} (S : Scope) (f : Item → R → R) → ((m : Content) (r : R) → f (Came m) r ≡ r) → (h : List Entry → R) (P : List Entry → Type 0) → ((e : Entry) (left : List Entry) → P (e ∷ left) → P left) →
    ((e : Entry) (left : List Entry) → P (e ∷ left) → folded f (h left) (own_items S e) ≡ h (e ∷ left)) →
    (entries : List Entry) → P entries → (place : ℕ) (life : Life) (before : List Entry) (l : Lone) → folded f (h []) (in_order (feed S place life before l entries)) ≡ h entries
unfolding feed
feed_folded S f g h P t one [] p place life before l = refl
feed_folded S f g h P t one (e ∷ left) p place life before l =
    let items : List Item = fed S life before l e in
    let news : List Content = accepted S.key l.definition life (committed life before e) in
    let rest : List (ℕ × Item) = feed S (place + 1) (life_after_entry life e) (e ∷ before) (lone_end S l items) left in
    ap (λ (xs : List Item). folded f (h []) xs) (in_order-append (at_place place items) rest ∙ ap (λ (xs : List Item). xs ++ in_order rest) (in_order-at place items))
    ∙ folded-append f (h []) items (in_order rest)
    ∙ ap (λ r. folded f r items) (feed_folded S f g h P t one left (t e left p) (place + 1) (life_after_entry life e) (e ∷ before) (lone_end S l items))
    ∙ folded-append f (h left) (own_items S e) (came news)
    ∙ ap (λ r. folded f r (own_items S e)) (folded-came f g (h left) news)
    ∙ one e left p

-- ---- the clients of own connections

abbrev client_by : ℕ → Item → Option (List ℕ) → Option (List ℕ)
client_by c (Called (Connection d) (Open client)) later = cond (d == c) client later
client_by c (Called (Connection d) request) later = later
client_by c (Called (Session s) request) later = later
client_by c (Settled s) later = later
client_by c (Came m) later = later

-- the client of a connection, as the subscription is shown it: at its start, or as it is opened
abbrev clients_shown : Lone → List Item → ℕ → Option (List ℕ)
clients_shown l items c = client_or (connection_of l.life.connections c) (folded (client_by c) None items)

opened_by : (S : Scope) (c : ℕ) → is_own_connection S.sessions c ≡ true → (e : Entry) (left : List Entry) → Unit {0} → folded (client_by c) (client_opened left c) (own_items S e) ≡ client_opened (e ∷ left) c
opened_by S c h (Asked (Connection d) (Open client) told) left u = go (d == c) (is_own_connection S.sessions d) (is_ok told) refl own
  where
    own : (d == c) ≡ true → is_own_connection S.sessions d ≡ true
    own e = let same : d ≡ c = grind (arith, nat_tests) in ap (λ n. is_own_connection S.sessions n) same ∙ h

    go : (a o b : Bool) → (d == c) ≡ a → (a ≡ true → o ≡ true) → folded (client_by c) (client_opened left c) (cond (o && b) (Called (Connection d) (Open client) ∷ []) []) ≡ cond (a && b) client (client_opened left c)
    go true true true e i = ap (λ v. cond v client (client_opened left c)) e
    go true true false e i = refl
    go true false b e i = absurd (let f : false ≡ true = i refl in cc)
    go false true true e i = ap (λ v. cond v client (client_opened left c)) e
    go false true false e i = refl
    go false false b e i = refl
opened_by S c h (Asked (Connection d) request told) left u = folded-none (client_by c) (client_opened left c) (Called (Connection d) request) _ refl
opened_by S c h (Asked (Session s) request told) left u = folded-none (client_by c) (client_opened left c) (Called (Session s) request) _ refl
opened_by S c h (Sent m) left u = refl
opened_by S c h (Committed s) left u = folded-none (client_by c) (client_opened left c) (Settled s) _ refl

clients_seen : (key : Key) (opening : State) (entries : List Entry) (c : ℕ) → is_own_connection (own_sessions key opening entries) c ≡ true →
    clients_shown (starts_with key opening entries) (in_order (feed_of key opening entries)) c ≡ clients_in opening entries c
unfolding lone_of
clients_seen key opening entries c h =
    let S : Scope = scope_of key opening entries in
    let same = own_connection_of S.sessions opening.life c h in
    let later = feed_folded S (client_by c) (λ m r. refl) (λ left. client_opened left c) (λ left. Unit {0}) (λ e left u. tt) (opened_by S c h) entries tt 0 opening.life [] (starts_with key opening entries) in
    λ i. client_or (same i) (later i)

-- ---- own sessions

asks_same : (key : Key) (a b : ℕ → Option (List ℕ)) (s : SessionId) → a s.connection ≡ b s.connection → (request : Request) → asks_for key a s request ≡ asks_for key b s request
asks_same key a b s e (CreateDurable c destination name selector no_local) = names_same key a b s e (CreateDurable c destination name selector no_local)
asks_same key a b s e (Unsubscribe name) = deletes_same key a b s e name
asks_same key a b s e _ = refl

abbrev session_by : Key → (ℕ → Option (List ℕ)) → Item → List SessionId → List SessionId
session_by key clients (Called (Session s) request) later = cond (asks_for key clients s request) (s ∷ later) later
session_by key clients (Called (Connection c) request) later = later
session_by key clients (Settled s) later = later
session_by key clients (Came m) later = later

-- the own sessions, as the subscription is shown them: by its consumers, its rows, and those that ask for it
abbrev sessions_shown : Key → Lone → List Item → List SessionId
sessions_shown key l items = map (λ x. x.session) l.consumers ++ (holding_rows l.rows ++ folded (session_by key (clients_shown l items)) [] items)

asker_by : (key : Key) (opening : State) (all : List Entry) (shown : ℕ → Option (List ℕ)) → ((s : SessionId) → is_own (own_sessions key opening all) s ≡ true → shown s.connection ≡ clients_in opening all s.connection) →
    (e : Entry) (left : List Entry) → AskersOwn key opening all (e ∷ left) →
    folded (session_by key shown) (askers key (clients_in opening all) left) (own_items (scope_of key opening all) e) ≡ askers key (clients_in opening all) (e ∷ left)
asker_by key opening all shown h (Asked (Session s) request told) left p =
    go (is_own (own_sessions key opening all) s) refl (asks_for key (clients_in opening all) s request) refl (λ i. asker_first key opening all left s (asks_for key (clients_in opening all) s request) i p)
  where
    go : (o : Bool) → is_own (own_sessions key opening all) s ≡ o → (a : Bool) → asks_for key (clients_in opening all) s request ≡ a → (a ≡ true → o ≡ true) →
        folded (session_by key shown) (askers key (clients_in opening all) left) (cond o (Called (Session s) request ∷ []) []) ≡ cond a (s ∷ askers key (clients_in opening all) left) (askers key (clients_in opening all) left)
    go true o a e i = ap (λ b. cond b (s ∷ askers key (clients_in opening all) left) (askers key (clients_in opening all) left)) (asks_same key shown (clients_in opening all) s (h s o) request ∙ e)
    go false o true e i = absurd (let f : false ≡ true = i refl in cc)
    go false o false e i = refl
asker_by key opening all shown h (Asked (Connection c) request told) left p = folded-none (session_by key shown) (askers key (clients_in opening all) left) (Called (Connection c) request) _ refl
asker_by key opening all shown h (Sent m) left p = refl
asker_by key opening all shown h (Committed s) left p = folded-none (session_by key shown) (askers key (clients_in opening all) left) (Settled s) _ refl

-- ---- the numbers of its consumers

-- the item is a creating call of the session that names the number and the key
abbrev item_names : Key → (ℕ → Option (List ℕ)) → SessionId → ℕ → Item → Bool
item_names key clients s c (Called (Session t) request) = (session_eq t s && is_number c (number_made request)) && names_key key clients t request
item_names key clients s c (Called (Connection d) request) = false
item_names key clients s c (Settled t) = false
item_names key clients s c (Came m) = false

abbrev number_by : Key → (ℕ → Option (List ℕ)) → SessionId → ℕ → Item → Bool → Bool
number_by key clients s c i later = item_names key clients s c i || later

-- the entry is one
abbrev call_names : Key → (ℕ → Option (List ℕ)) → SessionId → ℕ → Entry → Bool
call_names key clients s c e = creates s c e && entry_names key clients e

-- the number is the key's, as the subscription is shown it: by its consumers, and the calls that make one
abbrev is_shown : Key → Lone → List Item → SessionId → ℕ → Bool
is_shown key l items s c = is_some (consumer_of l.consumers s c) || folded (number_by key (clients_shown l items) s c) false items

namer_by : (key : Key) (opening : State) (all : List Entry) (shown : ℕ → Option (List ℕ)) → ((s : SessionId) → is_own (own_sessions key opening all) s ≡ true → shown s.connection ≡ clients_in opening all s.connection) →
    (s : SessionId) (c : ℕ) → is_own (own_sessions key opening all) s ≡ true → (e : Entry) (left : List Entry) → Unit {0} →
    folded (number_by key shown s c) (list_any (call_names key (clients_in opening all) s c) left) (own_items (scope_of key opening all) e) ≡ list_any (call_names key (clients_in opening all) s c) (e ∷ left)
namer_by key opening all shown h s c own (Asked (Session t) request told) left u = go (is_own (own_sessions key opening all) t) refl (session_eq t s) refl
  where
    go : (o : Bool) → is_own (own_sessions key opening all) t ≡ o → (a : Bool) → session_eq t s ≡ a →
        folded (number_by key shown s c) (list_any (call_names key (clients_in opening all) s c) left) (cond o (Called (Session t) request ∷ []) [])
        ≡ (((a && is_number c (number_made request)) && names_key key (clients_in opening all) t request) || list_any (call_names key (clients_in opening all) s c) left)
    go true o a e = λ i. ((e i && is_number c (number_made request)) && names_same key shown (clients_in opening all) t (h t o) request i) || list_any (call_names key (clients_in opening all) s c) left
    go false o true e = absurd (let f : true ≡ false = sym own ∙ sym (ap (is_own (own_sessions key opening all)) (session_same t s e)) ∙ o in cc)
    go false o false e = refl
namer_by key opening all shown h s c own (Asked (Connection d) request told) left u = folded-none (number_by key shown s c) (list_any (call_names key (clients_in opening all) s c) left) (Called (Connection d) request) _ refl
namer_by key opening all shown h s c own (Sent m) left u = refl
namer_by key opening all shown h s c own (Committed t) left u = folded-none (number_by key shown s c) (list_any (call_names key (clients_in opening all) s c) left) (Settled t) _ refl

-- a number that names nothing else is found among the key's consumers where it is found at all, and so among the calls
pub found_among : (key : Key) (s : SessionId) (c : ℕ) (xs : List Consumer) → keeps key s c xs ≡ true → is_some (consumer_of (filter (λ x. key_eq x.key key) xs) s c) ≡ is_some (consumer_of xs s c)
found_among key s c [] k = refl
found_among key s c (x ∷ xs) k = grind (arith, nat_tests, found_among key s c xs)

named_among : (key : Key) (clients : ℕ → Option (List ℕ)) (s : SessionId) (c : ℕ) (entries : List Entry) → all_name key clients s c entries ≡ true → list_any (call_names key clients s c) entries ≡ list_any (creates s c) entries
named_among key clients s c [] k = refl
named_among key clients s c (e ∷ entries) k = grind (arith, nat_tests, named_among key clients s c entries)

-- a number of one of the key's consumers, or of a call that makes one, names nothing else
of_consumer : (key : Key) (opening : State) (all : List Entry) (s : SessionId) (c : ℕ) (xs : List Consumer) → ConsumersKept key opening all xs → is_some (consumer_of (filter (λ x. key_eq x.key key) xs) s c) ≡ true → keeps_number key opening all s c ≡ true
of_consumer key opening all s c [] k h = cc
of_consumer key opening all s c (x ∷ xs) k h = go (key_eq x.key key) refl (has_number s c x) refl h (of_consumer key opening all s c xs k.1)
  where
    go : (a : Bool) → key_eq x.key key ≡ a → (b : Bool) → has_number s c x ≡ b → is_some (consumer_of (cond a (x ∷ filter (λ x. key_eq x.key key) xs) (filter (λ x. key_eq x.key key) xs)) s c) ≡ true →
        (is_some (consumer_of (filter (λ x. key_eq x.key key) xs) s c) ≡ true → keeps_number key opening all s c ≡ true) → keeps_number key opening all s c ≡ true
    go true e true f i rest =
        let n = same_number x s c f in
        sym (λ l. keeps_number key opening all (n.0 l) (n.1 l)) ∙ (k.0 e).0
    go true e false f i rest = rest (sym (ap (λ b. is_some (cond b (Some x) (consumer_of (filter (λ x. key_eq x.key key) xs) s c))) f) ∙ i)
    go false e b f i rest = rest i

of_call : (key : Key) (opening : State) (all : List Entry) (s : SessionId) (c : ℕ) (left : List Entry) → CallsKept key opening all left → list_any (call_names key (clients_in opening all) s c) left ≡ true → keeps_number key opening all s c ≡ true
of_call key opening all s c [] k h = cc
of_call key opening all s c (e ∷ left) k h = go (creates s c e) refl (entry_names key (clients_in opening all) e) refl h (of_call key opening all s c left k.1)
  where
    go : (a : Bool) → creates s c e ≡ a → (b : Bool) → entry_names key (clients_in opening all) e ≡ b → ((a && b) || list_any (call_names key (clients_in opening all) s c) left) ≡ true →
        (list_any (call_names key (clients_in opening all) s c) left ≡ true → keeps_number key opening all s c ≡ true) → keeps_number key opening all s c ≡ true
    go true i true j o rest = (k.0 s c i j).0
    go true i false j o rest = rest o
    go false i b j o rest = rest o

either : (a b : Bool) → (a || b) ≡ true → (a ≡ true) ⊎ (b ≡ true)
either true b h = inl refl
either false b h = inr h

made_named : (key : Key) (opening : State) (all : List Entry) (s : SessionId) (c : ℕ) → Numbers key opening all →
    is_made_for key opening all s c ≡ (is_some (consumer_of (filter (λ x. key_eq x.key key) opening.consumers) s c) || list_any (call_names key (clients_in opening all) s c) all)
made_named key opening all s c n = go (keeps_number key opening all s c) refl
  where
    shown : Bool
    shown = is_some (consumer_of (filter (λ x. key_eq x.key key) opening.consumers) s c) || list_any (call_names key (clients_in opening all) s c) all

    kept : (is_some (consumer_of (filter (λ x. key_eq x.key key) opening.consumers) s c) ≡ true) ⊎ (list_any (call_names key (clients_in opening all) s c) all ≡ true) → keeps_number key opening all s c ≡ true
    kept (inl h) = of_consumer key opening all s c opening.consumers n.consumers h
    kept (inr h) = of_call key opening all s c all n.calls h

    go : (b : Bool) → keeps_number key opening all s c ≡ b → is_made_for key opening all s c ≡ (is_some (consumer_of (filter (λ x. key_eq x.key key) opening.consumers) s c) || list_any (call_names key (clients_in opening all) s c) all)
    go true e =
        let k = and_both _ _ e in
        let found = found_among key s c opening.consumers k.0 in
        let named = named_among key (clients_in opening all) s c all k.1 in
        made_kept key opening all s c e ∙ sym (λ i. found i || named i)
    go false e =
        both_ways _ _
        (λ i. absurd (let f : false ≡ true = sym e ∙ made_keeps key opening all n s c i in cc))
        (λ i. absurd (let f : false ≡ true = sym e ∙ kept (either _ _ i) in cc))

-- ---- what belongs to the key

-- what belongs to the key, as its subscription is shown it
pub scope_shown : Key → Lone → List Item → Scope
scope_shown key l items = record {
  key = key;
  sessions = sessions_shown key l items;
  clients = own_clients (sessions_shown key l items) (clients_shown l items);
  numbers = λ s c. is_own (sessions_shown key l items) s && is_shown key l items s c;
}

-- an own session's connection has the client that is shown
seen : (key : Key) (opening : State) (entries : List Entry) (s : SessionId) → is_own (own_sessions key opening entries) s ≡ true →
    clients_shown (starts_with key opening entries) (in_order (feed_of key opening entries)) s.connection ≡ clients_in opening entries s.connection
seen key opening entries s h = clients_seen key opening entries s.connection (own_connection (own_sessions key opening entries) s h)

sessions_seen : (client : Option (List ℕ)) (name : List ℕ) (opening : State) (entries : List Entry) → AskersOwn (Durable client name) opening entries entries →
    own_sessions (Durable client name) opening entries ≡ sessions_shown (Durable client name) (starts_with (Durable client name) opening entries) (in_order (feed_of (Durable client name) opening entries))
unfolding lone_of
sessions_seen client name opening entries a =
    let key : Key = Durable client name in
    let start : Lone = starts_with key opening entries in
    let shown : ℕ → Option (List ℕ) = clients_shown start (in_order (feed_of key opening entries)) in
    ap (λ (xs : List SessionId). consuming key opening.consumers ++ (holding_rows (rows_of (station_of key opening.stations)) ++ xs))
    (sym (feed_folded (scope_of key opening entries) (session_by key shown) (λ m r. refl) (λ left. askers key (clients_in opening entries) left) (AskersOwn key opening entries) (λ e left p. askers_left key opening entries e left p)
    (asker_by key opening entries shown (seen key opening entries)) entries a 0 opening.life [] start))

client_seen : (client : Option (List ℕ)) (name : List ℕ) (opening : State) (entries : List Entry) → AskersOwn (Durable client name) opening entries entries → (c : ℕ) →
    clients_of (Durable client name) opening entries c ≡ (scope_shown (Durable client name) (starts_with (Durable client name) opening entries) (in_order (feed_of (Durable client name) opening entries))).clients c
unfolding scope_shown
client_seen client name opening entries a c =
    let key : Key = Durable client name in
    let shown : ℕ → Option (List ℕ) = clients_shown (starts_with key opening entries) (in_order (feed_of key opening entries)) in
    go (is_own_connection (own_sessions key opening entries) c) refl ∙ ap (λ (own : List SessionId). own_clients own shown c) (sessions_seen client name opening entries a)
  where
    go : (b : Bool) → is_own_connection (own_sessions (Durable client name) opening entries) c ≡ b →
        cond b (clients_in opening entries c) None ≡ cond b (clients_shown (starts_with (Durable client name) opening entries) (in_order (feed_of (Durable client name) opening entries)) c) None
    go true h = sym (clients_seen (Durable client name) opening entries c h)
    go false h = refl

number_seen : (client : Option (List ℕ)) (name : List ℕ) (opening : State) (entries : List Entry) → Numbers (Durable client name) opening entries → AskersOwn (Durable client name) opening entries entries → (s : SessionId) (c : ℕ) →
    numbers_of (Durable client name) opening entries s c ≡ (scope_shown (Durable client name) (starts_with (Durable client name) opening entries) (in_order (feed_of (Durable client name) opening entries))).numbers s c
unfolding scope_shown lone_of
number_seen client name opening entries n a s c =
    let key : Key = Durable client name in
    let start : Lone = starts_with key opening entries in
    let items : List Item = in_order (feed_of key opening entries) in
    go (is_own (own_sessions key opening entries) s) refl ∙ ap (λ (own : List SessionId). is_own own s && is_shown key start items s c) (sessions_seen client name opening entries a)
  where
    go : (b : Bool) → is_own (own_sessions (Durable client name) opening entries) s ≡ b →
        (b && is_made_for (Durable client name) opening entries s c) ≡ (b && is_shown (Durable client name) (starts_with (Durable client name) opening entries) (in_order (feed_of (Durable client name) opening entries)) s c)
    go true h =
        let key : Key = Durable client name in
        let start : Lone = starts_with key opening entries in
        let shown : ℕ → Option (List ℕ) = clients_shown start (in_order (feed_of key opening entries)) in
        made_named key opening entries s c n
        ∙ ap (λ b. is_some (consumer_of (filter (λ x. key_eq x.key key) opening.consumers) s c) || b)
        (sym (feed_folded (scope_of key opening entries) (number_by key shown s c) (λ m r. refl) (λ left. list_any (call_names key (clients_in opening entries) s c) left) (λ left. Unit {0}) (λ e left u. tt)
        (namer_by key opening entries shown (seen key opening entries) s c h) entries tt 0 opening.life [] start))
    go false h = refl

pub durable_scope : (client : Option (List ℕ)) (name : List ℕ) (opening : State) (entries : List Entry) → Numbers (Durable client name) opening entries → AskersOwn (Durable client name) opening entries entries →
    scope_of (Durable client name) opening entries ≡ scope_shown (Durable client name) (starts_with (Durable client name) opening entries) (in_order (feed_of (Durable client name) opening entries))
unfolding scope_shown
durable_scope client name opening entries n a = λ i. record {
  key = Durable client name;
  sessions = sessions_seen client name opening entries a i;
  clients = λ c. client_seen client name opening entries a c i;
  numbers = λ s c. number_seen client name opening entries n a s c i;
}
