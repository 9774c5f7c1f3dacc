-- What is found of an opening and a list of entries is what belongs to the key.
use Rattle.std.proofs.Common.{◌≡◌, ℕ, Bool, true, false, cond, List, [], ◌∷◌, ◌++◌, refl, ap, sym, ◌∙◌, arith, Option, Some, None}
use Rattle.std.specs.Prelude.{◌&&◌, ◌||◌, ◌==◌, not, find, option_map, unwrap_or, is_ok}
use Rattle.std.specs.List.{list_all}
use Rattle.std.specs.Option.{option_or}
use Rattle.std.proofs.lemmas.Bool.Decides.{nat_tests}
use Rattle.jm_dest.specs.declared.session.SessionId.{SessionId}
use Rattle.jm_dest.specs.declared.key.Key.{Key}
use Rattle.jm_dest.specs.declared.key.Key.TheVariants.{Own, SharedOwn, Durable, Queue as OfQueue}
use Rattle.jm_dest.specs.Names.{session_eq}
use Rattle.jm_machine.specs.declared.call.Who.TheVariants.{Connection, Session}
use Rattle.jm_machine.specs.declared.call.Request.{Request}
use Rattle.jm_machine.specs.declared.call.Request.TheVariants.{Open, CreateConsumer, CreateDurable, CreateShared, CreateSharedDurable}
use Rattle.jm_machine.specs.declared.entry.Entry.{Entry}
use Rattle.jm_machine.specs.declared.entry.Entry.TheVariants.{Asked, Sent, Committed}
use Rattle.jm_machine.specs.declared.state.ConnectionState.{ConnectionState}
use Rattle.jm_machine.specs.declared.state.Consumer.{Consumer}
use Rattle.jm_machine.specs.Life.{connection_of}
use Rattle.jm_machine.specs.declared.state.Row.{Row}
use Rattle.jm_machine.specs.Isolation.{names_no_other}
use Rattle.jm_machine.specs.Lone.{client_opened, client_or, clients_in, names_key, consuming, holding_rows, askers, own_sessions, own_clients, creates, entry_names, named_by, first_named, is_made_for, scope_of}
use Rattle.jm_machine.specs.Machine.{State, station_of, rows_of, has_number, consumer_of}
use Rattle.jm_machine.specs.Owns.{is_own, is_own_connection}
use Rattle.jm_machine.proofs.Keys.{session_same}
use Rattle.jm_scope.specs.declared.numbers.ConsumerNumber.{ConsumerNumber}
use Rattle.jm_scope.specs.Parts.{client_left, client_named, opens, clients_when, clients_for, sessions_for, is_of, may_be, made_for, belonging}

-- ---- clients

-- the first entry that opens a connection says which client it has
pub opened_first : (entries : List Entry) (c : ℕ) → unwrap_or (option_map client_named (find (opens c) entries)) None ≡ client_opened entries c
opened_first [] c = refl
opened_first (Asked (Connection d) (Open client) told ∷ entries) c = go ((d == c) && is_ok told) (opened_first entries c)
  where
    go : (b : Bool) → unwrap_or (option_map client_named (find (opens c) entries)) None ≡ client_opened entries c →
        unwrap_or (option_map client_named (cond b (Some (Asked (Connection d) (Open client) told)) (find (opens c) entries))) None ≡ cond b client (client_opened entries c)
    go true r = refl
    go false r = r
opened_first (Asked (Connection d) request told ∷ entries) c = opened_first entries c
opened_first (Asked (Session s) request told ∷ entries) c = opened_first entries c
opened_first (Sent m ∷ entries) c = opened_first entries c
opened_first (Committed s ∷ entries) c = opened_first entries c

-- the connections of the opening count before the entries
pub client_first : (connections : List ConnectionState) (entries : List Entry) (c : ℕ) →
    unwrap_or (option_or (option_map client_left (connection_of connections c)) (option_map client_named (find (opens c) entries))) None ≡ clients_when connections entries c
client_first connections entries c = go (connection_of connections c)
  where
    go : (o : Option ConnectionState) → unwrap_or (option_or (option_map client_left o) (option_map client_named (find (opens c) entries))) None ≡ client_or o (client_opened entries c)
    go None = opened_first entries c
    go (Some x) = refl

-- ---- numbers

nothing_more : {A : Type 0} (o : Option A) → o ≡ option_or o None
nothing_more None = refl
nothing_more (Some x) = refl

-- what is noted of a new number that may be the key's
pub number_noted : {A : Type 0} (key : Key) (f : A → Bool) (x : A) (value : Bool) (t s : SessionId) (d c : ℕ) (is : Bool) (look : ConsumerNumber → Option Bool) (new : Option Bool) →
    may_be key t d ≡ true → look (record { session = t; consumer = d }) ≡ None → value ≡ f x → is ≡ (session_eq t s && (d == c)) →
    new ≡ cond (session_eq t s && (d == c)) (Some value) (look (record { session = s; consumer = c })) →
    new ≡ option_or (look (record { session = s; consumer = c })) (option_map f (cond (may_be key s c && is) (Some x) None))
number_noted key f x value t s d c is look new m n v p h = go (session_eq t s && (d == c)) refl
  where
    old : Option Bool
    old = look (record { session = s; consumer = c })

    noted : Bool → Bool → Option Bool → Option Bool
    noted a b o = option_or o (option_map f (cond (a && b) (Some x) None))

    out : (a : Bool) (o : Option Bool) → o ≡ option_or o (option_map f (cond (a && false) (Some x) None))
    out true o = nothing_more o
    out false o = nothing_more o

    go : (b : Bool) → (session_eq t s && (d == c)) ≡ b → new ≡ noted (may_be key s c) is old
    go true e =
        let i : t ≡ s = grind (arith, nat_tests, session_same t s) in
        let j : d ≡ c = grind (arith, nat_tests) in
        let mine : may_be key s c ≡ true = (λ l. may_be key (sym i l) (sym j l)) ∙ m in
        let none : old ≡ None = (λ l. look (record { session = sym i l; consumer = sym j l })) ∙ n in
        h ∙ ap (λ b. cond b (Some value) old) e ∙ ap (λ b. Some b) v ∙ (λ l. noted (sym mine l) (sym (p ∙ e) l) (sym none l))
    go false e = h ∙ ap (λ b. cond b (Some value) old) e ∙ out (may_be key s c) old ∙ (λ l. noted (may_be key s c) (sym (p ∙ e) l) old)

-- the first creating call that names a number says whether it was made for the key
pub named_first : (key : Key) (clients : ℕ → Option (List ℕ)) (entries : List Entry) (s : SessionId) (c : ℕ) →
    unwrap_or (option_map (entry_names key clients) (find (creates s c) entries)) false ≡ first_named key clients entries s c
named_first key clients [] s c = refl
named_first key clients (e ∷ entries) s c = go (creates s c e) (named_first key clients entries s c)
  where
    go : (b : Bool) → unwrap_or (option_map (entry_names key clients) (find (creates s c) entries)) false ≡ first_named key clients entries s c →
        unwrap_or (option_map (entry_names key clients) (cond b (Some e) (find (creates s c) entries))) false ≡ cond b (entry_names key clients e) (first_named key clients entries s c)
    go true r = refl
    go false r = r

-- where nothing passes nothing is found
none_found : {A : Type 0} (xs : List A) → find (λ x. false) xs ≡ None
none_found [] = refl
none_found (x ∷ xs) = none_found xs

-- the consumers of the opening count before the entries
pub made_first : (key : Key) (clients : ℕ → Option (List ℕ)) (consumers : List Consumer) (entries : List Entry) (s : SessionId) (c : ℕ) →
    unwrap_or (option_or (option_map (is_of key) (find (λ x. may_be key s c && has_number s c x) consumers)) (option_map (entry_names key clients) (find (λ e. may_be key s c && creates s c e) entries))) false
    ≡ made_for key clients consumers entries s c
made_first key clients consumers entries s c = go (may_be key s c)
  where
    first : (o : Option Consumer) → unwrap_or (option_or (option_map (is_of key) o) (option_map (entry_names key clients) (find (creates s c) entries))) false ≡ named_by key o (first_named key clients entries s c)
    first None = named_first key clients entries s c
    first (Some x) = refl

    go : (b : Bool) → unwrap_or (option_or (option_map (is_of key) (find (λ x. b && has_number s c x) consumers)) (option_map (entry_names key clients) (find (λ e. b && creates s c e) entries))) false
        ≡ (b && named_by key (consumer_of consumers s c) (first_named key clients entries s c))
    go true = first (consumer_of consumers s c)
    go false = rw (none_found consumers, none_found entries) refl

-- ---- a consumer's own key

-- no client identifier matters to what names a consumer's own key
names_own : (t : SessionId) (d : ℕ) (f g : ℕ → Option (List ℕ)) (s : SessionId) (request : Request) → names_key (Own t d) f s request ≡ names_key (Own t d) g s request
names_own t d f g s (CreateConsumer c destination selector no_local) = refl
names_own t d f g s (CreateDurable c destination name selector no_local) = refl
names_own t d f g s (CreateShared c destination name selector) = refl
names_own t d f g s (CreateSharedDurable c destination name selector) = refl
names_own t d f g s request = refl

entry_own : (t : SessionId) (d : ℕ) (f g : ℕ → Option (List ℕ)) (e : Entry) → entry_names (Own t d) f e ≡ entry_names (Own t d) g e
entry_own t d f g (Asked (Session s) request told) = names_own t d f g s request
entry_own t d f g (Asked (Connection c) request told) = refl
entry_own t d f g (Sent m) = refl
entry_own t d f g (Committed s) = refl

first_own : (t : SessionId) (d : ℕ) (f g : ℕ → Option (List ℕ)) (entries : List Entry) (s : SessionId) (c : ℕ) → first_named (Own t d) f entries s c ≡ first_named (Own t d) g entries s c
first_own t d f g [] s c = refl
first_own t d f g (e ∷ entries) s c = λ i. cond (creates s c e) (entry_own t d f g e i) (first_own t d f g entries s c i)

pub alone_own : (t : SessionId) (d : ℕ) (f g : ℕ → Option (List ℕ)) (entries : List Entry) (s : SessionId) (c : ℕ) → list_all (names_no_other (Own t d) f s c) entries ≡ list_all (names_no_other (Own t d) g s c) entries
alone_own t d f g [] s c = refl
alone_own t d f g (e ∷ entries) s c = λ i. (not (creates s c e) || entry_own t d f g e i) && alone_own t d f g entries s c i

-- ---- what belongs to a key

own_alone : (a b x : Bool) → ((a || false) && ((a && b) && x)) ≡ (a && b && x)
own_alone true b x = refl
own_alone false b x = refl

either_way : {A : Type 0} (b : Bool) (x : A) → cond b x x ≡ x
either_way true x = refl
either_way false x = refl

module _ (opening : State) (connections : List ConnectionState) (consumers : List Consumer) (rows : List Row) (entries : List Entry)
    (e : opening.life.connections ≡ connections) (f : opening.consumers ≡ consumers) where
  pub scope_is : (key : Key) (sessions : List SessionId) (clients : ℕ → Option (List ℕ)) (made : SessionId → ℕ → Bool) → rows_of (station_of key opening.stations) ≡ rows →
      ((c : ℕ) → clients c ≡ clients_for key connections entries c) → sessions ≡ sessions_for key clients consumers rows entries → ((s : SessionId) (c : ℕ) → made s c ≡ made_for key clients consumers entries s c) →
      belonging key sessions clients made ≡ scope_of key opening entries
  scope_is (OfQueue name) sessions clients made r h p m = λ i. record { key = OfQueue name; sessions = p i; clients = λ c. own_clients (p i) clients c; numbers = λ s c. is_own (p i) s && made s c }
  scope_is (SharedOwn client name) sessions clients made r h p m = λ i. record { key = SharedOwn client name; sessions = p i; clients = λ c. own_clients (p i) clients c; numbers = λ s c. is_own (p i) s && made s c }
  scope_is (Own t d) sessions clients made r h p m = λ i. record {
    key = Own t d;
    sessions = p i;
    clients = λ c. none c i;
    numbers = λ s c. number s c i;
  }
    where
      none : (c : ℕ) → own_clients sessions clients c ≡ None
      none c = ap (λ o. cond (is_own_connection sessions c) o None) (h c) ∙ either_way (is_own_connection sessions c) None

      number : (s : SessionId) (c : ℕ) → (is_own sessions s && made s c) ≡ (session_eq s t && (c == d) && is_made_for (Own t d) opening entries s c)
      number s c =
          (λ i. is_own (p i) s && m s c i)
          ∙ (λ i. (session_eq s t || false) && ((session_eq s t && (c == d)) && named_by (Own t d) (consumer_of (sym f i) s c) (first_own t d clients (clients_in opening entries) entries s c i)))
          ∙ own_alone (session_eq s t) (c == d) (is_made_for (Own t d) opening entries s c)
  scope_is (Durable client name) sessions clients made r h p m = λ i. record {
    key = Durable client name;
    sessions = own i;
    clients = λ c. own_clients (own i) (known i) c;
    numbers = λ s c. is_own (own i) s && number s c i;
  }
    where
      known : clients ≡ clients_in opening entries
      known = λ i c. (h c ∙ ap (λ xs. client_or (connection_of xs c) (client_opened entries c)) (sym e)) i

      own : sessions ≡ own_sessions (Durable client name) opening entries
      own = p ∙ (λ i. consuming (Durable client name) (sym f i) ++ (holding_rows (sym r i) ++ askers (Durable client name) (known i) entries))

      number : (s : SessionId) (c : ℕ) → made s c ≡ is_made_for (Durable client name) opening entries s c
      number s c = m s c ∙ (λ i. named_by (Durable client name) (consumer_of (sym f i) s c) (first_named (Durable client name) (known i) entries s c))

-- ---- own sessions

-- an own session's connection is an own connection, so that its client is known
pub own_client : (sessions : List SessionId) (clients : ℕ → Option (List ℕ)) (s : SessionId) → is_own sessions s ≡ true → own_clients sessions clients s.connection ≡ clients s.connection
own_client sessions clients s h = ap (λ b. cond b (clients s.connection) None) (own_connection sessions h)
  where
    own_connection : (ts : List SessionId) → is_own ts s ≡ true → is_own_connection ts s.connection ≡ true
    own_connection [] i = cc
    own_connection (t ∷ ts) i = grind (arith, nat_tests, own_connection ts)

-- of two tests the second counts only where the first passes
pub either_order : (x y r : Bool) → (x ≡ true → r ≡ y) → (r && x) ≡ (x && y)
either_order true y true h = h refl
either_order true y false h = h refl
either_order false y true h = refl
either_order false y false h = refl
