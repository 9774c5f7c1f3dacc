-- The notes on a record follow it.
use Rattle.std.proofs.Common.{◌≡◌, ℕ, Bool, true, false, cond, List, [], ◌∷◌, ◌++◌, refl, ap, sym, subst, ◌∙◌, arith, append_assoc, append-nil, drop, get_or, length, suc, add-one, ◌+◌, ◌<◌, Option, Some, None}
use Rattle.std.proofs.Math.Seq.{drop-cons}
use Rattle.std.specs.Map.{lookup}
use Rattle.std.specs.Prelude.{◌&&◌, ◌==◌, not, filter, find, unwrap_or, is_some, is_ok, option_map, slice_get, Result}
use Rattle.std.specs.Option.{option_or, option_and_then}
use Rattle.std.proofs.lemmas.List.Folds.{find-append}
use Rattle.std.proofs.lemmas.Bool.Decides.{nat_tests}
use Rattle.jm_base.specs.declared.refusal.Refusal.{Refusal}
use Rattle.jm_base.specs.declared.mode.Mode.{Mode}
use Rattle.jm_dest.specs.declared.session.SessionId.{SessionId}
use Rattle.jm_dest.specs.Names.{session_eq}
use Rattle.jm_header.specs.declared.content.Content.{Content}
use Rattle.jm_machine.specs.declared.answer.Answer.{Answer}
use Rattle.jm_machine.specs.declared.call.Who.{Who}
use Rattle.jm_machine.specs.declared.call.Who.TheVariants.{Connection, Session}
use Rattle.jm_machine.specs.declared.call.Request.{Request}
use Rattle.jm_machine.specs.declared.call.Request.TheVariants.{Open, Start, Stop, CloseConnection, CreateSession, CloseSession, Rollback}
use Rattle.jm_machine.specs.declared.entry.Entry.{Entry}
use Rattle.jm_machine.specs.declared.entry.Entry.TheVariants.{Asked, Sent, Committed}
use Rattle.jm_machine.specs.declared.state.ConnectionState.{ConnectionState}
use Rattle.jm_machine.specs.declared.state.SessionState.{SessionState}
use Rattle.jm_machine.specs.Life.{Life, connection_of, session_of, client_at, open_mode, mode_of, is_open_connection, is_new_session, with_started, started_if, closed_if, closed_where, close_sessions, life_after}
use Rattle.jm_machine.specs.Machine.{is_transacted}
use Rattle.jm_machine.specs.Entries.{life_after_entry, drops, pending, committed}
use Rattle.jm_transactions.specs.Transactions.{Course, Follows, AreNested, is_up, mode_left, mode_in, may_commit, committed_places, opened, shut, created, ended, left, kept, noted, message_in, messages_at}
use Rattle.jm_transactions.specs.declared.transactions.Connected.{Connected}
use Rattle.jm_transactions.specs.Courses.{connected_as}
use Rattle.jm_machine.proofs.Keys.{session_same}
use Rattle.jm_transactions.proofs.Found.{Passes, found_passes, found_started, found_closed, found_session, still_there}

-- whether a connection that was opened is open
abbrev pub on : Option ConnectionState → Option Bool
on o = option_map (λ k. k.is_open) o

up_is : (o : Option ConnectionState) → is_up (on o) ≡ is_open_connection o
up_is None = refl
up_is (Some k) = refl

no_mode : (b : Bool) (m : Option Mode) → m ≡ None → cond b m None ≡ None
no_mode true m h = h
no_mode false m h = refl

-- of a session whose connection was not opened there is no mode
unopened : (o : Option (Option Mode)) (u : Bool) → (is_some o ≡ true → u ≡ true) → u ≡ false → mode_left o ≡ None
unopened None u f e = refl
unopened (Some m) u f e = let g : u ≡ true = f refl in cc

session_sym : (a b : SessionId) → session_eq a b ≡ true → session_eq b a ≡ true
session_sym a b h = grind (arith, nat_tests)

other_way : (a b : SessionId) → session_eq a b ≡ false → session_eq b a ≡ false
other_way a b h = go (session_eq b a) refl
  where
    go : (c : Bool) → session_eq b a ≡ c → c ≡ false
    go true e = let i : session_eq a b ≡ true = session_sym b a e in cc
    go false e = refl

-- ---- a connection is opened

new_one : ℕ → Option (List ℕ) → ConnectionState
new_one c client = record { id = c; client = client; is_started = false; is_open = true }

was_there : (c : ℕ) (client : Option (List ℕ)) (o : Option ConnectionState) (b : Bool) → (b ≡ true → is_some o ≡ true) → on o ≡ on (option_or o (cond b (Some (new_one c client)) None))
unfolding new_one
was_there c client None true f = let z : false ≡ true = f refl in cc
was_there c client None false f = refl
was_there c client (Some k) b f = refl

is_there : (c : ℕ) (client : Option (List ℕ)) (o : Option ConnectionState) (b : Bool) (w : Option Bool) → w ≡ on o → (b ≡ true → is_some w ≡ false) → cond b (Some true) w ≡ on (option_or o (cond b (Some (new_one c client)) None))
unfolding new_one
is_there c client None true w i f = refl
is_there c client None false w i f = i
is_there c client (Some k) false w i f = i
is_there c client (Some k) true w i f = let z : is_some w ≡ false = f refl in let j : is_some w ≡ true = ap is_some i in cc

client_was : (c : ℕ) (client : Option (List ℕ)) (o : Option ConnectionState) (b : Bool) → (b ≡ true → is_some o ≡ true) → client_at o ≡ client_at (option_or o (cond b (Some (new_one c client)) None))
unfolding new_one
client_was c client None true f = let z : false ≡ true = f refl in cc
client_was c client None false f = refl
client_was c client (Some k) b f = refl

client_is : (c : ℕ) (client : Option (List ℕ)) (o : Option ConnectionState) (b : Bool) (w : Option (List ℕ)) → w ≡ client_at o → (b ≡ true → is_some o ≡ false) → cond b client w ≡ client_at (option_or o (cond b (Some (new_one c client)) None))
unfolding new_one
client_is c client None true w i f = refl
client_is c client None false w i f = i
client_is c client (Some k) false w i f = i
client_is c client (Some k) true w i f = let z : true ≡ false = f refl in cc

still_some : (b : Bool) (v : Bool) (w : Option Bool) → is_some w ≡ true → is_some (cond b (Some v) w) ≡ true
still_some true v w h = refl
still_some false v w h = h

follows_opened : (E before : List Entry) (life : Life) (x : Course) (c : ℕ) (client : Option (List ℕ)) → Follows E life before x → Follows E (life_after life (Connection c) (Open client)) before (opened c client x)
unfolding life_after new_one
follows_opened E before life x c client h = go (is_some (x.connection c)) refl
  where
    found : (d : ℕ) → connection_of (life.connections ++ new_one c client ∷ []) d ≡ option_or (connection_of life.connections d) (cond (c == d) (Some (new_one c client)) None)
    found d = find-append (λ k. k.id == d) life.connections (new_one c client ∷ [])

    same : (d : ℕ) → (c == d) ≡ true → c ≡ d
    same d e = grind (arith, nat_tests)

    -- whether it was opened before
    known : (d : ℕ) (b : Bool) → is_some (x.connection c) ≡ b → (c == d) ≡ true → is_some (connection_of life.connections d) ≡ b
    known d b e i = sym (still_there (λ k. k.is_open) (connection_of life.connections d)) ∙ sym (ap is_some (h.connections d)) ∙ sym (ap (λ n. is_some (x.connection n)) (same d i)) ∙ e

    modes : (s : SessionId) (b : Bool) → (c == s.connection) ≡ b → is_some (x.connection c) ≡ false →
        cond (is_up (cond b (Some true) (x.connection s.connection))) (mode_left (x.session s)) None ≡ mode_of life s
    modes s true i e =
        let none : mode_left (x.session s) ≡ None = unopened (x.session s) (is_some (x.connection s.connection)) (h.nested s) (sym (ap (λ d. is_some (x.connection d)) (same s.connection i)) ∙ e) in
        none ∙ sym (no_mode (is_up (x.connection s.connection)) (mode_left (x.session s)) none) ∙ h.modes s
    modes s false i e = h.modes s

    go : (b : Bool) → is_some (x.connection c) ≡ b →
        Follows E (record life { connections = life.connections ++ new_one c client ∷ [] }) before
        (cond b x (record x { connection = λ d. cond (c == d) (Some true) (x.connection d); client = λ d. cond (c == d) client (x.client d) }))
    go true e = record {
      connections = λ d.
          h.connections d
          ∙ was_there c client (connection_of life.connections d) (c == d) (known d true e)
          ∙ sym (ap on (found d));
      clients = λ d. h.clients d ∙ client_was c client (connection_of life.connections d) (c == d) (known d true e) ∙ sym (ap client_at (found d));
      known = h.known;
      modes = h.modes;
      nested = h.nested;
      sent = h.sent;
    }
    go false e = record {
      connections = λ d. is_there c client (connection_of life.connections d) (c == d) (x.connection d) (h.connections d) (λ i. sym (ap (λ n. is_some (x.connection n)) (same d i)) ∙ e) ∙ sym (ap on (found d));
      clients = λ d. client_is c client (connection_of life.connections d) (c == d) (x.client d) (h.clients d) (known d false e) ∙ sym (ap client_at (found d));
      known = h.known;
      modes = λ s. modes s (c == s.connection) refl e;
      nested = λ s i. still_some (c == s.connection) true (x.connection s.connection) (h.nested s i);
      sent = h.sent;
    }

-- ---- it is started or stopped

started_on : (c : ℕ) (b : Bool) (o : Option ConnectionState) → on (option_map (started_if c b) o) ≡ on o
started_on c b None = refl
started_on c b (Some k) = go (k.id == c)
  where
    go : (n : Bool) → Some (cond n (record k { is_started = b }) k).is_open ≡ Some k.is_open
    go true = refl
    go false = refl

started_client : (c : ℕ) (b : Bool) (o : Option ConnectionState) → client_at (option_map (started_if c b) o) ≡ client_at o
started_client c b None = refl
started_client c b (Some k) = go (k.id == c)
  where
    go : (n : Bool) → (cond n (record k { is_started = b }) k).client ≡ k.client
    go true = refl
    go false = refl

follows_started : (E before : List Entry) (life : Life) (x : Course) (c : ℕ) (b : Bool) → Follows E life before x → Follows E (record life { connections = with_started c b life.connections }) before x
follows_started E before life x c b h = record {
  connections = λ d. h.connections d ∙ sym (ap on (found_started c b d life.connections) ∙ started_on c b (connection_of life.connections d));
  clients = λ d. h.clients d ∙ sym (ap client_at (found_started c b d life.connections) ∙ started_client c b (connection_of life.connections d));
  known = h.known;
  modes = h.modes;
  nested = h.nested;
  sent = h.sent;
}

-- ---- it closes

shut_on : (c d : ℕ) (o : Option ConnectionState) (w u : Option Bool) → Passes (λ k. k.id == d) o → w ≡ on o → (c ≡ d → u ≡ w) → cond (is_some u && (c == d)) (Some false) w ≡ on (option_map (closed_if c) o)
shut_on c d None w u p i f = go (is_some u) (c == d) refl refl
  where
    go : (a b : Bool) → is_some u ≡ a → (c == d) ≡ b → cond (a && b) (Some false) w ≡ None
    go true true j k =
        let same : c ≡ d = grind (arith, nat_tests) in
        let l : is_some u ≡ false = ap is_some (f same ∙ i) in
        cc
    go true false j k = i
    go false b j k = i
shut_on c d (Some k) w u p i f = go (k.id == c) refl
  where
    none_else : (b : Bool) → (c == d) ≡ false → cond (b && (c == d)) (Some false) w ≡ w
    none_else true e = ap (λ n. cond n (Some false) w) e
    none_else false e = refl

    go : (b : Bool) → (k.id == c) ≡ b → cond (is_some u && (c == d)) (Some false) w ≡ Some (cond b (record k { client = None; is_started = false; is_open = false }) k).is_open
    go true e =
        let one : k.id ≡ c = grind (arith, nat_tests) in
        let two : k.id ≡ d = grind (arith, nat_tests) in
        let there : is_some u ≡ true = ap is_some (f (sym one ∙ two) ∙ i) in
        let this : (c == d) ≡ true = grind (arith, nat_tests) in
        rw (there, this) refl
    go false e =
        let two : k.id ≡ d = grind (arith, nat_tests) in
        let this : (c == d) ≡ false = grind (arith, nat_tests) in
        none_else (is_some u) this ∙ i

shut_client : (c d : ℕ) (o : Option ConnectionState) (w : Option (List ℕ)) (u : Option Bool) → Passes (λ k. k.id == d) o → w ≡ client_at o → (c ≡ d → u ≡ on o) →
    cond (is_some u && (c == d)) None w ≡ client_at (option_map (closed_if c) o)
shut_client c d None w u p i f = either (is_some u && (c == d))
  where
    either : (b : Bool) → cond b None w ≡ None
    either true = refl
    either false = i
shut_client c d (Some k) w u p i f = go (k.id == c) refl
  where
    none_else : (b : Bool) → (c == d) ≡ false → cond (b && (c == d)) None w ≡ w
    none_else true e = ap (λ n. cond n None w) e
    none_else false e = refl

    go : (b : Bool) → (k.id == c) ≡ b → cond (is_some u && (c == d)) None w ≡ (cond b (record k { client = None; is_started = false; is_open = false }) k).client
    go true e =
        let one : k.id ≡ c = grind (arith, nat_tests) in
        let two : k.id ≡ d = grind (arith, nat_tests) in
        let there : is_some u ≡ true = ap is_some (f (sym one ∙ two)) in
        let this : (c == d) ≡ true = grind (arith, nat_tests) in
        rw (there, this) refl
    go false e =
        let two : k.id ≡ d = grind (arith, nat_tests) in
        let this : (c == d) ≡ false = grind (arith, nat_tests) in
        none_else (is_some u) this ∙ i

closed_none : (o : Option SessionState) (p : SessionId → Bool) (s : SessionId) → Passes (λ y. session_eq y.id s) o → p s ≡ true → open_mode (option_map (closed_where p) o) ≡ None
closed_none None p s q h = refl
closed_none (Some y) p s q h = rw (ap p (session_same y.id s q) ∙ h) refl

closed_not : (o : Option SessionState) (p : SessionId → Bool) (s : SessionId) → Passes (λ y. session_eq y.id s) o → p s ≡ false → open_mode (option_map (closed_where p) o) ≡ open_mode o
closed_not None p s q h = refl
closed_not (Some y) p s q h = rw (ap p (session_same y.id s q) ∙ h) refl

-- a mode is lost with its session, and else stays
mode_closed : (p : SessionId → Bool) (s : SessionId) (xs : List SessionState) → p s ≡ true → open_mode (session_of (close_sessions p xs) s) ≡ None
mode_closed p s xs h = ap open_mode (found_session p s xs) ∙ closed_none (session_of xs s) p s (found_passes (λ y. session_eq y.id s) xs) h

mode_stays : (p : SessionId → Bool) (s : SessionId) (xs : List SessionState) → p s ≡ false → open_mode (session_of (close_sessions p xs) s) ≡ open_mode (session_of xs s)
mode_stays p s xs h = ap open_mode (found_session p s xs) ∙ closed_not (session_of xs s) p s (found_passes (λ y. session_eq y.id s) xs) h

known_closed : (p : SessionId → Bool) (s : SessionId) (xs : List SessionState) → is_some (session_of (close_sessions p xs) s) ≡ is_some (session_of xs s)
known_closed p s xs = ap is_some (found_session p s xs) ∙ still_there (closed_where p) (session_of xs s)

shut_down : (w : Option Bool) → is_up (cond (is_some w && true) (Some false) w) ≡ false
shut_down None = refl
shut_down (Some b) = refl

not_shut : (a b : Bool) (w : Option Bool) → b ≡ false → cond (a && b) (Some false) w ≡ w
not_shut true b w e = ap (λ n. cond n (Some false) w) e
not_shut false b w e = refl

follows_shut : (E before after : List Entry) (life : Life) (x : Course) (c : ℕ) → ((s : SessionId) → pending s after ≡ cond (s.connection == c) [] (pending s before)) →
    Follows E life before x → Follows E (life_after life (Connection c) CloseConnection) after (shut c x)
unfolding life_after
follows_shut E before after life x c d h = record {
  connections = λ k.
      shut_on c k (connection_of life.connections k) (x.connection k) (x.connection c) (found_passes (λ n. n.id == k) life.connections) (h.connections k) (λ e. ap x.connection e)
      ∙ sym (ap on (found_closed c k life.connections));
  clients = λ k.
      shut_client c k (connection_of life.connections k) (x.client k) (x.connection c) (found_passes (λ n. n.id == k) life.connections) (h.clients k) (λ e. ap x.connection e ∙ h.connections k)
      ∙ sym (ap client_at (found_closed c k life.connections));
  known = λ s. h.known s ∙ sym (known_closed (λ t. t.connection == c) s life.sessions);
  modes = λ s. modes s (s.connection == c) refl;
  nested = λ s i. still_some (is_some (x.connection c) && (c == s.connection)) false (x.connection s.connection) (h.nested s i);
  sent = λ s i. drop (s.connection == c) s (h.sent s i) ∙ sym (d s);
}
  where
    drop : (b : Bool) (s : SessionId) → messages_at E (x.sent s) ≡ pending s before → messages_at E (cond b [] (x.sent s)) ≡ cond b [] (pending s before)
    drop true s i = refl
    drop false s i = i

    modes : (s : SessionId) (b : Bool) → (s.connection == c) ≡ b →
        cond (is_up (cond (is_some (x.connection c) && (c == s.connection)) (Some false) (x.connection s.connection))) (mode_left (x.session s)) None ≡ open_mode (session_of (close_sessions (λ t. t.connection == c) life.sessions) s)
    modes s true e =
        let same : c ≡ s.connection = grind (arith, nat_tests) in
        let this : (c == s.connection) ≡ true = grind (arith, nat_tests) in
        let down : is_up (cond (is_some (x.connection c) && (c == s.connection)) (Some false) (x.connection s.connection)) ≡ false =
        ap (λ k. is_up (cond (is_some (x.connection k) && (c == s.connection)) (Some false) (x.connection s.connection))) same
        ∙ ap (λ n. is_up (cond (is_some (x.connection s.connection) && n) (Some false) (x.connection s.connection))) this
        ∙ shut_down (x.connection s.connection) in
        ap (λ n. cond n (mode_left (x.session s)) None) down ∙ sym (mode_closed (λ t. t.connection == c) s life.sessions e)
    modes s false e =
        let this : (c == s.connection) ≡ false = grind (arith, nat_tests) in
        ap (λ w. cond (is_up w) (mode_left (x.session s)) None) (not_shut (is_some (x.connection c)) (c == s.connection) (x.connection s.connection) this)
        ∙ h.modes s ∙ sym (mode_stays (λ t. t.connection == c) s life.sessions e)

-- ---- a session is opened

nothing_there : {A : Type 0} (o : Option A) → is_some o ≡ false → o ≡ None
nothing_there None h = refl
nothing_there (Some y) h = cc

or_none : {A : Type 0} (o : Option A) → option_or o None ≡ o
or_none None = refl
or_none (Some y) = refl

up_there : (w : Option Bool) → is_up w ≡ true → is_some w ≡ true
up_there None h = cc
up_there (Some b) h = refl

both : (a b : Bool) → (a && b) ≡ true → (a ≡ true) × (b ≡ true)
both true b h = (refl, h)
both false b h = cc

not_true : (a : Bool) → not a ≡ true → a ≡ false
not_true true h = cc
not_true false h = refl

follows_created : (E before : List Entry) (life : Life) (x : Course) (s : SessionId) (mode : Mode) → Follows E life before x → Follows E (life_after life (Session s) (CreateSession mode)) before (created s mode x)
unfolding life_after
follows_created E before life x s mode h = go (is_up (x.connection s.connection) && not (is_some (x.session s))) refl (ap is_up (h.connections s.connection) ∙ up_is (connection_of life.connections s.connection)) (h.known s)
  where
    found : (t : SessionId) → session_of (life.sessions ++ record { id = s; mode = mode; is_open = true } ∷ []) t ≡ option_or (session_of life.sessions t) (cond (session_eq s t) (Some (record { id = s; mode = mode; is_open = true })) None)
    found t = find-append (λ k. session_eq k.id t) life.sessions (record { id = s; mode = mode; is_open = true } ∷ [])

    one : is_up (x.connection s.connection) ≡ true → is_some (x.session s) ≡ false → (t : SessionId) (b : Bool) → session_eq s t ≡ b →
        (is_some (cond b (Some (Some mode)) (x.session t)) ≡ is_some (option_or (session_of life.sessions t) (cond b (Some (record { id = s; mode = mode; is_open = true })) None)))
        × ((cond (is_up (x.connection t.connection)) (mode_left (cond b (Some (Some mode)) (x.session t))) None ≡ open_mode (option_or (session_of life.sessions t) (cond b (Some (record { id = s; mode = mode; is_open = true })) None)))
        × ((is_some (cond b (Some (Some mode)) (x.session t)) ≡ true → is_some (x.connection t.connection) ≡ true)
        × (may_commit (cond b (Some (Some mode)) (x.session t)) ≡ true → messages_at E (x.sent t) ≡ pending t before)))
    one u n t true e =
        let i : s ≡ t = session_same s t e in
        let up : is_up (x.connection t.connection) ≡ true = sym (ap (λ (v : SessionId). is_up (x.connection v.connection)) i) ∙ u in
        let fresh : is_some (x.session t) ≡ false = sym (ap (λ (v : SessionId). is_some (x.session v)) i) ∙ n in
        let none : session_of life.sessions t ≡ None = nothing_there (session_of life.sessions t) (sym (h.known t) ∙ fresh) in
        let unknown : x.session t ≡ None = nothing_there (x.session t) fresh in (
          rw none refl,
          (rw (none, up) refl, ((λ j. up_there (x.connection t.connection) up), (λ j. h.sent t (ap may_commit unknown)))),
        )
    one u n t false e = (h.known t ∙ sym (ap is_some (or_none (session_of life.sessions t))), (h.modes t ∙ sym (ap open_mode (or_none (session_of life.sessions t))), (h.nested t, h.sent t)))

    go : (b : Bool) → (is_up (x.connection s.connection) && not (is_some (x.session s))) ≡ b → is_up (x.connection s.connection) ≡ is_open_connection (connection_of life.connections s.connection) → is_some (x.session s) ≡ is_some (session_of life.sessions s) →
        Follows E (cond (is_new_session life s) (record life { sessions = life.sessions ++ record { id = s; mode = mode; is_open = true } ∷ [] }) life) before (cond b (record x { session = λ t. cond (session_eq s t) (Some (Some mode)) (x.session t) }) x)
    go true e i j =
        let k = both (is_up (x.connection s.connection)) (not (is_some (x.session s))) e in
        let l = not_true (is_some (x.session s)) k.1 in
        let is_new : is_new_session life s ≡ true = sym (λ m. i m && not (j m)) ∙ e in
        rw is_new record {
          connections = h.connections;
          clients = h.clients;
          known = λ t. (one k.0 l t (session_eq s t) refl).0 ∙ sym (ap is_some (found t));
          modes = λ t. (one k.0 l t (session_eq s t) refl).1.0 ∙ sym (ap open_mode (found t));
          nested = λ t. (one k.0 l t (session_eq s t) refl).1.1.0;
          sent = λ t. (one k.0 l t (session_eq s t) refl).1.1.1;
        }
    go false e i j =
        let is_old : is_new_session life s ≡ false = sym (λ m. i m && not (j m)) ∙ e in
        rw is_old h

-- ---- a transaction ends

drop_one : (E : List Entry) (b : Bool) (places : List ℕ) (ms : List Content) → messages_at E places ≡ ms → messages_at E (cond b [] places) ≡ cond b [] ms
drop_one E true places ms h = refl
drop_one E false places ms h = h

follows_ended : (E before after : List Entry) (life : Life) (x : Course) (s : SessionId) → ((t : SessionId) → pending t after ≡ cond (session_eq s t) [] (pending t before)) →
    Follows E life before x → Follows E life after (ended s x)
follows_ended E before after life x s d h = record {
  connections = h.connections;
  clients = h.clients;
  known = h.known;
  modes = h.modes;
  nested = h.nested;
  sent = λ t i. drop_one E (session_eq s t) (x.sent t) (pending t before) (h.sent t i) ∙ sym (d t);
}

left_modes : (a b : Bool) (u : Bool) (o : Option (Option Mode)) → is_some o ≡ a → b ≡ true → cond u (mode_left (cond (a && b) (Some None) o)) None ≡ None
left_modes true true u o i h = no_mode u None refl
left_modes true false u o i h = cc
left_modes false b u o i h = no_mode u (mode_left o) (ap mode_left (nothing_there o i))

left_not : (a b : Bool) (o : Option (Option Mode)) → b ≡ false → cond (a && b) (Some None) o ≡ o
left_not true b o h = ap (λ n. cond n (Some None) o) h
left_not false b o h = refl

left_known : (a b : Bool) (o : Option (Option Mode)) → (b ≡ true → is_some o ≡ a) → is_some (cond (a && b) (Some None) o) ≡ is_some o
left_known true true o f = sym (f refl)
left_known true false o f = refl
left_known false b o f = refl

left_commit : (a b : Bool) (o : Option (Option Mode)) → may_commit (cond (a && b) (Some None) o) ≡ true → may_commit o ≡ true
left_commit true true o h = cc
left_commit true false o h = h
left_commit false b o h = h

follows_left : (E before after : List Entry) (life : Life) (x : Course) (s : SessionId) → ((t : SessionId) → pending t after ≡ cond (session_eq s t) [] (pending t before)) →
    Follows E life before x → Follows E (life_after life (Session s) CloseSession) after (left s x)
unfolding life_after
follows_left E before after life x s d h = record {
  connections = h.connections;
  clients = h.clients;
  known = λ t. known t ∙ h.known t ∙ sym (known_closed (λ u. session_eq u s) t life.sessions);
  modes = λ t. modes t (session_eq s t) refl;
  nested = λ t i. h.nested t (sym (known t) ∙ i);
  sent = λ t i. drop_one E (session_eq s t) (x.sent t) (pending t before) (h.sent t (left_commit (is_some (x.session s)) (session_eq s t) (x.session t) i)) ∙ sym (d t);
}
  where
    known : (t : SessionId) → is_some (cond (is_some (x.session s) && session_eq s t) (Some None) (x.session t)) ≡ is_some (x.session t)
    known t = left_known (is_some (x.session s)) (session_eq s t) (x.session t) (λ e. sym (ap (λ (u : SessionId). is_some (x.session u)) (session_same s t e)))

    modes : (t : SessionId) (b : Bool) → session_eq s t ≡ b →
        cond (is_up (x.connection t.connection)) (mode_left (cond (is_some (x.session s) && session_eq s t) (Some None) (x.session t))) None ≡ open_mode (session_of (close_sessions (λ u. session_eq u s) life.sessions) t)
    modes t true e =
        left_modes (is_some (x.session s)) (session_eq s t) (is_up (x.connection t.connection)) (x.session t) (sym (ap (λ (u : SessionId). is_some (x.session u)) (session_same s t e))) e
        ∙ sym (mode_closed (λ u. session_eq u s) t life.sessions (session_sym s t e))
    modes t false e =
        ap (λ o. cond (is_up (x.connection t.connection)) (mode_left o) None) (left_not (is_some (x.session s)) (session_eq s t) (x.session t) e)
        ∙ h.modes t ∙ sym (mode_stays (λ u. session_eq u s) t life.sessions (other_way s t e))

-- ---- a message is sent

messages-append : (E : List Entry) (xs : List ℕ) (place : ℕ) → messages_at E (xs ++ place ∷ []) ≡ messages_at E xs ++ message_in (slice_get E place)
messages-append E [] place = append-nil (message_in (slice_get E place))
messages-append E (p ∷ xs) place = ap (λ ms. message_in (slice_get E p) ++ ms) (messages-append E xs place) ∙ sym (append_assoc (message_in (slice_get E p)) (messages_at E xs) (message_in (slice_get E place)))

-- nothing else is said
unsaid : (E before after : List Entry) (life : Life) (x : Course) → ((t : SessionId) → may_commit (x.session t) ≡ true → pending t after ≡ pending t before) → Follows E life before x → Follows E life after x
unsaid E before after life x d h = record {
  connections = h.connections;
  clients = h.clients;
  known = h.known;
  modes = h.modes;
  nested = h.nested;
  sent = λ t i. h.sent t i ∙ sym (d t i);
}

follows_sent : (E before : List Entry) (life : Life) (x : Course) (place : ℕ) (m : Content) → slice_get E place ≡ Some (Sent m) → Follows E life before x →
    Follows E life (Sent m ∷ before) (cond (may_commit (x.session m.sender.session)) (kept m.sender.session place x) x)
follows_sent E before life x place m at h = go (may_commit (x.session m.sender.session)) refl
  where
    kept_so : (t : SessionId) (b : Bool) → session_eq m.sender.session t ≡ b → messages_at E (x.sent t) ≡ pending t before →
        messages_at E (cond b (x.sent m.sender.session ++ place ∷ []) (x.sent t)) ≡ cond b (pending t before ++ m ∷ []) (pending t before)
    kept_so t true e i =
        ap (λ (u : SessionId). messages_at E (x.sent u ++ place ∷ [])) (session_same m.sender.session t e)
        ∙ messages-append E (x.sent t) place
        ∙ (λ j. i j ++ message_in (at j))
    kept_so t false e i = i

    other : may_commit (x.session m.sender.session) ≡ false → (t : SessionId) (b : Bool) → session_eq m.sender.session t ≡ b → may_commit (x.session t) ≡ true → cond b (pending t before ++ m ∷ []) (pending t before) ≡ pending t before
    other n t true e i = let j : may_commit (x.session m.sender.session) ≡ true = ap (λ (u : SessionId). may_commit (x.session u)) (session_same m.sender.session t e) ∙ i in cc
    other n t false e i = refl

    go : (b : Bool) → may_commit (x.session m.sender.session) ≡ b → Follows E life (Sent m ∷ before) (cond b (kept m.sender.session place x) x)
    go true e = record {
      connections = h.connections;
      clients = h.clients;
      known = h.known;
      modes = h.modes;
      nested = h.nested;
      sent = λ t i. kept_so t (session_eq m.sender.session t) refl (h.sent t i);
    }
    go false e = unsaid E before (Sent m ∷ before) life x (λ t i. other e t (session_eq m.sender.session t) refl i) h

-- ---- an entry

-- a connection's call that counts, or does not
connection_said : (E before after : List Entry) (old new : Life) (x y : Course) (b : Bool) → Follows E old after x → (b ≡ true → Follows E new after y) → Follows E (cond b new old) after (cond b y x)
connection_said E before after old new x y true h f = f refl
connection_said E before after old new x y false h f = h

-- what a connection's close drops
shuts : (c : ℕ) (told : Result Answer Refusal) (before : List Entry) (s : SessionId) → is_ok told ≡ true →
    pending s (Asked (Connection c) CloseConnection told ∷ before) ≡ cond (s.connection == c) [] (pending s before)
shuts c told before s e = go (s.connection == c) (is_ok told) e
  where
    go : (a b : Bool) → b ≡ true → cond (a && b) [] (pending s before) ≡ cond a [] (pending s before)
    go true b i = ap (λ n. cond n [] (pending s before)) i
    go false b i = refl

keeps : (c : ℕ) (told : Result Answer Refusal) (before : List Entry) (s : SessionId) → is_ok told ≡ false → pending s (Asked (Connection c) CloseConnection told ∷ before) ≡ pending s before
keeps c told before s e = go (s.connection == c) (is_ok told) e
  where
    go : (a b : Bool) → b ≡ false → cond (a && b) [] (pending s before) ≡ pending s before
    go true b i = ap (λ n. cond n [] (pending s before)) i
    go false b i = refl

said_again : (E before : List Entry) (life : Life) (x : Course) (who : Who) (request : Request) (told : Result Answer Refusal) → ((s : SessionId) → drops s who request told ≡ false) → Follows E life before x →
    Follows E life (Asked who request told ∷ before) x
said_again E before life x who request told d h = unsaid E before (Asked who request told ∷ before) life x (λ t i. ap (λ n. cond n [] (pending t before)) (d t)) h

connection_open : (E before : List Entry) (life : Life) (x : Course) (c : ℕ) (client : Option (List ℕ)) (told : Result Answer Refusal) (b : Bool) → Follows E life before x →
    Follows E (cond b (life_after life (Connection c) (Open client)) life) (Asked (Connection c) (Open client) told ∷ before) (cond b (opened c client x) x)
connection_open E before life x c client told true h = said_again E before (life_after life (Connection c) (Open client)) (opened c client x) (Connection c) (Open client) told (λ s. refl) (follows_opened E before life x c client h)
connection_open E before life x c client told false h = said_again E before life x (Connection c) (Open client) told (λ s. refl) h

connection_start : (E before : List Entry) (life : Life) (x : Course) (c : ℕ) (told : Result Answer Refusal) (b : Bool) → Follows E life before x →
    Follows E (cond b (life_after life (Connection c) Start) life) (Asked (Connection c) Start told ∷ before) x
unfolding life_after
connection_start E before life x c told true h = said_again E before (record life { connections = with_started c true life.connections }) x (Connection c) Start told (λ s. refl) (follows_started E before life x c true h)
connection_start E before life x c told false h = said_again E before life x (Connection c) Start told (λ s. refl) h

connection_stop : (E before : List Entry) (life : Life) (x : Course) (c : ℕ) (told : Result Answer Refusal) (b : Bool) → Follows E life before x →
    Follows E (cond b (life_after life (Connection c) Stop) life) (Asked (Connection c) Stop told ∷ before) x
unfolding life_after
connection_stop E before life x c told true h = said_again E before (record life { connections = with_started c false life.connections }) x (Connection c) Stop told (λ s. refl) (follows_started E before life x c false h)
connection_stop E before life x c told false h = said_again E before life x (Connection c) Stop told (λ s. refl) h

connection_close : (E before : List Entry) (life : Life) (x : Course) (c : ℕ) (told : Result Answer Refusal) (b : Bool) → is_ok told ≡ b → Follows E life before x →
    Follows E (cond b (life_after life (Connection c) CloseConnection) life) (Asked (Connection c) CloseConnection told ∷ before) (cond b (shut c x) x)
connection_close E before life x c told true e h = follows_shut E before (Asked (Connection c) CloseConnection told ∷ before) life x c (λ s. shuts c told before s e) h
connection_close E before life x c told false e h = unsaid E before (Asked (Connection c) CloseConnection told ∷ before) life x (λ t i. keeps c told before t e) h

same_life : (b : Bool) (life : Life) → life ≡ cond b life life
same_life true life = refl
same_life false life = refl

connection_other : (E before : List Entry) (life : Life) (x : Course) (c : ℕ) (request : Request) (told : Result Answer Refusal) (b : Bool) → ((s : SessionId) → drops s (Connection c) request told ≡ false) → Follows E life before x →
    Follows E (cond b life life) (Asked (Connection c) request told ∷ before) x
connection_other E before life x c request told b d h = subst (λ (l : Life). Follows E l (Asked (Connection c) request told ∷ before) x) (same_life b life) (said_again E before life x (Connection c) request told d h)

pub follows_noted : (E before : List Entry) (life : Life) (x : Course) (place : ℕ) (e : Entry) → slice_get E place ≡ Some e → Follows E life before x → Follows E (life_after_entry life e) (e ∷ before) (noted place e x)
unfolding life_after_entry life_after noted
follows_noted E before life x place (Asked (Connection c) (Open client) told) at h = connection_open E before life x c client told (is_ok told) h
follows_noted E before life x place (Asked (Connection c) Start told) at h = connection_start E before life x c told (is_ok told) h
follows_noted E before life x place (Asked (Connection c) Stop told) at h = connection_stop E before life x c told (is_ok told) h
follows_noted E before life x place (Asked (Connection c) CloseConnection told) at h = connection_close E before life x c told (is_ok told) refl h
follows_noted E before life x place (Asked (Connection c) request told) at h = connection_other E before life x c request told (is_ok told) (λ s. refl) h
follows_noted E before life x place (Asked (Session s) (CreateSession mode) told) at h =
    said_again E before (life_after life (Session s) (CreateSession mode)) (created s mode x) (Session s) (CreateSession mode) told (λ t. refl) (follows_created E before life x s mode h)
follows_noted E before life x place (Asked (Session s) CloseSession told) at h = follows_left E before (Asked (Session s) CloseSession told ∷ before) life x s (λ t. refl) h
follows_noted E before life x place (Asked (Session s) Rollback told) at h = follows_ended E before (Asked (Session s) Rollback told ∷ before) life x s (λ t. refl) h
follows_noted E before life x place (Asked (Session s) request told) at h = said_again E before life x (Session s) request told (λ t. refl) h
follows_noted E before life x place (Sent m) at h = follows_sent E before life x place m at h
follows_noted E before life x place (Committed s) at h = follows_ended E before (Committed s ∷ before) life x s (λ t. refl) h

-- ---- what is published at an entry

-- a session whose mode is transacted may commit
transacted_may : (u : Bool) (o : Option (Option Mode)) → is_transacted (cond u (mode_left o) None) ≡ true → may_commit o ≡ true
transacted_may true None h = refl
transacted_may true (Some mode) h = h
transacted_may false o h = cc

pub committed_found : (E before : List Entry) (life : Life) (x : Course) (s : SessionId) → Follows E life before x → messages_at E (committed_places x s) ≡ committed life before (Committed s)
unfolding committed
committed_found E before life x s h = go (is_transacted (mode_in x s)) refl ∙ ap (λ m. cond (is_transacted m) (pending s before) []) (h.modes s)
  where
    go : (b : Bool) → is_transacted (mode_in x s) ≡ b → messages_at E (cond b (x.sent s) []) ≡ cond b (pending s before) []
    go true e = h.sent s (transacted_may (is_up (x.connection s.connection)) (x.session s) e)
    go false e = refl

-- ---- an opening

mode_opened : (o : Option SessionState) (u : Bool) → (is_some (open_mode o) ≡ true → u ≡ true) → cond u (mode_left (option_map (λ y. open_mode (Some y)) o)) None ≡ open_mode o
mode_opened None u f = no_mode u None refl
mode_opened (Some y) true f = refl
mode_opened (Some y) false f = none (open_mode (Some y)) f
  where
    none : (m : Option Mode) → (is_some m ≡ true → false ≡ true) → None ≡ m
    none None g = refl
    none (Some n) g = let z : false ≡ true = g refl in cc

-- what an opening says follows an empty record
pub follows_opening : (E : List Entry) (life : Life) → AreNested life.connections life.sessions → (x : Course) → ((c : ℕ) → x.connection c ≡ on (connection_of life.connections c)) → ((c : ℕ) → x.client c ≡ client_at (connection_of life.connections c)) →
    ((s : SessionId) → x.session s ≡ option_map (λ y. open_mode (Some y)) (session_of life.sessions s)) → ((s : SessionId) → x.sent s ≡ []) → Follows E life [] x
follows_opening E life n x c k s e = record {
  connections = c;
  clients = k;
  known = λ t. ap is_some (s t) ∙ still_there (λ y. open_mode (Some y)) (session_of life.sessions t);
  modes = λ t.
      (λ i. cond (is_up (c t.connection i)) (mode_left (s t i)) None)
      ∙ mode_opened (session_of life.sessions t) (is_up (on (connection_of life.connections t.connection))) (λ i. up_is (connection_of life.connections t.connection) ∙ (n t).open_in i);
  nested = λ t i.
      ap is_some (c t.connection) ∙ still_there (λ k. k.is_open) (connection_of life.connections t.connection)
      ∙ (n t).opened_in (sym (still_there (λ y. open_mode (Some y)) (session_of life.sessions t)) ∙ sym (ap is_some (s t)) ∙ i);
  sent = λ t i. ap (messages_at E) (e t);
}

-- what is noted of a connection of the opening
pub noted_open : (o : Option ConnectionState) → option_map (λ k. k.is_open) (option_map connected_as o) ≡ on o
noted_open None = refl
noted_open (Some k) = refl

pub noted_client : (o : Option ConnectionState) → option_and_then (λ k. k.client) (option_map connected_as o) ≡ client_at o
noted_client None = refl
noted_client (Some k) = refl

-- what is noted once a connection closes that is known
pub closed_noted : (c d : ℕ) (old : ℕ → Option Connected) (k : Connected) (new : Option Connected) → old c ≡ Some k → new ≡ cond (c == d) (Some (record { is_open = false; client = None })) (old d) →
    (option_map (λ x. x.is_open) new ≡ cond (is_some (option_map (λ (x : Connected). x.is_open) (old c)) && (c == d)) (Some false) (option_map (λ x. x.is_open) (old d)))
    × (option_and_then (λ x. x.client) new ≡ cond (is_some (option_map (λ (x : Connected). x.is_open) (old c)) && (c == d)) None (option_and_then (λ (x : Connected). x.client) (old d)))
closed_noted c d old k new is n = go (c == d) n
  where
    go : (b : Bool) → new ≡ cond b (Some (record { is_open = false; client = None })) (old d) →
        (option_map (λ x. x.is_open) new ≡ cond (is_some (option_map (λ (x : Connected). x.is_open) (old c)) && b) (Some false) (option_map (λ x. x.is_open) (old d)))
        × (option_and_then (λ x. x.client) new ≡ cond (is_some (option_map (λ (x : Connected). x.is_open) (old c)) && b) None (option_and_then (λ (x : Connected). x.client) (old d)))
    go true n = rw (n, is) (refl, refl)
    go false n = rw (n, is) (refl, refl)

-- ---- look-ups

-- one more is noted of a list of which the first of each number counts
pub noted_more : {A B : Type 0} (p : A → Bool) (f : A → B) (xs : List A) (i : ℕ) (x : A) (old new all : Option B) → i < length xs → x ≡ get_or xs i x →
    new ≡ option_or old (option_map f (find p (x ∷ []))) → option_or old (option_map f (find p (drop i xs))) ≡ all → option_or new (option_map f (find p (drop (i + 1) xs))) ≡ all
noted_more {A} {B} p f xs i x old new all h is n a =
    ap (λ o. option_or o (option_map f (find p (drop (i + 1) xs)))) n
    ∙ turn old (p x) (find p (drop (i + 1) xs))
    ∙ sym (ap (λ ys. option_or old (option_map f (find p ys))) front)
    ∙ a
  where
    turn : (o : Option B) (b : Bool) (r : Option A) → option_or (option_or o (option_map f (cond b (Some x) None))) (option_map f r) ≡ option_or o (option_map f (cond b (Some x) r))
    turn None true r = refl
    turn None false r = refl
    turn (Some y) b r = refl

    front : drop i xs ≡ x ∷ drop (i + 1) xs
    front = rw (add-one) (drop-cons xs i x h ∙ ap (λ y. y ∷ drop (suc i) xs) (sym is))

either_way : {A : Type 0} (b : Bool) (o : Option A) → o ≡ cond b o o
either_way true o = refl
either_way false o = refl

-- what is looked up once the sessions of a connection are dropped
pub dropped : {V : Type 0} (c : ℕ) (s : SessionId) (es : List (SessionId × V)) → lookup (session_eq s) (filter (λ e. not (e.0.connection == c)) es) ≡ cond (s.connection == c) None (lookup (session_eq s) es)
dropped c s [] = either_way (s.connection == c) None
dropped {V} c s (e ∷ es) = go (e.0.connection == c) (session_eq s e.0) refl refl (dropped c s es)
  where
    go : (a b : Bool) → (e.0.connection == c) ≡ a → session_eq s e.0 ≡ b → lookup (session_eq s) (filter (λ x. not (x.0.connection == c)) es) ≡ cond (s.connection == c) None (lookup (session_eq s) es) →
        lookup (session_eq s) (cond (not a) (e ∷ filter (λ x. not (x.0.connection == c)) es) (filter (λ x. not (x.0.connection == c)) es)) ≡ cond (s.connection == c) None (cond b (Some e.1) (lookup (session_eq s) es))
    go true true i j r =
        let same : (s.connection == c) ≡ true = ap (λ (t : SessionId). t.connection == c) (session_same s e.0 j) ∙ i in
        r ∙ rw same refl
    go true false i j r = r
    go false true i j r =
        let same : (s.connection == c) ≡ false = ap (λ (t : SessionId). t.connection == c) (session_same s e.0 j) ∙ i in
        rw (j, same) refl
    go false false i j r = rw j r

places_dropped : {V : Type 0} (b : Bool) (f : V → List ℕ) (o : Option V) → unwrap_or (option_map f (cond b None o)) [] ≡ cond b [] (unwrap_or (option_map f o) [])
places_dropped true f o = refl
places_dropped false f o = refl

pub all_dropped : {V : Type 0} (f : V → List ℕ) (c : ℕ) (old new : List (SessionId × V)) → new ≡ filter (λ e. not (e.0.connection == c)) old → (s : SessionId) →
    unwrap_or (option_map f (lookup (session_eq s) new)) [] ≡ cond (s.connection == c) [] (unwrap_or (option_map f (lookup (session_eq s) old)) [])
all_dropped f c old new h s =
    ap (λ es. unwrap_or (option_map f (lookup (session_eq s) es)) []) h
    ∙ ap (λ o. unwrap_or (option_map f o) []) (dropped c s old)
    ∙ places_dropped (s.connection == c) f (lookup (session_eq s) old)
