-- A step of the machine at an entry is what the entry feeds to one key's subscription.
use Rattle.std.proofs.Common.{◌≡◌, ℕ, Bool, true, false, cond, List, [], ◌∷◌, ◌++◌, refl, ap, sym, ◌∙◌, Option, Some, None}
use Rattle.std.specs.Prelude.{filter, length, not, ◌&&◌, is_ok, is_none, Ok, MatchBool}
use Rattle.jm_base.specs.declared.refusal.Refusal.{Refusal}
use Rattle.jm_dest.specs.declared.session.SessionId.{SessionId}
use Rattle.jm_dest.specs.declared.key.Key.{Key}
use Rattle.jm_dest.specs.Keys.{key_eq}
use Rattle.jm_header.specs.declared.content.Content.{Content}
use Rattle.jm_machine.specs.declared.call.Who.TheVariants.{Connection, Session}
use Rattle.jm_machine.specs.declared.call.Request.{Request}
use Rattle.jm_machine.specs.declared.call.Request.TheVariants.{CreateConsumer, CreateDurable, CreateShared, CreateSharedDurable, Unsubscribe, CloseConsumer, Receive, Missed, SetListener, Take, Done as DoneWith}
use Rattle.jm_machine.specs.declared.call.Call.TheVariants.{Ask, Publish}
use Rattle.jm_machine.specs.declared.answer.Answer.{Answer}
use Rattle.jm_machine.specs.declared.answer.Answer.TheVariants.{Done}
use Rattle.jm_machine.specs.declared.entry.Entry.{Entry}
use Rattle.jm_machine.specs.declared.entry.Entry.TheVariants.{Asked, Sent, Committed}
use Rattle.jm_machine.specs.declared.state.Row.{Row}
use Rattle.jm_machine.specs.declared.state.Station.{Station}
use Rattle.jm_machine.specs.declared.state.Definition.{Definition}
use Rattle.jm_machine.specs.declared.state.Consumer.{Consumer}
use Rattle.jm_machine.specs.Owns.{is_own, is_own_connection}
use Rattle.jm_machine.specs.Life.{Life, mode_of, own_life}
use Rattle.jm_machine.specs.Rows.{fresh}
use Rattle.jm_machine.specs.Machine.{State, station_of, definition_of, rows_of, with_rows, Publisher, publisher_of, accepts, is_full, one_missed, brought, offered, with_message, published, held, of_session, settled, is_transacted, is_stamped, refusal, publish_refusal, commit_refusal, answer, after, after_commit, replied, moved, reply, step}
use Rattle.jm_machine.specs.Entries.{pending, committed}
use Rattle.jm_machine.specs.Lone.{Scope, Lone, Item, lone_of, lone_settled, lone_did, about, is_this_key, is_other_key, this_key_if, is_answered, lone_refusal, lone_brought, lone_after, lone_told, lone_replies, lone_end, is_own_call, lone_accepts, came, accepted, fed, at_place, placed, told}
use Rattle.jm_machine.specs.Lone.Item.{Called, Settled, Came}
use Rattle.jm_base.specs.declared.mode.Mode.{Mode}
use Rattle.jm_base.specs.declared.refusal.Refusal.TheVariants.{IllegalState}
use Rattle.jm_law.proofs.Life.{own_mode}
use Rattle.jm_machine.proofs.Keys.{key_same}
use Rattle.jm_law.proofs.Lists.{append_assoc, into_cond, moved_map, moved_one}
use Rattle.jm_machine.proofs.Bare.{bare-append, bare-length}
use Rattle.jm_law.proofs.Stations.{mapped, station_of-map}
use Rattle.jm_law.proofs.Consumers.{Unshared, FairRequest, FairEntry, Placed, Sound}
use Rattle.jm_law.proofs.EntrySteps.{state_after_entry, Replied}
use Rattle.jm_law.proofs.About.{Elsewhere, elsewhere_told, elsewhere_unless, elsewhere_where}
use Rattle.jm_law.proofs.Projection.{lone_at, three, refused, own_refusal, own_reply, own_after, other_after, connection_own, connection_other, project_settled, settled_other, other_session}

-- one item after another
pub lone_replies-append : (S : Scope) (l : Lone) (place : ℕ) (xs : List Item) (ys : List (ℕ × Item)) →
    lone_replies S l (at_place place xs ++ ys) ≡ lone_replies S l (at_place place xs) ++ lone_replies S (lone_end S l xs) ys
lone_replies-append S l place [] ys = refl
lone_replies-append S l place (x ∷ xs) ys = ap (λ t. placed place (lone_told S l x) ++ t) (lone_replies-append S (lone_after S l x) place xs ys) ∙ append_assoc (placed place (lone_told S l x)) _ _

-- publications are answered by nothing
pub lone_replies-came : (S : Scope) (l : Lone) (place : ℕ) (ms : List Content) → lone_replies S l (at_place place (came ms)) ≡ []
lone_replies-came S l place [] = refl
lone_replies-came S l place (m ∷ ms) = lone_replies-came S (lone_after S l (Came m)) place ms

-- what is found under a key has it
abbrev HasKey : Key → Option Station → Type 0
HasKey k None = Unit {0}
HasKey k (Some x) = x.key ≡ k

has_key : (k : Key) (xs : List Station) → HasKey k (station_of k xs)
has_key k [] = tt
has_key k (x ∷ xs) = go (key_eq x.key k) refl (has_key k xs)
  where
    go : (b : Bool) → key_eq x.key k ≡ b → HasKey k (station_of k xs) → HasKey k (cond b (Some x) (station_of k xs))
    go true e h = key_same x.key k e
    go false e h = h

-- one publication
abbrev offer : ℕ → Bool → Content → ℕ → Station → Station
offer n b m place x = cond b (brought n m place x) x

brought_key : (n : ℕ) (m : Content) (place : ℕ) (x : Station) → (brought n m place x).key ≡ x.key
brought_key n m place x = go (is_full n x.key (length x.rows))
  where
    go : (b : Bool) → (cond b (record { key = x.key; definition = x.definition; missed = one_missed x.missed; rows = x.rows }) (with_rows (λ rows. rows ++ record { place = place; row = fresh m } ∷ []) x)).key ≡ x.key
    go true = refl
    go false = refl

offer_key : (n : ℕ) (m : Content) (place : ℕ) (x : Station) (b : Bool) → (offer n b m place x).key ≡ x.key
offer_key n m place x true = brought_key n m place x
offer_key n m place x false = refl

-- a message that comes
brought_case : (n : ℕ) (l : Life) (cs : List Consumer) (m : Content) (place : ℕ) (x : Station) → lone_at n l cs (Some (brought n m place x)) ≡ lone_brought x.key m (lone_at n l cs (Some x))
brought_case n l cs m place x =
    go (is_full n x.key (length x.rows)) ∙ ap (λ (i : ℕ). cond (is_full n x.key i) (record (lone_at n l cs (Some x)) { missed = one_missed x.missed }) (record (lone_at n l cs (Some x)) { rows = rows_of (Some x) ++ fresh m ∷ [] })) (sym (bare-length x.rows))
  where
    go : (b : Bool) → lone_at n l cs (Some (cond b (record { key = x.key; definition = x.definition; missed = one_missed x.missed; rows = x.rows }) (with_rows (λ rows. rows ++ record { place = place; row = fresh m } ∷ []) x)))
        ≡ cond b (record (lone_at n l cs (Some x)) { missed = one_missed x.missed }) (record (lone_at n l cs (Some x)) { rows = rows_of (Some x) ++ fresh m ∷ [] })
    go true = refl
    go false = ap (λ (rs : List Row). record (lone_at n l cs (Some x)) { rows = rs }) (bare-append x.rows (record { place = place; row = fresh m } ∷ []))

offer_case : (n : ℕ) (l : Life) (cs : List Consumer) (m : Content) (place : ℕ) (x : Station) (b : Bool) →
    lone_at n l cs (Some (offer n b m place x)) ≡ cond b (lone_brought x.key m (lone_at n l cs (Some x))) (lone_at n l cs (Some x))
offer_case n l cs m place x true = brought_case n l cs m place x
offer_case n l cs m place x false = refl

message_case : (n : ℕ) (l : Life) (cs : List Consumer) (p : Publisher) (m : Content) (place : ℕ) (k : Key) (o : Option Station) → HasKey k o →
    lone_at n l cs (mapped (offered n p m place) o) ≡ cond (lone_accepts k (definition_of o) p m) (lone_brought k m (lone_at n l cs o)) (lone_at n l cs o)
message_case n l cs p m place k None h = refl
message_case n l cs p m place k (Some x) h =
    offer_case n l cs m place x (accepts x.key x.definition p m)
    ∙ ap (λ (y : Key). cond (accepts y x.definition p m) (lone_brought y m (lone_at n l cs (Some x))) (lone_at n l cs (Some x))) h

-- the subscription accepts a message of those connections
abbrev takes : Scope → Life → Option Definition → Content → Bool
takes S life d m = lone_accepts S.key d (publisher_of life m) m

project_message : (S : Scope) (state : State) (m : Content) →
    lone_of S (with_message state m) ≡ cond (takes S state.life (lone_of S state).definition m) (lone_after S (lone_of S state) (Came m)) (lone_of S state)
unfolding lone_of
project_message S state m =
    three refl refl (station_of-map S.key (offered state.limit (publisher_of state.life m) m state.next_place) (λ x. offer_key state.limit m state.next_place x (accepts x.key x.definition (publisher_of state.life m) m)) state.stations)
    ∙ message_case state.limit (own_life S.sessions state.life) (filter (λ x. key_eq x.key S.key) state.consumers) (publisher_of state.life m) m state.next_place S.key (station_of S.key state.stations) (has_key S.key state.stations)

-- all messages of a publication
definition_case : (b : Bool) (x y : Lone) → x.definition ≡ y.definition → (cond b x y).definition ≡ y.definition
definition_case true x y h = h
definition_case false x y h = refl

message_definition : (S : Scope) (state : State) (m : Content) → (lone_of S (with_message state m)).definition ≡ (lone_of S state).definition
message_definition S state m =
    ap (λ (l : Lone). l.definition) (project_message S state m)
    ∙ definition_case (takes S state.life (lone_of S state).definition m) (lone_after S (lone_of S state) (Came m)) (lone_of S state) (brought_definition S.key m (lone_of S state))
  where
    brought_definition : (k : Key) (m : Content) (l : Lone) → (lone_brought k m l).definition ≡ l.definition
    brought_definition k m l = elim (is_full l.limit k (length l.rows)) as (λ b. (cond b (record l { missed = one_missed l.missed }) (record l { rows = l.rows ++ fresh m ∷ [] })).definition ≡ l.definition) [ true ↦ refl | false ↦ refl ]

came_one : (S : Scope) (l : Lone) (p : Content → Bool) (m : Content) (ms : List Content) → lone_end S l (came (filter p (m ∷ ms))) ≡ lone_end S (cond (p m) (lone_after S l (Came m)) l) (came (filter p ms))
came_one S l p m ms = elim (p m) as (λ b. lone_end S l (came (cond b (m ∷ filter p ms) (filter p ms))) ≡ lone_end S (cond b (lone_after S l (Came m)) l) (came (filter p ms))) [ true ↦ refl | false ↦ refl ]

project_published : (S : Scope) (state : State) (ms : List Content) →
    lone_of S (published state ms) ≡ lone_end S (lone_of S state) (came (accepted S.key (lone_of S state).definition state.life ms))
unfolding published
project_published S state [] = refl
project_published S state (m ∷ ms) =
    project_published S (with_message state m) ms
    ∙ ap (λ (d : Option Definition). lone_end S (lone_of S (with_message state m)) (came (accepted S.key d state.life ms))) (message_definition S state m)
    ∙ ap (λ l. lone_end S l (came (accepted S.key (lone_of S state).definition state.life ms))) (project_message S state m)
    ∙ sym (came_one S (lone_of S state) (takes S state.life (lone_of S state).definition) m ms)

-- a session's request
not_belongs : (S : Scope) (s : SessionId) (b : Bool) → is_own S.sessions s ≡ false → Elsewhere S s (this_key_if (is_own S.sessions s && b))
not_belongs S s b h = elsewhere_where S s (is_own S.sessions s && b) (ap (λ v. v && b) h)

pub elsewhere_other : (S : Scope) (s : SessionId) (request : Request) → is_own S.sessions s ≡ false → Elsewhere S s (about S s request)
elsewhere_other S s (CreateConsumer c destination selector no_local) n = not_belongs S s _ n
elsewhere_other S s (CreateDurable c destination name selector no_local) n = not_belongs S s _ n
elsewhere_other S s (CreateShared c destination name selector) n = not_belongs S s _ n
elsewhere_other S s (CreateSharedDurable c destination name selector) n = not_belongs S s _ n
elsewhere_other S s (Unsubscribe name) n = not_belongs S s _ n
elsewhere_other S s (CloseConsumer c) n = not_belongs S s (S.numbers s c) n
elsewhere_other S s (Receive c now) n = not_belongs S s (S.numbers s c) n
elsewhere_other S s (Missed c) n = not_belongs S s (S.numbers s c) n
elsewhere_other S s (SetListener c on) n = not_belongs S s (S.numbers s c) n
elsewhere_other S s (Take c now) n = not_belongs S s (S.numbers s c) n
elsewhere_other S s (DoneWith c ok) n = not_belongs S s (S.numbers s c) n
elsewhere_other S s _ n = n

step_case : (S : Scope) (state : State) (s : SessionId) (request : Request) → is_own S.sessions s ≡ true → Unshared S.key → FairRequest S state.life s request → Sound S state → (v : Bool) → not (is_other_key (about S s request)) ≡ v →
    lone_of S (step state (Session s) (Ask request)) ≡ cond (v && is_none (lone_refusal (lone_of S state) (Session s) request)) (lone_did S.key (lone_of S state) (Session s) request) (lone_of S state)
unfolding step
step_case S state s request o f g p true h =
    rw (own_refusal S state s request f o g p.placed h) (moved_map (lone_of S) (refused state s request) (after state (Session s) request) state _ _ (λ m. own_after S state s request f g o p.placed h m) refl)
step_case S state s request o f g p false h =
    moved_one (lone_of S) (refused state s request) (after state (Session s) request) state (lone_of S state) (λ m. other_after S state s request f g p (elsewhere_unless S s (about S s request) h) m) refl

step_own : (S : Scope) (state : State) (s : SessionId) (request : Request) → is_own S.sessions s ≡ true → Unshared S.key → FairRequest S state.life s request → Sound S state →
    lone_of S (step state (Session s) (Ask request)) ≡ lone_after S (lone_of S state) (Called (Session s) request)
step_own S state s request o f g p = step_case S state s request o f g p (not (is_other_key (about S s request))) refl

step_other : (S : Scope) (state : State) (s : SessionId) (request : Request) → is_own S.sessions s ≡ false → Unshared S.key → FairRequest S state.life s request → Sound S state →
    lone_of S (step state (Session s) (Ask request)) ≡ lone_of S state
unfolding step
step_other S state s request n f g p =
    moved_one (lone_of S) (refused state s request) (after state (Session s) request) state (lone_of S state) (λ m. other_after S state s request f g p (elsewhere_other S s request n) m) refl

one_item : (S : Scope) (l : Lone) (b : Bool) (i : Item) → lone_end S l (cond b (i ∷ []) [] ++ []) ≡ cond b (lone_after S l i) l
one_item S l true i = refl
one_item S l false i = refl

-- a connection's request, of which the accepted ones are fed
connection_case : (S : Scope) (state : State) (c : ℕ) (request : Request) (r : Option Refusal) (a : Answer) (o : Bool) → Unshared S.key → is_own_connection S.sessions c ≡ o → Sound S state →
    lone_of S (moved r (after state (Connection c) request) state) ≡ lone_end S (lone_of S state) (cond (o && is_ok (replied r a)) (Called (Connection c) request ∷ []) [] ++ [])
connection_case S state c request None a true u e d = connection_own S state c request u e
connection_case S state c request None a false u e d = connection_other S state c request u e d
connection_case S state c request (Some r) a true u e d = refl
connection_case S state c request (Some r) a false u e d = refl

-- a publication that is accepted
published_ok : (o : Option Refusal) → replied o Done ≡ Ok Done → o ≡ None
published_ok None h = refl
published_ok (Some r) h = cc

-- a message that is sent: it waits for the commit, or is published
sent_case : (S : Scope) (state : State) (m : Content) (b : Bool) → MatchBool b (Unit {0}) (reply state (Session m.sender.session) (Publish (m ∷ [])) ≡ Ok Done) →
    lone_of S (cond b state (step state (Session m.sender.session) (Publish (m ∷ [])))) ≡ lone_end S (lone_of S state) (came (accepted S.key (lone_of S state).definition state.life (cond b [] (m ∷ []))))
unfolding step reply
sent_case S state m true h = refl
sent_case S state m false h =
    ap (λ (o : Option Refusal). lone_of S (moved o (published state (m ∷ [])) state)) (published_ok (publish_refusal state (Session m.sender.session) (m ∷ [])) h)
    ∙ project_published S state (m ∷ [])

-- a commit that is accepted is a transacted session's
transacted_by : (a b : Bool) (o : Option Refusal) → cond (a && b) o (Some IllegalState) ≡ None → a ≡ true
transacted_by true b o h = refl
transacted_by false b o h = cc

pub committed_by : (state : State) (s : SessionId) (ms : List Content) → commit_refusal state (Session s) ms ≡ None → is_transacted (mode_of state.life s) ≡ true
unfolding commit_refusal
committed_by state s ms h = transacted_by (is_transacted (mode_of state.life s)) (is_stamped state.opening s ms) _ h

-- it settles what is out to the session, in each subscription of its own, and then publishes
lone_transacted : (S : Scope) (state : State) (s : SessionId) → is_own S.sessions s ≡ true → is_transacted (mode_of (lone_of S state).life s) ≡ is_transacted (mode_of state.life s)
unfolding lone_of
lone_transacted S state s o = ap (λ (x : Option Mode). is_transacted x) (own_mode S.sessions state.life s o)

settled_definition : (S : Scope) (p : SessionId → ℕ → Bool) (state : State) → (lone_of S (settled p state)).definition ≡ (lone_of S state).definition
settled_definition S p state = ap (λ (l : Lone). l.definition) (project_settled S p state)

settled_case : (S : Scope) (state : State) (s : SessionId) → Sound S state → is_transacted (mode_of state.life s) ≡ true → (o : Bool) → is_own S.sessions s ≡ o → (items : List Item) →
    lone_end S (lone_of S (settled (of_session s) state)) items ≡ lone_end S (lone_of S state) (cond o (Settled s ∷ []) [] ++ items)
settled_case S state s p t true e items =
    ap (λ l. lone_end S l items) (project_settled S (of_session s) state)
    ∙ ap (λ (b : Bool). lone_end S (cond b (lone_settled (of_session s) (lone_of S state)) (lone_of S state)) items) (sym (lone_transacted S state s e ∙ t))
settled_case S state s p t false e items = ap (λ l. lone_end S l items) (settled_other S (of_session s) state (other_session S.sessions s e) p)

committed_case : (S : Scope) (state : State) (s : SessionId) (ms : List Content) → Sound S state → commit_refusal state (Session s) ms ≡ None →
    lone_of S (published (settled (of_session s) state) ms) ≡ lone_end S (lone_of S state) (cond (is_own S.sessions s) (Settled s ∷ []) [] ++ came (accepted S.key (lone_of S state).definition state.life ms))
committed_case S state s ms p h =
    project_published S (settled (of_session s) state) ms
    ∙ ap (λ (d : Option Definition). lone_end S (lone_of S (settled (of_session s) state)) (came (accepted S.key d state.life ms))) (settled_definition S (of_session s) state)
    ∙ settled_case S state s p (committed_by state s ms h) (is_own S.sessions s) refl (came (accepted S.key (lone_of S state).definition state.life ms))

-- the machine's step at an entry is what the entry feeds
pub entry_step : (S : Scope) (state : State) (before : List Entry) (e : Entry) → Unshared S.key → FairEntry S state.life e → Sound S state → Replied state before e →
    lone_of S (state_after_entry state before e) ≡ lone_end S (lone_of S state) (fed S state.life before (lone_of S state) e)
unfolding state_after_entry after_commit committed step reply
entry_step S state before (Asked (Session s) request r) f g p h =
    into_cond (is_own S.sessions s) _ _ _ (λ o. step_own S state s request o f g p) (λ n. step_other S state s request n f g p)
    ∙ sym (one_item S (lone_of S state) (is_own S.sessions s) (Called (Session s) request))
entry_step S state before (Asked (Connection c) request r) f g p h =
    rw h (connection_case S state c request (refusal state.life state.consumers (held state (Connection c) request) (Connection c) request)
    (answer state.life state.consumers (held state (Connection c) request) (Connection c) request) (is_own_connection S.sessions c) f refl p)
entry_step S state before (Sent m) f g p h = sent_case S state m (is_transacted (mode_of state.life m.sender.session)) h
entry_step S state before (Committed s) f g p h =
    let none : commit_refusal state (Session s) (pending s before) ≡ None = published_ok (commit_refusal state (Session s) (pending s before)) h in
    ap (λ (o : Option Refusal). lone_of S (moved o (published (settled (of_session s) state) (pending s before)) state)) none
    ∙ committed_case S state s (pending s before) p none
    ∙ ap (λ (b : Bool). lone_end S (lone_of S state) (cond (is_own S.sessions s) (Settled s ∷ []) [] ++ came (accepted S.key (lone_of S state).definition state.life (cond b (pending s before) [])))) (sym (committed_by state s (pending s before) none))

-- the replies
pub true_false : true ≡ false → ⊥
true_false h = cc

pub connection_told : (S : Scope) (l : Lone) (place c : ℕ) (request : Request) (b : Bool) → [] ≡ lone_replies S l (at_place place (cond b (Called (Connection c) request ∷ []) [] ++ []))
unfolding is_answered
connection_told S l place c request true = refl
connection_told S l place c request false = refl

told_case : (S : Scope) (state : State) (place : ℕ) (s : SessionId) (request : Request) (o a : Bool) → Unshared S.key → is_own S.sessions s ≡ o → is_this_key (about S s request) ≡ a → FairRequest S state.life s request → Placed S state.consumers →
    placed place (cond a (Some (reply state (Session s) (Ask request))) None) ≡ lone_replies S (lone_of S state) (at_place place (cond o (Called (Session s) request ∷ []) [] ++ []))
unfolding is_answered
told_case S state place s request true true f e b g p = rw (b, own_reply S state s request f e g p b)
told_case S state place s request true false f e b g p = rw b
told_case S state place s request false true f e b g p = absurd (true_false (sym b ∙ elsewhere_told S s (about S s request) (elsewhere_other S s request e)))
told_case S state place s request false false f e b g p = refl

commit_told : (S : Scope) (l : Lone) (place : ℕ) (s : SessionId) (b : Bool) (ms : List Content) → lone_replies S l (at_place place (cond b (Settled s ∷ []) [] ++ came ms)) ≡ []
commit_told S l place s true ms = lone_replies-came S (lone_after S l (Settled s)) place ms
commit_told S l place s false ms = lone_replies-came S l place ms

-- the reply to a call of the key's, as an entry has it, is what its subscription answers alone
pub entry_told : (S : Scope) (state : State) (place : ℕ) (before : List Entry) (e : Entry) → Unshared S.key → FairEntry S state.life e → Placed S state.consumers → Replied state before e →
    placed place (told S e) ≡ lone_replies S (lone_of S state) (at_place place (fed S state.life before (lone_of S state) e))
unfolding committed is_answered
entry_told S state place before (Asked (Session s) request r) f g p h = rw h (told_case S state place s request (is_own S.sessions s) (is_this_key (about S s request)) f refl refl g p)
entry_told S state place before (Asked (Connection c) request r) f g p h = connection_told S (lone_of S state) place c request (is_own_call S (Connection c) r)
entry_told S state place before (Sent m) f g p h = sym (lone_replies-came S (lone_of S state) place (accepted S.key (lone_of S state).definition state.life (cond (is_transacted (mode_of state.life m.sender.session)) [] (m ∷ []))))
entry_told S state place before (Committed s) f g p h =
    sym (commit_told S (lone_of S state) place s (is_own S.sessions s) (accepted S.key (lone_of S state).definition state.life (cond (is_transacted (mode_of state.life s)) (pending s before) [])))
