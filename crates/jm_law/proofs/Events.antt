-- A legal list of events expands to entries that fit.
use Rattle.std.proofs.Common.{◌≡◌, ℕ, suc, ◌+◌, Bool, true, false, cond, List, [], ◌∷◌, ◌++◌, refl, ap, sym, subst, ◌∙◌, arith, Option, Some, None}
use Rattle.std.specs.Prelude.{nat_le, ◌&&◌, ◌==◌, length, is_ok, Result, Ok, Err, MatchBool}
use Rattle.std.proofs.lemmas.Bool.Decides.{nat_tests}
use Rattle.jm_base.specs.declared.mode.Mode.{Mode}
use Rattle.jm_base.specs.declared.mode.Mode.TheVariants.{Auto, Client, Dups, Transacted}
use Rattle.jm_base.specs.declared.refusal.Refusal.{Refusal}
use Rattle.jm_base.specs.declared.refusal.Refusal.TheVariants.{IllegalState, Exhausted, Memory, Store}
use Rattle.jm_dest.specs.declared.session.SessionId.{SessionId}
use Rattle.jm_dest.specs.Names.{session_eq}
use Rattle.jm_header.specs.declared.content.Content.{Content}
use Rattle.jm_machine.specs.declared.call.Who.{Who}
use Rattle.jm_machine.specs.declared.call.Who.TheVariants.{Connection, Session}
use Rattle.jm_machine.specs.declared.call.Request.{Request}
use Rattle.jm_machine.specs.declared.call.Call.{Call}
use Rattle.jm_machine.specs.declared.call.Call.TheVariants.{Ask, Publish, Commit}
use Rattle.jm_machine.specs.declared.answer.Answer.{Answer}
use Rattle.jm_machine.specs.declared.answer.Answer.TheVariants.{Done}
use Rattle.jm_machine.specs.declared.entry.Entry.{Entry}
use Rattle.jm_machine.specs.declared.entry.Entry.TheVariants.{Asked, Sent, Committed}
use Rattle.jm_machine.specs.declared.entry.Event.{Event}
use Rattle.jm_machine.specs.Life.{session_of, mode_of}
use Rattle.jm_machine.specs.Machine.{State, is_transacted, is_untransacted, is_stamped, places_end, has_places, unless, publish_refusal, commit_refusal, with_message, published, after_commit, replied, moved, reply, step}
use Rattle.jm_machine.specs.Entries.{drops, sent_entries, step_entries, expand, pending}
use Rattle.jm_machine.specs.Client.{after_request}
use Rattle.jm_machine.specs.Isolation.{IsLegal, IsolationOfEvents, EventsReach}
use Rattle.jm_machine.specs.Isolation.Reached.{Stepped}
use Rattle.jm_machine.proofs.Keys.{session_same}
use Rattle.jm_law.proofs.EntrySteps.{state_after_entry, EntriesFit, state_at_end, before_by}
use Rattle.jm_law.proofs.Steps.{committed_by}
use Rattle.jm_law.proofs.Transactions.{Agrees, transacted_not_plain, untransacted_plain, agrees_step, agrees_asked, agrees_plain}
use Rattle.jm_machine.proofs.Outside.{no_store, no_memory}
use Rattle.jm_law.proofs.Clients.{Led, fit_append}
use Rattle.jm_law.proofs.Unshared.{by_key}

-- between events no transaction has sent anything
abbrev none_kept : SessionId → List Content
none_kept s = []

-- an event's entries lead to the state after it
abbrev LedBy : State → List Entry → Who → Call → List Entry → Type 0
LedBy state before who call entries = Led state before entries (step state who call) none_kept

-- ---- messages that are published together, one after another

-- messages may be published: the session is open and not transacted, stamped them, and places are left
record Ready (state : State) (s : SessionId) (ms : List Content) : Type 0 where
  plain : is_untransacted (mode_of state.life s) ≡ true
  stamped : is_stamped state.opening s ms ≡ true
  room : has_places state.next_place ms ≡ true

and_one : (a b : Bool) → (a && b) ≡ true → a ≡ true
and_one true b h = refl
and_one false b h = cc

and_two : (a b : Bool) → (a && b) ≡ true → b ≡ true
and_two true b h = h
and_two false b h = cc

-- what is said by a refusal that does not stand
abbrev All : Bool → Bool → Bool → Type 0
All a b c = (a ≡ true) × (b ≡ true) × (c ≡ true)

all_three : (a b c : Bool) → cond (a && b) (unless c Exhausted) (Some IllegalState) ≡ None → All a b c
all_three true true true h = (refl, refl, refl)
all_three true true false h = cc
all_three true false c h = cc
all_three false b c h = cc

none_stands : (a b c : Bool) → a ≡ true → b ≡ true → c ≡ true → cond (a && b) (unless c Exhausted) (Some IllegalState) ≡ None
none_stands true true true p q r = refl
none_stands true true false p q r = cc
none_stands true false c p q r = cc
none_stands false b c p q r = cc

ready : (state : State) (s : SessionId) (ms : List Content) → publish_refusal state (Session s) ms ≡ None → Ready state s ms
unfolding publish_refusal
ready state s ms h =
    let a : All (is_untransacted (mode_of state.life s)) (is_stamped state.opening s ms) (has_places state.next_place ms) = all_three (is_untransacted (mode_of state.life s)) (is_stamped state.opening s ms) (has_places state.next_place ms) h in
    record { plain = a.0; stamped = a.1; room = a.2 }

-- the first message alone
first_stamped : (state : State) (s : SessionId) (m : Content) (ms : List Content) → Ready state s (m ∷ ms) → ((m.sender.opening == state.opening) && session_eq m.sender.session s) ≡ true
first_stamped state s m ms o = and_one _ _ o.stamped

sender_is : (state : State) (s : SessionId) (m : Content) (ms : List Content) → Ready state s (m ∷ ms) → m.sender.session ≡ s
sender_is state s m ms o = session_same m.sender.session s (and_two (m.sender.opening == state.opening) _ (first_stamped state s m ms o))

one_place : (n k : ℕ) → nat_le (n + suc k) places_end ≡ true → nat_le (n + 1) places_end ≡ true
one_place n k h = grind (arith, nat_tests)

next_place : (n k : ℕ) → nat_le (n + suc k) places_end ≡ true → nat_le (n + 1 + k) places_end ≡ true
next_place n k h = grind (arith, nat_tests)

and_end : (a : Bool) → a ≡ true → (a && true) ≡ true
and_end true h = refl
and_end false h = h

one_accepted : (state : State) (s : SessionId) (m : Content) (ms : List Content) → Ready state s (m ∷ ms) → publish_refusal state (Session s) (m ∷ []) ≡ None
unfolding publish_refusal
one_accepted state s m ms o =
    none_stands (is_untransacted (mode_of state.life s)) (is_stamped state.opening s (m ∷ [])) (has_places state.next_place (m ∷ [])) o.plain (and_end _ (first_stamped state s m ms o)) (one_place state.next_place (length ms) o.room)

ready_next : (state : State) (s : SessionId) (m : Content) (ms : List Content) → Ready state s (m ∷ ms) → Ready (with_message state m) s ms
ready_next state s m ms o = record { plain = o.plain; stamped = and_two _ _ o.stamped; room = next_place state.next_place (length ms) o.room }

-- a session that is open and not transacted
not_transacted : (o : Option Mode) → is_untransacted o ≡ true → is_transacted o ≡ false
not_transacted None h = refl
not_transacted (Some Auto) h = refl
not_transacted (Some Client) h = refl
not_transacted (Some Dups) h = refl
not_transacted (Some Transacted) h = cc

-- one message's entry is one publication
published_entry : (state : State) (before : List Entry) (s : SessionId) (m : Content) (ms : List Content) → Ready state s (m ∷ ms) → state_after_entry state before (Sent m) ≡ with_message state m
unfolding state_after_entry step published
published_entry state before s m ms o =
    let i : m.sender.session ≡ s = sender_is state s m ms o in
    ap (λ (t : SessionId). cond (is_transacted (mode_of state.life t)) state (step state (Session t) (Publish (m ∷ [])))) i
    ∙ ap (λ v. cond v state (step state (Session s) (Publish (m ∷ [])))) (not_transacted (mode_of state.life s) o.plain)
    ∙ ap (λ (x : Option Refusal). moved x (with_message state m) state) (one_accepted state s m ms o)

published_told : (state : State) (s : SessionId) (m : Content) (ms : List Content) → Ready state s (m ∷ ms) → reply state (Session m.sender.session) (Publish (m ∷ [])) ≡ Ok Done
unfolding reply
published_told state s m ms o =
    ap (λ (t : SessionId). replied (publish_refusal state (Session t) (m ∷ [])) Done) (sender_is state s m ms o) ∙ ap (λ x. replied x Done) (one_accepted state s m ms o)

published_fits : (ms : List Content) (before : List Entry) (state : State) (s : SessionId) → Ready state s ms → EntriesFit state before (sent_entries ms)
published_fits [] before state s o = tt
published_fits (m ∷ ms) before state s o =
    let plain : is_transacted (mode_of state.life m.sender.session) ≡ false = ap (λ (t : SessionId). is_transacted (mode_of state.life t)) (sender_is state s m ms o) ∙ not_transacted (mode_of state.life s) o.plain in (
      subst (λ v. MatchBool v (Unit {0}) (reply state (Session m.sender.session) (Publish (m ∷ [])) ≡ Ok Done)) (sym plain) (published_told state s m ms o),
      subst (λ (x : State). EntriesFit x (Sent m ∷ before) (sent_entries ms)) (sym (published_entry state before s m ms o)) (published_fits ms (Sent m ∷ before) (with_message state m) s (ready_next state s m ms o)),
    )

published_end : (ms : List Content) (before : List Entry) (state : State) (s : SessionId) → Ready state s ms → published state ms ≡ state_at_end state before (sent_entries ms)
unfolding published
published_end [] before state s o = refl
published_end (m ∷ ms) before state s o =
    published_end ms (Sent m ∷ before) (with_message state m) s (ready_next state s m ms o)
    ∙ ap (λ (x : State). state_at_end x (Sent m ∷ before) (sent_entries ms)) (sym (published_entry state before s m ms o))

published_agrees : (ms : List Content) (before : List Entry) (state : State) (s : SessionId) (opening : ℕ) → is_stamped opening s ms ≡ true → is_untransacted (mode_of state.life s) ≡ true → Agrees state none_kept before →
    Agrees state none_kept (before_by before (sent_entries ms))
published_agrees [] before state s opening o p a = a
published_agrees (m ∷ ms) before state s opening o p a =
    published_agrees ms (Sent m ∷ before) state s opening (and_two _ _ o) p
    (agrees_plain state s m none_kept before (session_same m.sender.session s (and_two (m.sender.opening == opening) _ (and_one _ _ o))) (untransacted_plain (session_of state.life.sessions s) p) a)

-- ---- messages of a transaction, and its commit

kept_fits : (ms : List Content) (before : List Entry) (state : State) (s : SessionId) (opening : ℕ) (rest : List Entry) → is_stamped opening s ms ≡ true → is_transacted (mode_of state.life s) ≡ true →
    EntriesFit state (before_by before (sent_entries ms)) rest → EntriesFit state before (sent_entries ms ++ rest)
unfolding state_after_entry
kept_fits [] before state s opening rest o t f = f
kept_fits (m ∷ ms) before state s opening rest o t f =
    let i : m.sender.session ≡ s = session_same m.sender.session s (and_two (m.sender.opening == opening) _ (and_one _ _ o)) in
    let own : is_transacted (mode_of state.life m.sender.session) ≡ true = ap (λ (u : SessionId). is_transacted (mode_of state.life u)) i ∙ t in (
      subst (λ v. MatchBool v (Unit {0}) (reply state (Session m.sender.session) (Publish (m ∷ [])) ≡ Ok Done)) (sym own) tt,
      subst (λ v. EntriesFit (cond v state (step state (Session m.sender.session) (Publish (m ∷ [])))) (Sent m ∷ before) (sent_entries ms ++ rest)) (sym own) (kept_fits ms (Sent m ∷ before) state s opening rest (and_two _ _ o) t f),
    )

kept_end : (ms : List Content) (before : List Entry) (state : State) (s : SessionId) (opening : ℕ) (rest : List Entry) → is_stamped opening s ms ≡ true → is_transacted (mode_of state.life s) ≡ true →
    state_at_end state before (sent_entries ms ++ rest) ≡ state_at_end state (before_by before (sent_entries ms)) rest
unfolding state_after_entry
kept_end [] before state s opening rest o t = refl
kept_end (m ∷ ms) before state s opening rest o t =
    let i : m.sender.session ≡ s = session_same m.sender.session s (and_two (m.sender.opening == opening) _ (and_one _ _ o)) in
    let own : is_transacted (mode_of state.life m.sender.session) ≡ true = ap (λ (u : SessionId). is_transacted (mode_of state.life u)) i ∙ t in
    ap (λ v. state_at_end (cond v state (step state (Session m.sender.session) (Publish (m ∷ [])))) (Sent m ∷ before) (sent_entries ms ++ rest)) own
    ∙ kept_end ms (Sent m ∷ before) state s opening rest (and_two _ _ o) t

append_none : (xs : List Content) → xs ++ [] ≡ xs
append_none [] = refl
append_none (x ∷ xs) = ap (λ t. x ∷ t) (append_none xs)

one_more : (a : List Content) (m : Content) (ms : List Content) → (a ++ m ∷ []) ++ ms ≡ a ++ (m ∷ ms)
one_more [] m ms = refl
one_more (x ∷ a) m ms = ap (λ t. x ∷ t) (one_more a m ms)

-- what a session sent, and what another did
pending_own : (ms : List Content) (s : SessionId) (opening : ℕ) (before : List Entry) → is_stamped opening s ms ≡ true → pending s (before_by before (sent_entries ms)) ≡ pending s before ++ ms
pending_own [] s opening before o = sym (append_none (pending s before))
pending_own (m ∷ ms) s opening before o =
    pending_own ms s opening (Sent m ∷ before) (and_two _ _ o)
    ∙ ap (λ b. cond b (pending s before ++ m ∷ []) (pending s before) ++ ms) (and_two (m.sender.opening == opening) _ (and_one _ _ o))
    ∙ one_more (pending s before) m ms

pending_other : (ms : List Content) (t s : SessionId) (opening : ℕ) (before : List Entry) → is_stamped opening t ms ≡ true → session_eq t s ≡ false → pending s (before_by before (sent_entries ms)) ≡ pending s before
pending_other [] t s opening before o h = refl
pending_other (m ∷ ms) t s opening before o h =
    let i : m.sender.session ≡ t = session_same m.sender.session t (and_two (m.sender.opening == opening) _ (and_one _ _ o)) in
    pending_other ms t s opening (Sent m ∷ before) (and_two _ _ o) h
    ∙ ap (λ b. cond b (pending s before ++ m ∷ []) (pending s before)) (ap (λ (u : SessionId). session_eq u s) i ∙ h)

before_append : (xs ys before : List Entry) → before_by before (xs ++ ys) ≡ before_by (before_by before xs) ys
before_append [] ys before = refl
before_append (x ∷ xs) ys before = before_append xs ys (x ∷ before)

-- ---- one event

asked_event : (state : State) (before : List Entry) (who : Who) (request : Request) (r : Result Answer Refusal) → Agrees state none_kept before → r ≡ reply state who (Ask request) → LedBy state before who (Ask request) (Asked who request r ∷ [])
unfolding state_after_entry
asked_event state before who request r a h = record {
  fits = (h, tt);
  ends = refl;
  agrees = λ s p. agrees_asked state who request r none_kept before a s p ∙ nothing s;
}
  where
    nothing : (s : SessionId) → after_request who request r none_kept s ≡ []
    nothing s = elim (drops s who request r) as (λ b. cond b [] (none_kept s) ≡ []) [ true ↦ refl | false ↦ refl ]

nothing_event : (state : State) (before : List Entry) (who : Who) (call : Call) → Agrees state none_kept before → step state who call ≡ state → LedBy state before who call []
nothing_event state before who call a h = record { fits = tt; ends = h; agrees = agrees_step state who call none_kept before a }

published_event : (state : State) (before : List Entry) (s : SessionId) (ms : List Content) → Agrees state none_kept before → publish_refusal state (Session s) ms ≡ None → LedBy state before (Session s) (Publish ms) (sent_entries ms)
unfolding step
published_event state before s ms a h =
    let o : Ready state s ms = ready state s ms h in
    record {
      fits = published_fits ms before state s o;
      ends = ap (λ (x : Option Refusal). moved x (published state ms) state) h ∙ published_end ms before state s o;
      agrees = agrees_step state (Session s) (Publish ms) none_kept (before_by before (sent_entries ms)) (published_agrees ms before state s state.opening o.stamped o.plain a);
    }

stamped_by : (state : State) (s : SessionId) (ms : List Content) → commit_refusal state (Session s) ms ≡ None → is_stamped state.opening s ms ≡ true
unfolding commit_refusal
stamped_by state s ms h = (all_three (is_transacted (mode_of state.life s)) (is_stamped state.opening s ms) (has_places state.next_place ms) h).1

committed_event : (state : State) (before : List Entry) (s : SessionId) (ms : List Content) → Agrees state none_kept before → commit_refusal state (Session s) ms ≡ None → LedBy state before (Session s) (Commit ms) (sent_entries ms ++ Committed s ∷ [])
unfolding state_after_entry reply
committed_event state before s ms a h =
    let t : is_transacted (mode_of state.life s) ≡ true = committed_by state s ms h in
    let o : is_stamped state.opening s ms ≡ true = stamped_by state s ms h in
    let sent : List Entry = before_by before (sent_entries ms) in
    let same : pending s sent ≡ ms = pending_own ms s state.opening before o ∙ ap (λ (xs : List Content). xs ++ ms) (a s (transacted_not_plain (session_of state.life.sessions s) t)) in
    record {
      fits = kept_fits ms before state s state.opening (Committed s ∷ []) o t
          (ap (λ (xs : List Content). replied (commit_refusal state (Session s) xs) Done) same ∙ ap (λ x. replied x Done) h, tt);
      ends = sym (kept_end ms before state s state.opening (Committed s ∷ []) o t ∙ ap (λ (xs : List Content). step state (Session s) (Commit xs)) same);
      agrees = λ u p. ap (pending u) (before_append (sent_entries ms) (Committed s ∷ []) before) ∙ go u (session_eq s u) refl (agrees_step state (Session s) (Commit ms) none_kept before a u p) o;
    }
  where
    go : (u : SessionId) (b : Bool) → session_eq s u ≡ b → pending u before ≡ [] → is_stamped state.opening s ms ≡ true → cond b [] (pending u (before_by before (sent_entries ms))) ≡ []
    go u true i p o = refl
    go u false i p o = pending_other ms s u state.opening before o i ∙ p

-- a step that is refused leaves the state
published_case : (state : State) (before : List Entry) (s : SessionId) (ms : List Content) → Agrees state none_kept before → (o : Option Refusal) → publish_refusal state (Session s) ms ≡ o →
    LedBy state before (Session s) (Publish ms) (cond (is_ok (replied o Done)) (sent_entries ms) [])
unfolding step
published_case state before s ms a None h = published_event state before s ms a h
published_case state before s ms a (Some r) h = nothing_event state before (Session s) (Publish ms) a (ap (λ (x : Option Refusal). moved x (published state ms) state) h)

committed_case : (state : State) (before : List Entry) (s : SessionId) (ms : List Content) → Agrees state none_kept before → (o : Option Refusal) → commit_refusal state (Session s) ms ≡ o →
    LedBy state before (Session s) (Commit ms) (cond (is_ok (replied o Done)) (sent_entries ms ++ Committed s ∷ []) [])
unfolding step
committed_case state before s ms a None h = committed_event state before s ms a h
committed_case state before s ms a (Some r) h = nothing_event state before (Session s) (Commit ms) a (ap (λ (x : Option Refusal). moved x (after_commit state (Session s) ms) state) h)

one_event : (state : State) (before : List Entry) (who : Who) (call : Call) (r : Result Answer Refusal) → Agrees state none_kept before → r ≡ reply state who call → LedBy state before who call (step_entries who call r)
unfolding reply step publish_refusal commit_refusal
one_event state before who (Ask request) (Err Memory) a h = absurd (no_memory state who request h)
one_event state before who (Ask request) (Err Store) a h = absurd (no_store state who request h)
one_event state before who (Ask request) r a h = asked_event state before who request r a h
one_event state before (Session s) (Publish ms) r a h =
    subst (λ (x : Result Answer Refusal). LedBy state before (Session s) (Publish ms) (cond (is_ok x) (sent_entries ms) [])) (sym h) (published_case state before s ms a (publish_refusal state (Session s) ms) refl)
one_event state before (Session s) (Commit ms) r a h =
    subst (λ (x : Result Answer Refusal). LedBy state before (Session s) (Commit ms) (cond (is_ok x) (sent_entries ms ++ Committed s ∷ []) [])) (sym h) (committed_case state before s ms a (commit_refusal state (Session s) ms) refl)
one_event state before (Connection c) (Publish ms) r a h =
    subst (λ (x : Result Answer Refusal). LedBy state before (Connection c) (Publish ms) (cond (is_ok x) (sent_entries ms) [])) (sym h) (nothing_event state before (Connection c) (Publish ms) a refl)
one_event state before (Connection c) (Commit ms) r a h = nothing_event state before (Connection c) (Commit ms) a refl

legal_fits : (events : List Event) (before : List Entry) (state : State) → Agrees state none_kept before → IsLegal state events → EntriesFit state before (expand events)
legal_fits [] before state a l = tt
legal_fits (e ∷ events) before state a l =
    let list : List Entry = step_entries e.step.who e.step.call e.reply in
    let led : LedBy state before e.step.who e.step.call list = one_event state before e.step.who e.step.call e.reply a l.0 in
    fit_append list (expand events) before state led.fits
    (subst (λ (x : State). EntriesFit x (before_by before list) (expand events)) led.ends (legal_fits events (before_by before list) (step state e.step.who e.step.call) led.agrees l.1))

pub events_fit : (opening : State) (events : List Event) → IsLegal opening events → EntriesFit opening [] (expand events)
events_fit opening events l = legal_fits events [] opening (λ s h. refl) l

pub isolation_of_events : IsolationOfEvents
isolation_of_events opening events key l p = by_key opening (expand events) key p.unshared p.numbers p.reached (events_fit opening events l)

pub events_reach : EventsReach
events_reach opening [] r l = r
events_reach opening (e ∷ events) r l = events_reach (step opening e.step.who e.step.call) events (Stepped opening e.step.who e.step.call r) l.1
