-- Replies that fit a list of clients' calls leave entries that fit.
use Rattle.std.proofs.Common.{◌≡◌, ◌⊎◌, ℕ, ◌+◌, Bool, true, false, cond, List, [], ◌∷◌, ◌++◌, refl, ap, sym, subst, ◌∙◌, arith, Option, Some, None}
use Rattle.std.specs.Prelude.{nat_lt, nat_le, ◌&&◌, is_some, Result, Ok, Err, MatchBool}
use Rattle.std.proofs.lemmas.Bool.Decides.{nat_tests}
use Rattle.jm_base.specs.declared.refusal.Refusal.{Refusal}
use Rattle.jm_base.specs.declared.refusal.Refusal.TheVariants.{IllegalState, OutOfRange, Exhausted, Memory, Store}
use Rattle.jm_dest.specs.declared.key.Key.{Key}
use Rattle.jm_dest.specs.declared.session.SessionId.{SessionId}
use Rattle.jm_dest.specs.declared.destination.Destination.{Destination}
use Rattle.jm_dest.specs.declared.destination.Destination.TheVariants.{Queue, Topic}
use Rattle.jm_dest.specs.Numbers.{long_end}
use Rattle.jm_header.specs.declared.content.Content.{Content}
use Rattle.jm_header.specs.declared.content.Settings.{Settings}
use Rattle.jm_header.specs.Headers.{has_moments, message_of, stamped, next_stamped}
use Rattle.jm_machine.specs.declared.call.Who.{Who}
use Rattle.jm_machine.specs.declared.call.Who.TheVariants.{Connection, Session}
use Rattle.jm_machine.specs.declared.call.Request.{Request}
use Rattle.jm_machine.specs.declared.call.Request.TheVariants.{CloseConnection, CreateConsumer, CreateDurable, CreateShared, CreateSharedDurable, Receive, Acknowledge, Take, Done as DoneWith}
use Rattle.jm_machine.specs.declared.call.Call.{Call}
use Rattle.jm_machine.specs.declared.call.Call.TheVariants.{Publish, Commit, Ask as AskStep}
use Rattle.jm_machine.specs.declared.call.ClientCall.{ClientCall}
use Rattle.jm_machine.specs.declared.call.ClientCall.TheVariants.{Ask, Send, CommitSession}
use Rattle.jm_machine.specs.declared.answer.Answer.{Answer}
use Rattle.jm_machine.specs.declared.answer.Answer.TheVariants.{Done, Sent as SentAs, Delivered, Nothing, Missed}
use Rattle.jm_machine.specs.declared.entry.Entry.{Entry}
use Rattle.jm_machine.specs.declared.entry.Entry.TheVariants.{Asked, Sent, Committed}
use Rattle.jm_machine.specs.declared.state.Row.{Row}
use Rattle.jm_machine.specs.declared.state.Definition.{Definition}
use Rattle.jm_machine.specs.Life.{client_of, session_of, mode_of, is_started}
use Rattle.jm_machine.specs.Rows.{left_of, taken, settles_at_once}
use Rattle.jm_machine.specs.Machine.{State, consumer_of, key_at, made, selected_by, durable_of, shared_of, asked, is_same, subscribed, put, joined, definition_of, station_of, with_message, published, of_session, settled, is_client, receive, set_busy, take, with_done, held, is_transacted, is_untransacted, is_stamped, refusal, publish_refusal, commit_refusal, after, after_commit, replied, moved, reply, step}
use Rattle.jm_machine.specs.Entries.{sent_entry, is_not_made, pending, entry_of, entries_of}
use Rattle.jm_machine.specs.Client.{Progress, begun, after_commit_of, after_request, stamp_of, is_in_transaction, stamped_reply, send_reply, stamped_progress, send_progress, reply_to, progress_to, CallFits, RepliesFit}
use Rattle.jm_law.proofs.EntrySteps.{state_after_entry, EntriesFit, state_at_end, before_by}
use Rattle.jm_law.proofs.Steps.{committed_by}
use Rattle.jm_law.proofs.Transactions.{Agrees, transacted_not_plain, untransacted_plain, agrees_step, agrees_asked, agrees_committed, agrees_kept, agrees_plain}

pub fit_append : (xs ys before : List Entry) (state : State) → EntriesFit state before xs → EntriesFit (state_at_end state before xs) (before_by before xs) ys → EntriesFit state before (xs ++ ys)
fit_append [] ys before state f g = g
fit_append (e ∷ xs) ys before state f g = (f.0, fit_append xs ys (e ∷ before) (state_after_entry state before e) f.1 g)

-- a step keeps the number of the opening
published_opening : (state : State) (ms : List Content) → (published state ms).opening ≡ state.opening
unfolding published
published_opening state [] = refl
published_opening state (m ∷ ms) = published_opening (with_message state m) ms

committed_opening : (state : State) (who : Who) (ms : List Content) → (after_commit state who ms).opening ≡ state.opening
unfolding after_commit
committed_opening state (Connection c) ms = refl
committed_opening state (Session s) ms = published_opening (settled (of_session s) state) ms

opening_if : (b : Bool) (x y : State) (n : ℕ) → x.opening ≡ n → y.opening ≡ n → (cond b x y).opening ≡ n
opening_if true x y n p q = p
opening_if false x y n p q = q

opening_moved : (o : Option Refusal) (x y : State) → x.opening ≡ y.opening → (moved o x y).opening ≡ y.opening
opening_moved None x y p = p
opening_moved (Some r) x y p = refl

opening_receive : (p : Content → Bool) (f : Row → List Row) (now : ℕ) (k : Option Key) (state : State) → (receive p f now k state).opening ≡ state.opening
opening_receive p f now None state = refl
opening_receive p f now (Some k) state = refl

opening_done : (s : SessionId) (c : ℕ) (ok : Bool) (k : Option Key) (state : State) → (with_done s c ok k state).opening ≡ state.opening
opening_done s c ok None state = refl
opening_done s c ok (Some k) state = refl

opening_made : (s : SessionId) (c : ℕ) (destination : Destination) (selector : Option (List ℕ)) (no_local : Bool) (state : State) → (made s c destination selector no_local state).opening ≡ state.opening
opening_made s c (Queue name) selector no_local state = refl
opening_made s c (Topic name) selector no_local state = refl

opening_subscribed : (s : SessionId) (c : ℕ) (k : Key) (d : Definition) (state : State) → (subscribed s c k d state).opening ≡ state.opening
opening_subscribed s c k d state = elim (is_same (definition_of (station_of k state.stations)) d) as (λ b. (joined s c k None (cond b state (put k d state))).opening ≡ state.opening) [ true ↦ refl | false ↦ refl ]

opening_after : (state : State) (who : Who) (request : Request) → (after state who request).opening ≡ state.opening
unfolding after
opening_after state (Connection c) CloseConnection = refl
opening_after state (Connection c) request = refl
opening_after state (Session s) Acknowledge = opening_if (is_client (mode_of state.life s)) (settled (of_session s) state) state state.opening refl refl
opening_after state (Session s) (CreateConsumer c destination selector no_local) = opening_made s c destination selector no_local state
opening_after state (Session s) (CreateDurable c destination name selector no_local) = opening_subscribed s c (durable_of (client_of state.life) s name) (asked destination selector no_local false) state
opening_after state (Session s) (CreateShared c destination name selector) = opening_subscribed s c (shared_of (client_of state.life) s name) (asked destination selector false true) state
opening_after state (Session s) (CreateSharedDurable c destination name selector) = opening_subscribed s c (durable_of (client_of state.life) s name) (asked destination selector false true) state
opening_after state (Session s) (Receive c now) =
    opening_if (is_started state.life s.connection) (receive (selected_by (consumer_of state.consumers s c)) (left_of (mode_of state.life s) s c) now (key_at (consumer_of state.consumers s c)) state) state state.opening
    (opening_receive (selected_by (consumer_of state.consumers s c)) (left_of (mode_of state.life s) s c) now (key_at (consumer_of state.consumers s c)) state) refl
opening_after state (Session s) (Take c now) =
    opening_if (is_started state.life s.connection) (take (selected_by (consumer_of state.consumers s c)) s c now (key_at (consumer_of state.consumers s c)) state) state state.opening
    (opening_receive (selected_by (consumer_of state.consumers s c)) (taken s c) now (key_at (consumer_of state.consumers s c)) state) refl
opening_after state (Session s) (DoneWith c ok) =
    let free : State = record state { consumers = set_busy s c false state.consumers } in
    opening_if (settles_at_once (mode_of state.life s)) (with_done s c ok (key_at (consumer_of state.consumers s c)) free) free state.opening (opening_done s c ok (key_at (consumer_of state.consumers s c)) free) refl
opening_after state (Session s) _ = refl

opening_step : (state : State) (who : Who) (call : Call) → (step state who call).opening ≡ state.opening
unfolding step
opening_step state who (AskStep request) = opening_moved (refusal state.life state.consumers (held state who request) who request) (after state who request) state (opening_after state who request)
opening_step state who (Publish messages) = opening_moved (publish_refusal state who messages) (published state messages) state (published_opening state messages)
opening_step state who (Commit messages) = opening_moved (commit_refusal state who messages) (after_commit state who messages) state (committed_opening state who messages)

opening_entry : (state : State) (before : List Entry) (e : Entry) → (state_after_entry state before e).opening ≡ state.opening
unfolding state_after_entry
opening_entry state before (Asked who request r) = opening_step state who (AskStep request)
opening_entry state before (Sent m) =
    opening_if (is_transacted (mode_of state.life m.sender.session)) state (step state (Session m.sender.session) (Publish (m ∷ []))) state.opening refl (opening_step state (Session m.sender.session) (Publish (m ∷ [])))
opening_entry state before (Committed s) = opening_step state (Session s) (Commit (pending s before))

opening_at_end : (state : State) (before entries : List Entry) → (state_at_end state before entries).opening ≡ state.opening
opening_at_end state before [] = refl
opening_at_end state before (e ∷ entries) = opening_at_end (state_after_entry state before e) (e ∷ before) entries ∙ opening_entry state before e

-- entries fit, lead to the next state, and agree with what is kept then
pub record Led (state : State) (before entries : List Entry) (next : State) (kept : SessionId → List Content) : Type 0 where
  pub fits : EntriesFit state before entries
  pub ends : next ≡ state_at_end state before entries
  pub agrees : Agrees next kept (before_by before entries)

-- the entries of a call lead to the run after it
abbrev LedTo : Progress → List Entry → List Entry → Progress → Type 0
LedTo p before entries next = Led p.state before entries next.state next.kept

-- a call that leaves all as it was
unchanged : (p next : Progress) (before : List Entry) → Agrees p.state p.kept before → next.state ≡ p.state → next.kept ≡ p.kept → LedTo p before [] next
unchanged p next before a e g = record {
  fits = tt;
  ends = e;
  agrees = subst (λ (x : State). Agrees x next.kept before) (sym e) (subst (λ (k : SessionId → List Content). Agrees p.state k before) (sym g) a);
}

led_by : (p q next : Progress) (before entries : List Entry) → next ≡ q → LedTo p before entries q → LedTo p before entries next
led_by p q next before entries e l = subst (λ (x : Progress). LedTo p before entries x) (sym e) l

-- what fits a call, by whether memory was wanted
abbrev By : Bool → Progress → ClientCall → Result Answer Refusal → Progress → Type 0
By b p call r next =
    MatchBool b
    ((next.state ≡ p.state) × (next.kept ≡ p.kept) × ((next.sent ≡ p.sent) ⊎ (next.sent ≡ (progress_to p call).sent)))
    ((r ≡ reply_to p call) × (next ≡ progress_to p call))

-- a request
asked_led : (p next : Progress) (before : List Entry) (who : Who) (request : Request) (r : Result Answer Refusal) → Agrees p.state p.kept before → CallFits p (Ask who request) r next →
    LedTo p before (cond (is_not_made r) [] (Asked who request r ∷ [])) next
unfolding reply_to progress_to state_after_entry
asked_led p next before who request (Err Memory) a f = unchanged p next before a f.0 f.1
asked_led p next before who request (Err Store) a f = unchanged p next before a f.0 f.1
asked_led p next before who request r a f =
    led_by p (progress_to p (Ask who request)) next before (Asked who request r ∷ []) f.1
    (record {
      fits = (f.0, tt);
      ends = refl;
      agrees = subst (λ (x : Result Answer Refusal). Agrees (step p.state who (AskStep request)) (after_request who request x p.kept) (Asked who request r ∷ before)) f.0 (agrees_asked p.state who request r p.kept before a);
    })

-- a message is published by a session that is not transacted
untransacted_by : (a b : Bool) (o : Option Refusal) → cond (a && b) o (Some IllegalState) ≡ None → a ≡ true
untransacted_by true b o h = refl
untransacted_by false b o h = cc

pub published_by : (state : State) (s : SessionId) (ms : List Content) → publish_refusal state (Session s) ms ≡ None → is_untransacted (mode_of state.life s) ≡ true
unfolding publish_refusal
published_by state s ms h = untransacted_by (is_untransacted (mode_of state.life s)) (is_stamped state.opening s ms) _ h

-- a send that is answered by a number: its message waits for the commit, or was published
published_none : (o : Option Refusal) (n k : ℕ) → Ok (SentAs n) ≡ replied o (SentAs k) → o ≡ None
published_none None n k h = refl
published_none (Some r) n k h = cc

stamped_led : (p : Progress) (s : SessionId) (n k : ℕ) (m : Content) (before : List Entry) (b : Bool) → is_in_transaction p.state s ≡ b → m.sender.session ≡ s → Agrees p.state p.kept before →
    Ok (SentAs n) ≡ stamped_reply b p.state s k m → LedTo p before (Sent m ∷ []) (stamped_progress b p s m)
unfolding state_after_entry reply
stamped_led p s n k m before true e i a h =
    let own : is_in_transaction p.state m.sender.session ≡ true = ap (λ (t : SessionId). is_in_transaction p.state t) i ∙ e in
    record {
      fits = (subst (λ v. MatchBool v (Unit {0}) (reply p.state (Session m.sender.session) (Publish (m ∷ [])) ≡ Ok Done)) (sym own) tt, tt);
      ends = sym (ap (λ v. cond v p.state (step p.state (Session m.sender.session) (Publish (m ∷ [])))) own);
      agrees = agrees_kept p.state s m p.kept before i a;
    }
stamped_led p s n k m before false e i a h =
    let own : is_in_transaction p.state m.sender.session ≡ false = ap (λ (t : SessionId). is_in_transaction p.state t) i ∙ e in
    let none : publish_refusal p.state (Session s) (m ∷ []) ≡ None = published_none (publish_refusal p.state (Session s) (m ∷ [])) n k h in
    record {
      fits = (
        subst (λ v. MatchBool v (Unit {0}) (reply p.state (Session m.sender.session) (Publish (m ∷ [])) ≡ Ok Done)) (sym own)
            (ap (λ (t : SessionId). replied (publish_refusal p.state (Session t) (m ∷ [])) Done) i ∙ ap (λ o. replied o Done) none),
        tt,
      );
      ends = ap (λ (t : SessionId). step p.state (Session t) (Publish (m ∷ []))) (sym i) ∙ sym (ap (λ v. cond v p.state (step p.state (Session m.sender.session) (Publish (m ∷ [])))) own);
      agrees = agrees_step p.state (Session s) (Publish (m ∷ [])) p.kept (Sent m ∷ before)
          (agrees_plain p.state s m p.kept before i (untransacted_plain (session_of p.state.life.sessions s) (published_by p.state s (m ∷ []) none)) a);
    }

abbrev number_or : ℕ → Result Answer Refusal → ℕ
number_or k (Ok Done) = k
number_or k (Ok (SentAs n)) = n
number_or k (Ok (Delivered d)) = k
number_or k (Ok Nothing) = k
number_or k (Ok (Missed n)) = k
number_or k (Err r) = k

replied_number : (o : Option Refusal) (k : ℕ) → number_or k (replied o (SentAs k)) ≡ k
replied_number None k = refl
replied_number (Some r) k = refl

stamped_number : (b : Bool) (state : State) (s : SessionId) (k : ℕ) (m : Content) → number_or k (stamped_reply b state s k m) ≡ k
stamped_number true state s k m = refl
stamped_number false state s k m = replied_number (publish_refusal state (Session s) (m ∷ [])) k

sent_number : (state : State) (s : SessionId) (k : ℕ) (x : Result Content Refusal) → number_or k (send_reply state s k x) ≡ k
sent_number state s k (Ok m) = stamped_number (is_in_transaction state s) state s k m
sent_number state s k (Err r) = refl

-- the session of a message that is stamped, and the same stamp by its number
abbrev Stamps : SessionId → Result Content Refusal → Result Content Refusal → Type 0
Stamps s (Ok m) y = (m.sender.session ≡ s) × (y ≡ Ok m)
Stamps s (Err r) y = Unit {0}

next_case : (x y : Bool) (m : Content) (s : SessionId) → m.sender.session ≡ s → Stamps s (cond x (cond y (Ok m) (Err Exhausted)) (Err OutOfRange)) (cond (true && y && x) (Ok m) (Err OutOfRange))
next_case true true m s e = (e, refl)
next_case true false m s e = tt
next_case false y m s e = tt

number_above : (n : ℕ) → nat_le 1 (n + 1) ≡ true
number_above n = grind (arith, nat_tests)

next_is : (draft : Settings) (destination : Destination) (opening : ℕ) (s : SessionId) (sent now : ℕ) →
    Stamps s (next_stamped draft destination (record { opening = opening; session = s }) sent now) (stamped draft destination (record { opening = opening; session = s }) (sent + 1) now)
next_is draft destination opening s sent now =
    let m : Content = message_of draft destination (record { opening = opening; session = s }) (sent + 1) now in
    let x : Bool = has_moments draft now in
    let y : Bool = nat_lt (sent + 1) long_end in
    subst (λ v. Stamps s (cond x (cond y (Ok m) (Err Exhausted)) (Err OutOfRange)) (cond (v && y && x) (Ok m) (Err OutOfRange))) (sym (number_above sent)) (next_case x y m s refl)

sent_case : (p : Progress) (s : SessionId) (n k : ℕ) (before : List Entry) (x y : Result Content Refusal) → Stamps s x y → Agrees p.state p.kept before → Ok (SentAs n) ≡ send_reply p.state s k x → LedTo p before (sent_entry y) (send_progress p s x)
sent_case p s n k before (Ok m) y i a h =
    subst (λ (z : Result Content Refusal). LedTo p before (sent_entry z) (send_progress p s (Ok m))) (sym i.1) (stamped_led p s n k m before (is_in_transaction p.state s) refl i.0 a h)
sent_case p s n k before (Err r) y i a h = cc

numbered_led : (p : Progress) (s : SessionId) (draft : Settings) (destination : Destination) (now n : ℕ) (before : List Entry) (b : Bool) → Agrees p.state p.kept before →
    Ok (SentAs n) ≡ send_reply p.state s (p.sent s + 1) (cond b (next_stamped draft destination (record { opening = p.state.opening; session = s }) (p.sent s) now) (Err IllegalState)) →
    LedTo p before (sent_entry (stamped draft destination (record { opening = p.state.opening; session = s }) n now)) (send_progress p s (cond b (next_stamped draft destination (record { opening = p.state.opening; session = s }) (p.sent s) now) (Err IllegalState)))
numbered_led p s draft destination now n before true a h =
    let x : Result Content Refusal = next_stamped draft destination (record { opening = p.state.opening; session = s }) (p.sent s) now in
    subst (λ i. LedTo p before (sent_entry (stamped draft destination (record { opening = p.state.opening; session = s }) i now)) (send_progress p s x)) (sym (ap (number_or (p.sent s + 1)) h ∙ sent_number p.state s (p.sent s + 1) x))
    (sent_case p s n (p.sent s + 1) before x (stamped draft destination (record { opening = p.state.opening; session = s }) (p.sent s + 1) now) (next_is draft destination p.state.opening s (p.sent s) now) a h)
numbered_led p s draft destination now n before false a h = cc

sent_led : (p next : Progress) (before : List Entry) (s : SessionId) (draft : Settings) (destination : Destination) (now n : ℕ) → Agrees p.state p.kept before → CallFits p (Send s draft destination now) (Ok (SentAs n)) next →
    LedTo p before (entry_of p.state.opening (Send s draft destination now) (Ok (SentAs n))) next
unfolding reply_to progress_to
sent_led p next before s draft destination now n a f =
    led_by p (progress_to p (Send s draft destination now)) next before (entry_of p.state.opening (Send s draft destination now) (Ok (SentAs n))) f.1
    (numbered_led p s draft destination now n before (is_some (mode_of p.state.life s)) a f.0)

-- no other answer is a send's
other_answer : (o : Option Refusal) (a : Answer) (k : ℕ) → Ok a ≡ replied o (SentAs k) → a ≡ SentAs k
other_answer None a k h = ap (answer_or a) h
  where
    answer_or : Answer → Result Answer Refusal → Answer
    answer_or a (Ok b) = b
    answer_or a (Err r) = a
other_answer (Some r) a k h = cc

stamped_answer : (b : Bool) (state : State) (s : SessionId) (a : Answer) (k : ℕ) (m : Content) → Ok a ≡ stamped_reply b state s k m → a ≡ SentAs k
stamped_answer true state s a k m h = other_answer None a k h
stamped_answer false state s a k m h = other_answer (publish_refusal state (Session s) (m ∷ [])) a k h

send_answer : (state : State) (s : SessionId) (a : Answer) (k : ℕ) (x : Result Content Refusal) → Ok a ≡ send_reply state s k x → a ≡ SentAs k
send_answer state s a k (Ok m) h = stamped_answer (is_in_transaction state s) state s a k m h
send_answer state s a k (Err r) h = cc

-- a send that is refused leaves all as it was
abbrev Same : Progress → Progress → Type 0
Same p next = (next.state ≡ p.state) × (next.kept ≡ p.kept)

refused_publish : (p : Progress) (ms : List Content) (r : Refusal) (k : ℕ) (o : Option Refusal) → Err r ≡ replied o (SentAs k) → moved o (published p.state ms) p.state ≡ p.state
refused_publish p ms r k None h = cc
refused_publish p ms r k (Some q) h = refl

stamped_same : (b : Bool) (p : Progress) (s : SessionId) (r : Refusal) (k : ℕ) (m : Content) → Err r ≡ stamped_reply b p.state s k m → Same p (stamped_progress b p s m)
unfolding step
stamped_same true p s r k m h = cc
stamped_same false p s r k m h = (refused_publish p (m ∷ []) r k (publish_refusal p.state (Session s) (m ∷ [])) h, refl)

refused_same : (p : Progress) (s : SessionId) (r : Refusal) (k : ℕ) (x : Result Content Refusal) → Err r ≡ send_reply p.state s k x → Same p (send_progress p s x)
refused_same p s r k (Ok m) h = stamped_same (is_in_transaction p.state s) p s r k m h
refused_same p s r k (Err q) h = (refl, refl)

refused_led : (p next : Progress) (before : List Entry) (s : SessionId) (draft : Settings) (destination : Destination) (now : ℕ) (r : Refusal) (b : Bool) → Agrees p.state p.kept before → By b p (Send s draft destination now) (Err r) next → LedTo p before [] next
unfolding reply_to progress_to
refused_led p next before s draft destination now r true a f = unchanged p next before a f.0 f.1
refused_led p next before s draft destination now r false a f =
    let same : Same p (send_progress p s (stamp_of p s draft destination now)) = refused_same p s r (p.sent s + 1) (stamp_of p s draft destination now) f.0 in
    unchanged p next before a (ap (λ (x : Progress). x.state) f.1 ∙ same.0) (ap (λ (x : Progress). x.kept) f.1 ∙ same.1)

-- a commit
done_none : (o : Option Refusal) (a : Answer) → Ok a ≡ replied o Done → o ≡ None
done_none None a h = refl
done_none (Some r) a h = cc

committed_led : (p next : Progress) (before : List Entry) (s : SessionId) (x : Answer) → Agrees p.state p.kept before → CallFits p (CommitSession s) (Ok x) next → LedTo p before (Committed s ∷ []) next
unfolding reply_to progress_to state_after_entry reply
committed_led p next before s x a f =
    let none : commit_refusal p.state (Session s) (p.kept s) ≡ None = done_none (commit_refusal p.state (Session s) (p.kept s)) x f.0 in
    let same : pending s before ≡ p.kept s = a s (transacted_not_plain (session_of p.state.life.sessions s) (committed_by p.state s (p.kept s) none)) in
    led_by p (progress_to p (CommitSession s)) next before (Committed s ∷ []) f.1
    (record {
      fits = (ap (λ (ms : List Content). replied (commit_refusal p.state (Session s) ms) Done) same ∙ ap (λ o. replied o Done) none, tt);
      ends = ap (λ (ms : List Content). step p.state (Session s) (Commit ms)) (sym same);
      agrees = subst (λ (y : Result Answer Refusal). Agrees (step p.state (Session s) (Commit (p.kept s))) (after_commit_of s y p.kept) (Committed s ∷ before)) f.0 (agrees_committed p.state s (p.kept s) x p.kept before a);
    })

refused_commit : (o : Option Refusal) (r : Refusal) (x y : State) → Err r ≡ replied o Done → moved o x y ≡ y
refused_commit None r x y h = cc
refused_commit (Some q) r x y h = refl

uncommitted_led : (p next : Progress) (before : List Entry) (s : SessionId) (r : Refusal) (b : Bool) → Agrees p.state p.kept before → By b p (CommitSession s) (Err r) next → LedTo p before [] next
unfolding reply_to progress_to reply step
uncommitted_led p next before s r true a f = unchanged p next before a f.0 f.1
uncommitted_led p next before s r false a f =
    unchanged p next before a
    (ap (λ (x : Progress). x.state) f.1 ∙ refused_commit (commit_refusal p.state (Session s) (p.kept s)) r (after_commit p.state (Session s) (p.kept s)) p.state f.0)
    (ap (λ (x : Progress). x.kept) f.1 ∙ ap (λ (y : Result Answer Refusal). after_commit_of s y p.kept) (sym f.0))

-- one call
call_led : (p next : Progress) (before : List Entry) (call : ClientCall) (r : Result Answer Refusal) → Agrees p.state p.kept before → CallFits p call r next → LedTo p before (entry_of p.state.opening call r) next
unfolding reply_to
call_led p next before (Ask who request) r a f = asked_led p next before who request r a f
call_led p next before (Send s draft destination now) (Ok (SentAs n)) a f = sent_led p next before s draft destination now n a f
call_led p next before (Send s draft destination now) (Ok Done) a f = absurd (no_done (p.sent s + 1) (send_answer p.state s Done (p.sent s + 1) (stamp_of p s draft destination now) f.0))
  where
    no_done : (k : ℕ) → Done ≡ SentAs k → ⊥
    no_done k h = cc
call_led p next before (Send s draft destination now) (Ok (Delivered d)) a f = absurd (no_delivery (p.sent s + 1) (send_answer p.state s (Delivered d) (p.sent s + 1) (stamp_of p s draft destination now) f.0))
  where
    no_delivery : (k : ℕ) → Delivered d ≡ SentAs k → ⊥
    no_delivery k h = cc
call_led p next before (Send s draft destination now) (Ok Nothing) a f = absurd (no_nothing (p.sent s + 1) (send_answer p.state s Nothing (p.sent s + 1) (stamp_of p s draft destination now) f.0))
  where
    no_nothing : (k : ℕ) → Nothing ≡ SentAs k → ⊥
    no_nothing k h = cc
call_led p next before (Send s draft destination now) (Ok (Missed n)) a f = absurd (no_missed (p.sent s + 1) (send_answer p.state s (Missed n) (p.sent s + 1) (stamp_of p s draft destination now) f.0))
  where
    no_missed : (k : ℕ) → Missed n ≡ SentAs k → ⊥
    no_missed k h = cc
call_led p next before (Send s draft destination now) (Err r) a f = refused_led p next before s draft destination now r (is_not_made (Err r)) a f
call_led p next before (CommitSession s) (Ok x) a f = committed_led p next before s x a f
call_led p next before (CommitSession s) (Err r) a f = uncommitted_led p next before s r (is_not_made (Err r)) a f

-- a list of calls
fits_from : (opening : ℕ) (calls : List ClientCall) (replies : List (Result Answer Refusal)) (p end : Progress) (before : List Entry) → p.state.opening ≡ opening → Agrees p.state p.kept before → RepliesFit p calls replies end →
    EntriesFit p.state before (entries_of opening calls replies)
fits_from opening [] [] p end before e a f = tt
fits_from opening [] (r ∷ replies) p end before e a f = absurd f
fits_from opening (call ∷ calls) [] p end before e a f = absurd f
fits_from opening (call ∷ calls) (r ∷ replies) p end before e a f =
    let list : List Entry = entry_of opening call r in
    let led : LedTo p before list f.0 = subst (λ i. LedTo p before (entry_of i call r) f.0) e (call_led p f.0 before call r a f.1) in
    let same : f.0.state.opening ≡ opening = ap (λ (x : State). x.opening) led.ends ∙ opening_at_end p.state before list ∙ e in
    fit_append list (entries_of opening calls replies) before p.state led.fits
    (subst (λ (x : State). EntriesFit x (before_by before list) (entries_of opening calls replies)) led.ends (fits_from opening calls replies f.0 end (before_by before list) same led.agrees f.2))

pub all_fit : (opening : State) (calls : List ClientCall) (replies : List (Result Answer Refusal)) (end : Progress) → RepliesFit (begun opening) calls replies end → EntriesFit opening [] (entries_of opening.opening calls replies)
all_fit opening calls replies end f = fits_from opening.opening calls replies (begun opening) end [] refl (λ s h. refl) f

-- and those entries lead to the end
end_append : (xs ys before : List Entry) (state : State) → state_at_end state before (xs ++ ys) ≡ state_at_end (state_at_end state before xs) (before_by before xs) ys
end_append [] ys before state = refl
end_append (e ∷ xs) ys before state = end_append xs ys (e ∷ before) (state_after_entry state before e)

end_from : (opening : ℕ) (calls : List ClientCall) (replies : List (Result Answer Refusal)) (p end : Progress) (before : List Entry) → p.state.opening ≡ opening → Agrees p.state p.kept before → RepliesFit p calls replies end →
    end.state ≡ state_at_end p.state before (entries_of opening calls replies)
end_from opening [] [] p end before e a f = ap (λ (x : Progress). x.state) f
end_from opening [] (r ∷ replies) p end before e a f = absurd f
end_from opening (call ∷ calls) [] p end before e a f = absurd f
end_from opening (call ∷ calls) (r ∷ replies) p end before e a f =
    let list : List Entry = entry_of opening call r in
    let led : LedTo p before list f.0 = subst (λ i. LedTo p before (entry_of i call r) f.0) e (call_led p f.0 before call r a f.1) in
    let same : f.0.state.opening ≡ opening = ap (λ (x : State). x.opening) led.ends ∙ opening_at_end p.state before list ∙ e in
    end_from opening calls replies f.0 end (before_by before list) same led.agrees f.2
    ∙ ap (λ (x : State). state_at_end x (before_by before list) (entries_of opening calls replies)) led.ends
    ∙ sym (end_append list (entries_of opening calls replies) before p.state)

pub all_end : (opening : State) (calls : List ClientCall) (replies : List (Result Answer Refusal)) (end : Progress) → RepliesFit (begun opening) calls replies end → end.state ≡ state_at_end opening [] (entries_of opening.opening calls replies)
all_end opening calls replies end f = end_from opening.opening calls replies (begun opening) end [] refl (λ s h. refl) f
