-- What one call is to a run.
use Rattle.std.proofs.Common.{◌≡◌, ◌+◌, ◌<◌, ℕ, Bool, true, false, true≢false, cond, List, [], ◌∷◌, ◌++◌, refl, ap, sym, subst, ◌∙◌, inl, inr, arith, Option, Some, None, Result, Ok, Err}
use Rattle.std.specs.Prelude.{◌&&◌, ◌==◌, is_some, nat_lt, MatchBool}
use Rattle.jm_base.specs.declared.mode.Mode.{Mode}
use Rattle.jm_base.specs.declared.mode.Mode.TheVariants.{Auto, Client, Dups, Transacted}
use Rattle.jm_base.specs.declared.refusal.Refusal.{Refusal}
use Rattle.jm_base.specs.declared.refusal.Refusal.TheVariants.{Exhausted, IllegalState, Memory, OutOfRange}
use Rattle.jm_dest.specs.declared.session.SessionId.{SessionId}
use Rattle.jm_dest.specs.declared.destination.Destination.{Destination}
use Rattle.jm_dest.specs.Names.{session_eq}
use Rattle.jm_dest.specs.Numbers.{long_end}
use Rattle.jm_header.specs.declared.content.Content.{Content}
use Rattle.jm_header.specs.declared.content.Sender.{Sender}
use Rattle.jm_header.specs.declared.content.Settings.{Settings}
use Rattle.jm_header.specs.Headers.{has_moments, message_of, next_stamped}
use Rattle.jm_header.proofs.Same.{session_same}
use Rattle.jm_machine.specs.declared.call.Who.{Who}
use Rattle.jm_machine.specs.declared.call.Who.TheVariants.{Connection, Session}
use Rattle.jm_machine.specs.declared.call.Request.{Request}
use Rattle.jm_machine.specs.declared.call.Request.TheVariants.{CloseConnection, CloseSession, Rollback}
use Rattle.jm_machine.specs.declared.call.Call.TheVariants.{Publish, Commit, Ask as AskStep}
use Rattle.jm_machine.specs.declared.call.ClientCall.{ClientCall}
use Rattle.jm_machine.specs.declared.call.ClientCall.TheVariants.{Ask, Send, CommitSession}
use Rattle.jm_machine.specs.declared.answer.Answer.{Answer}
use Rattle.jm_machine.specs.declared.answer.Answer.TheVariants.{Done, Sent}
use Rattle.jm_machine.specs.Life.{mode_of}
use Rattle.jm_machine.specs.Machine.{State, is_transacted, publish_refusal, replied, reply, step}
use Rattle.jm_machine.specs.Wants.{is_want, may_want}
use Rattle.jm_machine.specs.Client.{Progress, after_commit_of, after_request, begun, is_in_transaction, one_more, with_kept, stamp_of, reply_to, progress_to, progress_wanting, call_may_want, CallOwed, RunOwed}
use Rattle.jm_tx.specs.declared.buffer.Sent.TheVariants.{Kept, Publish as ToPublish}
use Rattle.jm_tx.specs.declared.halves.Halves.{Halves}
use Rattle.jm_tx.specs.Buffers.{is_transacted as waits}
use Rattle.jm_tx.specs.Halves.{sent_of, kept_of, room, none_sent, none_kept, with_messages, IsAsBefore, RunSendFits}
use Rattle.jm_plans.specs.Steps.{StepFits, CommitFits}
use Rattle.jm_core.specs.Runs.{progress}

-- Requests

-- a request that wants memory ends none
wanting_ends : (state : State) (who : Who) (request : Request) (told : Result Answer Refusal) (kept : SessionId → List Content) → is_want told ≡ true → may_want state who (AskStep request) ≡ true →
    after_request who request told kept ≡ kept
unfolding may_want
wanting_ends state (Connection c) CloseConnection (Ok a) kept w h = absurd (true≢false (sym w))
wanting_ends state (Connection c) CloseConnection (Err e) kept w h = λ i. λ s. cond (none (s.connection == c) i) [] (kept s)
  where
    none : (b : Bool) → (b && false) ≡ false
    none true = refl
    none false = refl
wanting_ends state (Connection c) _ told kept w h = refl
wanting_ends state (Session s) CloseSession told kept w h = absurd (true≢false (sym h))
wanting_ends state (Session s) Rollback told kept w h = absurd (true≢false (sym h))
wanting_ends state (Session s) _ told kept w h = refl

-- a request is owed what its step is
pub ask_fits : (state : State) (old new : Halves) (who : Who) (request : Request) (r : Result Answer Refusal) (next : State) → StepFits state who (AskStep request) r next →
    sent_of new ≡ sent_of old → kept_of new ≡ after_request who request r (kept_of old) → CallOwed (progress state old) (Ask who request) r (progress next new)
unfolding reply_to progress_to call_may_want progress_wanting
ask_fits state old new who request r next h sent kept = go (is_want r) refl h
  where
    go : (b : Bool) → is_want r ≡ b → MatchBool b ((may_want state who (AskStep request) ≡ true) × (next ≡ state)) ((r ≡ reply state who (AskStep request)) × (next ≡ step state who (AskStep request))) →
        MatchBool b ((may_want state who (AskStep request) ≡ true) × (progress next new ≡ progress state old))
        ((r ≡ reply state who (AskStep request))
        × (progress next new ≡ record { state = step state who (AskStep request); sent = sent_of old; kept = after_request who request (reply state who (AskStep request)) (kept_of old) }))
    go true w h = (h.0, λ i. record { state = h.1 i; sent = sent i; kept = (kept ∙ wanting_ends state who request r (kept_of old) w h.0) i })
    go false w h = (h.0, λ i. record { state = h.1 i; sent = sent i; kept = (kept ∙ ap (λ x. after_request who request x (kept_of old)) h.0) i })

-- Sends

-- a send that is not stamped is refused, and leaves the run as it was
refused_fits : (p : Progress) (s : SessionId) (draft : Settings) (destination : Destination) (now : ℕ) (e : Refusal) → is_want (Err e) ≡ false →
    stamp_of p s draft destination now ≡ Err e → CallOwed p (Send s draft destination now) (Err e) p
unfolding reply_to progress_to
refused_fits p s draft destination now e w h = rw (w, h) (refl, refl)

-- in a transacted session it is kept, or wants memory
kept_fits : (p : Progress) (s : SessionId) (draft : Settings) (destination : Destination) (now : ℕ) (m : Content) → stamp_of p s draft destination now ≡ Ok m → is_in_transaction p.state s ≡ true →
    CallOwed p (Send s draft destination now) (Ok (Sent (p.sent s + 1))) (record { state = p.state; sent = one_more s p.sent; kept = with_kept s m p.kept })
unfolding reply_to progress_to
kept_fits p s draft destination now m h t = rw (h, t) (refl, refl)

wants_fits : (p : Progress) (s : SessionId) (draft : Settings) (destination : Destination) (now : ℕ) (m : Content) → stamp_of p s draft destination now ≡ Ok m → is_in_transaction p.state s ≡ true →
    CallOwed p (Send s draft destination now) (Err Memory) p
unfolding call_may_want progress_wanting
wants_fits p s draft destination now m h t = rw (h, t) (refl, refl)

-- why the next send is not stamped is no want of memory
next_wanted : (draft : Settings) (destination : Destination) (sender : Sender) (n now : ℕ) (e : Refusal) → next_stamped draft destination sender n now ≡ Err e → is_want (Err e) ≡ false
next_wanted draft destination sender n now e h = go (has_moments draft now) (nat_lt (n + 1) long_end) h
  where
    go : (a b : Bool) → cond a (cond b (Ok (message_of draft destination sender (n + 1) now)) (Err Exhausted)) (Err OutOfRange) ≡ Err e → is_want (Err e) ≡ false
    go true true h = cc
    go true false h = let same : Exhausted ≡ e = cc in rw (← same) refl
    go false b h = let same : OutOfRange ≡ e = cc in rw (← same) refl

-- a message that is stamped next has the next number
next_number : (draft : Settings) (destination : Destination) (sender : Sender) (n now : ℕ) (m : Content) → next_stamped draft destination sender n now ≡ Ok m → m.number ≡ n + 1
next_number draft destination sender n now m h = go (has_moments draft now) (nat_lt (n + 1) long_end) h
  where
    go : (a b : Bool) → cond a (cond b (Ok (message_of draft destination sender (n + 1) now)) (Err Exhausted)) (Err OutOfRange) ≡ Ok m → m.number ≡ n + 1
    go true true h =
        let e : message_of draft destination sender (n + 1) now ≡ m = cc in
        sym (ap (λ (x : Content). x.number) e)
    go true false h = cc
    go false b h = cc

-- what is sent in a transacted session waits for its commit
waits_in : (mode : Mode) → is_transacted (Some mode) ≡ waits mode
waits_in Auto = refl
waits_in Client = refl
waits_in Dups = refl
waits_in Transacted = refl

-- a send's reply, from that of its publication
accepted : (x : Option Refusal) (b : Answer) → Ok Done ≡ replied x Done → Ok b ≡ replied x b
accepted None b h = refl
accepted (Some e) b h = cc

refused : (x : Option Refusal) (e : Refusal) (b : Answer) → Err e ≡ replied x Done → Err e ≡ replied x b
refused None e b h = cc
refused (Some f) e b h = h

module _ (state : State) (old new : Halves) (s : SessionId) (draft : Settings) (destination : Destination) (now : ℕ) where
  -- a send of a session that is not open
  pub closed_fits : mode_of state.life s ≡ None → CallOwed (progress state old) (Send s draft destination now) (Err IllegalState) (progress state old)
  closed_fits closed =
      refused_fits (progress state old) s draft destination now IllegalState refl
      (λ i. cond (is_some (closed i)) (next_stamped draft destination (record { opening = state.opening; session = s }) (sent_of old s) now) (Err IllegalState))

  module _ (mode : Mode) (opened : mode_of state.life s ≡ Some mode) where
    -- its next message
    abbrev next_message : Result Content Refusal
    next_message = next_stamped draft destination (record { opening = state.opening; session = s }) (sent_of old s) now

    is_stamped : stamp_of (progress state old) s draft destination now ≡ next_message
    is_stamped = λ i. cond (is_some (opened i)) next_message (Err IllegalState)

    transacted : is_in_transaction state s ≡ waits mode
    transacted = ap is_transacted opened ∙ waits_in mode

    -- a send that is refused, or wants memory, leaves all as before
    pub err_fits : (e : Refusal) → 0 < room old → RunSendFits (waits mode) s old next_message (Err e) new → CallOwed (progress state old) (Send s draft destination now) (Err e) (progress state new)
    err_fits e some h = go next_message refl h
      where
        as_before : IsAsBefore old new → progress state old ≡ progress state new
        as_before same = λ i. record { state = state; sent = sym same.0 i; kept = sym same.1 i }

        go : (x : Result Content Refusal) → next_message ≡ x → RunSendFits (waits mode) s old x (Err e) new → CallOwed (progress state old) (Send s draft destination now) (Err e) (progress state new)
        go (Err r) is h =
            let same : e ≡ r = cc in
            let why = is ∙ ap Err (sym same) in
            subst (λ q. CallOwed (progress state old) (Send s draft destination now) (Err e) q) (as_before h.1)
            (refused_fits (progress state old) s draft destination now e (next_wanted draft destination _ (sent_of old s) now e why) (is_stamped ∙ why))
        go (Ok m) is h =
            let t : waits mode ≡ true = elim h.1 [ inl t ↦ t | inr n ↦ absurd (omega (arith, some, n.1)) ] in
            rw h.0 (subst (λ q. CallOwed (progress state old) (Send s draft destination now) (Err Memory) q) (as_before h.2)
            (wants_fits (progress state old) s draft destination now m (is_stamped ∙ is) (transacted ∙ t)))

    -- a message that is kept for the commit
    pub waiting_fits : (n : ℕ) → RunSendFits (waits mode) s old next_message (Ok (Kept n)) new → CallOwed (progress state old) (Send s draft destination now) (Ok (Sent n)) (progress state new)
    waiting_fits n h = go next_message refl (waits mode) refl h
      where
        go : (x : Result Content Refusal) → next_message ≡ x → (b : Bool) → waits mode ≡ b → RunSendFits b s old x (Ok (Kept n)) new →
            CallOwed (progress state old) (Send s draft destination now) (Ok (Sent n)) (progress state new)
        go (Err r) is b t h = absurd (apart h.0)
          where
            apart : Ok (Kept n) ≡ Err r → ⊥
            apart e = cc
        go (Ok m) is false t h = absurd (apart h.0)
          where
            apart : Kept n ≡ ToPublish m → ⊥
            apart e = cc
        go (Ok m) is true t h =
            let same : n ≡ m.number = cc in
            let number : n ≡ sent_of old s + 1 = same ∙ next_number draft destination _ (sent_of old s) now m is in
            subst (λ q. CallOwed (progress state old) (Send s draft destination now) (Ok (Sent n)) q) (λ i. record { state = state; sent = sym h.1 i; kept = sym h.2 i })
            (rw number (kept_fits (progress state old) s draft destination now m (is_stamped ∙ is) (transacted ∙ t)))

    -- a message that is to be published now
    published_now : (m : Content) → RunSendFits (waits mode) s old next_message (Ok (ToPublish m)) new →
        (next_message ≡ Ok m) × (is_in_transaction state s ≡ false) × (sent_of new ≡ one_more s (sent_of old)) × (kept_of new ≡ kept_of old)
    published_now m h = go next_message refl (waits mode) refl h
      where
        go : (x : Result Content Refusal) → next_message ≡ x → (b : Bool) → waits mode ≡ b → RunSendFits b s old x (Ok (ToPublish m)) new →
            (next_message ≡ Ok m) × (is_in_transaction state s ≡ false) × (sent_of new ≡ one_more s (sent_of old)) × (kept_of new ≡ kept_of old)
        go (Err r) is b t h = absurd (apart h.0)
          where
            apart : Ok (ToPublish m) ≡ Err r → ⊥
            apart e = cc
        go (Ok x) is true t h = absurd (apart h.0)
          where
            apart : ToPublish m ≡ Kept x.number → ⊥
            apart e = cc
        go (Ok x) is false t h =
            let same : x ≡ m = cc in
            (is ∙ ap Ok same, transacted ∙ t, h.1, h.2)

    -- it is published, and has used its number
    pub sent_ok : (m : Content) (next : State) → RunSendFits (waits mode) s old next_message (Ok (ToPublish m)) new → StepFits state (Session s) (Publish (m ∷ [])) (Ok Done) next →
        CallOwed (progress state old) (Send s draft destination now) (Ok (Sent m.number)) (progress next new)
    unfolding reply reply_to progress_to
    sent_ok m next h f =
        let p = published_now m h in
        let number : m.number ≡ sent_of old s + 1 = next_number draft destination _ (sent_of old s) now m p.0 in
        rw (is_stamped ∙ p.0, p.1) (
          ap (λ k. Ok (Sent k)) number ∙ accepted (publish_refusal state (Session s) (m ∷ [])) (Sent (sent_of old s + 1)) f.0,
          λ i. record { state = f.1 i; sent = p.2 i; kept = p.3 i },
        )

    pub sent_err : (m : Content) (e : Refusal) (next : State) → RunSendFits (waits mode) s old next_message (Ok (ToPublish m)) new → StepFits state (Session s) (Publish (m ∷ [])) (Err e) next →
        CallOwed (progress state old) (Send s draft destination now) (Err e) (progress next new)
    unfolding reply reply_to progress_to call_may_want progress_wanting
    sent_err m e next h f =
        let p = published_now m h in
        rw (is_stamped ∙ p.0, p.1) (go p.2 p.3 (is_want (Err e)) f)
      where
        go : sent_of new ≡ one_more s (sent_of old) → kept_of new ≡ kept_of old → (b : Bool) →
            MatchBool b ((may_want state (Session s) (Publish (m ∷ [])) ≡ true) × (next ≡ state)) ((Err e ≡ replied (publish_refusal state (Session s) (m ∷ [])) Done) × (next ≡ step state (Session s) (Publish (m ∷ [])))) →
            MatchBool b ((may_want state (Session s) (Publish (m ∷ [])) ≡ true) × (progress next new ≡ record { state = state; sent = one_more s (sent_of old); kept = kept_of old }))
            ((Err e ≡ replied (publish_refusal state (Session s) (m ∷ [])) (Sent (sent_of old s + 1)))
            × (progress next new ≡ record { state = step state (Session s) (Publish (m ∷ [])); sent = one_more s (sent_of old); kept = kept_of old }))
        go u k true f = (f.0, λ i. record { state = f.1 i; sent = u i; kept = k i })
        go u k false f = (refused (publish_refusal state (Session s) (m ∷ [])) e (Sent (sent_of old s + 1)) f.0, λ i. record { state = f.1 i; sent = u i; kept = k i })

-- Commits

-- messages that were handed out and taken back
back_again : (kept : SessionId → List Content) (s : SessionId) (messages : List Content) → messages ≡ kept s → with_messages s messages (with_messages s [] kept) ≡ kept
back_again kept s messages e = λ i. λ t. go t (session_eq s t) refl i
  where
    go : (t : SessionId) (b : Bool) → session_eq s t ≡ b → cond b messages (cond b [] (kept t)) ≡ kept t
    go t true h = e ∙ ap kept ((session_same s t).0 h)
    go t false h = refl

-- a commit that is done: the transaction begins anew
pub commit_ok : (state : State) (old new : Halves) (s : SessionId) (messages : List Content) (next : State) → messages ≡ kept_of old s → sent_of new ≡ sent_of old → kept_of new ≡ with_messages s [] (kept_of old) →
    CommitFits state s messages (Ok tt) next → CallOwed (progress state old) (CommitSession s) (Ok Done) (progress next new)
unfolding reply_to progress_to
commit_ok state old new s messages next are sent kept f =
    let told : Ok Done ≡ reply state (Session s) (Commit (kept_of old s)) = f.0 ∙ ap (λ ms. reply state (Session s) (Commit ms)) are in (
      told,
      λ i. record {
        state = (f.1 ∙ ap (λ ms. step state (Session s) (Commit ms)) are) i;
        sent = sent i;
        kept = (kept ∙ ap (λ r. after_commit_of s r (kept_of old)) told) i;
      },
    )

-- a commit that is refused: the transaction is as before
pub commit_err : (state : State) (old new : Halves) (s : SessionId) (messages : List Content) (e : Refusal) (next : State) → messages ≡ kept_of old s → sent_of new ≡ sent_of old →
    kept_of new ≡ with_messages s messages (with_messages s [] (kept_of old)) → CommitFits state s messages (Err e) next → CallOwed (progress state old) (CommitSession s) (Err e) (progress next new)
unfolding reply_to progress_to call_may_want progress_wanting
commit_err state old new s messages e next are sent kept f = go (is_want (Err e)) (rw are at f)
  where
    same : kept_of new ≡ kept_of old
    same = kept ∙ back_again (kept_of old) s messages are

    go : (b : Bool) →
        MatchBool b ((may_want state (Session s) (Commit (kept_of old s)) ≡ true) × (next ≡ state)) ((Err e ≡ reply state (Session s) (Commit (kept_of old s))) × (next ≡ step state (Session s) (Commit (kept_of old s)))) →
        MatchBool b ((may_want state (Session s) (Commit (kept_of old s)) ≡ true) × (progress next new ≡ progress state old))
        ((Err e ≡ reply state (Session s) (Commit (kept_of old s)))
        × (progress next new ≡ record { state = step state (Session s) (Commit (kept_of old s)); sent = sent_of old; kept = after_commit_of s (reply state (Session s) (Commit (kept_of old s))) (kept_of old) }))
    go true f = (f.0, λ i. record { state = f.1 i; sent = sent i; kept = same i })
    go false f = (f.0, λ i. record { state = f.1 i; sent = sent i; kept = (same ∙ ap (λ r. after_commit_of s r (kept_of old)) f.0) i })

-- Runs

-- one call more
pub fits_more : (p : Progress) (calls : List ClientCall) (replies : List (Result Answer Refusal)) (mid : Progress) (call : ClientCall) (r : Result Answer Refusal) (end : Progress) →
    RunOwed p calls replies mid → CallOwed mid call r end → RunOwed p (calls ++ call ∷ []) (replies ++ r ∷ []) end
fits_more p [] [] mid call r end f g = (end, rw (← f) g, refl)
fits_more p [] (x ∷ replies) mid call r end f g = absurd f
fits_more p (c ∷ calls) [] mid call r end f g = absurd f
fits_more p (c ∷ calls) (x ∷ replies) mid call r end f g = (f.0, f.1, fits_more f.0 calls replies mid call r end f.2 g)

-- a run that begins has sent nothing
pub begins : (state : State) (halves : Halves) → sent_of halves ≡ none_sent → kept_of halves ≡ none_kept → RunOwed (begun state) [] [] (progress state halves)
begins state halves e k = λ i. record { state = state; sent = e i; kept = k i }
