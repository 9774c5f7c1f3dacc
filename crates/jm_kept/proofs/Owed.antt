-- What one call is to a run over a keeper.
use Rattle.std.proofs.Common.{◌≡◌, ◌+◌, ◌<◌, ℕ, Bool, true, false, cond, List, [], ◌∷◌, refl, ap, sym, subst, ◌∙◌, inl, inr, arith, Option, Some, None, Result, Ok, Err}
use Rattle.std.specs.Prelude.{is_some, nat_lt, MatchBool}
use Rattle.jm_base.specs.declared.mode.Mode.{Mode}
use Rattle.jm_base.specs.declared.mode.Mode.TheVariants.{Auto, Client, Dups, Transacted}
use Rattle.jm_base.specs.declared.refusal.Refusal.{Refusal}
use Rattle.jm_base.specs.declared.refusal.Refusal.TheVariants.{Exhausted, IllegalState, Memory, OutOfRange, Store}
use Rattle.jm_dest.specs.declared.session.SessionId.{SessionId}
use Rattle.jm_dest.specs.declared.destination.Destination.{Destination}
use Rattle.jm_dest.specs.Names.{session_eq}
use Rattle.jm_dest.specs.Numbers.{long_end}
use Rattle.jm_header.specs.declared.content.Content.{Content}
use Rattle.jm_header.specs.declared.content.Sender.{Sender}
use Rattle.jm_header.specs.declared.content.Settings.{Settings}
use Rattle.jm_header.specs.Headers.{has_moments, message_of, next_stamped}
use Rattle.jm_header.proofs.Same.{session_same}
use Rattle.jm_machine.specs.declared.call.Who.{Who}
use Rattle.jm_machine.specs.declared.call.Who.TheVariants.{Session}
use Rattle.jm_machine.specs.declared.call.Request.{Request}
use Rattle.jm_machine.specs.declared.call.Call.TheVariants.{Publish, Commit, Ask as AskStep}
use Rattle.jm_machine.specs.declared.call.ClientCall.TheVariants.{Ask, Send, CommitSession}
use Rattle.jm_machine.specs.declared.answer.Answer.{Answer}
use Rattle.jm_machine.specs.declared.answer.Answer.TheVariants.{Done, Sent}
use Rattle.jm_machine.specs.Entries.{is_not_made}
use Rattle.jm_machine.specs.Life.{mode_of}
use Rattle.jm_machine.specs.Machine.{State, is_transacted, publish_refusal, replied, reply, step}
use Rattle.jm_machine.specs.Client.{Progress, after_commit_of, after_request, is_in_transaction, one_more, with_kept, stamp_of, reply_to, progress_to}
use Rattle.jm_tx.specs.declared.buffer.Sent.{Sent as Outcome}
use Rattle.jm_tx.specs.declared.buffer.Sent.TheVariants.{Kept, Publish as ToPublish}
use Rattle.jm_tx.specs.declared.halves.Halves.{Halves}
use Rattle.jm_tx.specs.Buffers.{is_transacted as waits}
use Rattle.jm_tx.specs.Halves.{sent_of, kept_of, room, with_messages, IsAsBefore, RunSendFits}
use Rattle.jm_core.specs.Runs.{progress}
use Rattle.jm_kept.specs.Kept.{KeptFits}
use Rattle.jm_kept.specs.Runs.{CallKept, StampKept, kept_past, progress_not_made}

-- Requests

-- a request is owed what its step is
pub ask_kept : (state : State) (old new : Halves) (who : Who) (request : Request) (r : Result Answer Refusal) (next : State) → KeptFits state who (AskStep request) r next →
    sent_of new ≡ sent_of old → kept_of new ≡ kept_past who (AskStep request) r (kept_of old) → CallKept (progress state old) (Ask who request) r (progress next new)
unfolding reply_to progress_to progress_not_made
ask_kept state old new who request r next h sent kept = go (is_not_made r) h kept
  where
    go : (b : Bool) → MatchBool b (next ≡ state) ((r ≡ reply state who (AskStep request)) × (next ≡ step state who (AskStep request))) →
        kept_of new ≡ cond b (kept_of old) (after_request who request r (kept_of old)) →
        MatchBool b (progress next new ≡ progress state old)
        ((r ≡ reply state who (AskStep request))
        × (progress next new ≡ record { state = step state who (AskStep request); sent = sent_of old; kept = after_request who request (reply state who (AskStep request)) (kept_of old) }))
    go true h k = λ i. record { state = h i; sent = sent i; kept = k i }
    go false h k = (h.0, λ i. record { state = h.1 i; sent = sent i; kept = (k ∙ ap (λ x. after_request who request x (kept_of old)) h.0) i })

-- Sends

-- a send that is not stamped is refused, and leaves the run as it was
refused_kept : (p : Progress) (s : SessionId) (draft : Settings) (destination : Destination) (now : ℕ) (e : Refusal) → is_not_made (Err e) ≡ false →
    stamp_of p s draft destination now ≡ Err e → CallKept p (Send s draft destination now) (Err e) p
unfolding reply_to progress_to
refused_kept p s draft destination now e w h = rw (w, h) (refl, refl)

-- in a transacted session it waits for the commit, or wants memory
waits_kept : (p : Progress) (s : SessionId) (draft : Settings) (destination : Destination) (now : ℕ) (m : Content) → stamp_of p s draft destination now ≡ Ok m → is_in_transaction p.state s ≡ true →
    CallKept p (Send s draft destination now) (Ok (Sent (p.sent s + 1))) (record { state = p.state; sent = one_more s p.sent; kept = with_kept s m p.kept })
unfolding reply_to progress_to
waits_kept p s draft destination now m h t = rw (h, t) (refl, refl)

wants_kept : (p : Progress) (s : SessionId) (draft : Settings) (destination : Destination) (now : ℕ) (m : Content) → stamp_of p s draft destination now ≡ Ok m → is_in_transaction p.state s ≡ true →
    CallKept p (Send s draft destination now) (Err Memory) p
unfolding progress_not_made
wants_kept p s draft destination now m h t = rw (h, t) refl

-- why the next send is not stamped is no want of memory, and no refusal of the keeper
next_made : (draft : Settings) (destination : Destination) (sender : Sender) (n now : ℕ) (e : Refusal) → next_stamped draft destination sender n now ≡ Err e → is_not_made (Err e) ≡ false
next_made draft destination sender n now e h = go (has_moments draft now) (nat_lt (n + 1) long_end) h
  where
    go : (a b : Bool) → cond a (cond b (Ok (message_of draft destination sender (n + 1) now)) (Err Exhausted)) (Err OutOfRange) ≡ Err e → is_not_made (Err e) ≡ false
    go true true h = cc
    go true false h = let same : Exhausted ≡ e = cc in rw (← same) refl
    go false b h = let same : OutOfRange ≡ e = cc in rw (← same) refl

-- a message that is stamped next has the next number
next_number : (draft : Settings) (destination : Destination) (sender : Sender) (n now : ℕ) (m : Content) → next_stamped draft destination sender n now ≡ Ok m → m.number ≡ n + 1
next_number draft destination sender n now m h = go (has_moments draft now) (nat_lt (n + 1) long_end) h
  where
    go : (a b : Bool) → cond a (cond b (Ok (message_of draft destination sender (n + 1) now)) (Err Exhausted)) (Err OutOfRange) ≡ Ok m → m.number ≡ n + 1
    go true true h =
        let e : message_of draft destination sender (n + 1) now ≡ m = cc in
        sym (ap (λ (x : Content). x.number) e)
    go true false h = cc
    go false b h = cc

-- what is sent in a transacted session waits for its commit
waits_in : (mode : Mode) → is_transacted (Some mode) ≡ waits mode
waits_in Auto = refl
waits_in Client = refl
waits_in Dups = refl
waits_in Transacted = refl

module _ (state : State) (old new : Halves) (s : SessionId) (draft : Settings) (destination : Destination) (now : ℕ) where
  -- a send of a session that is not open
  pub closed_kept : mode_of state.life s ≡ None → CallKept (progress state old) (Send s draft destination now) (Err IllegalState) (progress state old)
  closed_kept closed =
      refused_kept (progress state old) s draft destination now IllegalState refl
      (λ i. cond (is_some (closed i)) (next_stamped draft destination (record { opening = state.opening; session = s }) (sent_of old s) now) (Err IllegalState))

  module _ (mode : Mode) (opened : mode_of state.life s ≡ Some mode) where
    -- its next message
    abbrev next_message : Result Content Refusal
    next_message = next_stamped draft destination (record { opening = state.opening; session = s }) (sent_of old s) now

    is_stamped : stamp_of (progress state old) s draft destination now ≡ next_message
    is_stamped = λ i. cond (is_some (opened i)) next_message (Err IllegalState)

    transacted : is_in_transaction state s ≡ waits mode
    transacted = ap is_transacted opened ∙ waits_in mode

    -- a send that is refused, or wants memory, leaves all as before
    err_kept : (e : Refusal) → 0 < room old → RunSendFits (waits mode) s old next_message (Err e) new → CallKept (progress state old) (Send s draft destination now) (Err e) (progress state new)
    err_kept e some h = go next_message refl h
      where
        as_before : IsAsBefore old new → progress state old ≡ progress state new
        as_before same = λ i. record { state = state; sent = sym same.0 i; kept = sym same.1 i }

        go : (x : Result Content Refusal) → next_message ≡ x → RunSendFits (waits mode) s old x (Err e) new → CallKept (progress state old) (Send s draft destination now) (Err e) (progress state new)
        go (Err r) is h =
            let same : e ≡ r = cc in
            let why = is ∙ ap Err (sym same) in
            subst (λ q. CallKept (progress state old) (Send s draft destination now) (Err e) q) (as_before h.1)
            (refused_kept (progress state old) s draft destination now e (next_made draft destination _ (sent_of old s) now e why) (is_stamped ∙ why))
        go (Ok m) is h =
            let t : waits mode ≡ true = elim h.1 [ inl t ↦ t | inr n ↦ absurd (omega (arith, some, n.1)) ] in
            rw h.0 (subst (λ q. CallKept (progress state old) (Send s draft destination now) (Err Memory) q) (as_before h.2)
            (wants_kept (progress state old) s draft destination now m (is_stamped ∙ is) (transacted ∙ t)))

    -- a message that is kept for the commit
    waiting_kept : (n : ℕ) → RunSendFits (waits mode) s old next_message (Ok (Kept n)) new → CallKept (progress state old) (Send s draft destination now) (Ok (Sent n)) (progress state new)
    waiting_kept n h = go next_message refl (waits mode) refl h
      where
        go : (x : Result Content Refusal) → next_message ≡ x → (b : Bool) → waits mode ≡ b → RunSendFits b s old x (Ok (Kept n)) new →
            CallKept (progress state old) (Send s draft destination now) (Ok (Sent n)) (progress state new)
        go (Err r) is b t h = absurd (apart h.0)
          where
            apart : Ok (Kept n) ≡ Err r → ⊥
            apart e = cc
        go (Ok m) is false t h = absurd (apart h.0)
          where
            apart : Kept n ≡ ToPublish m → ⊥
            apart e = cc
        go (Ok m) is true t h =
            let same : n ≡ m.number = cc in
            let number : n ≡ sent_of old s + 1 = same ∙ next_number draft destination _ (sent_of old s) now m is in
            subst (λ q. CallKept (progress state old) (Send s draft destination now) (Ok (Sent n)) q) (λ i. record { state = state; sent = sym h.1 i; kept = sym h.2 i })
            (rw number (waits_kept (progress state old) s draft destination now m (is_stamped ∙ is) (transacted ∙ t)))

    -- a message that is to be published now
    publish_kept : (m : Content) → RunSendFits (waits mode) s old next_message (Ok (ToPublish m)) new →
        StampKept (progress state old) s draft destination now (Ok (ToPublish m)) (progress state new)
    publish_kept m h = go next_message refl (waits mode) refl h
      where
        go : (x : Result Content Refusal) → next_message ≡ x → (b : Bool) → waits mode ≡ b → RunSendFits b s old x (Ok (ToPublish m)) new →
            StampKept (progress state old) s draft destination now (Ok (ToPublish m)) (progress state new)
        go (Err r) is b t h = absurd (apart h.0)
          where
            apart : Ok (ToPublish m) ≡ Err r → ⊥
            apart e = cc
        go (Ok x) is true t h = absurd (apart h.0)
          where
            apart : ToPublish m ≡ Kept x.number → ⊥
            apart e = cc
        go (Ok x) is false t h =
            let same : x ≡ m = cc in
            (is_stamped ∙ is ∙ ap Ok same, transacted ∙ t, λ i. record { state = state; sent = h.1 i; kept = h.2 i })

    -- so a send of an open session is owed what it is, but for its publication
    pub stamp_kept : (result : Result Outcome Refusal) → 0 < room old → RunSendFits (waits mode) s old next_message result new →
        StampKept (progress state old) s draft destination now result (progress state new)
    stamp_kept (Err e) some h = err_kept e some h
    stamp_kept (Ok (Kept n)) some h = waiting_kept n h
    stamp_kept (Ok (ToPublish m)) some h = publish_kept m h

    -- it is never told that the keeper refused
    pub stamp_store : (result : Result Outcome Refusal) → RunSendFits (waits mode) s old next_message result new → result ≡ Err Store → ⊥
    stamp_store result h e = go next_message refl h
      where
        go : (x : Result Content Refusal) → next_message ≡ x → RunSendFits (waits mode) s old x result new → ⊥
        go (Err r) is h =
            let same : r ≡ Store = cc in
            let made : is_not_made (Err Store) ≡ false = next_made draft destination _ (sent_of old s) now Store (is ∙ ap Err same) in
            cc
        go (Ok m) is h =
            let refused = rw e at h in
            let same : Store ≡ Memory = refused.0 in
            cc

-- a send's reply, from that of its publication
accepted : (x : Option Refusal) (a b : Answer) → Ok a ≡ replied x Done → Ok b ≡ replied x b
accepted None a b h = refl
accepted (Some e) a b h = cc

refused : (x : Option Refusal) (e : Refusal) (b : Answer) → Err e ≡ replied x Done → Err e ≡ replied x b
refused None e b h = cc
refused (Some f) e b h = h

module _ (state : State) (old mid : Halves) (s : SessionId) (draft : Settings) (destination : Destination) (now : ℕ) (m : Content) where
  -- the message has the session's next number
  pub number_kept : stamp_of (progress state old) s draft destination now ≡ Ok m → m.number ≡ sent_of old s + 1
  number_kept h = go (is_some (mode_of state.life s)) h
    where
      go : (b : Bool) → cond b (next_stamped draft destination (record { opening = state.opening; session = s }) (sent_of old s) now) (Err IllegalState) ≡ Ok m → m.number ≡ sent_of old s + 1
      go true h = next_number draft destination _ (sent_of old s) now m h
      go false h = cc

  -- it is published, and has used its number
  pub sent_kept : (a : Answer) (next : State) → StampKept (progress state old) s draft destination now (Ok (ToPublish m)) (progress state mid) → KeptFits state (Session s) (Publish (m ∷ [])) (Ok a) next →
      CallKept (progress state old) (Send s draft destination now) (Ok (Sent m.number)) (progress next mid)
  unfolding reply reply_to progress_to
  sent_kept a next h f =
      let number : m.number ≡ sent_of old s + 1 = number_kept h.0 in
      rw (h.0, h.1) (
        ap (λ k. Ok (Sent k)) number ∙ accepted (publish_refusal state (Session s) (m ∷ [])) a (Sent (sent_of old s + 1)) f.0,
        λ i. record { state = f.1 i; sent = (h.2 i).sent; kept = (h.2 i).kept },
      )

  -- it is refused, or counts as not made, and has used its number
  pub unsent_kept : (e : Refusal) (next : State) → StampKept (progress state old) s draft destination now (Ok (ToPublish m)) (progress state mid) → KeptFits state (Session s) (Publish (m ∷ [])) (Err e) next →
      CallKept (progress state old) (Send s draft destination now) (Err e) (progress next mid)
  unfolding reply reply_to progress_to progress_not_made
  unsent_kept e next h f = rw (h.0, h.1) (go (is_not_made (Err e)) f)
    where
      go : (b : Bool) → MatchBool b (next ≡ state) ((Err e ≡ replied (publish_refusal state (Session s) (m ∷ [])) Done) × (next ≡ step state (Session s) (Publish (m ∷ [])))) →
          MatchBool b (progress next mid ≡ record { state = state; sent = one_more s (sent_of old); kept = kept_of old })
          ((Err e ≡ replied (publish_refusal state (Session s) (m ∷ [])) (Sent (sent_of old s + 1)))
          × (progress next mid ≡ record { state = step state (Session s) (Publish (m ∷ [])); sent = one_more s (sent_of old); kept = kept_of old }))
      go true f = λ i. record { state = f i; sent = (h.2 i).sent; kept = (h.2 i).kept }
      go false f = (refused (publish_refusal state (Session s) (m ∷ [])) e (Sent (sent_of old s + 1)) f.0, λ i. record { state = f.1 i; sent = (h.2 i).sent; kept = (h.2 i).kept })

-- Commits

-- none of the session's messages waits after they were handed out
pub none_waits : (kept : SessionId → List Content) (s : SessionId) → with_messages s [] kept s ≡ []
none_waits kept s = rw ((session_same s s).1 refl) refl

-- messages that were handed out and taken back
back_again : (kept : SessionId → List Content) (s : SessionId) (messages : List Content) → messages ≡ kept s → with_messages s messages (with_messages s [] kept) ≡ kept
back_again kept s messages e = λ i. λ t. go t (session_eq s t) refl i
  where
    go : (t : SessionId) (b : Bool) → session_eq s t ≡ b → cond b messages (cond b [] (kept t)) ≡ kept t
    go t true h = e ∙ ap kept ((session_same s t).0 h)
    go t false h = refl

-- a commit that is done: the transaction begins anew
pub commit_done : (state : State) (old new : Halves) (s : SessionId) (messages : List Content) (a : Answer) (next : State) → messages ≡ kept_of old s → sent_of new ≡ sent_of old → kept_of new ≡ with_messages s [] (kept_of old) →
    KeptFits state (Session s) (Commit messages) (Ok a) next → CallKept (progress state old) (CommitSession s) (Ok a) (progress next new)
unfolding reply_to progress_to
commit_done state old new s messages a next are sent kept f =
    let told : Ok a ≡ reply state (Session s) (Commit (kept_of old s)) = f.0 ∙ ap (λ ms. reply state (Session s) (Commit ms)) are in (
      told,
      λ i. record {
        state = (f.1 ∙ ap (λ ms. step state (Session s) (Commit ms)) are) i;
        sent = sent i;
        kept = (kept ∙ ap (λ r. after_commit_of s r (kept_of old)) told) i;
      },
    )

-- a commit that is refused, or counts as not made: the transaction is as before
pub commit_refused : (state : State) (old new : Halves) (s : SessionId) (messages back : List Content) (e : Refusal) (next : State) → messages ≡ kept_of old s → back ≡ messages → sent_of new ≡ sent_of old →
    kept_of new ≡ with_messages s back (with_messages s [] (kept_of old)) → KeptFits state (Session s) (Commit messages) (Err e) next → CallKept (progress state old) (CommitSession s) (Err e) (progress next new)
unfolding reply_to progress_to progress_not_made
commit_refused state old new s messages back e next are backs sent kept f = go (is_not_made (Err e)) (rw are at f)
  where
    same : kept_of new ≡ kept_of old
    same = kept ∙ back_again (kept_of old) s back (backs ∙ are)

    go : (b : Bool) →
        MatchBool b (next ≡ state) ((Err e ≡ reply state (Session s) (Commit (kept_of old s))) × (next ≡ step state (Session s) (Commit (kept_of old s)))) →
        MatchBool b (progress next new ≡ progress state old)
        ((Err e ≡ reply state (Session s) (Commit (kept_of old s)))
        × (progress next new ≡ record { state = step state (Session s) (Commit (kept_of old s)); sent = sent_of old; kept = after_commit_of s (reply state (Session s) (Commit (kept_of old s))) (kept_of old) }))
    go true f = λ i. record { state = f i; sent = sent i; kept = same i }
    go false f = (f.0, λ i. record { state = f.1 i; sent = sent i; kept = (same ∙ ap (λ r. after_commit_of s r (kept_of old)) f.0) i })
