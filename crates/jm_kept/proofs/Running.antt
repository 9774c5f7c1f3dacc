-- What a list of calls is to a run over a keeper, and that replies which it owes fit, and are isolated.
use Rattle.std.proofs.Common.{◌≡◌, ◌⊎◌, ◌≤◌, ℕ, Bool, true, false, List, [], ◌∷◌, ◌++◌, refl, sym, subst, ◌∙◌, inl, inr, arith, Result, Ok, Err}
use Rattle.std.specs.Prelude.{Contains, IfOk}
use Rattle.std.proofs.lemmas.List.Elements.{Contains-append_cases, Contains-push_cases}
use Rattle.jm_base.specs.declared.refusal.Refusal.{Refusal}
use Rattle.jm_base.specs.declared.refusal.Refusal.TheVariants.{Memory, Store}
use Rattle.jm_dest.specs.declared.session.SessionId.{SessionId}
use Rattle.jm_header.specs.declared.content.Content.{Content}
use Rattle.jm_machine.specs.declared.answer.Answer.{Answer}
use Rattle.jm_machine.specs.declared.call.ClientCall.{ClientCall}
use Rattle.jm_machine.specs.declared.call.ClientCall.TheVariants.{Ask, Send, CommitSession}
use Rattle.jm_machine.specs.Client.{Progress, begun, is_in_transaction, send_may_want, send_progress, send_wanting, stamped_progress, stamp_of, call_may_want, progress_to, progress_wanting, CallFits, CallOwed, RepliesFit, RunOwed}
use Rattle.jm_machine.specs.Isolation.{AreIsolated, Isolation, Reached}
use Rattle.jm_machine.specs.Machine.{State}
use Rattle.jm_machine.proofs.Outside.{no_store_to}
use Rattle.jm_tx.specs.declared.halves.Halves.{Halves}
use Rattle.jm_tx.specs.Halves.{kept_of, none_kept, none_sent, sent_of}
use Rattle.jm_core.specs.Runs.{progress}
use Rattle.jm_keep.specs.Stored.{HasRisen}
use Rattle.jm_kept.specs.Runs.{CallKept, HasFailed, RunKept, progress_not_made, send_not_made}

-- one call more
pub kept_more : (p : Progress) (calls : List ClientCall) (replies : List (Result Answer Refusal)) (mid : Progress) (call : ClientCall) (r : Result Answer Refusal) (end : Progress) →
    RunKept p calls replies mid → CallKept mid call r end → RunKept p (calls ++ call ∷ []) (replies ++ r ∷ []) end
kept_more p [] [] mid call r end f g = (end, rw (← f) g, refl)
kept_more p [] (x ∷ replies) mid call r end f g = absurd f
kept_more p (c ∷ calls) [] mid call r end f g = absurd f
kept_more p (c ∷ calls) (x ∷ replies) mid call r end f g = (f.0, f.1, kept_more f.0 calls replies mid call r end f.2 g)

-- a run that begins has sent nothing
pub begins : (state : State) (halves : Halves) → sent_of halves ≡ none_sent → kept_of halves ≡ none_kept → RunKept (begun state) [] [] (progress state halves)
begins state halves e k = λ i. record { state = state; sent = e i; kept = k i }

-- ---- replies fit

-- where a call counts as not made, the number of a send is used or not
abbrev UsesOne : Progress → Progress → Progress → Type 0
UsesOne p next done = (next.state ≡ p.state) × (next.kept ≡ p.kept) × ((next.sent ≡ p.sent) ⊎ (next.sent ≡ done.sent))

stamped_not_made : (b : Bool) (p : Progress) (s : SessionId) (m : Content) → UsesOne p (send_wanting b p s) (stamped_progress b p s m)
stamped_not_made true p s m = (refl, refl, inl refl)
stamped_not_made false p s m = (refl, refl, inr refl)

sent_not_made : (p : Progress) (s : SessionId) (x : Result Content Refusal) → UsesOne p (send_not_made p s x) (send_progress p s x)
sent_not_made p s (Ok m) = stamped_not_made (is_in_transaction p.state s) p s m
sent_not_made p s (Err r) = (refl, refl, inl refl)

call_not_made : (p : Progress) (call : ClientCall) → UsesOne p (progress_not_made p call) (progress_to p call)
unfolding progress_not_made progress_to
call_not_made p (Ask who request) = (refl, refl, inl refl)
call_not_made p (Send s draft destination now) = sent_not_made p s (stamp_of p s draft destination now)
call_not_made p (CommitSession s) = (refl, refl, inl refl)

call_fits : (p : Progress) (call : ClientCall) (r : Result Answer Refusal) (next : Progress) → CallKept p call r next → CallFits p call r next
call_fits p call (Err Memory) next f = subst (λ (x : Progress). UsesOne p x (progress_to p call)) (sym f) (call_not_made p call)
call_fits p call (Err Store) next f = subst (λ (x : Progress). UsesOne p x (progress_to p call)) (sym f) (call_not_made p call)
call_fits p call r next f = f

-- what a run over a keeper owes fits
kept_fits : (p : Progress) (calls : List ClientCall) (replies : List (Result Answer Refusal)) (end : Progress) → RunKept p calls replies end → RepliesFit p calls replies end
kept_fits p [] [] end f = f
kept_fits p [] (r ∷ replies) end f = absurd f
kept_fits p (call ∷ calls) [] end f = absurd f
kept_fits p (call ∷ calls) (r ∷ replies) end f = (f.0, call_fits p call r f.0 f.1, kept_fits f.0 calls replies end f.2)

-- and is isolated
pub kept_isolated : {R E : Type 0} (old new : State) (calls : List ClientCall) (of : R → List (Result Answer Refusal)) (result : Result R E) →
    IfOk result (λ replies. (end : Progress) × RunKept (begun old) calls (of replies) end × (new ≡ end.state)) → Isolation → Reached old → IfOk result (λ replies. AreIsolated old calls (of replies))
kept_isolated old new calls of (Ok replies) f law reached = λ key u n. law old calls (of replies) f.0 key (kept_fits (begun old) calls (of replies) f.0 f.1) (record { unshared = u; numbers = n; reached = reached })
kept_isolated old new calls of (Err e) f law reached = tt

-- ---- what a run without a keeper owes

sent_wanting : (p : Progress) (s : SessionId) (x : Result Content Refusal) → send_may_want p.state s x ≡ true → send_wanting (is_in_transaction p.state s) p s ≡ send_not_made p s x
sent_wanting p s (Ok m) h = refl
sent_wanting p s (Err r) h = cc

call_wanting : (p : Progress) (call : ClientCall) → call_may_want p call ≡ true → progress_wanting p call ≡ progress_not_made p call
unfolding call_may_want progress_wanting progress_not_made
call_wanting p (Ask who request) h = refl
call_wanting p (Send s draft destination now) h = sent_wanting p s (stamp_of p s draft destination now) h
call_wanting p (CommitSession s) h = refl

owed_call : (p : Progress) (call : ClientCall) (r : Result Answer Refusal) (next : Progress) → CallOwed p call r next → CallKept p call r next
owed_call p call (Err Memory) next f = f.1 ∙ call_wanting p call f.0
owed_call p call (Err Store) next f = absurd (no_store_to p call f.0)
owed_call p call r next f = f

-- what a run without a keeper owes is what one over a keeper owes
owed_run : (p : Progress) (calls : List ClientCall) (replies : List (Result Answer Refusal)) (end : Progress) → RunOwed p calls replies end → RunKept p calls replies end
owed_run p [] [] end f = f
owed_run p [] (r ∷ replies) end f = absurd f
owed_run p (call ∷ calls) [] end f = absurd f
owed_run p (call ∷ calls) (r ∷ replies) end f = (f.0, owed_call p call r f.0 f.1, owed_run f.0 calls replies end f.2)

pub owed_kept : {R E : Type 0} (old new : State) (calls : List ClientCall) (of : R → List (Result Answer Refusal)) (result : Result R E) →
    IfOk result (λ replies. (end : Progress) × RunOwed (begun old) calls (of replies) end × (new ≡ end.state)) →
    IfOk result (λ replies. (end : Progress) × RunKept (begun old) calls (of replies) end × (new ≡ end.state))
owed_kept old new calls of (Ok replies) f = (f.0, owed_run (begun old) calls (of replies) f.0 f.1, f.2)
owed_kept old new calls of (Err e) f = tt

-- none of its replies tells of a keeper
no_store_call : (p : Progress) (call : ClientCall) (r : Result Answer Refusal) (next : Progress) → CallOwed p call r next → r ≡ Err Store → ⊥
no_store_call p call (Err Memory) next f e = cc
no_store_call p call (Err Store) next f e = no_store_to p call f.0
no_store_call p call (Err r) next f e = cc
no_store_call p call (Ok a) next f e = cc

pub none_in : (x : Result Answer Refusal) → Contains [] x → ⊥
none_in x h = omega (arith, h.1)

one_in : (r x : Result Answer Refusal) → Contains (r ∷ []) x → r ≡ x
one_in r x h = elim (Contains-push_cases [] r x h) [ inl none ↦ absurd (none_in x none) | inr is ↦ is ]

no_store_run : (p : Progress) (calls : List ClientCall) (replies : List (Result Answer Refusal)) (end : Progress) → RunOwed p calls replies end → Contains replies (Err Store) → ⊥
no_store_run p [] [] end f h = none_in (Err Store) h
no_store_run p [] (r ∷ replies) end f h = absurd f
no_store_run p (call ∷ calls) [] end f h = absurd f
no_store_run p (call ∷ calls) (r ∷ replies) end f h =
    elim (Contains-append_cases (r ∷ []) replies (Err Store) h) [
      | inl here ↦ no_store_call p call r f.0 f.1 (one_in r (Err Store) here)
      | inr there ↦ no_store_run f.0 calls replies end f.2 there
    ]

pub owed_never_store : {R E : Type 0} (P : R → Type 0) (old new : State) (calls : List ClientCall) (of : R → List (Result Answer Refusal)) (result : Result R E) →
    IfOk result (λ replies. (end : Progress) × RunOwed (begun old) calls (of replies) end × (new ≡ end.state)) →
    IfOk result (λ replies. Contains (of replies) (Err Store) → P replies)
owed_never_store P old new calls of (Ok replies) f = λ h. absurd (no_store_run (begun old) calls (of replies) f.0 f.1 h)
owed_never_store P old new calls of (Err e) f = tt

-- ---- the keeper's faults

pub risen_failed : (old mid new : ℕ) → old ≤ mid → HasRisen mid new → HasFailed old new
risen_failed old mid new h r = elim r [ inl rose ↦ inl (omega (arith, h, rose)) | inr last ↦ inr (omega (arith, last)) ]

pub failed_more : (old mid new : ℕ) → mid ≤ new → HasFailed old mid → HasFailed old new
failed_more old mid new h f = elim f [ inl rose ↦ inl (omega (arith, h, rose)) | inr last ↦ inr (omega (arith, h, last)) ]

-- one reply more
pub store_more : (old mid new : ℕ) (replies : List (Result Answer Refusal)) (r : Result Answer Refusal) → old ≤ mid → mid ≤ new →
    (Contains replies (Err Store) → HasFailed old mid) → (r ≡ Err Store → HasRisen mid new) → Contains (replies ++ r ∷ []) (Err Store) → HasFailed old new
store_more old mid new replies r b h before now is =
    elim (Contains-push_cases replies r (Err Store) is) [ inl there ↦ failed_more old mid new h (before there) | inr last ↦ risen_failed old mid new b (now last) ]
