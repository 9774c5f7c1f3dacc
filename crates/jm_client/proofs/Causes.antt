-- With which cause a refusal is told.
use Rattle.std.proofs.Common.{◌≡◌, Bool, true, false, refl, ap, sym, subst, ◌∙◌, inl, inr, Option, Some, None, Result, Ok, Err}
use Rattle.std.specs.Prelude.{IfErr, MatchBool, option_map}
use Rattle.jm_base.specs.declared.refusal.Refusal.{Refusal}
use Rattle.jm_base.specs.declared.refusal.Refusal.TheVariants.{IllegalState, SubscriptionInUse, Memory, Store}
use Rattle.jm_error.specs.Refused.{Refused, bare, without_cause}
use Rattle.jm_explain.specs.Held.{IsNoState}
use Rattle.jm_machine.specs.declared.answer.Answer.{Answer}
use Rattle.jm_machine.specs.declared.answer.Answer.TheVariants.{Done}
use Rattle.jm_machine.specs.declared.call.Who.{Who}
use Rattle.jm_machine.specs.declared.call.Call.{Call}
use Rattle.jm_machine.specs.declared.call.Call.TheVariants.{Ask, Publish, Commit}
use Rattle.jm_machine.specs.Entries.{is_not_made}
use Rattle.jm_machine.specs.Machine.{State, held, refusal, answer, publish_refusal, commit_refusal, after, after_commit, published, replied, moved, reply, step}
use Rattle.jm_kept.specs.Kept.{KeptFits}
use Rattle.jm_why.specs.declared.cause.Why.{Why}
use Rattle.jm_why.specs.Why.{CausesExplain, explained, refusal_in, refusal_of, why}
use Rattle.jm_client.specs.Told.{IsRefusedIn, IsToldIn, has_cause}

-- ---- A step that is refused leaves the state

left : (o : Option Refusal) (r : Refusal) (a : Answer) (x y : State) → Err r ≡ replied o a → moved o x y ≡ y
left None r a x y h = cc
left (Some q) r a x y h = refl

left_step : (state : State) (who : Who) (call : Call) (r : Refusal) → Err r ≡ reply state who call → step state who call ≡ state
unfolding reply step
left_step state who (Ask request) r h =
    left (refusal state.life state.consumers (held state who request) who request) r (answer state.life state.consumers (held state who request) who request) (after state who request) state h
left_step state who (Publish messages) r h = left (publish_refusal state who messages) r Done (published state messages) state h
left_step state who (Commit messages) r h = left (commit_refusal state who messages) r Done (after_commit state who messages) state h

as_before : (b : Bool) (old new moved : State) (P : Type 0) → MatchBool b (new ≡ old) (P × (new ≡ moved)) → (P → moved ≡ old) → new ≡ old
as_before true old new moved P f g = f
as_before false old new moved P f g = f.1 ∙ g f.0

-- so does one over a keeper
pub refused_state : (old new : State) (who : Who) (call : Call) (r : Refusal) → KeptFits old who call (Err r) new → new ≡ old
refused_state old new who call r f = as_before (is_not_made (Err r)) old new (step old who call) (Err r ≡ reply old who call) f (λ h. left_step old who call r h)

-- it is refused so in the state that it met
refused_by : (b : Bool) (P Q R : Type 0) → MatchBool b P (Q × R) → MatchBool b (Unit {0}) Q
refused_by true P Q R f = tt
refused_by false P Q R f = f.0

-- and in the one that it left
pub refused_in : (old new : State) (who : Who) (call : Call) (r : Refusal) → KeptFits old who call (Err r) new → IsRefusedIn new who call r
refused_in old new who call r f =
    let met : IsRefusedIn old who call r = refused_by (is_not_made (Err r)) (new ≡ old) (Err r ≡ reply old who call) (new ≡ step old who call) f in
    subst (λ state. IsRefusedIn state who call r) (sym (refused_state old new who call r f)) met

-- ---- The cause

explains : CausesExplain → (state : State) (who : Who) (call : Call) (r : Refusal) → Err r ≡ reply state who call → option_map refusal_of (why state who call) ≡ explained (Some r)
explains law state who call r h = law state who call ∙ ap (λ q. explained (refusal_in q)) (sym h)

none_where : (w : Option Why) → option_map refusal_of w ≡ None → None ≡ w
none_where None h = refl
none_where (Some w) h = cc

-- the cause was found
pub found_told : (state : State) (who : Who) (call : Call) (r : Refusal) (w : Option Why) → has_cause r ≡ true → IsRefusedIn state who call r → w ≡ why state who call →
    IsToldIn state who call (Err (record { refusal = r; cause = w }))
found_told state who call IllegalState w c h e = (h, inl e)
found_told state who call SubscriptionInUse w c h e = (h, inl e)
found_told state who call r w c h e = absurd cc

-- no cause stands behind the refusal
pub other_told : CausesExplain → (state : State) (who : Who) (call : Call) (r : Refusal) → has_cause r ≡ false → IsRefusedIn state who call r → IsToldIn state who call (Err (bare r))
other_told law state who call IllegalState c h = absurd cc
other_told law state who call SubscriptionInUse c h = absurd cc
other_told law state who call Memory c h = refl
other_told law state who call Store c h = refl
other_told law state who call r c h = (h, inl (none_where (why state who call) (explains law state who call r h)))

-- memory was wanted to find it
pub wanted_told : CausesExplain → (state : State) (who : Who) (call : Call) (r : Refusal) → has_cause r ≡ true → IsNoState (why state who call) → IsRefusedIn state who call r →
    IsToldIn state who call (Err (bare r))
wanted_told law state who call IllegalState c n h = absurd (n (explains law state who call IllegalState h))
wanted_told law state who call SubscriptionInUse c n h = (h, inr (refl, refl))
wanted_told law state who call r c n h = absurd cc

-- the error is told as it is
pub told_as : (state : State) (who : Who) (call : Call) (r s : Refused) → r ≡ s → IsToldIn state who call (Err s) → IsToldIn state who call (Err r)
told_as state who call r s e t = subst (λ q. IsToldIn state who call (Err q)) (sym e) t

-- ---- A step over a keeper

-- it is refused so in the state that it left
pub refused_reply : (old new : State) (who : Who) (call : Call) (r : Result Answer Refusal) → KeptFits old who call r new → IfErr r (λ q. IsRefusedIn new who call q)
refused_reply old new who call (Ok a) f = tt
refused_reply old new who call (Err q) f = refused_in old new who call q f

-- so it is told in the state that it met
told_kept : (old new : State) (who : Who) (call : Call) (r : Result Answer Refused) → KeptFits old who call (without_cause r) new → IfErr r (λ q. IsToldIn new who call (Err q)) →
    IsToldIn old who call r
told_kept old new who call (Ok a) f t = f.0
told_kept old new who call (Err q) f t = subst (λ state. IsToldIn state who call (Err q)) (refused_state old new who call q.refusal f) t

pub told_step : (old new : State) (who : Who) (call : Call) (reply : Result Answer Refusal) (r : Result Answer Refused) → without_cause r ≡ reply → KeptFits old who call reply new →
    IfErr r (λ q. IsToldIn new who call (Err q)) → IsToldIn old who call r
told_step old new who call reply r e f t = told_kept old new who call r (subst (λ q. KeptFits old who call q new) (sym e) f) t
