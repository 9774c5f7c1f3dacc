-- A legal list of events, and one more.
use Rattle.std.proofs.Common.{◌≡◌, ◌≤◌, ◌<◌, ◌+◌, ℕ, List, [], ◌∷◌, ◌++◌, refl, ap, sym, ◌∙◌, subst, Bool, true, false, Result, arith, length, length-append}
use Rattle.std.specs.Prelude.{MatchBool}
use Rattle.jm_base.specs.declared.refusal.Refusal.{Refusal}
use Rattle.jm_machine.specs.declared.answer.Answer.{Answer}
use Rattle.jm_machine.specs.declared.call.Step.{Step}
use Rattle.jm_machine.specs.declared.entry.Event.{Event}
use Rattle.jm_machine.specs.Isolation.{IsLegal, after_events}
use Rattle.jm_machine.specs.Machine.{State, step}
use Rattle.jm_broker.specs.Traces.{event, reply_to, state_after}

legal_push : (s : State) (es : List Event) (p : Step) (r : Result Answer Refusal) → IsLegal s es → r ≡ reply_to (after_events s es) p → IsLegal s (es ++ event p r ∷ [])
legal_push s [] p r h is = (is, tt)
legal_push s (e ∷ es) p r h is = (h.0, legal_push (step s e.step.who e.step.call) es p r h.1 is)

after_push : (s : State) (es : List Event) (p : Step) (r : Result Answer Refusal) → after_events s (es ++ event p r ∷ []) ≡ state_after (after_events s es) p
after_push s [] p r = refl
after_push s (e ∷ es) p r = after_push (step s e.step.who e.step.call) es p r

-- what was legal stays so after a step: the machine's step was added, or, where b, nothing changed
pub still_legal : (b : Bool) (o m n : State) (es fs : List Event) (p : Step) (r : Result Answer Refusal) (Q : Type 0) → IsLegal o es → m ≡ after_events o es
    → MatchBool b (Unit {0}) ((r ≡ reply_to m p) × (n ≡ state_after m p)) → MatchBool b (Unit {0}) (fs ≡ es ++ event p r ∷ [])
    → MatchBool b Q (Unit {0}) → (Q → (n ≡ m) × (fs ≡ es)) → IsLegal o fs × (n ≡ after_events o fs)
still_legal true o m n es fs p r Q legal ends made added same told =
    let t = told same in
    let A : List Event → Type 0 = λ x. IsLegal o x in
    (subst A (sym t.1) legal, t.0 ∙ ends ∙ ap (after_events o) (sym t.1))
still_legal false o m n es fs p r Q legal ends made added same told =
    let A : List Event → Type 0 = λ x. IsLegal o x in (
      subst A (sym added) (legal_push o es p r legal (made.0 ∙ ap (λ (x : State). reply_to x p) ends)),
      made.1 ∙ ap (λ (x : State). state_after x p) ends ∙ sym (ap (after_events o) added ∙ after_push o es p r),
    )

-- so does what is counted
pub still_counted : (b : Bool) (first total sum : ℕ) (es fs : List Event) (e : Event) (Q : Type 0) → total ≡ first + length es
    → MatchBool b (Unit {0}) (fs ≡ es ++ e ∷ []) → MatchBool b (Unit {0}) (sum ≡ total + 1) → MatchBool b Q (Unit {0}) → (Q → (fs ≡ es) × (sum ≡ total)) → sum ≡ first + length fs
still_counted true first total sum es fs e Q counted added more same told = let t = told same in omega (arith, t.1, ap length t.0, counted)
still_counted false first total sum es fs e Q counted added more same told = omega (arith, more, counted, ap length added, length-append es (e ∷ []))

-- and one event more is within the most, where there were fewer
pub still_within : (b : Bool) (most : ℕ) (es fs : List Event) (e : Event) (Q : Type 0) → length es < most
    → MatchBool b (Unit {0}) (fs ≡ es ++ e ∷ []) → MatchBool b Q (Unit {0}) → (Q → fs ≡ es) → length fs ≤ most
still_within true most es fs e Q less added same told = omega (arith, less, ap length (told same))
still_within false most es fs e Q less added same told = omega (arith, less, ap length added, length-append es (e ∷ []))
