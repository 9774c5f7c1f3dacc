-- Steps that count as not made, taken out.
use Rattle.std.proofs.Common.{◌≡◌, Bool, true, false, cond, [], ◌∷◌, not, refl, sym, subst}
use Rattle.std.proofs.Common.{ℕ, ap, arith, length, None, Ok}
use Rattle.std.specs.Prelude.{MatchBool}
use Rattle.jm_machine.specs.declared.answer.Answer.TheVariants.{Done}
use Rattle.jm_machine.specs.declared.call.Call.TheVariants.{Ask}
use Rattle.jm_machine.specs.declared.call.Request.TheVariants.{Open}
use Rattle.jm_machine.specs.declared.call.Step.{Step}
use Rattle.jm_machine.specs.declared.call.Who.TheVariants.{Connection}
use Rattle.jm_machine.specs.Entries.{is_not_made}
use Rattle.jm_machine.specs.Life.{life_after}
use Rattle.jm_machine.specs.Machine.{State, after, answer, new_core, refusal, reply, step}
use Rattle.jm_refused.specs.Refused.{AcceptedStepsStay, StepsFit, StepsAreTakenOut, made, made_replies}

pub steps_are_taken_out : StepsAreTakenOut
steps_are_taken_out state [] [] end f = f
steps_are_taken_out state [] (r ∷ replies) end f = absurd f
steps_are_taken_out state (s ∷ steps) [] end f = absurd f
steps_are_taken_out state (s ∷ steps) (r ∷ replies) end (next, f, rest) = go (is_not_made r) refl f (steps_are_taken_out next steps replies end rest)
  where
    go : (b : Bool) → is_not_made r ≡ b → MatchBool b (next ≡ state) ((r ≡ reply state s.who s.call) × (next ≡ step state s.who s.call))
        → StepsFit next (made steps replies) (made_replies replies) end
        → StepsFit state (cond b (made steps replies) (s ∷ made steps replies)) (cond (not b) (r ∷ made_replies replies) (made_replies replies)) end
    go true e f left = subst (λ (x : State). StepsFit x (made steps replies) (made_replies replies) end) f left
    go false e f left = (next, subst (λ (b : Bool). MatchBool b (next ≡ state) ((r ≡ reply state s.who s.call) × (next ≡ step state s.who s.call))) (sym e) f, left)

-- a new core opens a connection, which it does not have without that step
abbrev opening : Step
opening = record { who = Connection 1; call = Ask (Open None) }

abbrev opened : State
opened = step (new_core 1 100000) opening.who opening.call

pub accepted_steps_stay : AcceptedStepsStay
unfolding life_after refusal after answer reply step
accepted_steps_stay law =
    let same : opened ≡ new_core 1 100000 = law (new_core 1 100000) opening [] (Ok Done) [] opened (opened, (refl, refl), refl) in
    let one : 1 ≡ 0 = ap (λ (x : State). length x.life.connections) same in
    absurd (omega (arith, one))
