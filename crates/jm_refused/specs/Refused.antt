-- What is left of a run when the calls are taken out that count as not made.
use Rattle.std.specs.Prelude.{◌≡◌, ◌≤◌, not, Bool, true, false, List, [], ◌∷◌, filter, Result, MatchBool, if◌then◌else◌}
use Rattle.jm_base.specs.declared.refusal.Refusal.{Refusal}
use Rattle.jm_dest.specs.declared.session.SessionId.{SessionId}
use Rattle.jm_machine.specs.declared.answer.Answer.{Answer}
use Rattle.jm_machine.specs.declared.call.ClientCall.{ClientCall}
use Rattle.jm_machine.specs.declared.call.ClientCall.TheVariants.{Ask, Send, CommitSession}
use Rattle.jm_machine.specs.declared.call.Step.{Step}
use Rattle.jm_machine.specs.Client.{Progress, CallFits, RepliesFit}
use Rattle.jm_machine.specs.Entries.{is_not_made}
use Rattle.jm_machine.specs.Machine.{State, reply, step}

-- Steps

-- a reply fits a step: it is the machine's, and the state is the machine's; or the step counts as not made, and the state is
-- as before
abbrev pub StepFits : State → Step → Result Answer Refusal → State → Type 0
StepFits state s r next = MatchBool (is_not_made r) (next ≡ state) ((r ≡ reply state s.who s.call) × (next ≡ step state s.who s.call))

-- replies fit a list of steps, and lead there
abbrev pub StepsFit : State → List Step → List (Result Answer Refusal) → State → Type 0
StepsFit state [] [] end = end ≡ state
StepsFit state [] (r ∷ replies) end = ⊥
StepsFit state (s ∷ steps) [] end = ⊥
StepsFit state (s ∷ steps) (r ∷ replies) end = (next : State) × StepFits state s r next × StepsFit next steps replies end

-- what was asked without what counts as not made by its reply
abbrev pub made : {A : Type 0} → List A → List (Result Answer Refusal) → List A
made [] replies = []
made (x ∷ asked) [] = x ∷ asked
made (x ∷ asked) (r ∷ replies) = if is_not_made r then made asked replies else x ∷ made asked replies

-- the replies without those
abbrev pub made_replies : List (Result Answer Refusal) → List (Result Answer Refusal)
made_replies replies = filter (λ r. not (is_not_made r)) replies

-- Steps that count as not made can be taken out with their replies: what is left fits, and leads to the same state.
abbrev pub StepsAreTakenOut : Type 0
StepsAreTakenOut =
    (state : State) (steps : List Step) (replies : List (Result Answer Refusal)) (end : State) →
    StepsFit state steps replies end → StepsFit state (made steps replies) (made_replies replies) end

-- a law that would take out a first step whatever its reply is
abbrev pub AnyStepIsTakenOut : Type 0
AnyStepIsTakenOut =
    (state : State) (s : Step) (steps : List Step) (r : Result Answer Refusal) (replies : List (Result Answer Refusal)) (end : State) →
    StepsFit state (s ∷ steps) (r ∷ replies) end → StepsFit state steps replies end

-- There is no such law: a step that was accepted cannot be taken out.
abbrev pub AcceptedStepsStay : Type 0
AcceptedStepsStay = AnyStepIsTakenOut → ⊥

-- Calls of clients

-- the run has come as far, but that numbers of sends were passed over
pub record PassesOver (p next : Progress) : Type 0 where
  pub state_is : next.state ≡ p.state
  pub kept_is : next.kept ≡ p.kept
  pub numbers : (s : SessionId) → p.sent s ≤ next.sent s

-- replies fit a list of calls, and lead there, where before each call and at the end numbers of sends may be passed over
abbrev pub FitPassingOver : Progress → List ClientCall → List (Result Answer Refusal) → Progress → Type 0
FitPassingOver p [] [] end = PassesOver p end
FitPassingOver p [] (r ∷ replies) end = ⊥
FitPassingOver p (call ∷ calls) [] end = ⊥
FitPassingOver p (call ∷ calls) (r ∷ replies) end =
    (from : Progress) × PassesOver p from × ((next : Progress) × CallFits from call r next × FitPassingOver next calls replies end)

-- Calls that count as not made can be taken out with their replies: what is left fits where numbers may be passed over, and
-- leads to the same end.
abbrev pub CallsAreTakenOut : Type 0
CallsAreTakenOut =
    (p : Progress) (calls : List ClientCall) (replies : List (Result Answer Refusal)) (end : Progress) →
    RepliesFit p calls replies end → FitPassingOver p (made calls replies) (made_replies replies) end

-- the call sends
abbrev pub is_send : ClientCall → Bool
is_send (Ask who request) = false
is_send (Send s draft destination now) = true
is_send (CommitSession s) = false

-- each send was made, by its reply
abbrev pub MakesEachSend : List ClientCall → List (Result Answer Refusal) → Type 0
MakesEachSend [] replies = Unit {0}
MakesEachSend (call ∷ calls) [] = Unit {0}
MakesEachSend (call ∷ calls) (r ∷ replies) = (is_not_made r ≡ true → is_send call ≡ false) × MakesEachSend calls replies

-- Where each send was made, no number is passed over.
abbrev pub RequestsAreTakenOut : Type 0
RequestsAreTakenOut =
    (p : Progress) (calls : List ClientCall) (replies : List (Result Answer Refusal)) (end : Progress) →
    RepliesFit p calls replies end → MakesEachSend calls replies → RepliesFit p (made calls replies) (made_replies replies) end
