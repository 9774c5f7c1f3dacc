-- What leads from a state that the provider reaches to another.
use Rattle.std.proofs.Common.{◌≡◌, Bool, true, false, List, sym, subst}
use Rattle.std.specs.Prelude.{Result, Ok, Err, MatchBool, IfOk, OnErr}
use Rattle.jm_base.specs.declared.refusal.Refusal.{Refusal}
use Rattle.jm_machine.specs.declared.answer.Answer.{Answer}
use Rattle.jm_machine.specs.declared.call.Call.{Call}
use Rattle.jm_machine.specs.declared.call.ClientCall.{ClientCall}
use Rattle.jm_machine.specs.declared.call.Who.{Who}
use Rattle.jm_machine.specs.Machine.{State, reply, step}
use Rattle.jm_machine.specs.Wants.{is_want, may_want}
use Rattle.jm_machine.specs.Client.{Progress, begun, RunOwed}
use Rattle.jm_machine.specs.Isolation.{AreIsolated, IsolationOfRuns, Reached}
use Rattle.jm_machine.specs.Isolation.Reached.{Stepped}
use Rattle.jm_machine.proofs.Reaches.{runs_reach, owed_fits}
use Rattle.jm_plans.specs.Steps.{StepFits}

-- a step
pub step_reached : (old new : State) (who : Who) (call : Call) (r : Result Answer Refusal) → StepFits old who call r new → Reached old → Reached new
step_reached old new who call r f reached = go (is_want r) f
  where
    go : (b : Bool) → MatchBool b ((may_want old who call ≡ true) × (new ≡ old)) ((r ≡ reply old who call) × (new ≡ step old who call)) → Reached new
    go true f = subst Reached (sym f.1) reached
    go false f = subst Reached (sym f.1) (Stepped old who call reached)

-- a run
pub run_reached : {R E : Type 0} (old new : State) (calls : List ClientCall) (of : R → List (Result Answer Refusal)) (result : Result R E) →
    IfOk result (λ replies. (end : Progress) × RunOwed (begun old) calls (of replies) end × (new ≡ end.state)) → OnErr result (new ≡ old) → Reached old → Reached new
run_reached old new calls of (Ok replies) f g reached = subst Reached (sym f.2) (runs_reach old calls (of replies) f.0 reached (owed_fits (begun old) calls (of replies) f.0 f.1))
run_reached old new calls of (Err e) f g reached = subst Reached (sym g) reached

-- its replies are isolated
pub run_isolated : {R E : Type 0} (old new : State) (calls : List ClientCall) (of : R → List (Result Answer Refusal)) (result : Result R E) →
    IfOk result (λ replies. (end : Progress) × RunOwed (begun old) calls (of replies) end × (new ≡ end.state)) → IsolationOfRuns → Reached old → IfOk result (λ replies. AreIsolated old calls (of replies))
run_isolated old new calls of (Ok replies) f law reached = law old calls (of replies) f.0 reached f.1
run_isolated old new calls of (Err e) f law reached = tt
