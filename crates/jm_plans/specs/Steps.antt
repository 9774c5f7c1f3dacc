-- What a step and a run of the core owe.
use Rattle.std.specs.Prelude.{◌≡◌, ℕ, true, List, [], Result, Ok, Err, MatchBool}
use Rattle.jm_base.specs.declared.refusal.Refusal.{Refusal}
use Rattle.jm_header.specs.declared.content.Content.{Content}
use Rattle.jm_dest.specs.declared.session.SessionId.{SessionId}
use Rattle.jm_machine.specs.declared.call.Who.{Who}
use Rattle.jm_machine.specs.declared.call.Who.TheVariants.{Session}
use Rattle.jm_machine.specs.declared.call.Call.TheVariants.{Publish, Commit}
use Rattle.jm_machine.specs.declared.answer.Answer.TheVariants.{Done}
use Rattle.jm_machine.specs.declared.call.Call.{Call}
use Rattle.jm_machine.specs.declared.answer.Answer.{Answer}
use Rattle.jm_machine.specs.Machine.{State, reply, step}
use Rattle.jm_machine.specs.Wants.{is_want, may_want}

-- a step answers the machine's reply and leaves the machine's state; or it wants memory, only where the call
-- takes memory, and leaves the state as before
abbrev pub StepFits : State → Who → Call → Result Answer Refusal → State → Type 0
StepFits old who call result new =
    MatchBool (is_want result)
    ((may_want old who call ≡ true) × (new ≡ old))
    ((result ≡ reply old who call) × (new ≡ step old who call))

-- the reply to a publication or a commit that ended so
abbrev pub published_reply : Result (Unit {0}) Refusal → Result Answer Refusal
published_reply (Ok u) = Ok Done
published_reply (Err r) = Err r

-- what a publication by a session owes
abbrev pub PublishFits : State → SessionId → List Content → Result (Unit {0}) Refusal → State → Type 0
PublishFits old s messages result new = StepFits old (Session s) (Publish messages) (published_reply result) new

-- what a commit by a session owes
abbrev pub CommitFits : State → SessionId → List Content → Result (Unit {0}) Refusal → State → Type 0
CommitFits old s messages result new = StepFits old (Session s) (Commit messages) (published_reply result) new
