-- What a step with a keeper owes.
use Rattle.std.specs.Prelude.{◌≡◌, Result, MatchBool}
use Rattle.jm_base.specs.declared.refusal.Refusal.{Refusal}
use Rattle.jm_machine.specs.declared.answer.Answer.{Answer}
use Rattle.jm_machine.specs.declared.call.Who.{Who}
use Rattle.jm_machine.specs.declared.call.Call.{Call}
use Rattle.jm_machine.specs.Entries.{is_not_made}
use Rattle.jm_machine.specs.Machine.{State, reply, step}

-- a step answers the machine's reply and leaves the machine's state; or it counts as not made, since memory was wanted or
-- the keeper refused, and the state is as before
abbrev pub KeptFits : State → Who → Call → Result Answer Refusal → State → Type 0
KeptFits old who call result new =
    MatchBool (is_not_made result)
    (new ≡ old)
    ((result ≡ reply old who call) × (new ≡ step old who call))
