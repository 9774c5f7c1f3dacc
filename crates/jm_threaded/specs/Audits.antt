-- What an audit says of the passes of a run (ours).
use Rattle.std.specs.Prelude.{◌≡◌, ℕ, true, List, Result, OnOk, IfErr}
use Rattle.jm_machine.specs.Isolation.{IsLegal, after_events}
use Rattle.jm_machine.specs.Machine.{State}
use Rattle.jm_machine.specs.declared.entry.Event.{Event}
use Rattle.jm_audit.specs.Audit.{segment, Agree, EachOnce, IsFault, Rise}
use Rattle.jm_audit.specs.Passes.{Calls}
use Rattle.jm_audit.specs.declared.audit.FinishFault.{FinishFault}

-- the events are legal from the opening and end in that state, and the verdict is that of an audit of the passes beside them, of
-- which the first has that position: where it is Ok, each event is one entry of one pass, and in each pass the positions
-- rise; else it names the first fault, or memory was wanted
pub record Audits {A : Type 0} (opening : State) (first : ℕ) (events : List Event) (passes : List Calls) (verdict : Result A FinishFault) (end : State) : Type 0 where
  pub legal : IsLegal opening events
  pub ends : end ≡ after_events opening events
  pub agree : OnOk verdict (Agree (segment first events true) passes)
  pub once : OnOk verdict (EachOnce (segment first events true) passes)
  pub rise : OnOk verdict (Rise (segment first events true) passes)
  pub fault : IfErr verdict (λ fault. IsFault (segment first events true) passes fault)
