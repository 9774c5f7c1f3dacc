-- Which calls wake the callers that wait for a message.
use Rattle.std.specs.Prelude.{Bool, true, false, Result, Ok, Err}
use Rattle.jm_machine.specs.declared.answer.Answer.{Answer}
use Rattle.jm_machine.specs.declared.call.Call.{Call}
use Rattle.jm_machine.specs.declared.call.Call.TheVariants.{Ask, Publish, Commit}
use Rattle.jm_machine.specs.declared.call.Request.{Request}
use Rattle.jm_machine.specs.declared.call.Request.TheVariants as requests

-- after the request others may find a message, or their wait ends: deliveries begin, or rows wait again, or a consumer is gone
abbrev pub may_wake : Request → Bool
may_wake requests.Start = true
may_wake requests.Recover = true
may_wake requests.Rollback = true
may_wake (requests.Done consumer ok) = true
may_wake requests.CloseConnection = true
may_wake requests.CloseSession = true
may_wake (requests.CloseConsumer consumer) = true
may_wake request = false

-- the call is accepted, and it carries messages or is such a request
abbrev pub wakes : {E : Type 0} → Call → Result Answer E → Bool
wakes (Publish messages) (Ok answer) = true
wakes (Commit messages) (Ok answer) = true
wakes (Ask request) (Ok answer) = may_wake request
wakes call (Err error) = false
