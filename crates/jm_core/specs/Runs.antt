-- How far a run of the core has come, and which requests end transactions.
use Rattle.std.specs.Prelude.{Bool, true, false}
use Rattle.jm_tx.specs.declared.halves.Halves.{Halves}
use Rattle.jm_tx.specs.Halves.{sent_of, kept_of}
use Rattle.jm_machine.specs.declared.call.Request.{Request}
use Rattle.jm_machine.specs.declared.call.Request.TheVariants.{CloseConnection, CloseSession, Rollback}
use Rattle.jm_machine.specs.Machine.{State}
use Rattle.jm_machine.specs.Client.{Progress}

-- how far a run has come: the state, how many sends of each session were stamped, and what each sent in its transaction
abbrev pub progress : State → Halves → Progress
progress state halves = record { state = state; sent = sent_of halves; kept = kept_of halves }

-- a request closes the connection by which it is made
abbrev pub closes_connection : Request → Bool
closes_connection CloseConnection = true
closes_connection request = false

-- a request ends the transaction of the session by which it is made
abbrev pub ends_transaction : Request → Bool
ends_transaction CloseSession = true
ends_transaction Rollback = true
ends_transaction request = false
