-- Faults of a text, and what is answered where memory may run out.
use Rattle.std.specs.Prelude.{◌≡◌, ◌≢◌, ℕ, Result, Ok, Err}
use Rattle.jm_base.specs.declared.refusal.Cause.{Cause}
use Rattle.jm_base.specs.declared.refusal.Cause.TheVariants as causes
use Rattle.jm_lexer.specs.declared.fault.SyntaxFault.{SyntaxFault}

-- the fault of this cause at this offset
abbrev pub fault_at : ℕ → Cause → SyntaxFault
fault_at at cause = record { at = at; cause = cause }

-- an answer, unless memory runs out
abbrev pub Gives : {A : Type 0} → Result A SyntaxFault → Result A SyntaxFault → Type 0
Gives (Ok a) found = found ≡ Ok a
Gives (Err e) found = e.cause ≢ causes.Memory → found ≡ Err e
