-- How a command of the program ends (ours).
use Rattle.std.specs.Prelude.{◌≡◌, ℕ, List, Option, None, Some, Result, MatchOption, MatchResult, string_bytes}
use Rattle.jm_play.specs.Faults.{status_of_fault}
use Rattle.jm_play.specs.Sink.{Prints}
use Rattle.jm_play.specs.declared.ending.Ending.{Ending}
use Rattle.jm_play.specs.declared.ending.Printout.{Printout}
use Rattle.jm_play.specs.declared.fault.Fault.{Fault}
use Rattle.jm_play.specs.declared.sink.Sink.{Sink}

-- a command ends: it prints a text that it has to tell, with the exit status; or it has a fault, with that fault's exit
-- status, and writes nothing
abbrev pub Ends : {W : Type 0} → (List ℕ → ℕ → Type 0) → (Fault → Type 0) → (W → Option (List ℕ)) → Sink W → Sink W → Ending → Type 0
Ends Tells Refuses contents old new ending =
    MatchOption ending.fault
    ((text : List ℕ) × (status : ℕ) × Tells text status × Prints contents old new text status ending.status)
    (λ fault. Refuses fault × (ending.status ≡ status_of_fault fault) × (new ≡ old))

-- the ending of a printout, or of a fault
abbrev pub EndsOf : {W : Type 0} → Result Printout Fault → (W → Option (List ℕ)) → Sink W → Sink W → Ending → Type 0
EndsOf told contents old new ending =
    MatchResult told
    (λ printout. (ending.fault ≡ None) × Prints contents old new (string_bytes printout.text) printout.status ending.status)
    (λ fault. (ending ≡ record { status = status_of_fault fault; fault = Some fault }) × (new ≡ old))

-- what a command has to tell: a text with its exit status, or a fault
abbrev pub ToldBy : (List ℕ → ℕ → Type 0) → (Fault → Type 0) → Result Printout Fault → Type 0
ToldBy Tells Refuses told = MatchResult told (λ printout. Tells (string_bytes printout.text) printout.status) Refuses
