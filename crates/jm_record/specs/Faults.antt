-- What a reader answers where a rule reads or stops, and what a refusal means for a field.
use Rattle.std.specs.Prelude.{◌≡◌, ℕ, List, Result, Ok, Err}
use Rattle.jm_base.specs.declared.refusal.Refusal.{Refusal}
use Rattle.jm_base.specs.declared.refusal.Refusal.TheVariants.{Memory as NoMemory}
use Rattle.jm_format.specs.Reading.{Outcome}
use Rattle.jm_record.specs.declared.fault.Fault.{Fault}
use Rattle.jm_record.specs.declared.fault.Fault.TheVariants.{Damaged, Memory}

-- a want of memory stays one, and a value that is refused for another cause is not allowed in its field
abbrev pub fault_of : Refusal → Fault
fault_of NoMemory = Memory
fault_of _ = Damaged

-- what a function that reads by a rule ensures: its value, seen by the view, and what it leaves are the rule's;
-- only want of memory is left open
abbrev pub Reads : {A B : Type 0} → (A → B) → Outcome B → Result A Fault → List ℕ → Type 0
Reads view outcome (Ok value) new = outcome ≡ Ok (view value, new)
Reads view outcome (Err Damaged) new = outcome ≡ Err new
Reads view outcome (Err Memory) new = Unit {0}
