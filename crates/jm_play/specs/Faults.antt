-- What is told of a fault, and the exit status with which it ends the program (ours).
use Rattle.std.specs.Prelude.{ℕ, ◌++◌, List, codes, decimal}
use Rattle.std.specs.Fmt.{signed_decimal}
use Rattle.jm_base.specs.Shown.{cause_name}
use Rattle.jm_scenario.specs.Faults.{fault_text as scenario_fault_text}
use Rattle.jm_play.specs.declared.database.DatabaseFault.{DatabaseFault}
use Rattle.jm_play.specs.declared.database.DatabaseFault.TheVariants.{Damaged, Version, Exhausted, Failed}
use Rattle.jm_play.specs.declared.fault.Fault.{Fault}
use Rattle.jm_play.specs.declared.fault.Fault.TheVariants.{File, Scenario, Selector, Key, Database, Memory}
use Rattle.jm_play.specs.declared.fault.KeyFault.{KeyFault}
use Rattle.jm_play.specs.declared.fault.KeyFault.TheVariants.{Syntax, NotUnshared}

-- the text of a key's fault
abbrev pub key_fault_text : KeyFault → List ℕ
key_fault_text Syntax = codes "key: syntax"
key_fault_text NotUnshared = codes "key: not an unshared subscription"

-- the text of a fault of the store's database
abbrev pub database_fault_text : DatabaseFault → List ℕ
database_fault_text Damaged = codes "store: damaged"
database_fault_text (Version n) = codes "store: version " ++ signed_decimal n
database_fault_text Exhausted = codes "store: exhausted"
database_fault_text Failed = codes "store: failed"

-- the text of a fault
abbrev pub fault_text : Fault → List ℕ
fault_text File = codes "file: not readable"
fault_text (Scenario fault) = scenario_fault_text fault
fault_text (Selector cause at) = codes "selector: " ++ cause_name cause ++ codes " at " ++ decimal at
fault_text (Key fault) = key_fault_text fault
fault_text (Database fault) = database_fault_text fault
fault_text Memory = codes "memory"

-- the line of a fault: its text and a line feed
abbrev pub fault_line : Fault → List ℕ
fault_line fault = fault_text fault ++ codes "\n"

-- the exit status of a fault: 3 where memory is refused or the store was not opened, and else 1
abbrev pub status_of_fault : Fault → ℕ
status_of_fault File = 1
status_of_fault (Scenario fault) = 1
status_of_fault (Selector cause at) = 1
status_of_fault (Key fault) = 1
status_of_fault (Database fault) = 3
status_of_fault Memory = 3
