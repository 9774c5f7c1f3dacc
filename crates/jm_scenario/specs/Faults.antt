-- What is told of a refused scenario (ours).
use Rattle.std.specs.Prelude.{ℕ, ◌++◌, List, codes, decimal}
use Rattle.jm_fields.specs.Fields.{told_name}
use Rattle.jm_scenario.specs.declared.scenario.ScenarioFault.{ScenarioFault}
use Rattle.jm_scenario.specs.declared.scenario.ScenarioFault.TheVariants.{Syntax, Shape, Floating, Memory}

-- the text of a fault: the step and the field where they are known
abbrev pub fault_text : ScenarioFault → List ℕ
fault_text Syntax = codes "scenario: syntax"
fault_text (Shape step field) = codes "scenario: step " ++ decimal step ++ codes ": field " ++ told_name field
fault_text (Floating step) = codes "scenario: step " ++ decimal step ++ codes ": floating"
fault_text Memory = codes "memory"
