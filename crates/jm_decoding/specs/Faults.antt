-- What a refusal of a value means for its row.
use Rattle.jm_base.specs.declared.refusal.Refusal.{Refusal}
use Rattle.jm_base.specs.declared.refusal.Refusal.TheVariants.{Memory as NoMemory}
use Rattle.jm_decoding.specs.declared.fault.RowFault.{RowFault}
use Rattle.jm_decoding.specs.declared.fault.RowFault.TheVariants.{Damaged, Memory}

-- a want of memory stays one, and a value that is refused for another cause is damaged
abbrev pub fault_of : Refusal → RowFault
fault_of NoMemory = Memory
fault_of _ = Damaged
