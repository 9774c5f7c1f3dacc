-- Which refusal a fault of a message comes nearest to.
use Rattle.jm_base.specs.declared.refusal.Refusal.{Refusal}
use Rattle.jm_base.specs.declared.refusal.Refusal.TheVariants as refusals
use Rattle.jm_base.specs.declared.refusal.MessageFault.{MessageFault}
use Rattle.jm_base.specs.declared.refusal.MessageFault.TheVariants.{NotWriteable, Unset, BadName, OutOfRange, MessageFormat, Memory}

-- a message that is read-only is in no state for a write, and a property that is not there is of no type; the others have
-- their names
abbrev pub refusal_of : MessageFault → Refusal
refusal_of NotWriteable = refusals.IllegalState
refusal_of Unset = refusals.MessageFormat
refusal_of BadName = refusals.BadName
refusal_of OutOfRange = refusals.OutOfRange
refusal_of MessageFormat = refusals.MessageFormat
refusal_of Memory = refusals.Memory
