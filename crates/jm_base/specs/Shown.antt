-- The words for refusals (ours; the names are those of the exceptions of Jakarta Messaging where it has one).
use Rattle.std.specs.Prelude.{ℕ, ◌++◌, List, codes, decimal}
use Rattle.jm_base.specs.declared.refusal.Cause.{Cause}
use Rattle.jm_base.specs.declared.refusal.Cause.TheVariants.{Token, Expected, Kind, Number, Floating, TooLong, TooDeep, Memory as NoMemory}
use Rattle.jm_base.specs.declared.refusal.Refusal.{Refusal}
use Rattle.jm_base.specs.declared.refusal.Refusal.TheVariants.{IllegalState, BadName, OutOfRange, MessageFormat, InvalidDestination, InvalidSelector, InvalidClientId, SubscriptionInUse, Exhausted, Memory, Store}

-- the name of the cause of a refused selector
abbrev pub cause_name : Cause → List ℕ
cause_name Token = codes "Token"
cause_name Expected = codes "Expected"
cause_name Kind = codes "Kind"
cause_name Number = codes "Number"
cause_name Floating = codes "Floating"
cause_name TooLong = codes "TooLong"
cause_name TooDeep = codes "TooDeep"
cause_name NoMemory = codes "Memory"

-- the name of a refusal, and for a selector its cause and offset
abbrev pub refusal_name : Refusal → List ℕ
refusal_name IllegalState = codes "IllegalState"
refusal_name BadName = codes "BadName"
refusal_name OutOfRange = codes "OutOfRange"
refusal_name MessageFormat = codes "MessageFormat"
refusal_name InvalidDestination = codes "InvalidDestination"
refusal_name (InvalidSelector at cause) = codes "InvalidSelector " ++ cause_name cause ++ codes " " ++ decimal at
refusal_name InvalidClientId = codes "InvalidClientId"
refusal_name SubscriptionInUse = codes "SubscriptionInUse"
refusal_name Exhausted = codes "Exhausted"
refusal_name Memory = codes "Memory"
refusal_name Store = codes "Store"
