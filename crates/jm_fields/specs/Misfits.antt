-- Why the value of a field is not read (ours).
use Rattle.std.specs.Prelude.{Bool, false, Option, Some, None, is_some, option_map, unwrap_or, if◌then◌else◌}
use Rattle.serde_json.specs.Data.{Data, Items, no_items, item}
use Rattle.serde_json.specs.Find.{get, as_number, as_array, is_float}
use Rattle.jm_fields.specs.Fields.{field_name}
use Rattle.jm_fields.specs.Values.{number}
use Rattle.jm_fields.specs.declared.field.Field.{Field}
use Rattle.jm_fields.specs.declared.field.Field.TheVariants.{Session, Queue, Topic}
use Rattle.jm_fields.specs.declared.misfit.Misfit.{Misfit}
use Rattle.jm_fields.specs.declared.misfit.Misfit.TheVariants.{Shape, Floating}

-- a number that is no whole number of 64 bits
abbrev pub is_floating : Data → Bool
is_floating value = unwrap_or (option_map is_float (as_number value)) false

-- a value that its field cannot have: it is such a number, or of another type, or out of its range
abbrev pub misfit : Field → Data → Misfit
misfit field value = if is_floating value then Floating else Shape field

-- the same of a value that has to stand: it may be missing
abbrev pub misfit_or_missing : Field → Option Data → Misfit
misfit_or_missing field None = Shape field
misfit_or_missing field (Some value) = misfit field value

-- the same of the field of an object
abbrev pub misfit_in : Field → Data → Misfit
misfit_in field value = misfit_or_missing field (get (field_name field) value)

-- two values that are not the numbers of a session: the first of them that is none
abbrev pub misfit_of_numbers : Data → Data → Misfit
misfit_of_numbers connection n = misfit Session (if is_some (number connection) then n else connection)

-- an array that is no session
abbrev pub misfit_of_items : Items → Misfit
misfit_of_items (item connection (item n no_items)) = misfit_of_numbers connection n
misfit_of_items _ = Shape Session

-- a value that is no session: no array, or one that is none
abbrev pub misfit_of_array : Data → Option Items → Misfit
misfit_of_array value None = misfit Session value
misfit_of_array value (Some items) = misfit_of_items items

-- the same of a value that has to stand
abbrev pub misfit_of_session : Option Data → Misfit
misfit_of_session None = Shape Session
misfit_of_session (Some value) = misfit_of_array value (as_array value)

-- values of which not exactly one names a queue or a topic: one that is no name, or both, or none
abbrev pub misfit_of_destination : Option Data → Option Data → Misfit
misfit_of_destination None None = Shape Queue
misfit_of_destination (Some queue) None = misfit Queue queue
misfit_of_destination None (Some topic) = misfit Topic topic
misfit_of_destination (Some queue) (Some topic) = Shape Queue
