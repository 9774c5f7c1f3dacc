-- The properties of a message, as names with values in the order of first setting.
use Rattle.std.specs.Prelude.{◌≡◌, ℕ, Bool, false, ◌&&◌, ◌||◌, not, IsTrue, if◌then◌else◌, List, [], ◌∷◌, nat_eq, codes, Option, Some, None, Result, Err}
use Rattle.std.specs.List.{starts_with}
use Rattle.std.specs.Option.{ok_or}
use Rattle.std.specs.Str.{bytes_eq}
use Rattle.jm_base.specs.declared.refusal.MessageFault.{MessageFault}
use Rattle.jm_base.specs.declared.refusal.MessageFault.TheVariants.{Unset, BadName, MessageFormat, Memory}
use Rattle.jm_property.specs.declared.property.Property.{Property}
use Rattle.jm_property.specs.declared.property.Property.TheVariants.{Bool as Truth, Byte, Short, Int, Long, Text}
use Rattle.jm_property.specs.Identifiers.{is_identifier}

-- the properties of a message: each name with its value
abbrev pub Table : Type 0
Table = List (List ℕ × Property)

-- the two properties with a name of the provider's that a client may set: JMSXGroupID, a text, and
-- JMSXGroupSeq, an int
abbrev pub is_group_property : List ℕ → Property → Bool
is_group_property name (Truth _) = false
is_group_property name (Byte _) = false
is_group_property name (Short _) = false
is_group_property name (Int _) = bytes_eq name (codes "JMSXGroupSeq")
is_group_property name (Long _) = false
is_group_property name (Text _) = bytes_eq name (codes "JMSXGroupID")

-- a client may set this value under this name: an identifier, and of those that begin with `JMS` only
-- the two of a message group
abbrev pub is_allowed : List ℕ → Property → Bool
is_allowed name value =
    is_identifier name && (not (starts_with nat_eq name (codes "JMS")) || is_group_property name value)

-- a client may set some value under this name: an identifier, and of those that begin with `JMS` only the
-- two of a message group
abbrev pub is_settable : List ℕ → Bool
is_settable name =
    is_identifier name && (not (starts_with nat_eq name (codes "JMS")) || bytes_eq name (codes "JMSXGroupID") || bytes_eq name (codes "JMSXGroupSeq"))

-- the value under the name, where there is one
abbrev pub value_of : Table → List ℕ → Option Property
value_of [] name = None
value_of (entry ∷ rest) name = if bytes_eq name entry.0 then Some entry.1 else value_of rest name

-- the properties once the name is set: a name that is there keeps its place, and a new one goes last
abbrev pub with_property : Table → List ℕ → Property → Table
with_property [] name value = (name, value) ∷ []
with_property (entry ∷ rest) name value =
    if bytes_eq name entry.0 then (entry.0, value) ∷ rest else entry ∷ with_property rest name value

-- each name is there once, with a value that it may have
abbrev pub IsTable : Table → Type 0
IsTable [] = Unit {0}
IsTable (entry ∷ rest) = (value_of rest entry.0 ≡ None) × IsTrue (is_allowed entry.0 entry.1) × IsTable rest

-- what a read answers: Unset where there is no such property, MessageFormat where it does not convert
abbrev pub read_as : {T : Type 0} → (Property → Option T) → Option Property → Result T MessageFault
read_as convert None = Err Unset
read_as convert (Some property) = ok_or (convert property) MessageFormat

-- why setting is refused: BadName where the name may not have that value, else Memory
abbrev pub set_fault : List ℕ → Property → MessageFault
set_fault name value = if is_allowed name value then Memory else BadName
