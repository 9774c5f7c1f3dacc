-- What holds of every message that there is, so that its record has one meaning.
use Rattle.std.specs.Prelude.{◌≡◌, ℕ, ◌<◌, ◌≤◌, false, IsTrue, List, length, IfSome, slice_index, FitsSigned}
use Rattle.std.specs.Int.{w8, w16, w32, w64}
use Rattle.std.specs.List.{AllByRecursion}
use Rattle.std.specs.Str.{is_utf8}
use Rattle.jm_dest.specs.Names.{is_name}
use Rattle.jm_dest.specs.Numbers.{long_end}
use Rattle.jm_header.specs.declared.body.Body.{Body}
use Rattle.jm_header.specs.declared.body.Body.TheVariants.{None as no_body, Text as text_body, Bytes as bytes_body}
use Rattle.jm_header.specs.declared.content.Content.{Content}
use Rattle.jm_header.specs.declared.content.Sender.{Sender}
use Rattle.jm_header.specs.Valid.{IsValid}
use Rattle.jm_property.specs.declared.property.Property.{Property}
use Rattle.jm_property.specs.declared.property.Property.TheVariants.{Bool as Truth, Byte, Short, Int, Long, Text}
use Rattle.jm_property.specs.Properties.{Table, IsTable}
use Rattle.jm_format.specs.Limits.{number_end, length_end}
use Rattle.jm_format.specs.Format.{name_of}

-- a number of an opening, a connection or a session
pub record IsNumber (n : ℕ) : Type 0 where
  pub positive : 1 ≤ n
  pub short : n < number_end

-- the session that sent a message, and the opening in which it did
pub record IsSender (sender : Sender) : Type 0 where
  pub opening : IsNumber sender.opening
  pub connection : IsNumber sender.session.connection
  pub session : IsNumber sender.session.number

-- each is a byte
abbrev pub AreBytes : List ℕ → Type 0
AreBytes bytes = (i : ℕ) → slice_index bytes i < 256

-- bytes whose length is a number of 8 bytes
pub record IsBlock (bytes : List ℕ) : Type 0 where
  pub each : AreBytes bytes
  pub short : length bytes < length_end

-- a text whose length is a number of 8 bytes
pub record IsText (bytes : List ℕ) : Type 0 where
  pub utf8 : IsTrue (is_utf8 bytes)
  pub short : length bytes < length_end

-- the name of a destination
pub record IsName (bytes : List ℕ) : Type 0 where
  pub text : IsText bytes
  pub allowed : IsTrue (is_name bytes)

-- a body: none, a text or bytes
abbrev pub IsBody : Body → Type 0
IsBody no_body = Unit {0}
IsBody (text_body text) = IsText text
IsBody (bytes_body bytes) = IsBlock bytes

-- a value of the type of a property
abbrev pub IsValue : Property → Type 0
IsValue (Truth value) = Unit {0}
IsValue (Byte value) = FitsSigned w8 value
IsValue (Short value) = FitsSigned w16 value
IsValue (Int value) = FitsSigned w32 value
IsValue (Long value) = FitsSigned w64 value
IsValue (Text text) = IsText text

-- a property: its name is a text, and its value is one of its type
pub record IsProperty (property : List ℕ × Property) : Type 0 where
  pub name : IsText property.0
  pub value : IsValue property.1

-- the properties of a message: each name is there once, with a value that it may have
pub record AreProperties (properties : Table) : Type 0 where
  pub table : IsTable properties
  pub each : AllByRecursion IsProperty properties
  pub short : length properties < length_end

-- a message: its numbers, moments and names are within their limits
pub record IsMessage (m : Content) : Type 0 where
  pub valid : IsValid m
  pub sender : IsSender m.sender
  pub timestamp : m.timestamp < long_end
  pub expiration : m.expiration < long_end
  pub delivery_time : m.delivery_time < long_end
  pub destination : IsName (name_of m.destination)
  pub correlation : IfSome m.correlation IsText
  pub message_type : IfSome m.message_type IsText
  pub body : IsBody m.body
  pub properties : AreProperties m.properties

-- the message with a body and properties that may be written
abbrev pub writeable : Content → Content
writeable m = record m { is_body_read_only = false; are_properties_read_only = false }

-- the body and the properties of the message may be written
pub record IsWriteable (m : Content) : Type 0 where
  pub body : m.is_body_read_only ≡ false
  pub properties : m.are_properties_read_only ≡ false
