-- The record of a message: its fields in order, one after another. A message without a delivery delay has one of version
-- 1; a delayed one has one of version 2, in which the delivery time stands behind the expiration. Numbers are big-endian.
-- A text is its length in 8 bytes and its UTF-8, which together are one field, and so are the bytes of a body.
use Rattle.std.specs.Prelude.{ℕ, Bool, if◌then◌else◌, List, [], ◌∷◌, ◌++◌, length, Option, Some, None}
use Rattle.std.specs.Int.{w8, w16, w32, w64, to_be_bytes, cast_unsigned}
use Rattle.std.specs.List.{concat, flat_map}
use Rattle.jm_dest.specs.declared.destination.Destination.{Destination}
use Rattle.jm_dest.specs.declared.destination.Destination.TheVariants.{Queue, Topic}
use Rattle.jm_header.specs.declared.body.Body.{Body}
use Rattle.jm_header.specs.declared.body.Body.TheVariants.{None as no_body, Text as text_body, Bytes as bytes_body}
use Rattle.jm_header.specs.declared.content.Content.{Content}
use Rattle.jm_header.specs.declared.content.Sender.{Sender}
use Rattle.jm_header.specs.declared.content.DeliveryMode.{DeliveryMode}
use Rattle.jm_header.specs.declared.content.DeliveryMode.TheVariants.{Persistent, NonPersistent}
use Rattle.jm_header.specs.Headers.{is_delayed}
use Rattle.jm_property.specs.declared.property.Property.{Property}
use Rattle.jm_property.specs.declared.property.Property.TheVariants.{Bool as Truth, Byte, Short, Int, Long, Text}
use Rattle.jm_property.specs.Properties.{Table}

-- a field of one byte
abbrev pub byte : ℕ → List ℕ
byte n = n ∷ []

-- a field of a length and as many bytes
abbrev pub block : List ℕ → List ℕ
block bytes = to_be_bytes w64 (length bytes) ++ bytes

-- a mark and, where there is a text, the text
abbrev pub optional : Option (List ℕ) → List (List ℕ)
optional None = byte 0 ∷ []
optional (Some text) = byte 1 ∷ block text ∷ []

-- ---- the fields of a message

-- the version of the record of a message that is delayed or not
abbrev pub version_of : Bool → ℕ
version_of delayed = if delayed then 2 else 1

-- the version of the record
abbrev pub version : Content → List ℕ
version m = byte (version_of (is_delayed m))

-- the opening of the provider in which the message was sent
abbrev pub opening : Content → List ℕ
opening m = to_be_bytes w32 m.sender.opening

-- the connection of the session that sent it
abbrev pub connection : Content → List ℕ
connection m = to_be_bytes w32 m.sender.session.connection

-- the number of that session in its connection
abbrev pub session : Content → List ℕ
session m = to_be_bytes w32 m.sender.session.number

-- the opening, the connection and the session
abbrev pub sender_fields : Sender → List (List ℕ)
sender_fields sender =
    to_be_bytes w32 sender.opening ∷ to_be_bytes w32 sender.session.connection ∷ to_be_bytes w32 sender.session.number ∷ []

-- the number of the send
abbrev pub number : Content → List ℕ
number m = to_be_bytes w64 m.number

-- JMSTimestamp
abbrev pub timestamp : Content → List ℕ
timestamp m = to_be_bytes w64 m.timestamp

-- JMSExpiration
abbrev pub expiration : Content → List ℕ
expiration m = to_be_bytes w64 m.expiration

-- JMSDeliveryTime, which stands in the record of a delayed message alone
abbrev pub delivery_time : Content → List (List ℕ)
delivery_time m = if is_delayed m then to_be_bytes w64 m.delivery_time ∷ [] else []

-- the byte of a delivery mode
abbrev pub mode_byte : DeliveryMode → ℕ
mode_byte NonPersistent = 0
mode_byte Persistent = 1

-- JMSDeliveryMode
abbrev pub mode : Content → List ℕ
mode m = byte (mode_byte m.mode)

-- JMSPriority
abbrev pub priority : Content → List ℕ
priority m = byte m.priority

-- the byte of the kind of a destination
abbrev pub kind_byte : Destination → ℕ
kind_byte (Queue name) = 0
kind_byte (Topic name) = 1

-- the name of a destination
abbrev pub name_of : Destination → List ℕ
name_of (Queue name) = name
name_of (Topic name) = name

-- whether JMSDestination is a queue or a topic
abbrev pub destination_kind : Content → List ℕ
destination_kind m = byte (kind_byte m.destination)

-- the name of JMSDestination
abbrev pub destination_name : Content → List ℕ
destination_name m = block (name_of m.destination)

-- the kind and the name of a destination
abbrev pub destination_fields : Destination → List (List ℕ)
destination_fields destination = byte (kind_byte destination) ∷ block (name_of destination) ∷ []

-- JMSCorrelationID: a mark, and the text
abbrev pub correlation : Content → List (List ℕ)
correlation m = optional m.correlation

-- JMSType: a mark, and the text
abbrev pub message_type : Content → List (List ℕ)
message_type m = optional m.message_type

-- a tag, and the text or the bytes
abbrev pub body_fields : Body → List (List ℕ)
body_fields no_body = byte 0 ∷ []
body_fields (text_body text) = byte 1 ∷ block text ∷ []
body_fields (bytes_body bytes) = byte 2 ∷ block bytes ∷ []

-- the body: a tag, and the text or the bytes
abbrev pub body : Content → List (List ℕ)
body m = body_fields m.body

-- how many properties there are
abbrev pub property_count : Content → List ℕ
property_count m = to_be_bytes w64 (length m.properties)

-- the tag of the type of a property
abbrev pub property_tag : Property → ℕ
property_tag (Truth value) = 1
property_tag (Byte value) = 2
property_tag (Short value) = 3
property_tag (Int value) = 4
property_tag (Long value) = 5
property_tag (Text text) = 6

-- the value of a property: a boolean is 0 or 1, a number in two's complement
abbrev pub property_value : Property → List ℕ
property_value (Truth value) = byte (if value then 1 else 0)
property_value (Byte value) = byte (cast_unsigned w8 value)
property_value (Short value) = to_be_bytes w16 (cast_unsigned w16 value)
property_value (Int value) = to_be_bytes w32 (cast_unsigned w32 value)
property_value (Long value) = to_be_bytes w64 (cast_unsigned w64 value)
property_value (Text text) = block text

-- the tag and the value of a property
abbrev pub tagged_value : Property → List ℕ
tagged_value property = byte (property_tag property) ++ property_value property

-- a property: its name, its tag and its value
abbrev pub property_fields : List ℕ × Property → List (List ℕ)
property_fields property = block property.0 ∷ byte (property_tag property.1) ∷ property_value property.1 ∷ []

-- the properties, in the order of first setting
abbrev pub properties : Content → List (List ℕ)
properties m = flat_map property_fields m.properties

-- how many properties there are, and the properties
abbrev pub table_fields : Table → List (List ℕ)
table_fields table = to_be_bytes w64 (length table) ∷ flat_map property_fields table

-- ---- the record

-- the fields of a message's record, in order
abbrev pub fields : Content → List (List ℕ)
fields m =
    version m ∷ opening m ∷ connection m ∷ session m ∷ number m ∷ timestamp m ∷ expiration m
    ∷ (delivery_time m ++ mode m ∷ priority m ∷ destination_kind m ∷ destination_name m
    ∷ (correlation m ++ (message_type m ++ (body m ++ property_count m ∷ properties m))))

-- the record of a message: its fields in a row
unfoldable pub «record» : Content → List ℕ
«record» m = concat (fields m)
