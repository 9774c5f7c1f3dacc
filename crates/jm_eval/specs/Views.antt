-- What a selector sees of a message (Jakarta Messaging 3.1, section 3.8.1).
use Rattle.std.specs.Prelude.{ℕ, pos, List, Option, Some, None, codes}
use Rattle.jm_header.specs.declared.content.Content.{Content}
use Rattle.jm_header.specs.declared.content.DeliveryMode.{DeliveryMode}
use Rattle.jm_header.specs.declared.content.DeliveryMode.TheVariants.{NonPersistent, Persistent}
use Rattle.jm_property.specs.declared.property.Property.{Property}
use Rattle.jm_property.specs.declared.property.Property.TheVariants as properties
use Rattle.jm_property.specs.Properties.{value_of}
use Rattle.jm_tree.specs.declared.identifier.Field.{Field}
use Rattle.jm_tree.specs.declared.identifier.Field.TheVariants as fields
use Rattle.jm_tree.specs.Names.{field_of}
use Rattle.jm_header.specs.MessageIds.{message_id}
use Rattle.jm_eval.specs.Values.{Value, Unknown, Boolean, Number, Text}

-- a delivery mode as a text
abbrev pub mode_text : DeliveryMode → List ℕ
mode_text Persistent = codes "PERSISTENT"
mode_text NonPersistent = codes "NON_PERSISTENT"

-- a text where it is set, else NULL
abbrev pub text_or_null : Option (List ℕ) → Value
text_or_null None = Unknown
text_or_null (Some text) = Text text

-- the value of a header field
abbrev pub field_value : Content → Field → Value
field_value message fields.DeliveryMode = Text (mode_text message.mode)
field_value message fields.Priority = Number (pos message.priority)
field_value message fields.Timestamp = Number (pos message.timestamp)
field_value message fields.MessageId = Text (message_id message)
field_value message fields.CorrelationId = text_or_null message.correlation
field_value message fields.Type = text_or_null message.message_type

-- the value of a property: a boolean is a truth value, a byte, short, int or long a whole number, and
-- a String a text
abbrev pub property_value : Property → Value
property_value (properties.Bool value) = Boolean value
property_value (properties.Byte value) = Number value
property_value (properties.Short value) = Number value
property_value (properties.Int value) = Number value
property_value (properties.Long value) = Number value
property_value (properties.Text text) = Text text

-- the value of a property where it is set, else NULL
abbrev pub property_or_null : Option Property → Value
property_or_null None = Unknown
property_or_null (Some property) = property_value property

-- the value of a header field, or of the property of that name where there is no such field
abbrev pub value_of_field : Content → List ℕ → Option Field → Value
value_of_field message name (Some field) = field_value message field
value_of_field message name None = property_or_null (value_of message.properties name)

-- the view of a message: what each identifier stands for, UNKNOWN where it is NULL
unfoldable pub view : Content → List ℕ → Value
view message name = value_of_field message name (field_of name)
