-- The drafts that sends spell (ours).
use Rattle.std.specs.Prelude.{ℕ, ◌&&◌, not, nat_le, ℤ, pos, negsuc, int_lt, Bool, true, false, List, Option, Some, None, option_map, option_and_then, if◌then◌else◌, codes}
use Rattle.std.specs.List.{list_all}
use Rattle.std.specs.Result.{result_ok}
use Rattle.std.specs.Str.{bytes_eq}
use Rattle.serde_json.specs.Data.{Data, Items, no_items, item}
use Rattle.serde_json.specs.Find.{get, as_bool, as_number, as_u64, as_i64, as_str, as_array}
use Rattle.hex.specs.Hex.{decode_of}
use Rattle.jm_header.specs.Headers.{defaults}
use Rattle.jm_header.specs.declared.body.Body.TheVariants.{Text as TextBody, Bytes as BytesBody}
use Rattle.jm_header.specs.declared.content.DeliveryMode.{DeliveryMode}
use Rattle.jm_header.specs.declared.content.DeliveryMode.TheVariants.{Persistent, NonPersistent}
use Rattle.jm_header.specs.declared.content.Settings.{Settings}
use Rattle.jm_property.specs.Properties.{is_allowed, with_property}
use Rattle.jm_property.specs.declared.property.Property.{Property}
use Rattle.jm_property.specs.declared.property.Property.TheVariants as kind
use Rattle.jm_fields.specs.Reading.{where_true}
use Rattle.jm_fields.specs.Values.{moment}

-- a draft changed by a field that may be absent
abbrev pub changed : (Data → Settings → Option Settings) → Option Data → Settings → Option Settings
changed change None draft = Some draft
changed change (Some value) draft = change value draft

-- a priority: 0 to 9
abbrev pub priority : Data → Option ℕ
priority value = option_and_then (λ n. where_true (nat_le n 9) (Some n)) (option_and_then as_u64 (as_number value))

-- with the priority of the field `priority`
abbrev pub with_priority : Data → Settings → Option Settings
with_priority value = changed (λ found draft. option_map (λ n. record draft { priority = n }) (priority found)) (get (codes "priority") value)

-- PERSISTENT where it is true
abbrev pub mode_of : Bool → DeliveryMode
mode_of true = Persistent
mode_of false = NonPersistent

-- with the delivery mode of the field `persistent`
abbrev pub with_persistence : Data → Settings → Option Settings
with_persistence value = changed (λ found draft. option_map (λ b. record draft { mode = mode_of b }) (as_bool found)) (get (codes "persistent") value)

-- with the time to live of the field `ttl`: 0 to 2^63-1
abbrev pub with_time_to_live : Data → Settings → Option Settings
with_time_to_live value = changed (λ found draft. option_map (λ n. record draft { time_to_live = n }) (moment found)) (get (codes "ttl") value)

-- with the delivery delay of the field `delay`: 0 to 2^63-1
abbrev pub with_delivery_delay : Data → Settings → Option Settings
with_delivery_delay value = changed (λ found draft. option_map (λ n. record draft { delivery_delay = n }) (moment found)) (get (codes "delay") value)

-- with JMSCorrelationID of the field `correlation`
abbrev pub with_correlation : Data → Settings → Option Settings
with_correlation value = changed (λ found draft. option_map (λ text. record draft { correlation = Some text }) (as_str found)) (get (codes "correlation") value)

-- with JMSType of the field `type`
abbrev pub with_type : Data → Settings → Option Settings
with_type value = changed (λ found draft. option_map (λ text. record draft { message_type = Some text }) (as_str found)) (get (codes "type") value)

-- with those header fields, in that order
abbrev pub with_header : Data → Settings → Option Settings
with_header value draft =
    option_and_then (with_type value) (option_and_then (with_correlation value) (option_and_then (with_delivery_delay value)
    (option_and_then (with_time_to_live value) (option_and_then (with_persistence value) (with_priority value draft)))))

-- a byte that is no upper-case letter
abbrev pub is_no_capital : ℕ → Bool
is_no_capital byte = not (nat_le 65 byte && nat_le byte 90)

-- the bytes of pairs of lower-case hexadecimal digits
abbrev pub bytes_of : List ℕ → Option (List ℕ)
bytes_of pairs = where_true (list_all is_no_capital pairs) (result_ok (decode_of pairs))

-- with the body of a text
abbrev pub with_text : Data → Settings → Option Settings
with_text value draft = option_map (λ text. record draft { body = TextBody text }) (as_str value)

-- with the body of bytes
abbrev pub with_bytes : Data → Settings → Option Settings
with_bytes value draft = option_map (λ bytes. record draft { body = BytesBody bytes }) (option_and_then bytes_of (as_str value))

-- with the body of a text or of bytes, and not of both
abbrev pub with_one_body : Option Data → Option Data → Settings → Option Settings
with_one_body None None draft = Some draft
with_one_body (Some text) None draft = with_text text draft
with_one_body None (Some bytes) draft = with_bytes bytes draft
with_one_body (Some text) (Some bytes) draft = None

-- with the body of the field `text` or `bytes`
abbrev pub with_body : Data → Settings → Option Settings
with_body value = with_one_body (get (codes "text") value) (get (codes "bytes") value)

-- a whole number within those bounds
abbrev pub integer : ℤ → ℤ → Data → Option ℤ
integer least most value =
    option_and_then (λ n. where_true (not (int_lt n least) && not (int_lt most n)) (Some n)) (option_and_then as_i64 (as_number value))

-- a property of the type of that name: boolean, byte, short, int, long or String
abbrev pub property : List ℕ → Data → Option Property
property type_name value =
    if bytes_eq type_name (codes "boolean") then option_map kind.Bool (as_bool value) else
    (if bytes_eq type_name (codes "byte") then option_map kind.Byte (integer (negsuc 127) (pos 127) value) else
    (if bytes_eq type_name (codes "short") then option_map kind.Short (integer (negsuc 32767) (pos 32767) value) else
    (if bytes_eq type_name (codes "int") then option_map kind.Int (integer (negsuc 2147483647) (pos 2147483647) value) else
    (if bytes_eq type_name (codes "long") then option_map kind.Long (option_and_then as_i64 (as_number value)) else
    (if bytes_eq type_name (codes "String") then option_map kind.Text (as_str value) else None)))))

-- with a property, where its name may have that value
abbrev pub with_allowed : List ℕ → Settings → Property → Option Settings
with_allowed name draft value =
    where_true (is_allowed name value) (Some (record draft { properties = with_property draft.properties name value }))

-- with the property of that name, type and value
abbrev pub with_named : Data → Data → Data → Settings → Option Settings
with_named name type_name value draft =
    option_and_then (λ n. option_and_then (λ t. option_and_then (with_allowed n draft) (property t value)) (as_str type_name)) (as_str name)

-- with the property of three items: a name, a type and a value
abbrev pub with_three : Items → Settings → Option Settings
with_three (item name (item type_name (item value no_items))) draft = with_named name type_name value draft
with_three _ draft = None

-- with the property of an array
abbrev pub with_entry : Data → Settings → Option Settings
with_entry entry draft = option_and_then (λ items. with_three items draft) (as_array entry)

-- with the properties of the items, in order
abbrev pub with_entries : Items → Settings → Option Settings
with_entries no_items draft = Some draft
with_entries (item entry entries) draft = option_and_then (with_entries entries) (with_entry entry draft)

-- with the properties of the field `props`
abbrev pub with_properties : Data → Settings → Option Settings
with_properties value =
    changed (λ found draft. option_and_then (λ entries. with_entries entries draft) (as_array found)) (get (codes "props") value)

-- with what a send spells: its header fields, then its properties, then its body
abbrev pub changed_draft : Data → Settings → Option Settings
changed_draft value draft = option_and_then (with_body value) (option_and_then (with_properties value) (with_header value draft))

-- the draft of a send
abbrev pub draft : Data → Option Settings
draft value = changed_draft value defaults
