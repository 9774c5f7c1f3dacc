-- Reading a record from the left, field by field: each field, and each part of a message, has a rule.
use Rattle.std.specs.Prelude.{ℕ, zero, suc, ◌-◌, Bool, true, false, ◌&&◌, ◌||◌, ◌==◌, nat_lt, nat_le, if◌then◌else◌, List, [], ◌∷◌, ◌++◌, length, take, drop, Option, Some, None, is_none, Result, Ok, Err, codes}
use Rattle.std.specs.Int.{Width, w8, w16, w32, w64, byte_len, from_be_bytes, cast_signed}
use Rattle.std.specs.Str.{is_utf8, bytes_eq}
use Rattle.jm_dest.specs.Names.{is_name}
use Rattle.jm_dest.specs.Numbers.{long_end}
use Rattle.jm_dest.specs.declared.destination.Destination.{Destination}
use Rattle.jm_dest.specs.declared.destination.Destination.TheVariants.{Queue, Topic}
use Rattle.jm_header.specs.declared.body.Body.{Body}
use Rattle.jm_header.specs.declared.body.Body.TheVariants.{None as no_body, Text as text_body, Bytes as bytes_body}
use Rattle.jm_header.specs.declared.content.Content.{Content}
use Rattle.jm_header.specs.declared.content.DeliveryMode.{DeliveryMode}
use Rattle.jm_header.specs.declared.content.DeliveryMode.TheVariants.{Persistent, NonPersistent}
use Rattle.jm_header.specs.declared.content.Sender.{Sender}
use Rattle.jm_property.specs.declared.property.Property.{Property}
use Rattle.jm_property.specs.declared.property.Property.TheVariants.{Bool as Truth, Byte, Short, Int, Long, Text}
use Rattle.jm_property.specs.Properties.{Table, is_settable, value_of}
use Rattle.jm_format.specs.Limits.{greatest}

-- what comes of reading: a value and the bytes after it, or the bytes from the field on that is cut or not allowed
abbrev pub Outcome : Type 0 → Type 0
Outcome A = Result (A × List ℕ) (List ℕ)

-- a rule gives each list of bytes its outcome
abbrev pub Rule : Type 0 → Type 0
Rule A = List ℕ → Outcome A

-- after a value, the rule that it chooses reads on; a stop stays
abbrev pub and_then : {A B : Type 0} → Outcome A → (A → Rule B) → Outcome B
and_then (Ok read) rule = rule read.0 read.1
and_then (Err left) rule = Err left

infixl 10 ◌>>=◌
-- a rule, and then the one that its value chooses
abbrev pub ◌>>=◌ : {A B : Type 0} → Rule A → (A → Rule B) → Rule B
rule >>= next = λ bytes. and_then (rule bytes) next

-- reads nothing and has this value
abbrev pub pure : {A : Type 0} → A → Rule A
pure value = λ bytes. Ok (value, bytes)

-- ---- fields

-- a field that stands in front, with the bytes after it, has to be allowed; else nothing of it is read
abbrev pub allowed_field : {A : Type 0} → (A → Bool) → List ℕ → Option (A × List ℕ) → Outcome A
allowed_field allowed bytes None = Err bytes
allowed_field allowed bytes (Some field) = if allowed field.0 then Ok field else Err bytes

-- the first byte, and the bytes after it
abbrev pub byte_at : List ℕ → Option (ℕ × List ℕ)
byte_at [] = None
byte_at (first ∷ rest) = Some (first, rest)

-- the big-endian number in front, and the bytes after it
abbrev pub number_at : Width → List ℕ → Option (ℕ × List ℕ)
number_at w bytes =
    if nat_lt (length bytes) (byte_len w) then None
    else Some (from_be_bytes w (take (byte_len w) bytes), drop (byte_len w) bytes)

-- as many bytes as the length that was read, and the bytes after them
abbrev pub block_of : Option (ℕ × List ℕ) → Option (List ℕ × List ℕ)
block_of None = None
block_of (Some size) =
    if nat_lt (length size.1) size.0 then None else Some (take size.0 size.1, drop size.0 size.1)

-- the length in front with as many bytes, and the bytes after them
unfoldable pub block_at : List ℕ → Option (List ℕ × List ℕ)
block_at bytes = block_of (number_at w64 bytes)

-- the field, if it passes
abbrev pub passing : {A : Type 0} → (A → Bool) → Option (A × List ℕ) → Option (A × List ℕ)
passing allowed None = None
passing allowed (Some field) = if allowed field.0 then Some field else None

-- the text in front, and the bytes after it
unfoldable pub text_at : List ℕ → Option (List ℕ × List ℕ)
text_at bytes = passing is_utf8 (block_at bytes)

-- the number is from the least to the most
abbrev pub within : ℕ → ℕ → ℕ → Bool
within least most n = nat_le least n && nat_le n most

-- a byte from the least to the most
unfoldable pub byte : ℕ → ℕ → Rule ℕ
byte least most bytes = allowed_field (within least most) bytes (byte_at bytes)

-- a number of this width from the least to the most
unfoldable pub number : Width → ℕ → ℕ → Rule ℕ
number w least most bytes = allowed_field (within least most) bytes (number_at w bytes)

-- the moment in front, and the bytes after it
unfoldable pub moment_at : List ℕ → Option (ℕ × List ℕ)
moment_at bytes = passing (λ n. nat_lt n long_end) (number_at w64 bytes)

-- JMSTimestamp in a record of that version: a moment, and in version 2 not the last one, since a delivery time is after it
unfoldable pub timestamp : ℕ → Rule ℕ
timestamp version bytes = allowed_field (λ n. version == 1 || nat_lt n (long_end - 1)) bytes (moment_at bytes)

-- JMSExpiration, of a message of that JMSTimestamp: 0, or above it
unfoldable pub expiration : ℕ → Rule ℕ
expiration timestamp bytes = allowed_field (λ n. n == 0 || nat_lt timestamp n) bytes (moment_at bytes)

-- a moment after that one
unfoldable pub moment_after : ℕ → Rule ℕ
moment_after moment bytes = allowed_field (λ n. nat_lt moment n) bytes (moment_at bytes)

-- JMSDeliveryTime in a record of that version, of a message of that JMSTimestamp: in version 1 there is no field, and it is
-- the timestamp; in version 2 a moment after it
unfoldable pub delivery_time : ℕ → ℕ → Rule ℕ
delivery_time version timestamp = if version == 1 then pure timestamp else moment_after timestamp

-- a length and as many bytes
unfoldable pub block : Rule (List ℕ)
block bytes = allowed_field (λ _. true) bytes (block_at bytes)

-- a text
unfoldable pub text : Rule (List ℕ)
text bytes = allowed_field (λ _. true) bytes (text_at bytes)

-- the name of a destination
unfoldable pub name : Rule (List ℕ)
name bytes = allowed_field is_name bytes (text_at bytes)

-- a name that a property may have beside the properties before it
abbrev pub is_new : Table → List ℕ → Bool
is_new before n = is_settable n && is_none (value_of before n)

-- the name of a property
unfoldable pub property_name : Table → Rule (List ℕ)
property_name before bytes = allowed_field (is_new before) bytes (text_at bytes)

-- ---- parts of a message

-- the session that sent the message
unfoldable pub sender : Rule Sender
sender =
    number w32 1 (greatest w32) >>= λ opening.
    number w32 1 (greatest w32) >>= λ connection.
    number w32 1 (greatest w32) >>= λ session.
    pure (record { opening = opening; session = record { connection = connection; number = session } })

-- JMSDeliveryMode
unfoldable pub mode : Rule DeliveryMode
mode = byte 0 1 >>= λ mark. pure (if mark == 0 then NonPersistent else Persistent)

-- JMSDestination
unfoldable pub destination : Rule Destination
destination = byte 0 1 >>= λ kind. name >>= λ n. pure (if kind == 0 then Queue n else Topic n)

-- a text, where the mark is 1
unfoldable pub marked_text : ℕ → Rule (Option (List ℕ))
marked_text mark = if mark == 0 then pure None else (text >>= λ t. pure (Some t))

-- a mark and, where it is 1, a text
unfoldable pub optional_text : Rule (Option (List ℕ))
optional_text = byte 0 1 >>= marked_text

-- a body of this tag
unfoldable pub tagged_body : ℕ → Rule Body
tagged_body tag =
    if tag == 0 then pure no_body
    else (if tag == 1 then (text >>= λ t. pure (text_body t)) else (block >>= λ b. pure (bytes_body b)))

-- a tag and the body
unfoldable pub body : Rule Body
body = byte 0 2 >>= tagged_body

-- the least and the most of the tags that a property of that name may have
abbrev pub tags_of : List ℕ → ℕ × ℕ
tags_of n =
    if bytes_eq n (codes "JMSXGroupID") then (6, 6)
    else (if bytes_eq n (codes "JMSXGroupSeq") then (4, 4) else (1, 6))

-- the value of a property of this tag
unfoldable pub value : ℕ → Rule Property
value tag =
    if tag == 1 then (byte 0 1 >>= λ n. pure (Truth (n == 1)))
    else (if tag == 2 then (byte 0 (greatest w8) >>= λ n. pure (Byte (cast_signed w8 n)))
    else (if tag == 3 then (number w16 0 (greatest w16) >>= λ n. pure (Short (cast_signed w16 n)))
    else (if tag == 4 then (number w32 0 (greatest w32) >>= λ n. pure (Int (cast_signed w32 n)))
    else (if tag == 5 then (number w64 0 (greatest w64) >>= λ n. pure (Long (cast_signed w64 n)))
    else (text >>= λ t. pure (Text t))))))

-- a property beside those before it
unfoldable pub property : Table → Rule (List ℕ × Property)
property before =
    property_name before >>= λ n.
    byte (tags_of n).0 (tags_of n).1 >>= λ tag.
    value tag >>= λ v.
    pure (n, v)

-- those before it and a property
abbrev pub one_more : Table → Rule Table
one_more before = property before >>= λ p. pure (before ++ p ∷ [])

-- those before them and so many properties
unfoldable pub properties_after : ℕ → Table → Rule Table
properties_after zero before = pure before
properties_after (suc count) before = one_more before >>= properties_after count

-- a count and so many properties
unfoldable pub properties : Rule Table
properties = number w64 0 (greatest w64) >>= λ count. properties_after count []

-- the fields of a message up to JMSPriority
pub record Head : Type 0 where
  pub sender : Sender
  pub number : ℕ
  pub timestamp : ℕ
  pub expiration : ℕ
  pub delivery_time : ℕ
  pub mode : DeliveryMode
  pub priority : ℕ

-- the version and these fields
unfoldable pub head : Rule Head
head =
    byte 1 2 >>= λ version.
    sender >>= λ by.
    number w64 1 (long_end - 1) >>= λ n.
    timestamp version >>= λ sent.
    expiration sent >>= λ ends.
    delivery_time version sent >>= λ due.
    mode >>= λ how.
    byte 0 9 >>= λ rank.
    pure (record { sender = by; number = n; timestamp = sent; expiration = ends; delivery_time = due; mode = how; priority = rank })

-- a message, which may be written
unfoldable pub message : Rule Content
message =
    head >>= λ first.
    destination >>= λ to.
    optional_text >>= λ correlation.
    optional_text >>= λ message_type.
    body >>= λ content.
    properties >>= λ table.
    pure (record {
      sender = first.sender;
      number = first.number;
      destination = to;
      mode = first.mode;
      priority = first.priority;
      timestamp = first.timestamp;
      expiration = first.expiration;
      delivery_time = first.delivery_time;
      correlation = correlation;
      message_type = message_type;
      body = content;
      properties = table;
      is_body_read_only = false;
      are_properties_read_only = false;
    })

-- nothing may stand after the message
abbrev pub end : Content → Rule Content
end m [] = Ok (m, [])
end m (b ∷ left) = Err (b ∷ left)

-- a message and nothing after it
unfoldable pub whole : Rule Content
whole = message >>= end
