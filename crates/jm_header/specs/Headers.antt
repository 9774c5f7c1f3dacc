-- What a draft is at first, what a stamp makes of it, and when a message is expired or held back (Jakarta
-- Messaging 3.1, sections 3.4 and 7.9).
use Rattle.std.specs.Prelude.{ℕ, ◌≢◌, ◌<◌, ◌≤◌, ◌+◌, ◌&&◌, ◌==◌, nat_le, nat_lt, if◌then◌else◌, Bool, false, None, Result, Ok, Err, List, []}
use Rattle.jm_base.specs.declared.refusal.Refusal.{Refusal}
use Rattle.jm_base.specs.declared.refusal.Refusal.TheVariants.{OutOfRange, Exhausted}
use Rattle.jm_base.specs.declared.refusal.MessageFault.{MessageFault}
use Rattle.jm_base.specs.declared.refusal.MessageFault.TheVariants.{NotWriteable, Memory}
use Rattle.jm_dest.specs.Numbers.{long_end}
use Rattle.jm_dest.specs.declared.destination.Destination.{Destination}
use Rattle.jm_header.specs.declared.body.Body.TheVariants.{None as no_body}
use Rattle.jm_header.specs.declared.content.Content.{Content}
use Rattle.jm_header.specs.declared.content.DeliveryMode.TheVariants.{Persistent}
use Rattle.jm_header.specs.declared.content.Sender.{Sender}
use Rattle.jm_header.specs.declared.content.Settings.{Settings}
use Rattle.jm_property.specs.declared.property.Property.{Property}
use Rattle.jm_property.specs.Properties.{set_fault}

-- a new draft: PERSISTENT, priority 4, no time to live, no delivery delay, no body
abbrev pub defaults : Settings
defaults = record {
  mode = Persistent;
  priority = 4;
  time_to_live = 0;
  delivery_delay = 0;
  correlation = None;
  message_type = None;
  body = no_body;
  properties = [];
}

-- the expiration of a message that is sent then: none (0) where the time to live is 0
abbrev pub expiration_of : ℕ → ℕ → ℕ
expiration_of time_to_live now = if time_to_live == 0 then 0 else now + time_to_live

-- the moments of a message that is sent then are within 2^63-1: the one until which it lives, and the one until which
-- it is delayed
abbrev pub has_moments : Settings → ℕ → Bool
has_moments draft now = nat_lt (now + draft.time_to_live) long_end && nat_lt (now + draft.delivery_delay) long_end

-- the number of a send and the moments of its message are within 2^63-1
abbrev pub is_in_range : Settings → ℕ → ℕ → Bool
is_in_range draft number now = nat_le 1 number && nat_lt number long_end && has_moments draft now

-- the message that a draft becomes when it is sent; its expiration and its delivery time count from the moment of the
-- send, also in a transacted session
abbrev pub message_of : Settings → Destination → Sender → ℕ → ℕ → Content
message_of draft destination sender number now = record {
  sender = sender;
  number = number;
  destination = destination;
  mode = draft.mode;
  priority = draft.priority;
  timestamp = now;
  expiration = expiration_of draft.time_to_live now;
  delivery_time = now + draft.delivery_delay;
  correlation = draft.correlation;
  message_type = draft.message_type;
  body = draft.body;
  properties = draft.properties;
  is_body_read_only = false;
  are_properties_read_only = false;
}

-- what a stamp answers: that message, or OutOfRange where a number or a moment passes its range
abbrev pub stamped : Settings → Destination → Sender → ℕ → ℕ → Result Content Refusal
stamped draft destination sender number now =
    if is_in_range draft number now
    then Ok (message_of draft destination sender number now)
    else Err OutOfRange

-- what a session answers to its next send, after so many: the message of the next number; OutOfRange where a moment
-- passes its range, and else Exhausted where the numbers are used up
abbrev pub next_stamped : Settings → Destination → Sender → ℕ → ℕ → Result Content Refusal
next_stamped draft destination sender sent now =
    if has_moments draft now
    then (if nat_lt (sent + 1) long_end then Ok (message_of draft destination sender (sent + 1) now) else Err Exhausted)
    else Err OutOfRange

-- a message is expired where it has an expiration, which is not after that moment
abbrev pub IsExpired : Content → ℕ → Type 0
IsExpired message now = (message.expiration ≢ 0) × (message.expiration ≤ now)

-- a message is delayed where its delivery time is after its timestamp
abbrev pub is_delayed : Content → Bool
is_delayed message = nat_lt message.timestamp message.delivery_time

-- a message is held back at a moment before its delivery time, where that is after its timestamp
abbrev pub IsHeldBack : Content → ℕ → Type 0
IsHeldBack message now = (message.timestamp < message.delivery_time) × (now < message.delivery_time)

-- the draft that a message gives back: its mode, priority, identifiers, body and properties, without a
-- time to live and without a delivery delay
abbrev pub draft_of : Content → Settings
draft_of message = record {
  mode = message.mode;
  priority = message.priority;
  time_to_live = 0;
  delivery_delay = 0;
  correlation = message.correlation;
  message_type = message.message_type;
  body = message.body;
  properties = message.properties;
}

-- why a property of a message is not set: the properties are read-only, the name is not allowed, or
-- memory is refused
abbrev pub property_fault : Content → List ℕ → Property → MessageFault
property_fault message name value =
    if message.are_properties_read_only then NotWriteable else set_fault name value

-- why the body of a message is not set: it is read-only, or memory is refused
abbrev pub body_fault : Content → MessageFault
body_fault message = if message.is_body_read_only then NotWriteable else Memory
