-- Rows read over the table of messages, as the machine has them.
use Rattle.std.specs.Prelude.{◌≡◌, false, List, [], All, map, Option, Some, None}
use Rattle.jm_dest.specs.declared.destination.Destination.TheVariants.{Queue}
use Rattle.jm_header.specs.declared.body.Body.TheVariants.{None as no_body}
use Rattle.jm_header.specs.declared.content.Content.{Content}
use Rattle.jm_header.specs.declared.content.DeliveryMode.TheVariants.{Persistent}
use Rattle.jm_machine.specs.declared.state.PlacedRow.{PlacedRow}
use Rattle.jm_lane.specs.declared.row.Row.{Row}
use Rattle.jm_lane.specs.Holders.{Messages, message_of}
use Rattle.jm_lane.specs.Rows.{due_of}

-- what stands for a message where there is none; no row that has its holder is read so
abbrev pub no_message : Content
no_message = record {
  sender = record { opening = 0; session = record { connection = 0; number = 0 } };
  number = 0;
  destination = Queue [];
  mode = Persistent;
  priority = 0;
  timestamp = 0;
  expiration = 0;
  delivery_time = 0;
  correlation = None;
  message_type = None;
  body = no_body;
  properties = [];
  is_body_read_only = false;
  are_properties_read_only = false;
}

-- the message, or what stands for none
abbrev pub message_or_none : Option Content → Content
message_or_none None = no_message
message_or_none (Some m) = m

-- the message of a row
abbrev pub content_of : Messages → Row → Content
content_of t r = message_or_none (message_of t r.place)

-- a row with its message, at its place
abbrev pub placed : Messages → Row → PlacedRow
placed t r = record { place = r.place; row = record { message = content_of t r; count = r.count; state = r.state } }

-- rows with their messages, which is what callers see
abbrev pub all_placed : Messages → List Row → List PlacedRow
all_placed t rows = map (placed t) rows

-- a row has the priority, the expiration and the due moment of its message
pub record IsRowOf (t : Messages) (r : Row) : Type 0 where
  pub priority : r.priority ≡ (content_of t r).priority
  pub expiration : r.expiration ≡ (content_of t r).expiration
  pub due : r.due ≡ due_of (content_of t r)

-- each row has those of its message
pub record AreRowsOf (t : Messages) (rows : List Row) : Type 0 where
  pub each : All (IsRowOf t) rows
