-- What the rows of the four tables allow each other, and the first that does not fit.
use Rattle.std.specs.Prelude.{◌≡◌, ◌≤◌, ◌<◌, ◌⊎◌, ◌&&◌, ◌==◌, ℕ, Bool, true, false, List, length, Option, None, Some, ⊤}
use Rattle.std.specs.List.{list_any}
use Rattle.std.specs.Ordering.{nat_cmp, ordering_then}
use Rattle.std.specs.declared.cmp.Ordering.{Ordering}
use Rattle.jm_dest.specs.declared.key.Key.{Key}
use Rattle.jm_dest.specs.declared.key.Key.TheVariants.{Queue, Durable}
use Rattle.jm_dest.specs.Keys.{key_eq}
use Rattle.jm_header.specs.declared.content.Content.{Content}
use Rattle.jm_header.specs.Headers.{is_delayed}
use Rattle.jm_machine.specs.declared.state.Definition.{Definition}
use Rattle.jm_machine.specs.Machine.{places_end}
use Rattle.jm_machine.specs.Rows.{greatest_count}
use Rattle.jm_parts.specs.Stored.{admits, queue_admits}
use Rattle.jm_decoding.specs.declared.station.StationRow.{StationRow}
use Rattle.jm_decoding.specs.declared.message.MessageRow.{MessageRow}
use Rattle.jm_decoding.specs.declared.held.HeldRow.{HeldRow}
use Rattle.jm_decoding.specs.declared.delay.DelayRow.{DelayRow}
use Rattle.jm_opening.specs.declared.judged.OpenFault.{OpenFault}
use Rattle.jm_opening.specs.declared.judged.OpenFault.TheVariants.{Damaged, Memory}
use Rattle.jm_opening.specs.declared.judged.TableName.TheVariants.{Station, Message, Held, Delayed}
use Rattle.jm_loading.specs.Delays.{IsDueAt}
use Rattle.jm_loading.specs.Order.{key_cmp}
use Rattle.jm_loading.specs.Said.{message_said}
use Rattle.jm_loading.specs.Stations.{IsKnown}
use Rattle.jm_loading.specs.Unfit.{AreFit, IsFirstUnfit, IsFirstWithout}

-- ---- the orders of the tables

abbrev pub station_cmp : StationRow → StationRow → Ordering
station_cmp a b = key_cmp a.key b.key

abbrev pub message_cmp : MessageRow → MessageRow → Ordering
message_cmp a b = nat_cmp a.place b.place

-- by key, and then by place
abbrev pub held_cmp : HeldRow → HeldRow → Ordering
held_cmp a b = ordering_then (key_cmp a.key b.key) (nat_cmp a.place b.place)

abbrev pub delay_cmp : DelayRow → DelayRow → Ordering
delay_cmp a b = nat_cmp a.place b.place

-- ---- what a row may say

-- its place is one
abbrev pub IsPlaced : MessageRow → Type 0
IsPlaced m = (1 ≤ m.place) × (m.place < places_end)

-- a queue may hold the message, or a durable subscription that asks for that
abbrev pub may_hold : Key → Option Definition → Content → Bool
may_hold (Queue name) None m = queue_admits name m
may_hold (Durable client name) (Some d) m = admits d m
may_hold _ _ m = false

-- the station has the key, and may hold the message
abbrev pub is_holder : Key → Content → StationRow → Bool
is_holder key m s = key_eq s.key key && may_hold s.key s.definition m

-- its message and its station stand, the one may hold the other, and its count is not above the greatest
pub record IsHeld (stations : List StationRow) (messages : List MessageRow) (h : HeldRow) : Type 0 where
  pub message : MessageRow
  pub message_is : message_said h.place messages ≡ Some message
  pub holder : list_any (is_holder h.key message.message) stations ≡ true
  pub counted : h.count ≤ greatest_count

-- its message stands, is delayed, and becomes due then
pub record IsDelayed (messages : List MessageRow) (d : DelayRow) : Type 0 where
  pub message : MessageRow
  pub message_is : message_said d.place messages ≡ Some message
  pub due : IsDueAt message.message d.due

-- somebody holds the message, and where it is delayed, it has a row of delayed
pub record IsKept (held : List HeldRow) (delays : List DelayRow) (m : MessageRow) : Type 0 where
  pub by_somebody : list_any (λ (h : HeldRow). h.place == m.place) held ≡ true
  pub delayed : is_delayed m.message ≡ true → list_any (λ (d : DelayRow). d.place == m.place) delays ≡ true

-- ---- all tables

-- all rows of stations, of messages, of held and of delays fit
abbrev pub FitStations : List StationRow → Type 0
FitStations stations = AreFit station_cmp IsKnown stations (length stations)

abbrev pub FitMessages : List MessageRow → Type 0
FitMessages messages = AreFit message_cmp IsPlaced messages (length messages)

abbrev pub FitHeld : List StationRow → List MessageRow → List HeldRow → Type 0
FitHeld stations messages held = AreFit held_cmp (IsHeld stations messages) held (length held)

abbrev pub FitDelays : List MessageRow → List DelayRow → Type 0
FitDelays messages delays = AreFit delay_cmp (IsDelayed messages) delays (length delays)

-- those of all tables
pub record AreAllFit (stations : List StationRow) (messages : List MessageRow) (held : List HeldRow) (delays : List DelayRow) : Type 0 where
  pub fit_stations : FitStations stations
  pub fit_messages : FitMessages messages
  pub fit_held : FitHeld stations messages held
  pub fit_delays : FitDelays messages delays

-- all rows fit, and the message with that index is the first that nobody holds, or that lacks its row of delayed
pub record IsFirstUnkept (stations : List StationRow) (messages : List MessageRow) (held : List HeldRow) (delays : List DelayRow) (at : ℕ) : Type 0 where
  pub fit : AreAllFit stations messages held delays
  pub first : IsFirstWithout (IsKept held delays) messages at

-- the first row that does not fit, in this order: stations, messages, held, delays; then the first message that is not kept.
-- A want of memory may come in place of any.
abbrev pub IsFirstFault : List StationRow → List MessageRow → List HeldRow → List DelayRow → OpenFault → Type 0
IsFirstFault stations messages held delays (Damaged Station at) = IsFirstUnfit station_cmp IsKnown stations at
IsFirstFault stations messages held delays (Damaged Message at) =
    (FitStations stations × IsFirstUnfit message_cmp IsPlaced messages at) ⊎ IsFirstUnkept stations messages held delays at
IsFirstFault stations messages held delays (Damaged Held at) = FitStations stations × FitMessages messages × IsFirstUnfit held_cmp (IsHeld stations messages) held at
IsFirstFault stations messages held delays (Damaged Delayed at) = FitStations stations × FitMessages messages × FitHeld stations messages held × IsFirstUnfit delay_cmp (IsDelayed messages) delays at
IsFirstFault stations messages held delays Memory = ⊤
IsFirstFault stations messages held delays _ = ⊥
