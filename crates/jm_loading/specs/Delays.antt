-- The rows of delayed, and the delays of messages.
use Rattle.std.specs.Prelude.{◌≡◌, ◌<◌, ℕ, true, List, length, slice_index_or}
use Rattle.jm_header.specs.declared.content.Content.{Content}
use Rattle.jm_header.specs.Headers.{is_delayed}
use Rattle.jm_parts.specs.declared.stored.StoredMessage.{StoredMessage}
use Rattle.jm_reopened.specs.Given.{AreSome}
use Rattle.jm_decoding.specs.declared.delay.DelayRow.{DelayRow}

-- the message is delayed, and becomes due then
pub record IsDueAt (m : Content) (due : ℕ) : Type 0 where
  pub delayed : is_delayed m ≡ true
  pub due_is : m.delivery_time ≡ due

-- its message stands, is delayed, and becomes due then
pub record IsDelay (messages : List StoredMessage) (d : DelayRow) : Type 0 where
  pub at : ℕ
  pub message : StoredMessage
  pub within : at < length messages
  pub message_is : (e : StoredMessage) → slice_index_or messages at e ≡ message
  pub there : message.place ≡ d.place
  pub due : IsDueAt message.message d.due

-- the row with that index is that of the place
pub record IsDelayAt (delays : List DelayRow) (place at : ℕ) : Type 0 where
  pub within : at < length delays
  pub row : DelayRow
  pub row_is : (e : DelayRow) → slice_index_or delays at e ≡ row
  pub there : row.place ≡ place

-- where the message is delayed, it has a row of delayed
abbrev pub HasItsDelay : List DelayRow → StoredMessage → Type 0
HasItsDelay delays m = is_delayed m.message ≡ true → (at : ℕ) × IsDelayAt delays m.place at

-- somebody holds the message, and where it is delayed, it has a row of delayed
pub record IsHeldInTime (delays : List DelayRow) (m : StoredMessage) : Type 0 where
  pub held : AreSome m.holders
  pub delayed : HasItsDelay delays m
