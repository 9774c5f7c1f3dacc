-- What the rows of the four tables say is stored.
use Rattle.std.specs.Prelude.{◌≡◌, ◌&&◌, ◌==◌, ℕ, Bool, List, [], ◌∷◌, All, map, find, Option, None, option_map, if◌then◌else◌}
use Rattle.jm_dest.specs.declared.key.Key.{Key}
use Rattle.jm_dest.specs.Keys.{key_eq}
use Rattle.jm_header.specs.declared.content.Content.{Content}
use Rattle.jm_format.specs.Format as format
use Rattle.jm_machine.specs.declared.state.Definition.{Definition}
use Rattle.jm_keep.specs.Stored.{Stored}
use Rattle.jm_parts.specs.declared.stored.StoredMessage.{StoredMessage}
use Rattle.jm_parts.specs.declared.stored.StoredSubscription.{StoredSubscription}
use Rattle.jm_parts.specs.Stored.{MayReopen}
use Rattle.jm_reopened.specs.Given.{AreSome, given}
use Rattle.jm_decoding.specs.declared.station.StationRow.{StationRow}
use Rattle.jm_decoding.specs.declared.message.MessageRow.{MessageRow}
use Rattle.jm_decoding.specs.declared.held.HeldRow.{HeldRow}
use Rattle.jm_decoding.specs.declared.delay.DelayRow.{DelayRow}
use Rattle.jm_loading.specs.Stations.{subscriptions_in}

-- what the row of the key asks for
abbrev pub definition_said : Key → List StationRow → Option Definition
definition_said key [] = None
definition_said key (s ∷ stations) = if key_eq s.key key then s.definition else definition_said key stations

-- the row of held is that of the key at the place
abbrev pub is_held_at : Key → ℕ → HeldRow → Bool
is_held_at key place h = key_eq h.key key && (h.place == place)

-- how often the message at the place was delivered under the key
abbrev pub count_said : Key → ℕ → List HeldRow → Option ℕ
count_said key place held = option_map (λ (h : HeldRow). h.count) (find (is_held_at key place) held)

-- the row of message at the place
abbrev pub message_said : ℕ → List MessageRow → Option MessageRow
message_said place messages = find (λ (m : MessageRow). m.place == place) messages

-- the moment at which the message at the place becomes due
abbrev pub due_said : ℕ → List DelayRow → Option ℕ
due_said place delays = option_map (λ (d : DelayRow). d.due) (find (λ (d : DelayRow). d.place == place) delays)

-- what the rows say is stored
abbrev pub said : List StationRow → List MessageRow → List HeldRow → List DelayRow → Stored
said stations messages held delays = record {
  definition = λ key. definition_said key stations;
  count = λ key place. count_said key place held;
  message = λ place. option_map (λ (m : MessageRow). format.record m.message) (message_said place messages);
  due = λ place. due_said place delays;
}

-- the same is stored
pub record IsSame (a b : Stored) : Type 0 where
  pub definition : (key : Key) → a.definition key ≡ b.definition key
  pub count : (key : Key) (place : ℕ) → a.count key place ≡ b.count key place
  pub message : (place : ℕ) → a.message place ≡ b.message place
  pub due : (place : ℕ) → a.due place ≡ b.due place

-- a core may be made of the subscriptions and the messages, each message is held by somebody, and they are what the rows say:
-- the subscriptions are those of the rows, and so are the messages, each at its place
pub record AreSaid (stations : List StationRow) (messages : List MessageRow) (held : List HeldRow) (delays : List DelayRow) (subscriptions : List StoredSubscription) (stored : List StoredMessage) : Type 0 where
  pub may : MayReopen subscriptions stored
  pub some : All (λ (m : StoredMessage). AreSome m.holders) stored
  pub same : IsSame (given subscriptions stored) (said stations messages held delays)
  pub asked : subscriptions ≡ subscriptions_in stations
  pub pairs : map {B = ℕ × Content} (λ (m : StoredMessage). (m.place, m.message)) stored ≡ map {B = ℕ × Content} (λ (m : MessageRow). (m.place, m.message)) messages
