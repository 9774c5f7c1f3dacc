-- The messages, by place.
use Rattle.std.specs.Prelude.{◌≡◌, ℕ, List, [], All, map, option_map, Option}
use Rattle.jm_header.specs.declared.content.Content.{Content}
use Rattle.jm_parts.specs.declared.stored.Holders.{Holders}
use Rattle.jm_parts.specs.declared.stored.Holders.TheVariants as holders
use Rattle.jm_parts.specs.declared.stored.StoredMessage.{StoredMessage}
use Rattle.jm_parts.specs.Stored.{ArePlaced}
use Rattle.jm_reopened.specs.Given.{given_at}
use Rattle.jm_decoding.specs.declared.message.MessageRow.{MessageRow}
use Rattle.jm_loading.specs.Said.{message_said}

-- nobody holds it
abbrev pub IsUnheld : Holders → Type 0
IsUnheld (holders.Queue count) = ⊥
IsUnheld (holders.Subscriptions rows) = rows.items ≡ []

-- the message that is given at the place, where one is
abbrev pub content_at : ℕ → List StoredMessage → Option Content
content_at place messages = option_map (λ (m : StoredMessage). m.message) (given_at place messages)

-- that of the row
abbrev pub content_said : ℕ → List MessageRow → Option Content
content_said place rows = option_map (λ (m : MessageRow). m.message) (message_said place rows)

-- a message and its place, as it is given, and as the row has them
abbrev pub given_pair : StoredMessage → ℕ × Content
given_pair m = (m.place, m.message)

abbrev pub said_pair : MessageRow → ℕ × Content
said_pair m = (m.place, m.message)

-- each is that of the row with its index, at its place
abbrev pub ArePairs : List MessageRow → List StoredMessage → Type 0
ArePairs rows messages = map given_pair messages ≡ map said_pair rows

-- the messages stand by place, those of the rows, and nobody holds one
pub record ArePlacedAs (rows : List MessageRow) (messages : List StoredMessage) : Type 0 where
  pub placed : ArePlaced 1 messages
  pub pairs : ArePairs rows messages
  pub same : (place : ℕ) → content_at place messages ≡ content_said place rows
  pub unheld : All (λ (m : StoredMessage). IsUnheld m.holders) messages
