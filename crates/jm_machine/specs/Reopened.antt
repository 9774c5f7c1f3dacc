-- A provider that is opened again: what was stored, and the state that is made of it.
use Rattle.std.specs.Prelude.{◌≡◌, ℕ, Bool, true, false, List, [], ◌∷◌, map, Option, Some}
use Rattle.std.specs.List.{IsDistinct}
use Rattle.jm_dest.specs.declared.destination.Destination.TheVariants.{Queue}
use Rattle.jm_dest.specs.declared.key.Key.{Key}
use Rattle.jm_dest.specs.declared.key.Key.TheVariants.{Own, SharedOwn, Durable, Queue as OfQueue}
use Rattle.jm_dest.specs.Keys.{key_eq}
use Rattle.jm_header.specs.declared.content.Content.{Content}
use Rattle.jm_machine.specs.declared.state.PlacedRow.{PlacedRow}
use Rattle.jm_machine.specs.declared.state.Station.{Station}
use Rattle.jm_machine.specs.declared.state.RowState.TheVariants.{Waiting}
use Rattle.jm_machine.specs.Rows.{InOrder}
use Rattle.jm_machine.specs.Machine.{State, AllInOrder}
use Rattle.jm_machine.specs.Accepted.{HoldsAccepted}

-- the state that is made of what was stored: nobody is connected
abbrev pub reopened : ℕ → ℕ → List Station → (List ℕ → List PlacedRow) → ℕ → State
reopened opening limit stations queues next_place = record { opening = opening; limit = limit; life = record { connections = []; sessions = [] }; consumers = []; stations = stations; queues = queues; next_place = next_place }

-- the key is that of a durable subscription
abbrev pub is_durable : Key → Bool
is_durable (OfQueue name) = false
is_durable (Own s c) = false
is_durable (SharedOwn client name) = false
is_durable (Durable client name) = true

-- each row waits
abbrev pub AreWaiting : List PlacedRow → Type 0
AreWaiting [] = Unit {0}
AreWaiting (x ∷ rows) = (x.row.state ≡ Waiting) × AreWaiting rows

-- each row holds the message of its place
abbrev pub HoldMessages : (ℕ → Option Content) → List PlacedRow → Type 0
HoldMessages messages [] = Unit {0}
HoldMessages messages (x ∷ rows) = (messages x.place ≡ Some x.row.message) × HoldMessages messages rows

-- each row's message was sent to the queue
abbrev pub AreSentTo : List ℕ → List PlacedRow → Type 0
AreSentTo name [] = Unit {0}
AreSentTo name (x ∷ rows) = (x.row.message.destination ≡ Queue name) × AreSentTo name rows

-- each subscription is durable and missed nothing; its rows wait, and hold the messages of their places
abbrev pub AreDurable : (ℕ → Option Content) → List Station → Type 0
AreDurable messages [] = Unit {0}
AreDurable messages (x ∷ stations) = (is_durable x.key ≡ true) × (x.missed ≡ 0) × AreWaiting x.rows × HoldMessages messages x.rows × AreDurable messages stations

-- What was stored: messages, each at a place below the next one; durable subscriptions, each once, with rows that they
-- accepted; and queues, with rows of messages that were sent to them. Rows stand by place, wait, and hold the messages of
-- their places: so what stands at a queue's place stands at no other queue and at no subscription.
pub record AreStored (stations : List Station) (queues : List ℕ → List PlacedRow) (next_place : ℕ) : Type 0 where
  pub messages : ℕ → Option Content
  pub durable : AreDurable messages stations
  pub distinct : IsDistinct key_eq (map (λ x. x.key) stations)
  pub ordered : AllInOrder next_place stations
  pub accepted : HoldsAccepted stations
  pub queued : (name : List ℕ) → InOrder next_place (queues name)
  pub sent : (name : List ℕ) → AreSentTo name (queues name)
  pub waiting : (name : List ℕ) → AreWaiting (queues name)
  pub held : (name : List ℕ) → HoldMessages messages (queues name)
