-- What the rows of a state hold, where each message that is published is one.
use Rattle.std.specs.Prelude.{◌≡◌, ◌≤◌, ℕ, List, [], ◌∷◌, None, IsTrue}
use Rattle.std.specs.List.{AllByRecursion}
use Rattle.jm_dest.specs.declared.destination.Destination.TheVariants.{Queue, Topic}
use Rattle.jm_header.specs.declared.content.Content.{Content}
use Rattle.jm_format.specs.Messages.{IsMessage}
use Rattle.jm_selector.specs.Selectors.{matches, selector_refusal}
use Rattle.jm_machine.specs.declared.call.Call.{Call}
use Rattle.jm_machine.specs.declared.call.Call.TheVariants.{Publish, Commit}
use Rattle.jm_machine.specs.declared.call.Who.{Who}
use Rattle.jm_machine.specs.declared.entry.Event.{Event}
use Rattle.jm_machine.specs.declared.state.Definition.{Definition}
use Rattle.jm_machine.specs.declared.state.PlacedRow.{PlacedRow}
use Rattle.jm_machine.specs.declared.state.Station.{Station}
use Rattle.jm_machine.specs.Machine.{State, new_core, step}
use Rattle.jm_machine.specs.Isolation.{after_events}

-- ---- what a row may hold

-- a message that was sent to the queue of that name
pub record IsOfQueue (name : List ℕ) (m : Content) : Type 0 where
  pub message : IsMessage m
  pub sent : m.destination ≡ Queue name

-- a message that was sent to the topic, and for which the selector is TRUE, or absent
pub record IsOfTopic (d : Definition) (m : Content) : Type 0 where
  pub message : IsMessage m
  pub sent : m.destination ≡ Topic d.topic
  pub selected : IsTrue (matches d.selector m)

-- each row stands at a place, of which the first is 1, and its message is so
abbrev pub AllHold : (Content → Type 0) → List PlacedRow → Type 0
AllHold Is [] = Unit {0}
AllHold Is (x ∷ rows) = ((1 ≤ x.place) × Is x.row.message) × AllHold Is rows

-- the selector of the subscription is not refused, and its rows hold what it asks for
pub record HoldsAsked (x : Station) : Type 0 where
  pub selector : selector_refusal x.definition.selector ≡ None
  pub rows : AllHold (IsOfTopic x.definition) x.rows

-- each subscription does
abbrev pub EachHolds : List Station → Type 0
EachHolds [] = Unit {0}
EachHolds (x ∷ stations) = HoldsAsked x × EachHolds stations

-- Each row of the state holds a message that its queue or its subscription may hold, and no subscription has a selector that
-- is refused.
pub record HoldsMessages (state : State) : Type 0 where
  pub stations : EachHolds state.stations
  pub queues : (name : List ℕ) → AllHold (IsOfQueue name) (state.queues name)
  pub places : 1 ≤ state.next_place

-- ---- where that is so

-- what the call publishes are messages
abbrev pub PublishesMessages : Call → Type 0
PublishesMessages (Publish messages) = AllByRecursion IsMessage messages
PublishesMessages (Commit messages) = AllByRecursion IsMessage messages
PublishesMessages _ = Unit {0}

-- what each event publishes are messages
abbrev pub AllPublishMessages : List Event → Type 0
AllPublishMessages events = AllByRecursion (λ (e : Event). PublishesMessages e.step.call) events

-- A new core holds nothing, and so it is there.
abbrev pub NewHolds : Type 0
NewHolds = (opening limit : ℕ) → HoldsMessages (new_core opening limit)

-- After a call that publishes messages alone it is so where it was before, whether that was accepted or refused.
abbrev pub StepsHold : Type 0
StepsHold = (state : State) (who : Who) (call : Call) → HoldsMessages state → PublishesMessages call → HoldsMessages (step state who call)

-- So it is after any list of events that publish messages alone.
abbrev pub EventsHold : Type 0
EventsHold = (opening : State) (events : List Event) → HoldsMessages opening → AllPublishMessages events → HoldsMessages (after_events opening events)
