-- What the rows of all four tables say.
use Rattle.std.proofs.Common.{◌≡◌, ◌∙◌, ℕ, List, ap, sym, subst, refl, Option, Some, None}
use Rattle.std.specs.Prelude.{find, option_map}
use Rattle.std.specs.List.{All}
use Rattle.jm_format.specs.Format as format
use Rattle.jm_header.specs.declared.content.Content.{Content}
use Rattle.jm_dest.specs.Keys.{key_eq}
use Rattle.jm_parts.specs.declared.stored.StoredMessage.{StoredMessage}
use Rattle.jm_parts.specs.declared.stored.StoredSubscription.{StoredSubscription}
use Rattle.jm_parts.specs.Stored.{state_stored}
use Rattle.jm_keep.specs.Persisted.{IsDue, IsPersisted, IsRecord}
use Rattle.jm_keep.specs.Stored.{Stored}
use Rattle.jm_machine.specs.Machine.{State}
use Rattle.jm_reopened.specs.Given.{AreSome, ReopenedIsGiven, given, given_at}
use Rattle.jm_decoding.specs.declared.station.StationRow.{StationRow}
use Rattle.jm_decoding.specs.declared.message.MessageRow.{MessageRow}
use Rattle.jm_decoding.specs.declared.held.HeldRow.{HeldRow}
use Rattle.jm_decoding.specs.declared.delay.DelayRow.{DelayRow}
use Rattle.jm_loading.specs.Delays.{HasItsDelay, IsDelay}
use Rattle.jm_loading.specs.Holding.{AreHeldAs}
use Rattle.jm_loading.specs.Said.{AreSaid, IsSame, definition_said, message_said, said}
use Rattle.jm_loading.specs.Stations.{AreSubscriptions, IsKnown, subscriptions_in}
use Rattle.jm_loading.proofs.Due.{dues}
use Rattle.jm_loading.proofs.Sorted.{by_recursion, definitions}

records : (o : Option StoredMessage) (p : Option MessageRow) → option_map (λ (m : StoredMessage). m.message) o ≡ option_map (λ (m : MessageRow). m.message) p → option_map (λ (m : StoredMessage). format.record m.message) o ≡ option_map (λ (m : MessageRow). format.record m.message) p
records None None e = refl
records None (Some b) e = ap (λ (o : Option Content). option_map format.record o) e
records (Some a) None e = ap (λ (o : Option Content). option_map format.record o) e
records (Some a) (Some b) e = ap (λ (o : Option Content). option_map format.record o) e

pub together : (stations : List StationRow) (rows : List MessageRow) (held : List HeldRow) (delays : List DelayRow) (ss : List StoredSubscription) (ms : List StoredMessage) → ss ≡ subscriptions_in stations → All IsKnown stations → AreSubscriptions ss →
    AreHeldAs rows ss held ms → All (IsDelay ms) delays → All (λ (m : StoredMessage). AreSome m.holders) ms → All (HasItsDelay delays) ms → AreSaid stations rows held delays ss ms
together stations rows held delays ss ms is known are h delay some have = record {
  may = record { durable = are.durable; once = are.once; placed = h.placed; held = h.may };
  some = some;
  same = record {
    definition = λ key. subst (λ (xs : List StoredSubscription). option_map (λ (s : StoredSubscription). s.definition) (find (λ (s : StoredSubscription). key_eq s.key key) xs) ≡ definition_said key stations) (sym is) (definitions key stations (by_recursion stations known));
    count = h.counts;
    message = λ place. records (given_at place ms) (message_said place rows) (h.same place);
    due = λ place. dues ms delays place h.placed delay have;
  };
  asked = is;
  pairs = h.pairs;
}

-- the same is stored of a state
pub persisted_same : (state : State) (a b : Stored) → IsPersisted state a → IsSame a b → IsPersisted state b
persisted_same state a b h same = record {
  definitions = λ key. sym (same.definition key) ∙ h.definitions key;
  counts = λ key place. sym (same.count key place) ∙ h.counts key place;
  messages = λ place. subst (λ (o : Option (List ℕ)). IsRecord state place o) (same.message place) (h.messages place);
  dues = λ place. subst (λ (o : Option ℕ). IsDue state place o) (same.due place) (h.dues place);
}

-- of a core that was made of them what the rows say is stored
pub persisted : (opening limit : ℕ) (stations : List StationRow) (rows : List MessageRow) (held : List HeldRow) (delays : List DelayRow) (ss : List StoredSubscription) (ms : List StoredMessage) (state : State) → ReopenedIsGiven → AreSaid stations rows held delays ss ms →
    state ≡ state_stored opening limit ss ms → IsPersisted state (said stations rows held delays)
persisted opening limit stations rows held delays ss ms state law h is =
    subst (λ (s : State). IsPersisted s (said stations rows held delays)) (sym is) (persisted_same (state_stored opening limit ss ms) (given ss ms) (said stations rows held delays) (law opening limit ss ms h.may h.some) h.same)
