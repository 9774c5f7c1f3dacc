-- A core that is made of messages holds them.
use Rattle.std.proofs.Common.{◌≡◌, ◌≤◌, ◌<◌, ◌+◌, ◌∙◌, ℕ, zero, suc, Bool, true, false, cond, List, [], ◌∷◌, ◌++◌, map, length, get_or, Option, Some, None, option_map, IfSome, Result, refl, sym, ap, subst, arith}
use Rattle.std.specs.Prelude.{◌&&◌, ◌==◌, find}
use Rattle.std.specs.List.{All, AllByRecursion}
use Rattle.std.proofs.lemmas.Bool.{and_parts}
use Rattle.std.proofs.lemmas.Bool.Decides.{nat_tests}
use Rattle.std.proofs.lemmas.List.Elements.{All-head, All-tail}
use Rattle.jm_dest.specs.declared.destination.Destination.{Destination}
use Rattle.jm_dest.specs.declared.destination.Destination.TheVariants as destination
use Rattle.jm_dest.specs.declared.key.Key.{Key}
use Rattle.jm_dest.specs.Names.{text_eq}
use Rattle.jm_header.specs.declared.content.Content.{Content}
use Rattle.jm_format.specs.Messages.{IsMessage}
use Rattle.jm_selector.specs.Selectors.{matches, selector_refusal}
use Rattle.jm_machine.specs.declared.state.Definition.{Definition}
use Rattle.jm_machine.specs.declared.state.PlacedRow.{PlacedRow}
use Rattle.jm_machine.specs.Machine.{State, is_to}
use Rattle.jm_machine.specs.Under.{is_persistent}
use Rattle.jm_machine.proofs.Keys.{text_same}
use Rattle.jm_holds.specs.Holds.{AllHold, EachHolds, HoldsMessages, IsOfQueue, IsOfTopic}
use Rattle.jm_stations.specs.declared.loading.StoredRow.{StoredRow}
use Rattle.jm_parts.specs.declared.stored.Holders.{Holders}
use Rattle.jm_parts.specs.declared.stored.Holders.TheVariants as holders
use Rattle.jm_parts.specs.declared.stored.StoredMessage.{StoredMessage}
use Rattle.jm_parts.specs.declared.stored.StoredSubscription.{StoredSubscription}
use Rattle.jm_parts.specs.Stored.{AreHolders, ArePlaced, IsAdmitted, MayReopen, admits, count_at, count_under, place_after, row_stored, rows_at, rows_stored, rows_under, state_stored, stations_stored}
use Rattle.jm_decoding.specs.declared.message.MessageRow.{MessageRow}
use Rattle.jm_decoding.specs.declared.station.StationRow.{StationRow}
use Rattle.jm_loading.specs.Holds.{HasMessage, HasSelector}
use Rattle.jm_loading.specs.Messages.{ArePairs, given_pair, said_pair}
use Rattle.jm_loading.specs.Said.{AreSaid}
use Rattle.jm_loading.specs.Stations.{subscription_for, subscriptions_in}

-- ---- rows that were stored

rows_hold : (Is : Content → Type 0) (count : StoredMessage → Option ℕ) (from : ℕ) (ms : List StoredMessage) → 1 ≤ from → ArePlaced from ms → AllByRecursion (λ m. (n : ℕ) → count m ≡ Some n → Is m.message) ms → AllHold Is (rows_stored count ms)
rows_hold Is count from [] l placed each = tt
rows_hold Is count from (m ∷ ms) l placed each =
    let at : 1 ≤ m.place = let p = placed.0 in omega (arith, l, p) in
    go (count m) refl at (rows_hold Is count (m.place + 1) ms (omega (arith, at)) placed.2 each.1)
  where
    go : (o : Option ℕ) → count m ≡ o → 1 ≤ m.place → AllHold Is (rows_stored count ms) → AllHold Is (row_stored m.place m.message o ++ rows_stored count ms)
    go None e at rest = rest
    go (Some n) e at rest = ((at, each.0 n e), rest)

-- what holds of each, by its index, holds of the one that is found
found_is : (P : StoredRow → Type 0) (i : ℕ) (rows : List StoredRow) (n : ℕ) → All P rows → option_map (λ (r : StoredRow). r.count) (find (λ r. r.index == i) rows) ≡ Some n → (r : StoredRow) × P r × (r.index ≡ i)
found_is P i [] n all e = cc
found_is P i (r ∷ rows) n all e = go (r.index == i) refl e (found_is P i rows n (All-tail P r rows all))
  where
    go : (b : Bool) → (r.index == i) ≡ b → option_map (λ (x : StoredRow). x.count) (cond b (Some r) (find (λ x. x.index == i) rows)) ≡ Some n → (option_map (λ (x : StoredRow). x.count) (find (λ x. x.index == i) rows) ≡ Some n → (x : StoredRow) × P x × (x.index ≡ i)) → (x : StoredRow) × P x × (x.index ≡ i)
    go true same is later = (r, All-head P r rows all, grind (arith, nat_tests))
    go false other is later = later is

to_topic : (topic : List ℕ) (d : Destination) → is_to topic d ≡ true → d ≡ destination.Topic topic
to_topic topic (destination.Queue name) e = cc
to_topic topic (destination.Topic name) e = ap (λ t. destination.Topic t) (sym (text_same topic name e))

admitted_is : (d : Definition) (m : Content) → IsMessage m → admits d m ≡ true → IsOfTopic d m
admitted_is d m is e =
    let first = and_parts (is_persistent m.mode) (is_to d.topic m.destination && matches d.selector m) e in
    let second = and_parts (is_to d.topic m.destination) (matches d.selector m) first.1 in
    record { message = is; sent = to_topic d.topic m.destination second.0; selected = second.1 }

-- a subscription that holds the message may hold it
under_is : (ss : List StoredSubscription) (i : ℕ) (m : Content) (h : Holders) (n : ℕ) (d : StoredSubscription) → IsMessage m → AreHolders ss m h → count_under i h ≡ Some n → IsOfTopic (get_or ss i d).definition m
under_is ss i m (holders.Queue count) n d is are e = cc
under_is ss i m (holders.Subscriptions rows) n d is are e =
    let found = found_is (IsAdmitted ss m) i rows.items n are.0 e in
    admitted_is (get_or ss i d).definition m is (subst (λ k. admits (get_or ss k d).definition m ≡ true) found.2 (found.1.admitted d))

-- and so may the queue
at_is : (name : List ℕ) (d : Destination) (h : Holders) (n : ℕ) → count_at name d h ≡ Some n → d ≡ destination.Queue name
at_is name (destination.Queue queue) (holders.Queue count) n e = go (text_eq queue name) refl e
  where
    go : (b : Bool) → text_eq queue name ≡ b → cond b (Some count) None ≡ Some n → destination.Queue queue ≡ destination.Queue name
    go true same f = ap (λ t. destination.Queue t) (text_same queue name same)
    go false other f = cc
at_is name (destination.Queue queue) (holders.Subscriptions rows) n e = cc
at_is name (destination.Topic topic) (holders.Queue count) n e = cc
at_is name (destination.Topic topic) (holders.Subscriptions rows) n e = cc

each_message : (P Q : StoredMessage → Type 0) (R : StoredMessage → Type 0) → ((m : StoredMessage) → P m → Q m → R m) → (ms : List StoredMessage) → AllByRecursion P ms → All Q ms → AllByRecursion R ms
each_message P Q R to [] h all = tt
each_message P Q R to (m ∷ ms) h all = (to m h.0 (All-head Q m ms all), each_message P Q R to ms h.1 (All-tail Q m ms all))

each_holds : (rows : ℕ → List PlacedRow) (ss : List StoredSubscription) → AllByRecursion (λ (s : StoredSubscription). selector_refusal s.definition.selector ≡ None) ss → ((i : ℕ) (d : StoredSubscription) → i < length ss → AllHold (IsOfTopic (get_or ss i d).definition) (rows i))
    → EachHolds (stations_stored rows ss)
each_holds rows [] chosen each = tt
each_holds rows (s ∷ ss) chosen each = (record { selector = chosen.0; rows = each zero s (omega arith) }, each_holds (λ i. rows (suc i)) ss chosen.1 (λ i d l. each (suc i) d (omega (arith, l))))

after_is : (from : ℕ) (ms : List StoredMessage) → 1 ≤ from → 1 ≤ place_after from ms
after_is from [] l = l
after_is from (m ∷ ms) l = after_is (m.place + 1) ms (omega arith)

pub state_holds : (opening limit : ℕ) (ss : List StoredSubscription) (ms : List StoredMessage) → MayReopen ss ms → AllByRecursion (λ (m : StoredMessage). IsMessage m.message) ms
    → AllByRecursion (λ (s : StoredSubscription). selector_refusal s.definition.selector ≡ None) ss → HoldsMessages (state_stored opening limit ss ms)
state_holds opening limit ss ms may are chosen = record {
  stations = each_holds (rows_under ms) ss chosen (λ i d l. rows_hold (IsOfTopic (get_or ss i d).definition) (λ m. count_under i m.holders) 1 ms (omega arith) may.placed
      (each_message (λ m. IsMessage m.message) (λ m. AreHolders ss m.message m.holders) (λ m. (n : ℕ) → count_under i m.holders ≡ Some n → IsOfTopic (get_or ss i d).definition m.message)
      (λ m is held n e. under_is ss i m.message m.holders n d is held e) ms are may.held));
  queues = λ name. rows_hold (IsOfQueue name) (λ m. count_at name m.message.destination m.holders) 1 ms (omega arith) may.placed
      (each_message (λ m. IsMessage m.message) (λ m. AreHolders ss m.message m.holders) (λ m. (n : ℕ) → count_at name m.message.destination m.holders ≡ Some n → IsOfQueue name m.message)
      (λ m is held n e. record { message = is; sent = at_is name m.message.destination m.holders n e }) ms are may.held);
  places = after_is 1 ms (omega arith);
}

-- ---- the rows of the tables

messages_are : (ms : List StoredMessage) (rows : List MessageRow) → ArePairs rows ms → AllByRecursion HasMessage rows → AllByRecursion (λ (m : StoredMessage). IsMessage m.message) ms
messages_are [] rows e are = tt
messages_are (m ∷ ms) [] e are = absurd (cc)
messages_are (m ∷ ms) (r ∷ rows) e are =
    let head : given_pair m ≡ said_pair r = cc in
    let tail : map given_pair ms ≡ map said_pair rows = cc in
    (subst IsMessage (sym (ap (λ (p : ℕ × Content). p.1) head)) are.0, messages_are ms rows tail are.1)

selectors_are : (rows : List StationRow) → AllByRecursion HasSelector rows → AllByRecursion (λ (s : StoredSubscription). selector_refusal s.definition.selector ≡ None) (subscriptions_in rows)
selectors_are [] h = tt
selectors_are (s ∷ rows) h = go s.definition h.0 (selectors_are rows h.1)
  where
    go : (o : Option Definition) → IfSome o (λ d. selector_refusal d.selector ≡ None) → AllByRecursion (λ (x : StoredSubscription). selector_refusal x.definition.selector ≡ None) (subscriptions_in rows)
        → AllByRecursion (λ (x : StoredSubscription). selector_refusal x.definition.selector ≡ None) (subscription_for s.key o ++ subscriptions_in rows)
    go None chosen rest = rest
    go (Some d) chosen rest = (chosen, rest)

-- so a core that is made of what they say holds messages
pub said_holds : (opening limit : ℕ) (stations : List StationRow) (rows : List MessageRow) (ss : List StoredSubscription) (ms : List StoredMessage) (state : State) → MayReopen ss ms → ss ≡ subscriptions_in stations → ArePairs rows ms
    → state ≡ state_stored opening limit ss ms → AllByRecursion HasMessage rows → AllByRecursion HasSelector stations → HoldsMessages state
said_holds opening limit stations rows ss ms state may asked pairs is messages selectors =
    subst HoldsMessages (sym is)
    (state_holds opening limit ss ms may (messages_are ms rows pairs messages) (subst (AllByRecursion (λ (s : StoredSubscription). selector_refusal s.definition.selector ≡ None)) (sym asked) (selectors_are stations selectors)))
