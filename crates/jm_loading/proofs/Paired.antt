-- Messages and the rows that they are of.
use Rattle.std.proofs.Common.{◌≡◌, ◌+◌, ◌<◌, ◌≤◌, ◌==◌, ◌∙◌, ℕ, zero, suc, Bool, true, false, cond, List, [], ◌∷◌, ◌++◌, map, ap, sym, subst, refl, length, get_or, arith, Some, nat_cmp}
use Rattle.std.specs.Prelude.{Decides, option_map}
use Rattle.std.specs.Cmp.{IsTotalOrder}
use Rattle.std.specs.List.{AllByRecursion}
use Rattle.std.specs.List.Sorted.{IsStrictlySortedBy}
use Rattle.std.specs.declared.cmp.Ordering.{Ordering}
use Rattle.std.specs.declared.cmp.Ordering.TheVariants.{Less, Equal, Greater}
use Rattle.std.proofs.lemmas.Bool.{eqb-true}
use Rattle.std.proofs.lemmas.Cmp.{nat_cmp_total, on_total, ranked}
use Rattle.std.proofs.lemmas.List.{get_or_default, map_push}
use Rattle.std.proofs.lemmas.List.Elements.{recursion_from_All}
use Rattle.jm_header.specs.declared.content.Content.{Content}
use Rattle.jm_dest.specs.declared.key.Key.{Key}
use Rattle.jm_dest.specs.Keys.{key_eq}
use Rattle.jm_machine.specs.Machine.{places_end}
use Rattle.jm_machine.specs.Rows.{greatest_count}
use Rattle.jm_parts.specs.declared.stored.StoredSubscription.{StoredSubscription}
use Rattle.jm_decoding.specs.declared.delay.DelayRow.{DelayRow}
use Rattle.jm_decoding.specs.declared.held.HeldRow.{HeldRow}
use Rattle.jm_loading.specs.Delays.{IsDelay, IsDueAt}
use Rattle.jm_loading.specs.Holding.{CanHold, CanHoldUnder, CanTake, EndsBefore}
use Rattle.jm_parts.specs.declared.stored.StoredMessage.{StoredMessage}
use Rattle.jm_parts.specs.Stored.{ArePlaced, admits}
use Rattle.jm_reopened.specs.Given.{given_at}
use Rattle.jm_decoding.specs.declared.message.MessageRow.{MessageRow}
use Rattle.jm_loading.specs.Fitting.{FitMessages, IsPlaced, message_cmp}
use Rattle.jm_loading.specs.Messages.{ArePairs, content_at, content_said, given_pair, said_pair}
use Rattle.jm_loading.specs.Said.{message_said}
use Rattle.jm_loading.proofs.Lookups.{found_index, mapped}
use Rattle.jm_loading.proofs.Placed.{given_here}
use Rattle.jm_loading.proofs.Unfit.{fit_sorted}

-- ---- one by one

heads : (a b : ℕ × Content) (xs ys : List (ℕ × Content)) → (a ∷ xs) ≡ (b ∷ ys) → (a ≡ b) × (xs ≡ ys)
heads a b xs ys h = (cc, cc)

pub pair_length : (rows : List MessageRow) (ms : List StoredMessage) → ArePairs rows ms → length ms ≡ length rows
pair_length [] [] h = refl
pair_length [] (m ∷ ms) h = cc
pair_length (r ∷ rows) [] h = cc
pair_length (r ∷ rows) (m ∷ ms) h = ap (λ (n : ℕ). suc n) (pair_length rows ms (heads (given_pair m) (said_pair r) (map given_pair ms) (map said_pair rows) h).1)

pub pair_at : (rows : List MessageRow) (ms : List StoredMessage) → ArePairs rows ms → (k : ℕ) (d : MessageRow) (e : StoredMessage) → k < length rows → ((get_or ms k e).place ≡ (get_or rows k d).place) × ((get_or ms k e).message ≡ (get_or rows k d).message)
pair_at [] ms h k d e l = absurd (omega (arith, l))
pair_at (r ∷ rows) [] h k d e l = cc
pair_at (r ∷ rows) (m ∷ ms) h zero d e l =
    let head = (heads (given_pair m) (said_pair r) (map given_pair ms) (map said_pair rows) h).0 in
    (ap (λ (p : ℕ × Content). p.0) head, ap (λ (p : ℕ × Content). p.1) head)
pair_at (r ∷ rows) (m ∷ ms) h (suc k) d e l = pair_at rows ms (heads (given_pair m) (said_pair r) (map given_pair ms) (map said_pair rows) h).1 k d e (omega (arith, l))

-- one more of each
pub pairs_push : (rows : List MessageRow) (ms : List StoredMessage) (r : MessageRow) (m : StoredMessage) → ArePairs rows ms → m.place ≡ r.place → m.message ≡ r.message → ArePairs (rows ++ r ∷ []) (ms ++ m ∷ [])
pairs_push rows ms r m h place message =
    map_push given_pair ms m ∙ ap (λ (l : List (ℕ × Content)). l ++ given_pair m ∷ []) h ∙ ap (λ (p : ℕ × Content). map said_pair rows ++ p ∷ []) (λ i. (place i, message i)) ∙ sym (map_push said_pair rows r)

-- the same message stands at each place
pub same_content : (rows : List MessageRow) (ms : List StoredMessage) → ArePairs rows ms → (p : ℕ) → content_at p ms ≡ content_said p rows
same_content [] [] h p = refl
same_content [] (m ∷ ms) h p = cc
same_content (r ∷ rows) [] h p = cc
same_content (r ∷ rows) (m ∷ ms) h p =
    let parts = heads (given_pair m) (said_pair r) (map given_pair ms) (map said_pair rows) h in
    go (m.place == p) (r.place == p) (ap (λ (q : ℕ × Content). q.0 == p) parts.0) (ap (λ (q : ℕ × Content). q.1) parts.0) (same_content rows ms parts.1 p)
  where
    go : (a b : Bool) → a ≡ b → m.message ≡ r.message → content_at p ms ≡ content_said p rows →
        option_map (λ (x : StoredMessage). x.message) (cond a (Some m) (given_at p ms)) ≡ option_map (λ (x : MessageRow). x.message) (cond b (Some r) (message_said p rows))
    go true true e same rest = ap Some same
    go true false e same rest = cc
    go false true e same rest = cc
    go false false e same rest = rest

-- ---- places

pub below_less : (a b : ℕ) → a < b → nat_cmp a b ≡ Less
below_less a b l = go (nat_cmp a b) refl
  where
    go : (o : Ordering) → nat_cmp a b ≡ o → o ≡ Less
    go Less e = refl
    go Equal e = absurd (let same = ranked a b Equal (sym e) in omega (arith, l, same))
    go Greater e = absurd (let above = ranked a b Greater (sym e) in omega (arith, l, above))

from_next : (low : ℕ) (rows : List MessageRow) (r : MessageRow) → AllByRecursion (λ y. message_cmp r y ≡ Less) rows → AllByRecursion (λ (y : MessageRow). r.place + 1 ≤ y.place) rows
from_next low [] r h = tt
from_next low (y ∷ rows) r h = ((let below = ranked r.place y.place Less (sym h.0) in omega (arith, below)), from_next low rows r h.1)

placed_from : (from : ℕ) (rows : List MessageRow) (ms : List StoredMessage) → IsStrictlySortedBy message_cmp rows → AllByRecursion IsPlaced rows → AllByRecursion (λ (y : MessageRow). from ≤ y.place) rows → ArePairs rows ms → ArePlaced from ms
unfolding IsStrictlySortedBy
placed_from from [] [] s p low h = tt
placed_from from [] (m ∷ ms) s p low h = cc
placed_from from (r ∷ rows) [] s p low h = cc
placed_from from (r ∷ rows) (m ∷ ms) s p low h =
    let parts = heads (given_pair m) (said_pair r) (map given_pair ms) (map said_pair rows) h in
    let same : m.place ≡ r.place = ap (λ (q : ℕ × Content). q.0) parts.0 in
    (subst (λ (x : ℕ). from ≤ x) (sym same) low.0, subst (λ (x : ℕ). x < places_end) (sym same) p.0.1, subst (λ (x : ℕ). ArePlaced (x + 1) ms) (sym same) (placed_from (r.place + 1) rows ms s.1 p.1 (from_next from rows r s.0) parts.1))

pub message_order : IsTotalOrder message_cmp
message_order = on_total (λ (m : MessageRow). m.place) nat_cmp_total

low_places : (rows : List MessageRow) → AllByRecursion IsPlaced rows → AllByRecursion (λ (y : MessageRow). 1 ≤ y.place) rows
low_places [] h = tt
low_places (r ∷ rows) h = (h.0.0, low_places rows h.1)

-- messages of rows that fit stand by place
pub placed_as : (rows : List MessageRow) (ms : List StoredMessage) → FitMessages rows → ArePairs rows ms → ArePlaced 1 ms
placed_as rows ms fit h =
    let places = recursion_from_All IsPlaced rows fit.may in
    placed_from 1 rows ms (fit_sorted message_order IsPlaced rows fit) places (low_places rows places) h

above_all : (low from : ℕ) (ms : List StoredMessage) → ArePlaced from ms → low < from → AllByRecursion (λ y. nat_cmp low y ≡ Less) (map (λ (m : StoredMessage). m.place) ms)
above_all low from [] h l = tt
above_all low from (m ∷ ms) h l =
    let here = h.0 in
    (below_less low m.place (omega (arith, here, l)), above_all low (m.place + 1) ms h.2 (omega (arith, here, l)))

pub placed_rise : (from : ℕ) (ms : List StoredMessage) → ArePlaced from ms → IsStrictlySortedBy nat_cmp (map (λ (m : StoredMessage). m.place) ms)
unfolding IsStrictlySortedBy
placed_rise from [] h = tt
placed_rise from (m ∷ ms) h = (above_all m.place (m.place + 1) ms h.2 (omega arith), placed_rise (m.place + 1) ms h.2)

-- ---- a message and its row

module _ (rows : List MessageRow) (ms : List StoredMessage) (placed : ArePlaced 1 ms) (same : (p : ℕ) → content_at p ms ≡ content_said p rows) where
  -- the message with an index has a row
  pub row_of : (k : ℕ) (m : StoredMessage) → k < length ms → ((d : StoredMessage) → get_or ms k d ≡ m) → (r : MessageRow) × (message_said m.place rows ≡ Some r) × (r.message ≡ m.message)
  row_of k m l is =
      let here : given_at m.place ms ≡ Some m = subst (λ (x : StoredMessage). given_at x.place ms ≡ Some x) (is m) (given_here 1 k ms m placed l) in
      mapped (λ (r : MessageRow). r.message) (message_said m.place rows) m.message (sym (same m.place) ∙ ap (option_map (λ (x : StoredMessage). x.message)) here)

  -- the row at a place has a message
  pub message_of : (p : ℕ) (r : MessageRow) → message_said p rows ≡ Some r → (k : ℕ) × (m : StoredMessage) × (k < length ms) × ((d : StoredMessage) → get_or ms k d ≡ m) × (m.place ≡ p) × (m.message ≡ r.message) × (given_at p ms ≡ Some m)
  message_of p r h =
      let found = mapped (λ (x : StoredMessage). x.message) (given_at p ms) r.message (same p ∙ ap (option_map (λ (x : MessageRow). x.message)) h) in
      let index = found_index (λ (x : StoredMessage). x.place == p) ms found.0 found.1 in
      (index.0, found.0, index.1, index.2, eqb-true found.0.place p index.3, found.2, found.1)

-- messages with one place are one
pub one_at : (ms : List StoredMessage) → ArePlaced 1 ms → (i k : ℕ) (a b : StoredMessage) → i < length ms → k < length ms → ((d : StoredMessage) → get_or ms i d ≡ a) → ((d : StoredMessage) → get_or ms k d ≡ b) → a.place ≡ b.place → a ≡ b
one_at ms placed i k a b l m ia kb same =
    let first : given_at a.place ms ≡ Some a = subst (λ (x : StoredMessage). given_at x.place ms ≡ Some x) (ia a) (given_here 1 i ms a placed l) in
    let second : given_at b.place ms ≡ Some b = subst (λ (x : StoredMessage). given_at x.place ms ≡ Some x) (kb b) (given_here 1 k ms b placed m) in
    let both : Some a ≡ Some b = sym first ∙ ap (λ (p : ℕ). given_at p ms) same ∙ second in
    cc

-- ---- the test of a row of delayed, and the message that a row of held comes to

pub delay_test : (ms : List StoredMessage) (d : DelayRow) (at : ℕ) (m : StoredMessage) (b : Bool) → ArePlaced 1 ms → at < length ms → m ≡ get_or ms at m → ((e : StoredMessage) → (get_or ms at e).place ≡ d.place) → Decides b (IsDueAt (get_or ms at m).message d.due) → Decides b (IsDelay ms d)
delay_test ms d at m b placed l is there tested =
    let test : Decides b (IsDueAt m.message d.due) = subst (λ (x : StoredMessage). Decides b (IsDueAt x.message d.due)) (sym is) tested in
    let mine : (e : StoredMessage) → get_or ms at e ≡ m = λ e. sym (is ∙ get_or_default ms at m e l) in
    let place : m.place ≡ d.place = ap (λ (x : StoredMessage). x.place) is ∙ there m in (
      λ t. record { at = at; message = m; within = l; message_is = mine; there = place; due = test.0 t },
      λ h. test.1 (subst (λ (x : StoredMessage). IsDueAt x.message d.due) (one_at ms placed h.at at h.message m h.within l h.message_is mine (h.there ∙ sym place)) h.due),
    )

pub can_here : (queues : List (List ℕ)) (ss : List StoredSubscription) (h : HeldRow) (ms : List StoredMessage) (at : ℕ) (m : StoredMessage) → ArePlaced 1 ms → at < length ms → m ≡ get_or ms at m → ((e : StoredMessage) → (get_or ms at e).place ≡ h.place) → CanTake queues ss h ms → CanHold queues ss h.key h.count (get_or ms at m)
can_here queues ss h ms at m placed l is there can =
    let mine : (e : StoredMessage) → get_or ms at e ≡ m = λ e. sym (is ∙ get_or_default ms at m e l) in
    let place : m.place ≡ h.place = ap (λ (x : StoredMessage). x.place) is ∙ there m in
    subst (λ (x : StoredMessage). CanHold queues ss h.key h.count x) (one_at ms placed can.at at can.message m can.within l can.message_is mine (can.there ∙ sym place) ∙ is) can.can

-- the subscription that can hold a message is the one that was found
pub can_under : (ss : List StoredSubscription) (key : Key) (count : ℕ) (m : StoredMessage) (index : ℕ) (s : StoredSubscription) → s ≡ get_or ss index s → ((k : ℕ) (d : StoredSubscription) → k < length ss → key_eq (get_or ss k d).key key ≡ true → k ≡ index) → CanHoldUnder ss key count m →
    (admits s.definition m.message ≡ true) × (count ≤ greatest_count) × EndsBefore index m.holders
can_under ss key count m index s is alone can =
    let same : can.at ≡ index = alone can.at can.subscription can.within (subst (λ (x : StoredSubscription). key_eq x.key key ≡ true) (sym (can.subscription_is can.subscription)) can.named) in
    let one : can.subscription ≡ s = sym (can.subscription_is s) ∙ ap (λ (n : ℕ). get_or ss n s) same ∙ sym is in
    (subst (λ (x : StoredSubscription). admits x.definition m.message ≡ true) one can.admitted, can.counted, subst (λ (n : ℕ). EndsBefore n m.holders) same can.before)
