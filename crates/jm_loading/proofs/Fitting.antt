-- What comes to its message is what fits, and the other way round.
use Rattle.std.proofs.Common.{◌≡◌, ◌+◌, ◌<◌, ◌≤◌, ◌⊎◌, ◌==◌, ◌∙◌, ℕ, true, false, List, [], ◌∷◌, ap, sym, subst, refl, length, get_or, take, arith, inl, inr, Option, Some, None, nat_cmp}
use Rattle.std.specs.Prelude.{◌&&◌, ◌||◌, option_map}
use Rattle.std.specs.List.{AllByRecursion, Any, list_any}
use Rattle.std.specs.Ordering.{ordering_then}
use Rattle.std.specs.declared.cmp.Ordering.{Ordering}
use Rattle.std.specs.declared.cmp.Ordering.TheVariants.{Less, Equal, Greater}
use Rattle.std.proofs.lemmas.Bool.{and_from, and_parts, eq-eqb, eqb-true}
use Rattle.std.specs.Cmp.{IsTotalOrder}
use Rattle.std.proofs.lemmas.Cmp.{nat_cmp_total, on_total, then_total, tied_itself}
use Rattle.std.proofs.lemmas.List.{get_or-take, get_or_default, length-take}
use Rattle.std.proofs.lemmas.List.Folds.{Any-from_list_any, list_any_at}
use Rattle.jm_dest.specs.declared.key.Key.{Key}
use Rattle.jm_dest.specs.declared.key.Key.TheVariants.{Queue, Own, SharedOwn, Durable}
use Rattle.jm_dest.specs.declared.session.SessionId.{SessionId}
use Rattle.jm_dest.specs.Keys.{key_eq}
use Rattle.jm_dest.specs.Names.{text_eq}
use Rattle.jm_header.specs.declared.content.Content.{Content}
use Rattle.jm_machine.specs.declared.state.Definition.{Definition}
use Rattle.jm_machine.specs.Reopened.{is_durable}
use Rattle.jm_machine.specs.Rows.{greatest_count}
use Rattle.jm_machine.proofs.Keys.{key_refl, key_same}
use Rattle.jm_stations.specs.declared.loading.StoredRow.{StoredRow}
use Rattle.jm_stations.specs.Loading.{stored_at}
use Rattle.jm_parts.specs.declared.stored.Holders.{Holders}
use Rattle.jm_parts.specs.declared.stored.Holders.TheVariants as holders
use Rattle.jm_parts.specs.declared.stored.StoredMessage.{StoredMessage}
use Rattle.jm_parts.specs.declared.stored.StoredSubscription.{StoredSubscription}
use Rattle.jm_parts.specs.Stored.{AreHolders, admits, count_at, count_under, queue_admits}
use Rattle.jm_reopened.specs.Given.{AreSome, count_given, count_in, count_of_key, given_at}
use Rattle.jm_decoding.specs.declared.delay.DelayRow.{DelayRow}
use Rattle.jm_decoding.specs.declared.held.HeldRow.{HeldRow}
use Rattle.jm_decoding.specs.declared.message.MessageRow.{MessageRow}
use Rattle.jm_decoding.specs.declared.station.StationRow.{StationRow}
use Rattle.jm_loading.specs.Delays.{IsDelay, IsDelayAt, IsDueAt}
use Rattle.jm_parts.specs.Stored.{ArePlaced}
use Rattle.jm_loading.specs.Messages.{content_at, content_said}
use Rattle.jm_loading.proofs.Placed.{given_here}
use Rattle.jm_loading.specs.Fitting.{IsDelayed, IsHeld, held_cmp, is_holder, may_hold}
use Rattle.jm_loading.specs.Holding.{AreHeldAs, CanHold, CanTake, EndsBefore}
use Rattle.jm_loading.specs.Messages.{IsUnheld}
use Rattle.jm_loading.specs.Order.{key_cmp}
use Rattle.jm_loading.specs.Said.{count_said, is_held_at, message_said}
use Rattle.jm_loading.specs.Stations.{IsKnown, IsKnownAs, AreSearchable, AreStationsOf, AreSubscriptions, queues_in, subscriptions_in}
use Rattle.jm_loading.proofs.Holding.{durable_count, ends_below, free_for_queue, holders_queue, holders_under, one_kind, own_count, queue_counts, row_counts, some_of}
use Rattle.jm_loading.proofs.Keys.{key_order}
use Rattle.jm_loading.proofs.Lookups.{IsCounted, at_place, counted_at, counted_row}
use Rattle.jm_loading.proofs.More.{not_own, unheld_count}
use Rattle.jm_loading.proofs.Paired.{message_of, row_of}
use Rattle.jm_loading.proofs.Sorted.{by_recursion}
use Rattle.jm_loading.specs.Unfit.{AreFit, IsBehind, IsFirstUnfit}
use Rattle.jm_loading.proofs.Unfit.{below_next, far, first_unfit, fit_next, not_below, not_both_below}

-- ---- orders

then_equal : (o : Ordering) → ordering_then o Equal ≡ o
then_equal Less = refl
then_equal Equal = refl
then_equal Greater = refl

-- of two rows of one place the keys rise
keys_below : (x h : HeldRow) → held_cmp x h ≡ Less → x.place ≡ h.place → key_cmp x.key h.key ≡ Less
keys_below x h below same =
    let tied : nat_cmp x.place h.place ≡ Equal = ap (nat_cmp x.place) (sym same) ∙ tied_itself nat_cmp_total x.place in
    sym (then_equal (key_cmp x.key h.key)) ∙ ap (ordering_then (key_cmp x.key h.key)) (sym tied) ∙ below

abbrev pub AllBelow : List HeldRow → HeldRow → Type 0
AllBelow before h = (k : ℕ) (d : HeldRow) → k < length before → held_cmp (get_or before k d) h ≡ Less

held_order : IsTotalOrder held_cmp
held_order = then_total (on_total (λ (h : HeldRow). h.key) key_order) (on_total (λ (h : HeldRow). h.place) nat_cmp_total)

-- the rows before one that stands behind them are all below it
pub all_below : (P : HeldRow → Type 0) (held : List HeldRow) (at : ℕ) (h : HeldRow) → at < length held → h ≡ get_or held at h → AreFit held_cmp P held at → IsBehind held_cmp held at → AllBelow (take at held) h
all_below P held at h l is before behind k d w =
    let long = length-take at held in
    let inside : k < at = omega (arith, w, long) in
    ap (λ (x : HeldRow). held_cmp x h) (get_or-take at held k d inside) ∙ ap (held_cmp (get_or held k d)) (is ∙ get_or_default held at h d l) ∙ below_next held_order P held at before behind k d inside

-- what is counted at the place of a later row has a key before its key
key_below : (before : List HeldRow) (h : HeldRow) (key : Key) → AllBelow before h → IsCounted key h.place before → key_cmp key h.key ≡ Less
key_below before h key below is =
    let less : held_cmp is.row h ≡ Less = subst (λ (x : HeldRow). held_cmp x h ≡ Less) (is.row_is is.row) (below is.at is.row is.within) in
    subst (λ (k : Key). key_cmp k h.key ≡ Less) is.key_is (keys_below is.row h less is.place_is)

-- so nothing is counted there under its own key
none_counted : (before : List HeldRow) (h : HeldRow) → AllBelow before h → count_said h.key h.place before ≡ None
none_counted before h below = go (count_said h.key h.place before) refl
  where
    go : (o : Option ℕ) → count_said h.key h.place before ≡ o → o ≡ None
    go None e = refl
    go (Some c) e = absurd (not_below key_order h.key h.key (key_below before h h.key below (counted_row h.key h.place c before e)) refl)

-- ---- stations

module _ (known : List StationRow) (queues : List (List ℕ)) (ss : List StoredSubscription) (of : AreStationsOf known queues ss) (are : AreSubscriptions ss) where
  -- who can hold a message may hold it
  pub may_from : (key : Key) (count : ℕ) (m : StoredMessage) → CanHold queues ss key count m → (list_any (is_holder key m.message) known ≡ true) × (count ≤ greatest_count)
  may_from (Queue name) count m h =
      let stands : list_any (λ queue. text_eq queue name) (queues_in known) ≡ true = subst (λ (xs : List (List ℕ)). list_any (λ queue. text_eq queue name) xs ≡ true) of.queues_are h.stands in
      (holders_queue name m.message known (by_recursion known of.known) ∙ and_from _ _ stands h.admitted, h.counted)
  may_from (Own s c) count m h = absurd (
      let durable = are.durable h.at h.subscription h.within in
      let other = not_own h.subscription.key (Own s c) (subst (λ (x : StoredSubscription). is_durable x.key ≡ true) (h.subscription_is h.subscription) durable) refl in
      let named = h.named in
      cc)
  may_from (SharedOwn c n) count m h = absurd (
      let durable = are.durable h.at h.subscription h.within in
      let other = not_own h.subscription.key (SharedOwn c n) (subst (λ (x : StoredSubscription). is_durable x.key ≡ true) (h.subscription_is h.subscription) durable) refl in
      let named = h.named in
      cc)
  may_from (Durable c n) count m h =
      let test = λ (s : StoredSubscription). key_eq s.key (Durable c n) && admits s.definition m.message in
      let passes : test h.subscription ≡ true = and_from _ _ h.named h.admitted in
      let any : list_any test ss ≡ true = list_any_at test ss h.at h.subscription h.within (ap test (h.subscription_is h.subscription) ∙ passes) in
      (holders_under c n m.message known (by_recursion known of.known) ∙ subst (λ (xs : List StoredSubscription). list_any test xs ≡ true) of.subscriptions_are any, h.counted)

  -- a subscription that may hold a message, by its index
  pub subscription_of : (c : Option (List ℕ)) (n : List ℕ) (m : Content) → list_any (is_holder (Durable c n) m) known ≡ true →
      (k : ℕ) × (s : StoredSubscription) × (k < length ss) × ((d : StoredSubscription) → get_or ss k d ≡ s) × (key_eq s.key (Durable c n) ≡ true) × (admits s.definition m ≡ true)
  subscription_of c n m h =
      let test = λ (s : StoredSubscription). key_eq s.key (Durable c n) && admits s.definition m in
      let here : list_any test (subscriptions_in known) ≡ true = sym (holders_under c n m known (by_recursion known of.known)) ∙ h in
      let any = Any-from_list_any test ss (subst (λ (xs : List StoredSubscription). list_any test xs ≡ true) (sym of.subscriptions_are) here) in
      let parts = and_parts (key_eq any.1.key (Durable c n)) (admits any.1.definition m) any.4 in
      (any.0, any.1, any.2, λ d. get_or_default ss any.0 d any.1 any.2 ∙ any.3, parts.0, parts.1)

  pub queue_of : (n : List ℕ) (m : Content) → list_any (is_holder (Queue n) m) known ≡ true → (list_any (λ queue. text_eq queue n) queues ≡ true) × (queue_admits n m ≡ true)
  queue_of n m h =
      let parts = and_parts (list_any (λ queue. text_eq queue n) (queues_in known)) (queue_admits n m) (sym (holders_queue n m known (by_recursion known of.known)) ∙ h) in
      (subst (λ (xs : List (List ℕ)). list_any (λ queue. text_eq queue n) xs ≡ true) (sym of.queues_are) parts.0, parts.1)

-- no row of station is that of a key that is not stored
none_own : (known : List StationRow) (m : Content) (key : Key) → ((x : Key) (d : Option Definition) → IsKnownAs x d → key_eq x key ≡ false) → AllByRecursion IsKnown known → list_any (is_holder key m) known ≡ true → ⊥
none_own [] m key other k h = cc
none_own (s ∷ rows) m key other k h = none_own rows m key other k.1 (ap (λ b. (b && may_hold s.key s.definition m) || list_any (is_holder key m) rows) (sym (other s.key s.definition k.0)) ∙ h)

own_known : (t : SessionId) (e : ℕ) (d : Option Definition) → IsKnownAs (Own t e) d → ⊥
own_known t e None k = k
own_known t e (Some d) k = k

shared_known : (c : Option (List ℕ)) (n : List ℕ) (d : Option Definition) → IsKnownAs (SharedOwn c n) d → ⊥
shared_known c n None k = k
shared_known c n (Some d) k = k

own_other : (s : SessionId) (c : ℕ) (x : Key) (d : Option Definition) → IsKnownAs x d → key_eq x (Own s c) ≡ false
own_other s c (Queue n) d k = refl
own_other s c (Own t e) d k = absurd (own_known t e d k)
own_other s c (SharedOwn a n) d k = refl
own_other s c (Durable a n) d k = refl

shared_other : (a : Option (List ℕ)) (b : List ℕ) (x : Key) (d : Option Definition) → IsKnownAs x d → key_eq x (SharedOwn a b) ≡ false
shared_other a b (Queue n) d k = refl
shared_other a b (Own t e) d k = refl
shared_other a b (SharedOwn c n) d k = absurd (shared_known c n d k)
shared_other a b (Durable c n) d k = refl

three : (j i : ℕ) → (j < i) ⊎ ((i < j) ⊎ (i ≡ j))
three j i = grind arith

-- ---- rows of held, and messages that are held as those before say

module _ (known : List StationRow) (rows : List MessageRow) (queues : List (List ℕ)) (ss : List StoredSubscription) (of : AreStationsOf known queues ss) (are : AreSubscriptions ss) (sorted : AreSearchable queues ss)
    (held : List HeldRow) (ms : List StoredMessage) (stand : AreHeldAs rows ss held ms) where
  -- what comes to its message fits
  pub taken_fits : (h : HeldRow) → CanTake queues ss h ms → IsHeld known rows h
  taken_fits h t =
      let row = row_of rows ms stand.placed stand.same t.at t.message t.within t.message_is in
      let may = may_from known queues ss of are h.key h.count t.message t.can in
      record {
        message = row.0;
        message_is = ap (λ (p : ℕ). message_said p rows) (sym t.there) ∙ row.1;
        holder = subst (λ (m : Content). list_any (is_holder h.key m) known ≡ true) (sym row.2) may.0;
        counted = may.1;
      }

  module _ (k : ℕ) (m : StoredMessage) (l : k < length ms) (is : (d : StoredMessage) → get_or ms k d ≡ m) where
    may_here : AreHolders ss m.message m.holders
    may_here = subst (λ (x : StoredMessage). AreHolders ss x.message x.holders) (is m) (stand.may k m l)

    -- the counts of a message are those that the rows say
    count_here : (key : Key) → count_of_key ss key m ≡ count_said key m.place held
    count_here key =
        let here : given_at m.place ms ≡ Some m = subst (λ (x : StoredMessage). given_at x.place ms ≡ Some x) (is m) (given_here 1 k ms m stand.placed l) in
        sym (ap (count_given ss key) here) ∙ stand.counts key m.place

    under_here : (j : ℕ) (d : StoredSubscription) → j < length ss → count_in (λ i. count_under i m.holders) ss (get_or ss j d).key ≡ count_said (get_or ss j d).key m.place held
    under_here j d w = sym (durable_count ss (get_or ss j d).key m (are.durable j d w)) ∙ count_here (get_or ss j d).key

    -- a row under an index is one of held
    row_said : (rs : List StoredRow) (q : ℕ) (e : StoredRow) (d : StoredSubscription) → q < length rs → (get_or rs q e).index < length ss →
        count_in (λ i. option_map (λ (r : StoredRow). r.count) (stored_at i rs)) ss (get_or ss (get_or rs q e).index d).key ≡ count_said (get_or ss (get_or rs q e).index d).key m.place held → IsCounted (get_or ss (get_or rs q e).index d).key m.place held
    row_said rs q e d w within counts =
        let j = (get_or rs q e).index in
        let row = row_counts rs q e w in
        counted_row (get_or ss j d).key m.place row.0 held (sym counts ∙ own_count (λ i. option_map (λ (r : StoredRow). r.count) (stored_at i rs)) ss j d are.once within ∙ row.1)

    -- a message that a subscription may hold, and that no earlier row says it holds, is held by none of it and behind it
    ends_here : (h : HeldRow) → AllBelow held h → m.place ≡ h.place → (i : ℕ) (s : StoredSubscription) → i < length ss → ((d : StoredSubscription) → get_or ss i d ≡ s) → s.key ≡ h.key → admits s.definition m.message ≡ true → EndsBefore i m.holders
    ends_here h below place i s w there same admitted = go m.holders may_here under_here
      where
        go : (hs : Holders) → AreHolders ss m.message hs → ((j : ℕ) (d : StoredSubscription) → j < length ss → count_in (λ i. count_under i hs) ss (get_or ss j d).key ≡ count_said (get_or ss j d).key m.place held) → EndsBefore i hs
        go (holders.Queue c) may counts = one_kind may.0.0 s.definition m.message may.0.1 admitted
        go (holders.Subscriptions rs) may counts = ends_below 0 rs.items i (omega arith) (λ q e v.
            let j = (get_or rs.items q e).index in
            let within : j < length ss = (may.0 q e v).within in
            let d = some_of ss j within in
            let counted = row_said rs.items q e d v within (counts j d within) in
            let less : key_cmp (get_or ss j d).key h.key ≡ Less = key_below held h (get_or ss j d).key below (subst (λ (p : ℕ). IsCounted (get_or ss j d).key p held) place counted) in
            elim (three j i) [
              | inl before ↦ before
              | inr (inl after) ↦ absurd (not_both_below key_order (get_or ss j d).key h.key less
                  (subst (λ (x : Key). key_cmp x (get_or ss j d).key ≡ Less) (ap (λ (x : StoredSubscription). x.key) (there d) ∙ same) (far key_cmp (λ (x : StoredSubscription). x.key) ss sorted.subscriptions_rise i j d after within)))
              | inr (inr one) ↦ absurd (not_below key_order (get_or ss j d).key h.key less (ap (λ (n : ℕ). (get_or ss n d).key) (sym one) ∙ ap (λ (x : StoredSubscription). x.key) (there d) ∙ same))
            ])

    -- somebody holds a message that a row of held is at
    pub somebody : AreSome m.holders → list_any (λ (h : HeldRow). h.place == m.place) held ≡ true
    somebody some = go m.holders may_here (λ n. count_here (Queue n)) under_here some
      where
        go : (hs : Holders) → AreHolders ss m.message hs → ((n : List ℕ) → count_at n m.message.destination hs ≡ count_said (Queue n) m.place held) →
            ((j : ℕ) (d : StoredSubscription) → j < length ss → count_in (λ i. count_under i hs) ss (get_or ss j d).key ≡ count_said (get_or ss j d).key m.place held) → AreSome hs → list_any (λ (h : HeldRow). h.place == m.place) held ≡ true
        go (holders.Queue c) may in_queue counts some =
            at_place m.place held (Queue may.0.0) (counted_row (Queue may.0.0) m.place c held (sym (in_queue may.0.0) ∙ queue_counts may.0.0 c m.message may.0.1))
        go (holders.Subscriptions rs) may in_queue counts some =
            let e = some_of rs.items 0 some in
            let j = (get_or rs.items 0 e).index in
            let within : j < length ss = (may.0 0 e some).within in
            let d = some_of ss j within in
            at_place m.place held (get_or ss j d).key (row_said rs.items 0 e d some within (counts j d within))

    pub some_from : list_any (λ (h : HeldRow). h.place == m.place) held ≡ true → AreSome m.holders
    some_from h = go m.holders refl
      where
        any : Any (λ (x : HeldRow). (x.place == m.place) ≡ true) held
        any = Any-from_list_any (λ (x : HeldRow). x.place == m.place) held h

        counted : (c : ℕ) × (count_said any.1.key m.place held ≡ Some c)
        counted = counted_at any.1.key m.place held any.0 any.1 any.2 (ap (is_held_at any.1.key m.place) any.3 ∙ and_from _ _ (key_refl any.1.key) any.4)

        held_by : count_of_key ss any.1.key m ≡ Some counted.0
        held_by = count_here any.1.key ∙ counted.1

        go : (hs : Holders) → m.holders ≡ hs → AreSome hs
        go (holders.Queue c) e = tt
        go (holders.Subscriptions rs) e = by rs.items refl
          where
            by : (xs : List StoredRow) → rs.items ≡ xs → 0 < length rs.items
            by [] f = absurd (let none : Some counted.0 ≡ None = sym held_by ∙ unheld_count ss any.1.key m (subst IsUnheld (sym e) f) in cc)
            by (x ∷ xs) f = subst (λ (ys : List StoredRow). 0 < length ys) (sym f) (omega arith)

  -- a row that fits comes to its message, where it is behind those that came
  pub fits_taken : (h : HeldRow) → AllBelow held h → IsHeld known rows h → CanTake queues ss h ms
  fits_taken h below is =
      let found = message_of rows ms stand.placed stand.same h.place is.message is.message_is in
      record {
        at = found.0;
        within = found.2;
        message = found.1;
        message_is = found.3;
        there = found.4;
        can = go found.0 found.1 found.2 found.3 found.4 h.key refl (subst (λ (m : Content). list_any (is_holder h.key m) known ≡ true) (sym found.5) is.holder);
      }
    where
      go : (k : ℕ) (m : StoredMessage) → k < length ms → ((d : StoredMessage) → get_or ms k d ≡ m) → m.place ≡ h.place → (key : Key) → key ≡ h.key → list_any (is_holder key m.message) known ≡ true → CanHold queues ss key h.count m
      go k m l there place (Queue n) e may =
          let q = queue_of known queues ss of are n m.message may in
          let none : count_said (Queue n) m.place held ≡ None = ap (λ (p : ℕ). count_said (Queue n) p held) place ∙ ap (λ (x : Key). count_said x h.place held) e ∙ none_counted held h below in
          record { stands = q.0; admitted = q.1; counted = is.counted; unheld = free_for_queue ss n m.message m.holders q.1 (may_here k m l there) (count_here k m l there (Queue n) ∙ none) }
      go k m l there place (Own s c) e may = absurd (none_own known m.message (Own s c) (own_other s c) (by_recursion known of.known) may)
      go k m l there place (SharedOwn a b) e may = absurd (none_own known m.message (SharedOwn a b) (shared_other a b) (by_recursion known of.known) may)
      go k m l there place (Durable c n) e may =
          let s = subscription_of known queues ss of are c n m.message may in
          record {
            at = s.0;
            within = s.2;
            subscription = s.1;
            subscription_is = s.3;
            named = s.4;
            admitted = s.5;
            counted = is.counted;
            before = ends_here k m l there h below place s.0 s.1 s.2 s.3 (key_same s.1.key (Durable c n) s.4 ∙ e) s.5;
          }

-- ---- rows of delayed

module _ (rows : List MessageRow) (ms : List StoredMessage) (placed : ArePlaced 1 ms) (same : (p : ℕ) → content_at p ms ≡ content_said p rows) where
  pub delay_fits : (d : DelayRow) → IsDelay ms d → IsDelayed rows d
  delay_fits d h =
      let row = row_of rows ms placed same h.at h.message h.within h.message_is in
      record { message = row.0; message_is = ap (λ (p : ℕ). message_said p rows) (sym h.there) ∙ row.1; due = subst (λ (m : Content). IsDueAt m d.due) (sym row.2) h.due }

  pub fits_delay : (d : DelayRow) → IsDelayed rows d → IsDelay ms d
  fits_delay d h =
      let found = message_of rows ms placed same d.place h.message h.message_is in
      record { at = found.0; message = found.1; within = found.2; message_is = found.3; there = found.4; due = subst (λ (m : Content). IsDueAt m d.due) (sym found.5) h.due }

-- ---- messages that are kept

pub delay_listed : (delays : List DelayRow) (place : ℕ) → (at : ℕ) × IsDelayAt delays place at → list_any (λ (d : DelayRow). d.place == place) delays ≡ true
delay_listed delays place h =
    list_any_at (λ (d : DelayRow). d.place == place) delays h.0 h.1.row h.1.within (ap (λ (d : DelayRow). d.place == place) (h.1.row_is h.1.row) ∙ eq-eqb h.1.row.place place h.1.there)

pub listed_delay : (delays : List DelayRow) (place : ℕ) → list_any (λ (d : DelayRow). d.place == place) delays ≡ true → (at : ℕ) × IsDelayAt delays place at
listed_delay delays place h =
    let any = Any-from_list_any (λ (d : DelayRow). d.place == place) delays h in
    (any.0, record { within = any.2; row = any.1; row_is = λ e. get_or_default delays any.0 e any.1 any.2 ∙ any.3; there = eqb-true any.1.place place any.4 })

-- ---- a row of held, in its turn

module _ (known : List StationRow) (rows : List MessageRow) (queues : List (List ℕ)) (ss : List StoredSubscription) (of : AreStationsOf known queues ss) (are : AreSubscriptions ss) (sorted : AreSearchable queues ss)
    (held : List HeldRow) (at : ℕ) (h : HeldRow) (ms : List StoredMessage) (l : at < length held) (is : h ≡ get_or held at h) (stand : AreHeldAs rows ss (take at held) ms) (before : AreFit held_cmp (IsHeld known rows) held at) where
  pub next_held : IsBehind held_cmp held at → CanTake queues ss h ms → AreFit held_cmp (IsHeld known rows) held (at + 1)
  next_held behind can = fit_next held_cmp (IsHeld known rows) held at before (behind, λ d. subst (IsHeld known rows) (is ∙ get_or_default held at h d l) (taken_fits known rows queues ss of are sorted (take at held) ms stand h can))

  pub not_behind : (IsBehind held_cmp held at → ⊥) → IsFirstUnfit held_cmp (IsHeld known rows) held at
  not_behind never = first_unfit held_cmp (IsHeld known rows) held at l before (λ next. never next.0)

  pub not_taken : (CanTake queues ss h ms → ⊥) → IsFirstUnfit held_cmp (IsHeld known rows) held at
  not_taken never = first_unfit held_cmp (IsHeld known rows) held at l before (λ next.
      never (fits_taken known rows queues ss of are sorted (take at held) ms stand h (all_below (IsHeld known rows) held at h l is before next.0) (subst (IsHeld known rows) (sym is) (next.1 h))))
