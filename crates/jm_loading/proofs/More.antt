-- A message is held by one more.
use Rattle.std.proofs.Common.{◌≡◌, ◌+◌, ◌<◌, ◌≤◌, ◌==◌, ◌∙◌, ℕ, zero, suc, Bool, true, false, cond, List, [], ◌∷◌, ◌++◌, map, ap, sym, subst, refl, length, get_or, arith, Option, Some, None, Result, Ok, Err, IfOk}
use Rattle.std.specs.Prelude.{◌&&◌, find, nat_eq, option_map}
use Rattle.std.specs.Option.{option_or}
use Rattle.std.specs.List.{All, AllByRecursion, IsDistinct}
use Rattle.std.proofs.lemmas.Bool.Decides.{nat_tests}
use Rattle.std.proofs.lemmas.List.{get_or_default}
use Rattle.std.proofs.lemmas.List.Elements.{All-nil, All-push}
use Rattle.std.proofs.lemmas.List.Folds.{find-append}
use Rattle.std.proofs.lemmas.Map.Keys.{IsDistinct-head, IsDistinct-tail}
use Rattle.std.proofs.Math.Dec.{eqb-suc-suc, eqb-suc-zero, eqb-zero-suc}
use Rattle.jm_dest.specs.declared.destination.Destination.{Destination}
use Rattle.jm_dest.specs.declared.destination.Destination.TheVariants as destination
use Rattle.jm_dest.specs.declared.key.Key.{Key}
use Rattle.jm_dest.specs.declared.key.Key.TheVariants.{Queue, Own, SharedOwn, Durable}
use Rattle.jm_dest.specs.Keys.{key_eq}
use Rattle.jm_dest.specs.Names.{text_eq}
use Rattle.jm_header.specs.declared.content.Content.{Content}
use Rattle.jm_machine.specs.Reopened.{is_durable}
use Rattle.jm_machine.specs.Under.{is_persistent}
use Rattle.jm_machine.proofs.Keys.{key_same, key_sym, text_same}
use Rattle.jm_stations.specs.declared.loading.StoredRow.{StoredRow}
use Rattle.jm_stations.specs.Loading.{stored_at}
use Rattle.jm_parts.specs.declared.stored.Holders.{Holders}
use Rattle.jm_parts.specs.declared.stored.Holders.TheVariants as holders
use Rattle.jm_parts.specs.declared.stored.StoredMessage.{StoredMessage}
use Rattle.jm_parts.specs.declared.stored.StoredSubscription.{StoredSubscription}
use Rattle.jm_parts.specs.Stored.{AreHolders, IsAdmitted, admits, count_at, count_under, queue_admits, sent_to}
use Rattle.jm_reopened.specs.Given.{count_in, count_of_key}
use Rattle.jm_loading.specs.Holding.{AreRising, DoRise, IsHeldInQueue, IsHeldMore, IsHeldUnder, IsRowMore, end_of}
use Rattle.jm_loading.specs.Messages.{IsUnheld}
use Rattle.jm_loading.specs.Stations.{AreSubscriptions}

-- ---- options

pub or_none : {X : Type 0} (o : Option X) → option_or o None ≡ o
or_none None = refl
or_none (Some x) = refl

second : (a b : Bool) → (a && b) ≡ true → b ≡ true
second true b h = h
second false b h = cc

-- ---- the count under the key of one of the subscriptions

in_none : (g : ℕ → Option ℕ) (ss : List StoredSubscription) (k : Key) → ((i : ℕ) → g i ≡ None) → count_in g ss k ≡ None
in_none g [] k h = refl
in_none g (s ∷ ss) k h = go (key_eq s.key k) (in_none (λ i. g (suc i)) ss k (λ i. h (suc i)))
  where
    go : (b : Bool) → count_in (λ i. g (suc i)) ss k ≡ None → cond b (g zero) (count_in (λ i. g (suc i)) ss k) ≡ None
    go true rest = h zero
    go false rest = rest

in_same : (g n : ℕ → Option ℕ) (ss : List StoredSubscription) (k : Key) → ((i : ℕ) → n i ≡ g i) → count_in n ss k ≡ count_in g ss k
in_same g n [] k h = refl
in_same g n (s ∷ ss) k h = go (key_eq s.key k) (in_same (λ i. g (suc i)) (λ i. n (suc i)) ss k (λ i. h (suc i)))
  where
    go : (b : Bool) → count_in (λ i. n (suc i)) ss k ≡ count_in (λ i. g (suc i)) ss k → cond b (n zero) (count_in (λ i. n (suc i)) ss k) ≡ cond b (g zero) (count_in (λ i. g (suc i)) ss k)
    go true rest = h zero
    go false rest = rest

-- what comes under the subscription with that index
abbrev mine : ℕ → ℕ → ℕ → Option ℕ
mine index c i = cond (index == i) (Some c) None

-- a key that is not that of the first is further behind
pub apart_at : (a : Key) (ss : List StoredSubscription) (i : ℕ) (d : StoredSubscription) → AllByRecursion (λ b. key_eq a b ≡ false) (map (λ (s : StoredSubscription). s.key) ss) → i < length ss → key_eq a (get_or ss i d).key ≡ false
apart_at a [] i d h l = absurd (omega (arith, l))
apart_at a (s ∷ ss) zero d h l = h.0
apart_at a (s ∷ ss) (suc i) d h l = apart_at a ss i d h.1 (omega (arith, l))

in_more : (g n : ℕ → Option ℕ) (ss : List StoredSubscription) (k : Key) (index c : ℕ) (d : StoredSubscription) → IsDistinct key_eq (map (λ (s : StoredSubscription). s.key) ss) → index < length ss →
    ((i : ℕ) → n i ≡ option_or (g i) (mine index c i)) → count_in n ss k ≡ option_or (count_in g ss k) (cond (key_eq (get_or ss index d).key k) (Some c) None)
in_more g n [] k index c d once l h = absurd (omega (arith, l))
in_more g n (s ∷ ss) k zero c d once l h = go (key_eq s.key k) (in_same (λ i. g (suc i)) (λ i. n (suc i)) ss k (λ i. h (suc i) ∙ ap (λ b. option_or (g (suc i)) (cond b (Some c) None)) (eqb-zero-suc i) ∙ or_none (g (suc i))))
  where
    go : (b : Bool) → count_in (λ i. n (suc i)) ss k ≡ count_in (λ i. g (suc i)) ss k →
        cond b (n zero) (count_in (λ i. n (suc i)) ss k) ≡ option_or (cond b (g zero) (count_in (λ i. g (suc i)) ss k)) (cond b (Some c) None)
    go true rest = h zero
    go false rest = rest ∙ sym (or_none (count_in (λ i. g (suc i)) ss k))
in_more g n (s ∷ ss) k (suc j) c d once l h =
    let within : j < length ss = omega (arith, l) in
    let other : key_eq s.key (get_or ss j d).key ≡ false = apart_at s.key ss j d (IsDistinct-head key_eq s.key (map (λ (s : StoredSubscription). s.key) ss) once) within in
    go (key_eq s.key k) refl other
    (in_more (λ i. g (suc i)) (λ i. n (suc i)) ss k j c d (IsDistinct-tail key_eq s.key (map (λ (s : StoredSubscription). s.key) ss) once) within
    (λ i. h (suc i) ∙ ap (λ b. option_or (g (suc i)) (cond b (Some c) None)) (eqb-suc-suc j i)))
  where
    x : Key
    x = (get_or ss j d).key

    go : (b : Bool) → key_eq s.key k ≡ b → key_eq s.key (get_or ss j d).key ≡ false → count_in (λ i. n (suc i)) ss k ≡ option_or (count_in (λ i. g (suc i)) ss k) (cond (key_eq (get_or ss j d).key k) (Some c) None) →
        cond b (n zero) (count_in (λ i. n (suc i)) ss k) ≡ option_or (cond b (g zero) (count_in (λ i. g (suc i)) ss k)) (cond (key_eq (get_or ss j d).key k) (Some c) None)
    go true t other rest =
        let not : key_eq (get_or ss j d).key k ≡ false = subst (λ q. key_eq (get_or ss j d).key q ≡ false) (key_same s.key k t) (key_sym (get_or ss j d).key s.key ∙ other) in
        h zero ∙ ap (λ b. option_or (g zero) (cond b (Some c) None)) (eqb-suc-zero j) ∙ sym (ap (λ b. option_or (g zero) (cond b (Some c) None)) not)
    go false t other rest = rest

-- ---- in a queue

unheld_under : (hs : Holders) (i : ℕ) → IsUnheld hs → count_under i hs ≡ None
unheld_under (holders.Queue c) i h = absurd h
unheld_under (holders.Subscriptions rows) i h = ap (λ (xs : List StoredRow). option_map (λ (r : StoredRow). r.count) (find (λ r. r.index == i) xs)) h

unheld_at : (name : List ℕ) (dest : Destination) (hs : Holders) → IsUnheld hs → count_at name dest hs ≡ None
unheld_at name (destination.Queue q) (holders.Queue c) h = absurd h
unheld_at name (destination.Queue q) (holders.Subscriptions rows) h = refl
unheld_at name (destination.Topic t) hs h = refl

-- nobody's row is under a key
pub unheld_count : (ss : List StoredSubscription) (k : Key) (m : StoredMessage) → IsUnheld m.holders → count_of_key ss k m ≡ None
unheld_count ss (Queue n) m h = unheld_at n m.message.destination m.holders h
unheld_count ss (Own s c) m h = refl
unheld_count ss (SharedOwn c n) m h = refl
unheld_count ss (Durable c n) m h = in_none (λ i. count_under i m.holders) ss (Durable c n) (λ i. unheld_under m.holders i h)

pub unheld_may : (ss : List StoredSubscription) (m : Content) (hs : Holders) → IsUnheld hs → AreHolders ss m hs
unfolding IsDistinct
unheld_may ss m (holders.Queue c) h = absurd h
unheld_may ss m (holders.Subscriptions rows) h = subst (λ (xs : List StoredRow). All (IsAdmitted ss m) xs × IsDistinct nat_eq (map (λ (r : StoredRow). r.index) xs)) (sym h) (All-nil (IsAdmitted ss m), tt)

pub unheld_rise : (hs : Holders) → IsUnheld hs → DoRise hs
unheld_rise (holders.Queue c) h = tt
unheld_rise (holders.Subscriptions rows) h = subst (AreRising 0) (sym h) tt

-- the message was sent to the queue
pub sent_count : (name n : List ℕ) (c : ℕ) (persistent : Bool) (dest : Destination) → sent_to name persistent dest ≡ true → count_at n dest (holders.Queue c) ≡ cond (text_eq name n) (Some c) None
sent_count name n c persistent (destination.Queue q) h = ap (λ (x : List ℕ). cond (text_eq x n) (Some c) None) (text_same q name (second persistent (text_eq q name) h))
sent_count name n c persistent (destination.Topic t) h = cc

queue_count : (ss : List StoredSubscription) (name : List ℕ) (c : ℕ) (m : StoredMessage) (place : ℕ) (k : Key) → queue_admits name m.message ≡ true → count_of_key ss k (record { place = place; message = m.message; holders = holders.Queue c }) ≡ cond (key_eq (Queue name) k) (Some c) None
queue_count ss name c m place (Queue n) h = sent_count name n c (is_persistent m.message.mode) m.message.destination h
queue_count ss name c m place (Own s x) h = refl
queue_count ss name c m place (SharedOwn x n) h = refl
queue_count ss name c m place (Durable x n) h = in_none (λ i. None) ss (Durable x n) (λ i. refl)

pub in_queue : (ss : List StoredSubscription) (name : List ℕ) (c : ℕ) (old new : StoredMessage) → IsHeldInQueue name c old new → IsHeldMore ss (Queue name) c old new
in_queue ss name c old new h =
    let is : new ≡ record { place = old.place; message = old.message; holders = holders.Queue c } = λ i. record { place = h.place i; message = h.message i; holders = h.holders_are i } in
    record {
      place = h.place;
      message = h.message;
      counts = λ k. ap (count_of_key ss k) is ∙ queue_count ss name c old old.place k h.admitted ∙ sym (ap (λ o. option_or o (cond (key_eq (Queue name) k) (Some c) None)) (unheld_count ss k old h.unheld));
      may = λ rise was. subst (λ (x : StoredMessage). AreHolders ss x.message x.holders) (sym is) ((name, h.admitted), h.counted);
      rise = λ was. subst DoRise (sym h.holders_are) tt;
    }

-- ---- under a subscription

rising_push : (from : ℕ) (rows : List StoredRow) (r : StoredRow) → AreRising from rows → end_of from rows ≤ r.index → AreRising from (rows ++ r ∷ [])
rising_push from [] r h l = (l, tt)
rising_push from (x ∷ rows) r h l = (h.0, rising_push (x.index + 1) rows r h.1 l)

all_above : (low from : ℕ) (rows : List StoredRow) → AreRising from rows → low < from → AllByRecursion (λ i. nat_eq low i ≡ false) (map (λ (r : StoredRow). r.index) rows)
all_above low from [] h l = tt
all_above low from (r ∷ rows) h l =
    let up = h.0 in
    let other : nat_eq low r.index ≡ false = grind (arith, nat_tests) in
    (other, all_above low (r.index + 1) rows h.1 (omega (arith, up, l)))

rising_once : (from : ℕ) (rows : List StoredRow) → AreRising from rows → IsDistinct nat_eq (map (λ (r : StoredRow). r.index) rows)
unfolding IsDistinct
rising_once from [] h = tt
rising_once from (r ∷ rows) h = (all_above r.index (r.index + 1) rows h.1 (omega arith), rising_once (r.index + 1) rows h.1)

stored_more : (rows : List StoredRow) (r : StoredRow) (i : ℕ) → option_map (λ (x : StoredRow). x.count) (stored_at i (rows ++ r ∷ [])) ≡ option_or (option_map (λ (x : StoredRow). x.count) (stored_at i rows)) (mine r.index r.count i)
stored_more rows r i = ap (option_map (λ (x : StoredRow). x.count)) (find-append (λ (x : StoredRow). x.index == i) rows (r ∷ [])) ∙ go (stored_at i rows) (r.index == i)
  where
    go : (o : Option StoredRow) (b : Bool) → option_map (λ (x : StoredRow). x.count) (option_or o (cond b (Some r) None)) ≡ option_or (option_map (λ (x : StoredRow). x.count) o) (cond b (Some r.count) None)
    go (Some x) b = refl
    go None true = refl
    go None false = refl

under_more : (r : StoredRow) (old new : Holders) (i : ℕ) → IsRowMore r old new → count_under i new ≡ option_or (count_under i old) (mine r.index r.count i)
under_more r (holders.Subscriptions rows) (holders.Subscriptions more) i h = ap (λ (xs : List StoredRow). option_map (λ (x : StoredRow). x.count) (stored_at i xs)) h.1 ∙ stored_more rows.items r i
under_more r (holders.Queue c) new i h = absurd h
under_more r (holders.Subscriptions rows) (holders.Queue c) i h = absurd h

at_more : (r : StoredRow) (old new : Holders) (n : List ℕ) (dest : Destination) → IsRowMore r old new → count_at n dest new ≡ count_at n dest old
at_more r (holders.Subscriptions rows) (holders.Subscriptions more) n (destination.Queue q) h = refl
at_more r (holders.Subscriptions rows) (holders.Subscriptions more) n (destination.Topic t) h = refl
at_more r (holders.Queue c) new n dest h = absurd h
at_more r (holders.Subscriptions rows) (holders.Queue c) n dest h = absurd h

rise_more : (r : StoredRow) (old new : Holders) → IsRowMore r old new → DoRise old → DoRise new
rise_more r (holders.Subscriptions rows) (holders.Subscriptions more) h up = subst (AreRising 0) (sym h.1) (rising_push 0 rows.items r up h.0)
rise_more r (holders.Queue c) new h up = absurd h
rise_more r (holders.Subscriptions rows) (holders.Queue c) h up = absurd h

may_more : (ss : List StoredSubscription) (m : Content) (r : StoredRow) (old new : Holders) → IsAdmitted ss m r → IsRowMore r old new → DoRise old → AreHolders ss m old → AreHolders ss m new
may_more ss m r (holders.Subscriptions rows) (holders.Subscriptions more) may h up was =
    (subst (All (IsAdmitted ss m)) (sym h.1) (All-push (IsAdmitted ss m) rows.items r was.0 may), rising_once 0 more.items (rise_more r (holders.Subscriptions rows) (holders.Subscriptions more) h up))
may_more ss m r (holders.Queue c) new may h up was = absurd h
may_more ss m r (holders.Subscriptions rows) (holders.Queue c) may h up was = absurd h

-- a durable key is no other's
not_queue : (key : Key) (n : List ℕ) → is_durable key ≡ true → key_eq key (Queue n) ≡ false
not_queue (Queue m) n h = cc
not_queue (Own s c) n h = cc
not_queue (SharedOwn c m) n h = cc
not_queue (Durable c m) n h = refl

pub not_own : (key : Key) (k : Key) → is_durable key ≡ true → is_durable k ≡ false → key_eq key k ≡ false
not_own (Queue m) k h o = cc
not_own (Own s c) k h o = cc
not_own (SharedOwn c m) k h o = cc
not_own (Durable c m) (Queue n) h o = refl
not_own (Durable c m) (Own s x) h o = refl
not_own (Durable c m) (SharedOwn x n) h o = refl
not_own (Durable c m) (Durable x n) h o = cc

counts_more : (ss : List StoredSubscription) (r : StoredRow) (old new : StoredMessage) (d : StoredSubscription) (k : Key) → AreSubscriptions ss → r.index < length ss → new.message ≡ old.message → IsRowMore r old.holders new.holders →
    count_of_key ss k new ≡ option_or (count_of_key ss k old) (cond (key_eq (get_or ss r.index d).key k) (Some r.count) None)
counts_more ss r old new d (Queue n) are l same h =
    let not = not_queue (get_or ss r.index d).key n (are.durable r.index d l) in
    ap (λ (m : Content). count_at n m.destination new.holders) same ∙ at_more r old.holders new.holders n old.message.destination h ∙ sym (or_none (count_at n old.message.destination old.holders)) ∙ sym (ap (λ b. option_or (count_at n old.message.destination old.holders) (cond b (Some r.count) None)) not)
counts_more ss r old new d (Own s c) are l same h = sym (ap (λ b. cond b (Some r.count) None) (not_own (get_or ss r.index d).key (Own s c) (are.durable r.index d l) refl))
counts_more ss r old new d (SharedOwn c n) are l same h = sym (ap (λ b. cond b (Some r.count) None) (not_own (get_or ss r.index d).key (SharedOwn c n) (are.durable r.index d l) refl))
counts_more ss r old new d (Durable c n) are l same h =
    in_more (λ i. count_under i old.holders) (λ i. count_under i new.holders) ss (Durable c n) r.index r.count d are.once l (λ i. under_more r old.holders new.holders i h)

pub under : (ss : List StoredSubscription) (key : Key) (r : StoredRow) (old new : StoredMessage) (d : StoredSubscription) → AreSubscriptions ss → r.index < length ss → key_eq (get_or ss r.index d).key key ≡ true →
    ((e : StoredSubscription) → admits (get_or ss r.index e).definition old.message ≡ true) → r.count ≤ 2147483647 → new.place ≡ old.place → new.message ≡ old.message → IsRowMore r old.holders new.holders → IsHeldMore ss key r.count old new
under ss key r old new d are l named may within place same more =
    record {
      place = place;
      message = same;
      counts = λ k. subst (λ (x : Key). count_of_key ss k new ≡ option_or (count_of_key ss k old) (cond (key_eq x k) (Some r.count) None)) (key_same (get_or ss r.index d).key key named) (counts_more ss r old new d k are l same more);
      may = λ up was. subst (λ (m : Content). AreHolders ss m new.holders) (sym same) (may_more ss old.message r old.holders new.holders (record { within = l; admitted = may; counted = within }) more up was);
      rise = λ up. rise_more r old.holders new.holders more up;
    }

-- ---- results

pub if_ok_then : {X E : Type 0} (r : Result X E) (P Q : X → Type 0) → IfOk r P → ((x : X) → P x → Q x) → IfOk r Q
if_ok_then (Ok x) P Q p f = f x p
if_ok_then (Err e) P Q p f = tt

-- a message is held under the subscription with that index
pub under_row : (ss : List StoredSubscription) (key : Key) (index count : ℕ) (old new : StoredMessage) (at : StoredSubscription) → AreSubscriptions ss → index < length ss → at ≡ get_or ss index at → ((d : StoredSubscription) → key_eq (get_or ss index d).key key ≡ true) →
    IsHeldUnder at.definition (record { index = index; count = count }) old new → IsHeldMore ss key count old new
under_row ss key index count old new at are l is named h =
    under ss key (record { index = index; count = count }) old new at are l (named at)
    (λ e. subst (λ (s : StoredSubscription). admits s.definition old.message ≡ true) (is ∙ get_or_default ss index at e l) h.admitted) h.counted h.place h.message h.more
