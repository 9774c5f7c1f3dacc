-- Who may hold a message, and who holds one.
use Rattle.std.proofs.Common.{◌≡◌, ◌+◌, ◌<◌, ◌≤◌, ◌==◌, ◌∙◌, ℕ, zero, suc, Bool, true, false, cond, List, [], ◌∷◌, ◌++◌, map, ap, sym, refl, length, get_or, arith, Option, Some, None}
use Rattle.std.specs.Prelude.{◌&&◌, ◌||◌, option_map}
use Rattle.std.specs.List.{All, AllByRecursion, IsDistinct, list_any}
use Rattle.std.proofs.lemmas.Bool.{and_parts, eq-eqb}
use Rattle.std.proofs.lemmas.List.Folds.{list_any_at}
use Rattle.std.proofs.lemmas.Map.Keys.{IsDistinct-head, IsDistinct-tail}
use Rattle.jm_dest.specs.declared.destination.Destination.{Destination}
use Rattle.jm_dest.specs.declared.destination.Destination.TheVariants as destination
use Rattle.jm_dest.specs.declared.key.Key.{Key}
use Rattle.jm_dest.specs.declared.key.Key.TheVariants.{Queue, Own, SharedOwn, Durable}
use Rattle.jm_dest.specs.Keys.{key_eq}
use Rattle.jm_dest.specs.Names.{text_eq}
use Rattle.jm_header.specs.declared.content.Content.{Content}
use Rattle.jm_machine.specs.declared.state.Definition.{Definition}
use Rattle.jm_machine.specs.Machine.{is_to}
use Rattle.jm_machine.specs.Reopened.{is_durable}
use Rattle.jm_machine.specs.Under.{is_persistent}
use Rattle.jm_machine.proofs.Keys.{key_refl, text_same}
use Rattle.jm_selector.specs.Selectors.{matches}
use Rattle.jm_stations.specs.declared.loading.StoredRow.{StoredRow}
use Rattle.jm_stations.specs.Loading.{stored_at}
use Rattle.jm_parts.specs.declared.stored.Holders.{Holders}
use Rattle.jm_parts.specs.declared.stored.Holders.TheVariants as holders
use Rattle.jm_parts.specs.declared.stored.StoredMessage.{StoredMessage}
use Rattle.jm_parts.specs.declared.stored.StoredSubscription.{StoredSubscription}
use Rattle.jm_parts.specs.Stored.{AreHolders, IsAdmitted, admits, count_at, count_under, queue_admits, sent_to}
use Rattle.jm_reopened.specs.Given.{count_in, count_of_key}
use Rattle.jm_decoding.specs.declared.station.StationRow.{StationRow}
use Rattle.jm_loading.specs.Fitting.{is_holder, may_hold}
use Rattle.jm_loading.specs.Holding.{end_of}
use Rattle.jm_loading.specs.Messages.{IsUnheld}
use Rattle.jm_loading.specs.Stations.{IsKnown, IsKnownAs, queue_named, queues_in, subscription_for, subscriptions_in}
use Rattle.jm_loading.proofs.Lookups.{any_found}
use Rattle.jm_loading.proofs.More.{apart_at, sent_count}

-- ---- who may hold a message, among the rows

same_again : (a q : Bool) → (a || (q && a)) ≡ a
same_again true q = refl
same_again false true = refl
same_again false false = refl

module _ (name : List ℕ) (m : Content) where
  queue_step : (n : List ℕ) (b r q : Bool) → text_eq n name ≡ b → r ≡ (q && queue_admits name m) → ((b && queue_admits n m) || r) ≡ ((b || q) && queue_admits name m)
  queue_step n true r q t rest =
      ap (λ (x : List ℕ). queue_admits x m || r) (text_same n name t) ∙ ap (λ x. queue_admits name m || x) rest ∙ same_again (queue_admits name m) q
  queue_step n false r q t rest = rest

  -- the queue of the name does, where it stands and admits it
  pub holders_queue : (rows : List StationRow) → AllByRecursion IsKnown rows → list_any (is_holder (Queue name) m) rows ≡ (list_any (λ queue. text_eq queue name) (queues_in rows) && queue_admits name m)
  holders_queue [] k = refl
  holders_queue (s ∷ rows) k = go s.key s.definition k.0 (holders_queue rows k.1)
    where
      go : (x : Key) (d : Option Definition) → IsKnownAs x d → list_any (is_holder (Queue name) m) rows ≡ (list_any (λ queue. text_eq queue name) (queues_in rows) && queue_admits name m) →
          ((key_eq x (Queue name) && may_hold x d m) || list_any (is_holder (Queue name) m) rows) ≡ (list_any (λ queue. text_eq queue name) (queue_named x d ++ queues_in rows) && queue_admits name m)
      go (Queue n) None k rest = queue_step n (text_eq n name) (list_any (is_holder (Queue name) m) rows) (list_any (λ queue. text_eq queue name) (queues_in rows)) refl rest
      go (Own s c) None k rest = absurd k
      go (SharedOwn c n) None k rest = absurd k
      go (Durable c n) None k rest = absurd k
      go (Queue n) (Some d) k rest = absurd k
      go (Own s c) (Some d) k rest = absurd k
      go (SharedOwn c n) (Some d) k rest = absurd k
      go (Durable c n) (Some d) k rest = rest

module _ (client : Option (List ℕ)) (name : List ℕ) (m : Content) where
  -- the durable subscription of the key does, where it stands and admits it
  pub holders_under : (rows : List StationRow) → AllByRecursion IsKnown rows → list_any (is_holder (Durable client name) m) rows ≡ list_any (λ (s : StoredSubscription). key_eq s.key (Durable client name) && admits s.definition m) (subscriptions_in rows)
  holders_under [] k = refl
  holders_under (s ∷ rows) k = go s.key s.definition k.0 (holders_under rows k.1)
    where
      go : (x : Key) (d : Option Definition) → IsKnownAs x d → list_any (is_holder (Durable client name) m) rows ≡ list_any (λ (s : StoredSubscription). key_eq s.key (Durable client name) && admits s.definition m) (subscriptions_in rows) →
          ((key_eq x (Durable client name) && may_hold x d m) || list_any (is_holder (Durable client name) m) rows) ≡ list_any (λ (s : StoredSubscription). key_eq s.key (Durable client name) && admits s.definition m) (subscription_for x d ++ subscriptions_in rows)
      go (Queue n) None k rest = rest
      go (Own s c) None k rest = absurd k
      go (SharedOwn c n) None k rest = absurd k
      go (Durable c n) None k rest = absurd k
      go (Queue n) (Some d) k rest = absurd k
      go (Own s c) (Some d) k rest = absurd k
      go (SharedOwn c n) (Some d) k rest = absurd k
      go (Durable c n) (Some d) k rest = ap (λ r. (key_eq (Durable c n) (Durable client name) && admits d m) || r) rest

-- ---- a message goes to a queue or to a topic

-- no queue admits what a subscription does
pub one_kind : (name : List ℕ) (d : Definition) (m : Content) → queue_admits name m ≡ true → admits d m ≡ true → ⊥
one_kind name d m q a = go m.destination q (and_parts (is_to d.topic m.destination) (matches d.selector m) (and_parts (is_persistent m.mode) (is_to d.topic m.destination && matches d.selector m) a).1).0
  where
    go : (to : Destination) → sent_to name (is_persistent m.mode) to ≡ true → is_to d.topic to ≡ true → ⊥
    go (destination.Queue x) s t = cc
    go (destination.Topic x) s t = cc

-- ---- who holds a message

pub some_of : {X : Type 0} (xs : List X) (i : ℕ) → i < length xs → X
some_of [] i l = absurd (omega (arith, l))
some_of (x ∷ xs) i l = x

none_admitted : (ss : List StoredSubscription) (name : List ℕ) (m : Content) (rs : List StoredRow) → queue_admits name m ≡ true → All (IsAdmitted ss m) rs → rs ≡ []
none_admitted ss name m [] q h = refl
none_admitted ss name m (r ∷ rs) q h =
    let first = h 0 r (omega arith) in
    absurd (one_kind name (get_or ss r.index (some_of ss r.index first.within)).definition m q (first.admitted (some_of ss r.index first.within)))

-- the count in the queue that a message goes to
pub queue_counts : (name : List ℕ) (c : ℕ) (m : Content) → queue_admits name m ≡ true → count_at name m.destination (holders.Queue c) ≡ Some c
queue_counts name c m q = sent_count name name c (is_persistent m.mode) m.destination q ∙ ap (λ b. cond b (Some c) None) (key_refl (Queue name))

-- a message that a queue admits and does not hold is held by nobody
pub free_for_queue : (ss : List StoredSubscription) (name : List ℕ) (m : Content) (hs : Holders) → queue_admits name m ≡ true → AreHolders ss m hs → count_at name m.destination hs ≡ None → IsUnheld hs
free_for_queue ss name m (holders.Queue c) q may none = let some : Some c ≡ None = sym (queue_counts name c m q) ∙ none in cc
free_for_queue ss name m (holders.Subscriptions rs) q may none = none_admitted ss name m rs.items q may.0

-- the count under the key of a subscription is that under its index
pub own_count : (g : ℕ → Option ℕ) (ss : List StoredSubscription) (j : ℕ) (d : StoredSubscription) → IsDistinct key_eq (map (λ (s : StoredSubscription). s.key) ss) → j < length ss → count_in g ss (get_or ss j d).key ≡ g j
own_count g [] j d once l = absurd (omega (arith, l))
own_count g (s ∷ ss) zero d once l = ap (λ b. cond b (g zero) (count_in (λ i. g (suc i)) ss s.key)) (key_refl s.key)
own_count g (s ∷ ss) (suc j) d once l =
    let within : j < length ss = omega (arith, l) in
    let keys = map (λ (s : StoredSubscription). s.key) ss in
    ap (λ b. cond b (g zero) (count_in (λ i. g (suc i)) ss (get_or ss j d).key)) (apart_at s.key ss j d (IsDistinct-head key_eq s.key keys once) within)
    ∙ own_count (λ i. g (suc i)) ss j d (IsDistinct-tail key_eq s.key keys once) within

pub durable_count : (ss : List StoredSubscription) (k : Key) (m : StoredMessage) → is_durable k ≡ true → count_of_key ss k m ≡ count_in (λ i. count_under i m.holders) ss k
durable_count ss (Queue n) m h = cc
durable_count ss (Own s c) m h = cc
durable_count ss (SharedOwn c n) m h = cc
durable_count ss (Durable c n) m h = refl

-- a row under an index is counted
pub row_counts : (rs : List StoredRow) (q : ℕ) (d : StoredRow) → q < length rs → (c : ℕ) × (option_map (λ (r : StoredRow). r.count) (stored_at (get_or rs q d).index rs) ≡ Some c)
row_counts rs q d l =
    let i = (get_or rs q d).index in
    let found = any_found (λ (r : StoredRow). r.index == i) rs (list_any_at (λ (r : StoredRow). r.index == i) rs q d l (eq-eqb i i refl)) in
    (found.0.count, ap (option_map (λ (r : StoredRow). r.count)) found.1)

-- rows end before an index that is above those of all
pub ends_below : (from : ℕ) (rs : List StoredRow) (i : ℕ) → from ≤ i → ((q : ℕ) (d : StoredRow) → q < length rs → (get_or rs q d).index < i) → end_of from rs ≤ i
ends_below from [] i l h = l
ends_below from (r ∷ rs) i l h = let first = h 0 r (omega arith) in ends_below (r.index + 1) rs i (omega (arith, first)) (λ q d w. h (suc q) d (omega (arith, w)))
