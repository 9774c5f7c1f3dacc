-- The queues and the durable subscriptions of the rows of station.
use Rattle.std.proofs.Common.{◌≡◌, ◌+◌, ◌<◌, ◌∙◌, ℕ, Bool, true, false, cond, List, [], ◌∷◌, ◌++◌, map, ap, sym, subst, refl, length, get_or, arith, append_assoc, nat_cmp, Option, Some, None}
use Rattle.std.specs.Prelude.{Decides, find, is_none, is_some, option_map}
use Rattle.std.specs.List.{All, AllByRecursion, IsDistinct}
use Rattle.std.specs.List.Sorted.{IsStrictlySortedBy}
use Rattle.std.proofs.lemmas.List.Elements.{All-cons, All-head, All-nil, All-tail}
use Rattle.std.proofs.lemmas.List.{get_or-map, length-map}
use Rattle.std.proofs.lemmas.Map.Keys.{sorted_from_all_adjacent}
use Rattle.std.specs.Cmp.Lexicographic.{slice_cmp}
use Rattle.std.specs.declared.cmp.Ordering.TheVariants.{Less}
use Rattle.jm_dest.specs.declared.key.Key.{Key}
use Rattle.jm_dest.specs.declared.key.Key.TheVariants.{Queue, Own, SharedOwn, Durable}
use Rattle.jm_dest.specs.Keys.{key_eq}
use Rattle.jm_machine.specs.declared.state.Definition.{Definition}
use Rattle.jm_machine.specs.Reopened.{is_durable}
use Rattle.jm_machine.proofs.Keys.{key_same}
use Rattle.jm_parts.specs.declared.stored.StoredSubscription.{StoredSubscription}
use Rattle.jm_decoding.specs.declared.station.StationRow.{StationRow}
use Rattle.jm_loading.specs.Order.{key_cmp}
use Rattle.jm_loading.specs.Said.{definition_said}
use Rattle.jm_loading.specs.Fitting.{FitStations}
use Rattle.jm_loading.specs.Stations.{AreSearchable, AreSubscriptions, IsKnown, IsKnownAs, queue_named, queues_in, queues_of, subscription_for, subscriptions_in, subscriptions_of}
use Rattle.jm_loading.proofs.Keys.{key_order, once}

-- one more row behind
pub subscriptions_more : (rows : List StationRow) (s : StationRow) → subscriptions_in (rows ++ s ∷ []) ≡ subscriptions_in rows ++ subscriptions_of s
subscriptions_more [] s = append_nil (subscriptions_of s)
  where
    append_nil : (xs : List StoredSubscription) → xs ++ [] ≡ xs
    append_nil [] = refl
    append_nil (x ∷ xs) = ap (λ (ys : List StoredSubscription). x ∷ ys) (append_nil xs)
subscriptions_more (x ∷ rows) s = ap (λ (xs : List StoredSubscription). subscriptions_of x ++ xs) (subscriptions_more rows s) ∙ sym (append_assoc (subscriptions_of x) (subscriptions_in rows) (subscriptions_of s))

pub queues_more : (rows : List StationRow) (s : StationRow) → queues_in (rows ++ s ∷ []) ≡ queues_in rows ++ queues_of s
queues_more [] s = append_nil (queues_of s)
  where
    append_nil : (xs : List (List ℕ)) → xs ++ [] ≡ xs
    append_nil [] = refl
    append_nil (x ∷ xs) = ap (λ (ys : List (List ℕ)). x ∷ ys) (append_nil xs)
queues_more (x ∷ rows) s = ap (λ (xs : List (List ℕ)). queues_of x ++ xs) (queues_more rows s) ∙ sym (append_assoc (queues_of x) (queues_in rows) (queues_of s))

-- ---- the test of a row

pub known_queue : (key : Key) (n : List ℕ) (d : Option Definition) (r : Bool) → key ≡ Queue n → r ≡ is_none d → Decides r (IsKnownAs key d)
known_queue key n d r is test = subst (λ (x : Key). Decides r (IsKnownAs x d)) (sym is) (go d r test)
  where
    go : (d : Option Definition) (r : Bool) → r ≡ is_none d → Decides r (IsKnownAs (Queue n) d)
    go None r t = (λ h. tt, λ h. t)
    go (Some d) r t = (λ h. absurd (cc), λ h. absurd h)

pub known_durable : (key : Key) (c : Option (List ℕ)) (n : List ℕ) (d : Option Definition) (r : Bool) → key ≡ Durable c n → r ≡ is_some d → Decides r (IsKnownAs key d)
known_durable key c n d r is test = subst (λ (x : Key). Decides r (IsKnownAs x d)) (sym is) (go d r test)
  where
    go : (d : Option Definition) (r : Bool) → r ≡ is_some d → Decides r (IsKnownAs (Durable c n) d)
    go None r t = (λ h. absurd (cc), λ h. absurd h)
    go (Some d) r t = (λ h. tt, λ h. t)

-- a row is that of a queue, which has no definition, or of a durable subscription, which has one
abbrev keys_in : List StoredSubscription → List Key
keys_in ss = map (λ (s : StoredSubscription). s.key) ss

abbrev keys_of : List StationRow → List Key
keys_of rows = map (λ (s : StationRow). s.key) rows

others : (P : Key → Type 0) (rows : List StationRow) → AllByRecursion IsKnown rows → AllByRecursion P (keys_of rows) → AllByRecursion P (keys_in (subscriptions_in rows))
others P [] k h = tt
others P (s ∷ rows) k h = go s.key s.definition k.0 h.0 (others P rows k.1 h.1)
  where
    go : (key : Key) (d : Option Definition) → IsKnownAs key d → P key → AllByRecursion P (keys_in (subscriptions_in rows)) → AllByRecursion P (keys_in (subscription_for key d ++ subscriptions_in rows))
    go key None k h rest = rest
    go key (Some d) k h rest = (h, rest)

-- names of queues, where what is so of each key is told of them
named : (P : Key → Type 0) (rows : List StationRow) → AllByRecursion IsKnown rows → AllByRecursion P (keys_of rows) → AllByRecursion (λ (n : List ℕ). P (Queue n)) (queues_in rows)
named P [] k h = tt
named P (s ∷ rows) k h = go s.key s.definition k.0 h.0 (named P rows k.1 h.1)
  where
    go : (key : Key) (d : Option Definition) → IsKnownAs key d → P key → AllByRecursion (λ (n : List ℕ). P (Queue n)) (queues_in rows) → AllByRecursion (λ (n : List ℕ). P (Queue n)) (queue_named key d ++ queues_in rows)
    go (Queue n) None k h rest = (h, rest)
    go (Own s c) None k h rest = absurd k
    go (SharedOwn c n) None k h rest = absurd k
    go (Durable c n) None k h rest = absurd k
    go (Queue n) (Some d) k h rest = absurd k
    go (Own s c) (Some d) k h rest = absurd k
    go (SharedOwn c n) (Some d) k h rest = absurd k
    go (Durable c n) (Some d) k h rest = rest

distinct : (rows : List StationRow) → AllByRecursion IsKnown rows → IsDistinct key_eq (keys_of rows) → IsDistinct key_eq (keys_in (subscriptions_in rows))
unfolding IsDistinct
distinct [] k h = tt
distinct (s ∷ rows) k h = go s.key s.definition k.0 (others (λ b. key_eq s.key b ≡ false) rows k.1 h.0) (distinct rows k.1 h.1)
  where
    go : (key : Key) (d : Option Definition) → IsKnownAs key d → AllByRecursion (λ b. key_eq key b ≡ false) (keys_in (subscriptions_in rows)) → IsDistinct key_eq (keys_in (subscriptions_in rows)) → IsDistinct key_eq (keys_in (subscription_for key d ++ subscriptions_in rows))
    go key None k h rest = rest
    go key (Some d) k h rest = (h, rest)

all_durable : (rows : List StationRow) → AllByRecursion IsKnown rows → All (λ (s : StoredSubscription). is_durable s.key ≡ true) (subscriptions_in rows)
all_durable [] k = All-nil (λ (s : StoredSubscription). is_durable s.key ≡ true)
all_durable (s ∷ rows) k = go s.key s.definition k.0 (all_durable rows k.1)
  where
    go : (key : Key) (d : Option Definition) → IsKnownAs key d → All (λ (s : StoredSubscription). is_durable s.key ≡ true) (subscriptions_in rows) → All (λ (s : StoredSubscription). is_durable s.key ≡ true) (subscription_for key d ++ subscriptions_in rows)
    go key None k rest = rest
    go (Queue n) (Some d) k rest = absurd k
    go (Own s c) (Some d) k rest = absurd k
    go (SharedOwn c n) (Some d) k rest = absurd k
    go (Durable c n) (Some d) k rest = All-cons (λ (s : StoredSubscription). is_durable s.key ≡ true) (record { key = Durable c n; definition = d }) (subscriptions_in rows) refl rest

pub sorted_keys : (rows : List StationRow) → FitStations rows → IsStrictlySortedBy key_cmp (keys_of rows)
unfolding IsStrictlySortedBy
sorted_keys [] h = tt
sorted_keys (s ∷ rows) h = sorted_from_all_adjacent key_order (keys_of (s ∷ rows)) s.key
    (λ k l.
    let within : k + 1 < length (s ∷ rows) = simp length-map at l in
    let here : get_or (keys_of (s ∷ rows)) k s.key ≡ (get_or (s ∷ rows) k s).key = get_or-map (λ (s : StationRow). s.key) (s ∷ rows) k s s.key (omega (arith, within)) in
    let next : get_or (keys_of (s ∷ rows)) (k + 1) s.key ≡ (get_or (s ∷ rows) (k + 1) s).key = get_or-map (λ (s : StationRow). s.key) (s ∷ rows) (k + 1) s s.key within in
    ap (λ (a : Key). key_cmp a (get_or (keys_of (s ∷ rows)) (k + 1) s.key)) here ∙ ap (λ (b : Key). key_cmp (get_or (s ∷ rows) k s).key b) next ∙ h.rise k s within)

pub by_recursion : (rows : List StationRow) → All IsKnown rows → AllByRecursion IsKnown rows
by_recursion [] h = tt
by_recursion (s ∷ rows) h = (All-head IsKnown s rows h, by_recursion rows (All-tail IsKnown s rows h))

pub are_subscriptions : (rows : List StationRow) → FitStations rows → AreSubscriptions (subscriptions_in rows)
are_subscriptions rows h = record { durable = all_durable rows (by_recursion rows h.may); once = distinct rows (by_recursion rows h.may) (once (keys_of rows) (sorted_keys rows h)) }

-- ---- names and keys rise

rising_subscriptions : (rows : List StationRow) → AllByRecursion IsKnown rows → IsStrictlySortedBy key_cmp (keys_of rows) → IsStrictlySortedBy key_cmp (keys_in (subscriptions_in rows))
unfolding IsStrictlySortedBy
rising_subscriptions [] k h = tt
rising_subscriptions (s ∷ rows) k h = go s.key s.definition k.0 (others (λ b. key_cmp s.key b ≡ Less) rows k.1 h.0) (rising_subscriptions rows k.1 h.1)
  where
    go : (key : Key) (d : Option Definition) → IsKnownAs key d → AllByRecursion (λ b. key_cmp key b ≡ Less) (keys_in (subscriptions_in rows)) → IsStrictlySortedBy key_cmp (keys_in (subscriptions_in rows)) → IsStrictlySortedBy key_cmp (keys_in (subscription_for key d ++ subscriptions_in rows))
    go key None k h rest = rest
    go key (Some d) k h rest = (h, rest)

rising_queues : (rows : List StationRow) → AllByRecursion IsKnown rows → IsStrictlySortedBy key_cmp (keys_of rows) → IsStrictlySortedBy (slice_cmp nat_cmp) (queues_in rows)
unfolding IsStrictlySortedBy
rising_queues [] k h = tt
rising_queues (s ∷ rows) k h = go s.key s.definition k.0 (named (λ b. key_cmp s.key b ≡ Less) rows k.1 h.0) (rising_queues rows k.1 h.1)
  where
    go : (key : Key) (d : Option Definition) → IsKnownAs key d → AllByRecursion (λ (n : List ℕ). key_cmp key (Queue n) ≡ Less) (queues_in rows) → IsStrictlySortedBy (slice_cmp nat_cmp) (queues_in rows) → IsStrictlySortedBy (slice_cmp nat_cmp) (queue_named key d ++ queues_in rows)
    go (Queue n) None k h rest = (h, rest)
    go (Own s c) None k h rest = absurd k
    go (SharedOwn c n) None k h rest = absurd k
    go (Durable c n) None k h rest = absurd k
    go (Queue n) (Some d) k h rest = absurd k
    go (Own s c) (Some d) k h rest = absurd k
    go (SharedOwn c n) (Some d) k h rest = absurd k
    go (Durable c n) (Some d) k h rest = rest

pub searchable : (rows : List StationRow) → FitStations rows → AreSearchable (queues_in rows) (subscriptions_in rows)
searchable rows h =
    let known = by_recursion rows h.may in
    let sorted = sorted_keys rows h in
    record { queues_rise = rising_queues rows known sorted; subscriptions_rise = rising_subscriptions rows known sorted }

-- no subscription has the key of a queue
none_of_queue : (name : List ℕ) (rows : List StationRow) → AllByRecursion IsKnown rows → find (λ (s : StoredSubscription). key_eq s.key (Queue name)) (subscriptions_in rows) ≡ None
none_of_queue name [] k = refl
none_of_queue name (s ∷ rows) k = go s.key s.definition k.0 (none_of_queue name rows k.1)
  where
    go : (key : Key) (d : Option Definition) → IsKnownAs key d → find (λ (s : StoredSubscription). key_eq s.key (Queue name)) (subscriptions_in rows) ≡ None → find (λ (s : StoredSubscription). key_eq s.key (Queue name)) (subscription_for key d ++ subscriptions_in rows) ≡ None
    go key None k rest = rest
    go (Queue n) (Some d) k rest = absurd k
    go (Own s c) (Some d) k rest = absurd k
    go (SharedOwn c n) (Some d) k rest = absurd k
    go (Durable c n) (Some d) k rest = rest

pub definitions : (key : Key) (rows : List StationRow) → AllByRecursion IsKnown rows → option_map (λ (s : StoredSubscription). s.definition) (find (λ (s : StoredSubscription). key_eq s.key key) (subscriptions_in rows)) ≡ definition_said key rows
definitions key [] k = refl
definitions key (s ∷ rows) k = go s.key s.definition k.0 (definitions key rows k.1)
  where
    asks : Option StoredSubscription → Option Definition
    asks o = option_map (λ (s : StoredSubscription). s.definition) o

    of_queue : (name : List ℕ) (b : Bool) → key_eq (Queue name) key ≡ b → option_map (λ (s : StoredSubscription). s.definition) (find (λ (s : StoredSubscription). key_eq s.key key) (subscriptions_in rows)) ≡ definition_said key rows →
        option_map (λ (s : StoredSubscription). s.definition) (find (λ (s : StoredSubscription). key_eq s.key key) (subscriptions_in rows)) ≡ cond b None (definition_said key rows)
    of_queue name true t rest = ap (λ (o : Option StoredSubscription). option_map (λ (s : StoredSubscription). s.definition) o) (subst (λ (x : Key). find (λ (s : StoredSubscription). key_eq s.key x) (subscriptions_in rows) ≡ None) (key_same (Queue name) key t) (none_of_queue name rows k.1))
    of_queue name false t rest = rest

    of_one : (d : Definition) (x : Key) (b : Bool) → option_map (λ (s : StoredSubscription). s.definition) (find (λ (s : StoredSubscription). key_eq s.key key) (subscriptions_in rows)) ≡ definition_said key rows →
        option_map (λ (s : StoredSubscription). s.definition) (cond b (Some (record { key = x; definition = d })) (find (λ (s : StoredSubscription). key_eq s.key key) (subscriptions_in rows))) ≡ cond b (Some d) (definition_said key rows)
    of_one d x true rest = refl
    of_one d x false rest = rest

    go : (x : Key) (d : Option Definition) → IsKnownAs x d → option_map (λ (s : StoredSubscription). s.definition) (find (λ (s : StoredSubscription). key_eq s.key key) (subscriptions_in rows)) ≡ definition_said key rows →
        option_map (λ (s : StoredSubscription). s.definition) (find (λ (s : StoredSubscription). key_eq s.key key) (subscription_for x d ++ subscriptions_in rows)) ≡ cond (key_eq x key) d (definition_said key rows)
    go (Queue n) None k rest = of_queue n (key_eq (Queue n) key) refl rest
    go (Own s c) None k rest = absurd k
    go (SharedOwn c n) None k rest = absurd k
    go (Durable c n) None k rest = absurd k
    go (Queue n) (Some d) k rest = absurd k
    go (Own s c) (Some d) k rest = absurd k
    go (SharedOwn c n) (Some d) k rest = absurd k
    go (Durable c n) (Some d) k rest = of_one d (Durable c n) (key_eq (Durable c n) key) rest
