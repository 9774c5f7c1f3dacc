-- Where the subscriptions stand that accept a message: within the list, each once, and no others.
use Rattle.std.proofs.Common.{◌≡◌, ◌∙◌, ◌+◌, ◌<◌, ◌==◌, ℕ, zero, suc, length, get_or, Bool, true, false, cond, List, [], ◌∷◌, ◌++◌, Some, refl, sym, ap, arith, nat_eq, take}
use Rattle.std.specs.Prelude.{filter, map, slice_get}
use Rattle.std.specs.List.{All, AllByRecursion, IsDistinct, list_any}
use Rattle.std.specs.Map.{keys_of}
use Rattle.std.proofs.lemmas.Bool.Decides.{nat_tests}
use Rattle.std.proofs.lemmas.List.{length-map, map-append, take_more}
use Rattle.std.proofs.lemmas.List.Elements.{All-cons, All-nil}
use Rattle.std.proofs.lemmas.Option.{slice_get-get_or}
use Rattle.jm_dest.specs.declared.key.Key.{Key}
use Rattle.jm_header.specs.declared.content.Content.{Content}
use Rattle.jm_machine.specs.declared.state.Definition.{Definition}
use Rattle.jm_machine.specs.Machine.{Publisher}
use Rattle.jm_sub.specs.Entries.{subscription_of, subscriptions_of}
use Rattle.jm_sub.specs.Subscriptions.{Subscription, accepting, accepting_from, accepting_places, takes}

-- what is all there is the same
all_there : {X : Type 0} (xs ys : List X) → map Some xs ≡ map Some ys → xs ≡ ys
all_there [] [] is = refl
all_there [] (y ∷ ys) is = cc
all_there (x ∷ xs) [] is = cc
all_there (x ∷ xs) (y ∷ ys) is =
    let here : x ≡ y = cc in
    let later : map Some xs ≡ map Some ys = cc in
    let rest = all_there xs ys later in
    λ i. here i ∷ rest i

-- the key at one place more
pub keys_next : (es : List (Key × Definition)) (places : List ℕ) (index : ℕ) (keys : List Key) (key : Key) → index < length places → get_or places index 0 < length es → ((d : Key) → key ≡ get_or (keys_of es) (get_or places index 0) d) →
    map Some keys ≡ map (slice_get (keys_of es)) (take index places) → map Some (keys ++ key ∷ []) ≡ map (slice_get (keys_of es)) (take (index + 1) places)
keys_next es places index keys key more within here is =
    let there : slice_get (keys_of es) (get_or places index 0) ≡ Some key = slice_get-get_or (keys_of es) (get_or places index 0) key (omega (arith, within, length-map es (λ (e : Key × Definition). e.0))) ∙ ap Some (sym (here key)) in
    map-append Some keys (key ∷ []) ∙ (λ i. is i ++ sym there i ∷ []) ∙ sym (map-append (slice_get (keys_of es)) (take index places) (get_or places index 0 ∷ [])) ∙ ap (map (slice_get (keys_of es))) (sym (take_more places index 0 more))

module _ (sender : Publisher) (m : Content) where
  -- each is of a subscription
  from_within : (first n : ℕ) (ss : List Subscription) → first + length ss ≡ n → All (λ i. i < n) (accepting_from sender m first ss)
  from_within first n [] is = All-nil (λ i. i < n)
  from_within first n (s ∷ ss) is = by (takes sender m s) (from_within (first + 1) n ss (omega (arith, is)))
    where
      by : (b : Bool) → All (λ i. i < n) (accepting_from sender m (first + 1) ss) → All (λ i. i < n) (cond b (first ∷ accepting_from sender m (first + 1) ss) (accepting_from sender m (first + 1) ss))
      by true rest = All-cons (λ i. i < n) first (accepting_from sender m (first + 1) ss) (omega (arith, is)) rest
      by false rest = rest

  pub accepting_within : (ss : List Subscription) → All (λ i. i < length ss) (accepting_places sender m ss)
  accepting_within ss = from_within 0 (length ss) ss (omega arith)

  -- none is below that from which they are counted
  from_apart : (n first : ℕ) (ss : List Subscription) → n < first → AllByRecursion (λ i. nat_eq n i ≡ false) (accepting_from sender m first ss)
  from_apart n first [] low = tt
  from_apart n first (s ∷ ss) low = by (takes sender m s) (from_apart n (first + 1) ss (omega (arith, low)))
    where
      by : (b : Bool) → AllByRecursion (λ i. nat_eq n i ≡ false) (accepting_from sender m (first + 1) ss) →
          AllByRecursion (λ i. nat_eq n i ≡ false) (cond b (first ∷ accepting_from sender m (first + 1) ss) (accepting_from sender m (first + 1) ss))
      by true rest = (grind (arith, nat_tests), rest)
      by false rest = rest

  -- each stands once
  from_once : (first : ℕ) (ss : List Subscription) → IsDistinct nat_eq (accepting_from sender m first ss)
  unfolding IsDistinct
  from_once first [] = tt
  from_once first (s ∷ ss) = by (takes sender m s) (from_once (first + 1) ss)
    where
      by : (b : Bool) → IsDistinct nat_eq (accepting_from sender m (first + 1) ss) → IsDistinct nat_eq (cond b (first ∷ accepting_from sender m (first + 1) ss) (accepting_from sender m (first + 1) ss))
      by true rest = (from_apart first (first + 1) ss (omega arith), rest)
      by false rest = rest

  pub accepting_once : (ss : List Subscription) → IsDistinct nat_eq (accepting_places sender m ss)
  accepting_once ss = from_once 0 ss

  -- those that are counted from a number on are none below it
  from_below : (first : ℕ) (ss : List Subscription) (n : ℕ) → n < first → list_any (λ i. i == n) (accepting_from sender m first ss) ≡ false
  from_below first [] n low = refl
  from_below first (s ∷ ss) n low = by (takes sender m s) (from_below (first + 1) ss n (omega (arith, low)))
    where
      apart : (first == n) ≡ false
      apart = grind (arith, nat_tests)

      by : (b : Bool) → list_any (λ i. i == n) (accepting_from sender m (first + 1) ss) ≡ false →
          list_any (λ i. i == n) (cond b (first ∷ accepting_from sender m (first + 1) ss) (accepting_from sender m (first + 1) ss)) ≡ false
      by true rest = rw apart rest
      by false rest = rest

  -- a place is among them where its subscription accepts the message
  from_named : (first : ℕ) (ss : List Subscription) (k : ℕ) (d : Subscription) → k < length ss → list_any (λ i. i == (first + k)) (accepting_from sender m first ss) ≡ takes sender m (get_or ss k d)
  from_named first [] k d within = absurd (omega (arith, within))
  from_named first (s ∷ ss) zero d within = by (takes sender m s)
    where
      here : (first == (first + 0)) ≡ true
      here = grind (arith, nat_tests)

      by : (b : Bool) → list_any (λ i. i == (first + 0)) (cond b (first ∷ accepting_from sender m (first + 1) ss) (accepting_from sender m (first + 1) ss)) ≡ b
      by true = rw here refl
      by false = from_below (first + 1) ss (first + 0) (omega arith)
  from_named first (s ∷ ss) (suc k) d within = by (takes sender m s) (ap (λ n. list_any (λ i. i == n) (accepting_from sender m (first + 1) ss)) next ∙ from_named (first + 1) ss k d (omega (arith, within)))
    where
      next : first + suc k ≡ first + 1 + k
      next = omega arith

      apart : (first == (first + suc k)) ≡ false
      apart = grind (arith, nat_tests)

      by : (b : Bool) → list_any (λ i. i == (first + suc k)) (accepting_from sender m (first + 1) ss) ≡ takes sender m (get_or ss k d) →
          list_any (λ i. i == (first + suc k)) (cond b (first ∷ accepting_from sender m (first + 1) ss) (accepting_from sender m (first + 1) ss)) ≡ takes sender m (get_or ss k d)
      by true rest = rw apart rest
      by false rest = rest

  pub accepting_named : (ss : List Subscription) (k : ℕ) (d : Subscription) → k < length ss → list_any (λ i. i == k) (accepting_places sender m ss) ≡ takes sender m (get_or ss k d)
  accepting_named ss k d within = ap (λ n. list_any (λ i. i == n) (accepting_places sender m ss)) none_more ∙ from_named 0 ss k d within
    where
      none_more : k ≡ 0 + k
      none_more = omega arith

  -- at the places stand the keys of those that accept the message
  from_keys : (all es : List (Key × Definition)) (first : ℕ) → ((i : ℕ) → slice_get (keys_of all) (first + i) ≡ slice_get (keys_of es) i) →
      map (slice_get (keys_of all)) (accepting_from sender m first (subscriptions_of es)) ≡ map Some (accepting sender m (subscriptions_of es))
  from_keys all [] first there = refl
  from_keys all (e ∷ es) first there = by (takes sender m (subscription_of e)) (from_keys all es (first + 1) (λ i. ap (slice_get (keys_of all)) (sym (next i)) ∙ there (suc i)))
    where
      next : (i : ℕ) → first + suc i ≡ first + 1 + i
      next i = omega arith

      none : first ≡ first + 0
      none = omega arith

      here : slice_get (keys_of all) first ≡ Some e.0
      here = ap (slice_get (keys_of all)) none ∙ there 0

      by : (b : Bool) → map (slice_get (keys_of all)) (accepting_from sender m (first + 1) (subscriptions_of es)) ≡ map Some (map (λ (s : Subscription). s.key) (filter (takes sender m) (subscriptions_of es))) →
          map (slice_get (keys_of all)) (cond b (first ∷ accepting_from sender m (first + 1) (subscriptions_of es)) (accepting_from sender m (first + 1) (subscriptions_of es)))
          ≡ map Some (map (λ (s : Subscription). s.key) (cond b (subscription_of e ∷ filter (takes sender m) (subscriptions_of es)) (filter (takes sender m) (subscriptions_of es))))
      by true rest = λ i. here i ∷ rest i
      by false rest = rest

  pub accepting_keys : (es : List (Key × Definition)) (keys : List Key) → map Some keys ≡ map (slice_get (keys_of es)) (accepting_places sender m (subscriptions_of es)) → keys ≡ accepting sender m (subscriptions_of es)
  accepting_keys es keys is = all_there keys (accepting sender m (subscriptions_of es)) (is ∙ from_keys es es 0 (λ i. ap (slice_get (keys_of es)) (none_more i)))
    where
      none_more : (i : ℕ) → 0 + i ≡ i
      none_more i = omega arith
