-- What a binary search finds, and the end of rows that rise.
use Rattle.std.proofs.Common.{◌≡◌, ◌+◌, ◌-◌, ◌<◌, ◌≤◌, ◌⊎◌, ◌∙◌, ℕ, Bool, true, false, List, [], ◌∷◌, map, ap, sym, subst, refl, length, get_or, arith, inl, inr, Option, Some, None, Result, Ok, Err}
use Rattle.std.specs.Prelude.{Decides, IfSome, is_ok, slice_get}
use Rattle.std.specs.Cmp.Lexicographic.{slice_cmp}
use Rattle.std.specs.List.{AllByRecursion, list_any}
use Rattle.std.specs.Result.{result_ok}
use Rattle.std.specs.Cmp.{IsTotalOrder}
use Rattle.std.specs.List.Sorted.{IsBinarySearchResult, IsSearchInRange, IsStrictlySortedBy}
use Rattle.std.specs.Ordering.{MatchOrdering, is_eq, is_lt, nat_cmp, ordering_reverse}
use Rattle.std.specs.declared.cmp.Ordering.{Ordering}
use Rattle.std.specs.declared.cmp.Ordering.TheVariants.{Less, Equal, Greater}
use Rattle.std.proofs.lemmas.Bool.{cases_Bool}
use Rattle.std.proofs.lemmas.Bool.Decides.{nat_tests}
use Rattle.std.proofs.lemmas.Cmp.{nat_cmp_total, nat_list_cmp_total, ranked, same_from_slice_cmp, tied_itself}
use Rattle.std.proofs.lemmas.List.Folds.{Any-from_list_any, list_any_at}
use Rattle.std.proofs.lemmas.List.Sorted.{searchable_from_sorted}
use Rattle.jm_loading.proofs.Unfit.{far}
use Rattle.std.proofs.lemmas.List.{get_or_default}
use Rattle.jm_dest.specs.declared.key.Key.{Key}
use Rattle.jm_dest.specs.Keys.{key_eq}
use Rattle.jm_dest.specs.Names.{text_eq}
use Rattle.jm_machine.proofs.Keys.{key_same, text_same}
use Rattle.jm_parts.specs.declared.stored.StoredSubscription.{StoredSubscription}
use Rattle.jm_loading.specs.Order.{key_cmp}
use Rattle.jm_loading.proofs.Keys.{key_order}
use Rattle.jm_stations.specs.declared.loading.StoredRow.{StoredRow}
use Rattle.jm_decoding.specs.declared.delay.DelayRow.{DelayRow}
use Rattle.jm_loading.specs.Delays.{IsDelayAt}
use Rattle.jm_loading.specs.Holding.{end_of}

-- the element with that index has the number
abbrev IsFound : {X : Type 0} → (X → ℕ) → List X → ℕ → ℕ → Type 0
IsFound {X} n xs x at = (at < length xs) × ((d : X) → n (get_or xs at d) ≡ x)

pub found_at : {X : Type 0} (n : X → ℕ) (xs : List X) (x : ℕ) (r : Result ℕ ℕ) (o : Option ℕ) → IsSearchInRange r (length xs) → IsBinarySearchResult (λ y. nat_cmp (n y) x) xs r → o ≡ result_ok r → IfSome o (λ at. (d : X) → n (get_or xs at d) ≡ x)
found_at {X} n xs x (Ok at) o l h e = subst (λ o. IfSome o (λ at. (d : X) → n (get_or xs at d) ≡ x)) (sym e) (λ d. ranked (n (get_or xs at d)) x Equal (sym (h d)))
found_at {X} n xs x (Err at) o l h e = subst (λ o. IfSome o (λ at. (d : X) → n (get_or xs at d) ≡ x)) (sym e) tt

pub found_ok : {X : Type 0} (n : X → ℕ) (xs : List X) (x : ℕ) (r : Result ℕ ℕ) → IsSearchInRange r (length xs) → IsBinarySearchResult (λ y. nat_cmp (n y) x) xs r → is_ok r ≡ true → (at : ℕ) × (at < length xs) × ((d : X) → n (get_or xs at d) ≡ x)
found_ok n xs x (Ok at) l h e = (at, l, λ d. ranked (n (get_or xs at d)) x Equal (sym (h d)))
found_ok n xs x (Err at) l h e = cc

-- the last of some rows
last : StoredRow → List StoredRow → StoredRow
last r [] = r
last r (s ∷ rows) = last s rows

end_last : (from : ℕ) (r : StoredRow) (rows : List StoredRow) → end_of from (r ∷ rows) ≡ (last r rows).index + 1
unfolding last
end_last from r [] = refl
end_last from r (s ∷ rows) = end_last (r.index + 1) s rows

get_last : (r : StoredRow) (rows : List StoredRow) → slice_get (r ∷ rows) (length rows) ≡ Some (last r rows)
unfolding last
get_last r [] = refl
get_last r (s ∷ rows) = get_last s rows

-- the rows end before an index where the last of them does
pub ends : (rows : List StoredRow) (i : ℕ) (row : StoredRow) → slice_get rows (length rows - 1) ≡ Some row → row.index < i → end_of 0 rows ≤ i
ends [] i row h l = omega arith
ends (r ∷ rows) i row h l =
    let at : length (r ∷ rows) - 1 ≡ length rows = omega arith in
    let is : Some (last r rows) ≡ Some row = sym (get_last r rows) ∙ ap (slice_get (r ∷ rows)) (sym at) ∙ h in
    let same : last r rows ≡ row = cc in
    let end = end_last 0 r rows in
    let index : (last r rows).index ≡ row.index = ap (λ (x : StoredRow). x.index) same in
    omega (arith, end, index, l)

pub ends_back : (rows : List StoredRow) (i : ℕ) (row : StoredRow) → slice_get rows (length rows - 1) ≡ Some row → end_of 0 rows ≤ i → row.index < i
ends_back [] i row h l = cc
ends_back (r ∷ rows) i row h l =
    let at : length (r ∷ rows) - 1 ≡ length rows = omega arith in
    let is : Some (last r rows) ≡ Some row = sym (get_last r rows) ∙ ap (slice_get (r ∷ rows)) (sym at) ∙ h in
    let same : last r rows ≡ row = cc in
    let end = end_last 0 r rows in
    let index : (last r rows).index ≡ row.index = ap (λ (x : StoredRow). x.index) same in
    omega (arith, end, index, l)

pub ends_none : (rows : List StoredRow) (i : ℕ) → slice_get rows (length rows - 1) ≡ None → end_of 0 rows ≤ i
ends_none [] i h = omega arith
ends_none (r ∷ rows) i h = absurd (
    let at : length (r ∷ rows) - 1 ≡ length rows = omega arith in
    let is : Some (last r rows) ≡ None = sym (get_last r rows) ∙ ap (slice_get (r ∷ rows)) (sym at) ∙ h in
    cc)

-- a row of delayed of that place
pub delay_at : (delays : List DelayRow) (place : ℕ) (r : Result ℕ ℕ) → IsSearchInRange r (length delays) → IsBinarySearchResult (λ (d : DelayRow). nat_cmp d.place place) delays r → is_ok r ≡ true → (at : ℕ) × IsDelayAt delays place at
delay_at delays place r l h e =
    let it = found_ok (λ (d : DelayRow). d.place) delays place r l h e in
    go delays it.0 it.1 it.2
  where
    go : (xs : List DelayRow) (at : ℕ) → at < length xs → ((d : DelayRow) → (get_or xs at d).place ≡ place) → (i : ℕ) × IsDelayAt xs place i
    go [] at l h = absurd (omega (arith, l))
    go (x ∷ xs) at l h = (at, record { within = l; row = get_or (x ∷ xs) at x; row_is = λ e. get_or_default (x ∷ xs) at e x l; there = h x })

-- ---- where keys rise, a search leaves none out

module _ {X K : Type 0} {cmp : K → K → Ordering} (total : IsTotalOrder cmp) (key : X → K) (xs : List X) (rise : IsStrictlySortedBy cmp (map key xs)) (x : K) where
  no_less : (k : ℕ) (d : X) → k + 1 < length xs → is_lt (cmp (key (get_or xs (k + 1) d)) (key (get_or xs k d))) ≡ false
  no_less k d l = ap is_lt (total.antisymm (key (get_or xs (k + 1) d)) (key (get_or xs k d)) ∙ ap ordering_reverse (far cmp key xs rise k (k + 1) d (omega arith) l))

  sides : (k at : ℕ) → (k < at) ⊎ (at ≤ k)
  sides k at = grind arith

  -- an element with that key is not left out
  pub none_left : (r : Result ℕ ℕ) → IsBinarySearchResult (λ y. cmp (key y) x) xs r → result_ok r ≡ None → (k : ℕ) (d : X) → k < length xs → cmp (key (get_or xs k d)) x ≡ Equal → ⊥
  none_left (Ok at) h e k d l same = cc
  none_left (Err at) h e k d l same =
      let parts = h (searchable_from_sorted total key xs x (λ k d a b. no_less k d b)) in
      elim (sides k at) [
        | inl below ↦ (let other = parts.0 k d (omega arith) below in cc)
        | inr above ↦ (let other = parts.1 k d above l in cc)
      ]

  -- and one that is found is the only one
  pub alone_found : (r : Result ℕ ℕ) (at : ℕ) → IsSearchInRange r (length xs) → IsBinarySearchResult (λ y. cmp (key y) x) xs r → result_ok r ≡ Some at → (at < length xs) × ((k : ℕ) (d : X) → k < length xs → cmp (key (get_or xs k d)) x ≡ Equal → k ≡ at)
  alone_found (Err i) at l h e = cc
  alone_found (Ok i) at l h e =
      let same : i ≡ at = cc in
      (subst (λ (n : ℕ). n < length xs) same l, λ k d w tied. subst (λ (n : ℕ). k ≡ n) same (one k i d w l tied (h d)))
    where
      three : (k i : ℕ) → (k < i) ⊎ ((i < k) ⊎ (k ≡ i))
      three k i = grind arith

      apart : (a b : K) → cmp a b ≡ Less → cmp a x ≡ Equal → cmp b x ≡ Equal → ⊥
      apart a b less p q =
          let ab : cmp a b ≡ cmp x b = total.congr a x b p in
          let back : cmp x b ≡ Equal = total.antisymm x b ∙ ap ordering_reverse q in
          cc

      one : (k i : ℕ) (d : X) → k < length xs → i < length xs → cmp (key (get_or xs k d)) x ≡ Equal → cmp (key (get_or xs i d)) x ≡ Equal → k ≡ i
      one k i d w l p q = elim (three k i) [
        | inl below ↦ absurd (apart _ _ (far cmp key xs rise k i d below l) p q)
        | inr (inl above) ↦ absurd (apart _ _ (far cmp key xs rise i k d above w) q p)
        | inr (inr same) ↦ same
      ]

-- ---- names and keys

text_test : (a b : List ℕ) → is_eq (slice_cmp nat_cmp a b) ≡ text_eq a b
text_test a b = same_from_slice_cmp nat_cmp is_eq text_eq refl (λ y ys. refl) (λ x xs. refl) (λ x y xs ys o e. step x y xs ys o (ranked x y o e)) a b (slice_cmp nat_cmp a b) refl
  where
    step : (x y : ℕ) (xs ys : List ℕ) (o : Ordering) → MatchOrdering o (x < y) (x ≡ y) (y < x) → MatchOrdering o (text_eq (x ∷ xs) (y ∷ ys) ≡ false) (text_eq (x ∷ xs) (y ∷ ys) ≡ text_eq xs ys) (text_eq (x ∷ xs) (y ∷ ys) ≡ false)
    step x y xs ys Less l = grind (arith, nat_tests)
    step x y xs ys Equal e = grind (arith, nat_tests)
    step x y xs ys Greater l = grind (arith, nat_tests)

texts_tied : (a b : List ℕ) → text_eq a b ≡ true → slice_cmp nat_cmp a b ≡ Equal
texts_tied a b t = ap (slice_cmp nat_cmp a) (sym (text_same a b t)) ∙ tied_itself nat_list_cmp_total a

-- whether a queue has the name
pub any_queue : (queues : List (List ℕ)) (name : List ℕ) (r : Result ℕ ℕ) → IsStrictlySortedBy (slice_cmp nat_cmp) queues → IsSearchInRange r (length queues) → IsBinarySearchResult (λ queue. slice_cmp nat_cmp queue name) queues r → is_ok r ≡ list_any (λ queue. text_eq queue name) queues
any_queue queues name (Ok at) rise l h = sym (list_any_at (λ queue. text_eq queue name) queues at [] l (sym (text_test (get_or queues at []) name) ∙ ap is_eq (h [])))
any_queue queues name (Err at) rise l h = sym (go (list_any (λ queue. text_eq queue name) queues) refl)
  where
    go : (b : Bool) → list_any (λ queue. text_eq queue name) queues ≡ b → b ≡ false
    go false e = refl
    go true e =
        let any = Any-from_list_any (λ queue. text_eq queue name) queues e in
        absurd (none_left nat_list_cmp_total (λ (q : List ℕ). q) queues (subst (IsStrictlySortedBy (slice_cmp nat_cmp)) (sym (same_list queues)) rise) name (Err at) h refl any.0 any.1 any.2 (ap (λ q. slice_cmp nat_cmp q name) any.3 ∙ texts_tied any.1 name any.4))
      where
        same_list : (xs : List (List ℕ)) → map (λ (q : List ℕ). q) xs ≡ xs
        same_list [] = refl
        same_list (x ∷ xs) = ap (λ (ys : List (List ℕ)). x ∷ ys) (same_list xs)

abbrev keys_of : List StoredSubscription → List Key
keys_of ss = map (λ (s : StoredSubscription). s.key) ss

keys_tied : (a b : Key) → key_eq a b ≡ true → key_cmp a b ≡ Equal
keys_tied a b t = ap (key_cmp a) (sym (key_same a b t)) ∙ tied_itself key_order a

-- no subscription has a key that a search does not find
pub none_named : (ss : List StoredSubscription) (key : Key) (r : Result ℕ ℕ) (o : Option ℕ) → IsStrictlySortedBy key_cmp (keys_of ss) → IsBinarySearchResult (λ (s : StoredSubscription). key_cmp s.key key) ss r → o ≡ result_ok r → o ≡ None →
    (k : ℕ) (d : StoredSubscription) → k < length ss → key_eq (get_or ss k d).key key ≡ false
none_named ss key r o rise h is none k d l = elim (cases_Bool (key_eq (get_or ss k d).key key)) [
  | inl named ↦ absurd (none_left key_order (λ (s : StoredSubscription). s.key) ss rise key r h (sym is ∙ none) k d l (keys_tied (get_or ss k d).key key named))
  | inr other ↦ other
]

-- and only the one that it finds may have the key
pub alone_named : (ss : List StoredSubscription) (key : Key) (r : Result ℕ ℕ) (o : Option ℕ) → IsStrictlySortedBy key_cmp (keys_of ss) → IsSearchInRange r (length ss) → IsBinarySearchResult (λ (s : StoredSubscription). key_cmp s.key key) ss r → o ≡ result_ok r →
    IfSome o (λ at. (k : ℕ) (d : StoredSubscription) → k < length ss → key_eq (get_or ss k d).key key ≡ true → k ≡ at)
alone_named ss key r None rise l h is = tt
alone_named ss key r (Some at) rise l h is = λ k d w named. (alone_found key_order (λ (s : StoredSubscription). s.key) ss rise key r at l h (sym is)).1 k d w (keys_tied (get_or ss k d).key key named)

pub there_named : (ss : List StoredSubscription) (key : Key) (at : ℕ) (s : StoredSubscription) → at < length ss → s ≡ get_or ss at s → key_eq s.key key ≡ true → (d : StoredSubscription) → key_eq (get_or ss at d).key key ≡ true
there_named ss key at s l is named d = subst (λ (x : StoredSubscription). key_eq x.key key ≡ true) (is ∙ get_or_default ss at s d l) named

pub not_named : (ss : List StoredSubscription) (key : Key) (at : ℕ) (s : StoredSubscription) → at < length ss → s ≡ get_or ss at s → key_eq s.key key ≡ false → ((k : ℕ) (d : StoredSubscription) → k < length ss → key_eq (get_or ss k d).key key ≡ true → k ≡ at) →
    (k : ℕ) (d : StoredSubscription) → k < length ss → key_eq (get_or ss k d).key key ≡ false
not_named ss key at s l is other alone k d w = elim (cases_Bool (key_eq (get_or ss k d).key key)) [
  | inl named ↦ absurd (
      let same : k ≡ at = alone k d w named in
      let here : key_eq s.key key ≡ true = subst (λ (x : StoredSubscription). key_eq x.key key ≡ true) (ap (λ (n : ℕ). get_or ss n d) same ∙ sym (is ∙ get_or_default ss at s d l)) named in
      cc)
  | inr no_name ↦ no_name
]

-- a delay is looked for by its place
above : (x : DelayRow) (xs : List DelayRow) → AllByRecursion (λ (y : DelayRow). nat_cmp x.place y.place ≡ Less) xs → AllByRecursion (λ (p : ℕ). nat_cmp x.place p ≡ Less) (map (λ (d : DelayRow). d.place) xs)
above x [] h = tt
above x (y ∷ xs) h = (h.0, above x xs h.1)

places_rise : (xs : List DelayRow) → IsStrictlySortedBy (λ (a b : DelayRow). nat_cmp a.place b.place) xs → IsStrictlySortedBy nat_cmp (map (λ (d : DelayRow). d.place) xs)
unfolding IsStrictlySortedBy
places_rise [] h = tt
places_rise (x ∷ xs) h = (above x xs h.0, places_rise xs h.1)

pub place_listed : (delays : List DelayRow) (place : ℕ) (r : Result ℕ ℕ) → IsStrictlySortedBy (λ (a b : DelayRow). nat_cmp a.place b.place) delays → IsSearchInRange r (length delays) → IsBinarySearchResult (λ (d : DelayRow). nat_cmp d.place place) delays r → Decides (is_ok r) ((at : ℕ) × IsDelayAt delays place at)
place_listed delays place (Ok at) rise l h = (λ e. delay_at delays place (Ok at) l h refl, λ found. refl)
place_listed delays place (Err at) rise l h = (
  λ e. absurd (cc),
  λ found. absurd (
      none_left nat_cmp_total (λ (d : DelayRow). d.place) delays (places_rise delays rise) place (Err at) h refl found.0 found.1.row found.1.within
      (ap (λ (d : DelayRow). nat_cmp d.place place) (found.1.row_is found.1.row) ∙ ap (λ (p : ℕ). nat_cmp p place) found.1.there ∙ tied_itself nat_cmp_total place)),
)
