-- Places in order: what they are, where those that pass a test are among them and no others.
use Rattle.std.proofs.Common.{◌≡◌, ◌∙◌, ◌+◌, ◌-◌, ◌<◌, ◌≤◌, ℕ, suc, length, get_or, Bool, true, false, List, [], ◌∷◌, refl, sym, ap, subst, arith}
use Rattle.std.specs.Prelude.{nat_eq, nat_lt, not, slice_get, ◌&&◌, ◌||◌}
use Rattle.std.specs.List.{AllPairs, dedup}
use Rattle.std.specs.List.Sorted.{IsStrictlyIncreasing}
use Rattle.std.specs.Set.{is_member}
use Rattle.std.proofs.lemmas.Bool.Decides.{nat_tests}
use Rattle.std.proofs.lemmas.Cmp.{nat_eq_equiv}
use Rattle.std.proofs.lemmas.List.Kept.{AllPairs-from_increasing, Contains-dedup_nat, Contains-from_dedup}
use Rattle.std.proofs.lemmas.Map.Views.{Contains-from_any, list_any-from_Contains}
use Rattle.jm_dest.specs.declared.key.Key.{Key}
use Rattle.jm_header.specs.declared.content.Content.{Content}
use Rattle.jm_machine.specs.declared.state.Definition.{Definition}
use Rattle.jm_machine.specs.Machine.{Publisher}
use Rattle.jm_sub.specs.Entries.{subscription_of, subscriptions_of}
use Rattle.jm_sub.specs.Places.{passes}
use Rattle.jm_sub.specs.Subscriptions.{accepting_from, accepting_places, takes}

-- each number is equal to itself
nat_refl : (n : ℕ) → nat_eq n n ≡ true
nat_refl n = grind (arith, nat_tests)

-- each place is behind the one before it, and none is below that number
abbrev rises : ℕ → List ℕ → Bool
rises next [] = true
rises next (place ∷ places) = not (nat_lt place next) && rises (place + 1) places

-- places that rise do so
rises_from : (next : ℕ) (ps : List ℕ) → (0 < length ps → next ≤ get_or ps 0 0) → AllPairs (λ x y. x < y) ps → rises next ps ≡ true
rises_from next [] first h = refl
rises_from next (p ∷ ps) first h =
    let low : next ≤ p = first (omega arith) in
    let up : nat_lt p next ≡ false = grind (arith, nat_tests) in
    rw up (rises_from (p + 1) ps (λ some. let more : p < get_or ps 0 0 = h 0 1 0 (omega arith) (omega (arith, some)) in omega (arith, more)) (λ i j d lt within. h (suc i) (suc j) d (omega (arith, lt)) (omega (arith, within))))

-- those behind the first rise too
rises_tail : (next p : ℕ) (ps : List ℕ) → rises next (p ∷ ps) ≡ true → (next ≤ p) × (rises (p + 1) ps ≡ true)
rises_tail next p ps up = by (nat_lt p next) refl up
  where
    by : (b : Bool) → nat_lt p next ≡ b → (not b && rises (p + 1) ps) ≡ true → (next ≤ p) × (rises (p + 1) ps ≡ true)
    by true is h = cc
    by false is h = (grind (arith, nat_tests), h)

-- a lower number is none of them
above : (next : ℕ) (ps : List ℕ) (n : ℕ) → n < next → rises next ps ≡ true → is_member nat_eq ps n ≡ false
above next [] n low up = refl
above next (p ∷ ps) n low up =
    let tail = rises_tail next p ps up in
    let le : next ≤ p = tail.0 in
    let apart : nat_eq n p ≡ false = grind (arith, nat_tests) in
    rw apart (above (p + 1) ps n (omega (arith, le, low)) tail.1)

none_more : (i : ℕ) → 0 + i ≡ i
none_more i = omega arith

zero_more : (n : ℕ) → n + 0 ≡ n
zero_more n = omega arith

one_more : (n i : ℕ) → n + suc i ≡ n + 1 + i
one_more n i = omega arith

behind : (b c : Bool) → (b || c) ≡ false → b ≡ false
behind true c h = cc
behind false c h = refl

module _ (sender : Publisher) (m : Content) (test : Key × Definition → Bool) (same : (e : Key × Definition) → test e ≡ takes sender m (subscription_of e)) where
  -- where none passes, there is no place
  none_listed : (n : ℕ) (ps : List ℕ) → rises n ps ≡ true → ((i : ℕ) → is_member nat_eq ps (n + i) ≡ false) → ps ≡ []
  none_listed n [] up out = refl
  none_listed n (p ∷ ps) up out =
      let le : n ≤ p = (rises_tail n p ps up).0 in
      let here : n + (p - n) ≡ p = omega (arith, le) in
      let apart : nat_eq p p ≡ false = subst (λ k. nat_eq k p ≡ false) here (behind (nat_eq (n + (p - n)) p) (is_member nat_eq ps (n + (p - n))) (out (p - n))) in
      let never : true ≡ false = sym (nat_refl p) ∙ apart in
      cc

  -- such places, counted from a number on, are where those stand that accept the message
  abbrev Follows : ℕ → List (Key × Definition) → Type 0
  Follows n es = (ps : List ℕ) → rises n ps ≡ true → ((i : ℕ) → is_member nat_eq ps (n + i) ≡ passes test (slice_get es i)) → ps ≡ accepting_from sender m n (subscriptions_of es)

  -- where the first passes, its place comes first
  with_first : (n : ℕ) (es : List (Key × Definition)) → Follows (n + 1) es → (ps : List ℕ) → rises n ps ≡ true → is_member nat_eq ps n ≡ true → ((i : ℕ) → is_member nat_eq ps (n + 1 + i) ≡ passes test (slice_get es i)) →
      ps ≡ n ∷ accepting_from sender m (n + 1) (subscriptions_of es)
  with_first n es rest [] up here later = cc
  with_first n es rest (p ∷ ps) up here later = at (nat_eq n p) refl
    where
      tail : (n ≤ p) × (rises (p + 1) ps ≡ true)
      tail = rises_tail n p ps up

      others : p ≡ n → (i : ℕ) → is_member nat_eq ps (n + 1 + i) ≡ passes test (slice_get es i)
      others equal i = let apart : nat_eq (n + 1 + i) p ≡ false = grind (arith, nat_tests) in sym (ap (λ b. b || is_member nat_eq ps (n + 1 + i)) apart) ∙ later i

      at : (c : Bool) → nat_eq n p ≡ c → p ∷ ps ≡ n ∷ accepting_from sender m (n + 1) (subscriptions_of es)
      at true own =
          let equal : p ≡ n = grind (arith, nat_tests) in
          let behind_it = rest ps (ap (λ k. rises (k + 1) ps) (sym equal) ∙ tail.1) (others equal) in
          λ i. equal i ∷ behind_it i
      at false other =
          let le : n ≤ p = tail.0 in
          let lt : n < p = grind (arith, nat_tests) in
          let never : false ≡ true = sym (rw other (above (p + 1) ps n (omega (arith, lt)) tail.1)) ∙ here in
          cc

  -- where it does not, it is none of them
  without_first : (n : ℕ) (es : List (Key × Definition)) → Follows (n + 1) es → (ps : List ℕ) → rises n ps ≡ true → is_member nat_eq ps n ≡ false → ((i : ℕ) → is_member nat_eq ps (n + 1 + i) ≡ passes test (slice_get es i)) →
      ps ≡ accepting_from sender m (n + 1) (subscriptions_of es)
  without_first n es rest [] up here later = rest [] refl later
  without_first n es rest (p ∷ ps) up here later =
      let tail = rises_tail n p ps up in
      let le : n ≤ p = tail.0 in
      let apart : nat_eq n p ≡ false = behind (nat_eq n p) (is_member nat_eq ps n) here in
      let low : nat_lt p (n + 1) ≡ false = grind (arith, nat_tests) in
      rest (p ∷ ps) (rw low tail.1) later

  listed : (n : ℕ) (es : List (Key × Definition)) → Follows n es
  listed n [] ps up there = none_listed n ps up there
  listed n (e ∷ es) ps up there = by (test e) refl (listed (n + 1) es)
    where
      here : is_member nat_eq ps n ≡ test e
      here = ap (is_member nat_eq ps) (sym (zero_more n)) ∙ there 0

      later : (i : ℕ) → is_member nat_eq ps (n + 1 + i) ≡ passes test (slice_get es i)
      later i = ap (is_member nat_eq ps) (sym (one_more n i)) ∙ there (suc i)

      by : (b : Bool) → test e ≡ b → Follows (n + 1) es → ps ≡ accepting_from sender m n (subscriptions_of (e ∷ es))
      by true is rest = rw (sym (same e) ∙ is) (with_first n es rest ps up (here ∙ is) later)
      by false is rest = rw (sym (same e) ∙ is) (without_first n es rest ps up (here ∙ is) later)

  -- places that rise, and are those of the entries that pass, are where those stand that accept the message
  pub places_listed : (es : List (Key × Definition)) (ps : List ℕ) → IsStrictlyIncreasing ps → ((at : ℕ) → is_member nat_eq ps at ≡ passes test (slice_get es at)) → ps ≡ accepting_places sender m (subscriptions_of es)
  places_listed es ps up there = listed 0 es ps (rises_from 0 ps (λ some. omega arith) (AllPairs-from_increasing ps up)) (λ i. ap (is_member nat_eq ps) (none_more i) ∙ there i)

-- ---- places of which equal ones count once

nat_same : (a b : ℕ) → nat_eq a b ≡ true → a ≡ b
nat_same a b h = grind (arith, nat_tests)

pub dedup_same : (ps : List ℕ) (at : ℕ) → is_member nat_eq (dedup nat_eq ps) at ≡ is_member nat_eq ps at
dedup_same ps at = by (is_member nat_eq (dedup nat_eq ps) at) (is_member nat_eq ps at) refl refl
  where
    by : (b c : Bool) → is_member nat_eq (dedup nat_eq ps) at ≡ b → is_member nat_eq ps at ≡ c → b ≡ c
    by true true e f = refl
    by false false e f = refl
    by true false e f =
        let back : is_member nat_eq ps at ≡ true = list_any-from_Contains nat_eq_equiv at ps (Contains-from_dedup nat_eq ps at (Contains-from_any nat_same at (dedup nat_eq ps) e)) in
        cc
    by false true e f =
        let on : is_member nat_eq (dedup nat_eq ps) at ≡ true = list_any-from_Contains nat_eq_equiv at (dedup nat_eq ps) (Contains-dedup_nat ps at (Contains-from_any nat_same at ps f)) in
        cc
