-- The row that goes first of those that pass, in a lane and in what a filter leaves.
use Rattle.std.proofs.Common.{◌≡◌, ℕ, ◌<◌, ◌≤◌, ◌==◌, nat_lt, nat_le, List, [], ◌∷◌, ◌++◌, length, get_or, true, false, Bool, not, ◌&&◌, ◌||◌, cond, Option, Some, None, refl, sym, subst, ◌∙◌, arith, suc, zero, ◌⊎◌, inl, inr}
use Rattle.std.specs.List.{filter, find, All, Contains, list_all}
use Rattle.std.specs.Prelude.{slice_get}
use Rattle.std.proofs.lemmas.Bool.Decides.{nat_tests}
use Rattle.std.proofs.lemmas.List.Elements.{All-nil, All-cons, All-head, All-tail, All-append, All-weaker, Contains-get_or, Contains-append_right}
use Rattle.jm_lane.specs.declared.row.Row.{Row}
use Rattle.jm_lane.specs.Rows.{IsRising}
use Rattle.jm_lane.specs.Lanes.{IsSoonestOf, is_sooner}

-- of two numbered rows neither goes before itself, not both go before the other, and what does not go before one that
-- does not go before a third does not go before that
not_itself : (p r : ℕ) → (nat_lt p p || (p == p && nat_lt r r)) ≡ false
not_itself p r = grind (arith, nat_tests)

pub not_both : (p r q s : ℕ) → (nat_lt q p || (p == q && nat_lt r s)) ≡ true → (nat_lt p q || (q == p && nat_lt s r)) ≡ false
not_both p r q s h = grind (arith, nat_tests)

pub not_later : (p r q s u v : ℕ) → (nat_lt p q || (q == p && nat_lt s r)) ≡ false → (nat_lt q u || (u == q && nat_lt v s)) ≡ false → (nat_lt p u || (u == p && nat_lt v r)) ≡ false
not_later p r q s u v h k = grind (arith, nat_tests)

not_behind : (p r q s : ℕ) → q ≡ p → r < s → (nat_lt p q || (q == p && nat_lt s r)) ≡ false
not_behind p r q s h k = grind (arith, nat_tests)

-- in a lane it is the first
pub lane_soonest : (passes : Row → Bool) (rs : List Row) (pr : ℕ) → All (λ (r : Row). r.priority ≡ pr) rs → IsRising rs → IsSoonestOf passes rs (find passes rs)
lane_soonest p [] pr same up = All-nil (λ y. p y ≡ false)
lane_soonest p (x ∷ xs) pr same up = go (p x) refl (find p xs) (lane_soonest p xs pr (All-tail (λ (r : Row). r.priority ≡ pr) x xs same) up.1)
  where
    go : (b : Bool) → p x ≡ b → (o : Option Row) → IsSoonestOf p xs o → IsSoonestOf p (x ∷ xs) (cond b (Some x) o)
    go true e o rest = record {
      pass = e;
      there = Contains-get_or (x ∷ xs) 0 x (omega arith);
      first = All-cons (λ y. p y ≡ true → is_sooner y x ≡ false) x xs (λ h. not_itself x.priority x.place) (λ k d l h.
          let here : x.priority ≡ pr = All-head (λ (r : Row). r.priority ≡ pr) x xs same in
          let there : (get_or xs k d).priority ≡ pr = All-tail (λ (r : Row). r.priority ≡ pr) x xs same k d l in
          not_behind x.priority x.place (get_or xs k d).priority (get_or xs k d).place (there ∙ sym here) (up.0 k d l));
    }
    go false e None rest = All-cons (λ y. p y ≡ false) x xs e rest
    go false e (Some r) rest =
        record { pass = rest.pass; there = Contains-append_right (x ∷ []) xs r rest.there; first = All-cons (λ y. p y ≡ true → is_sooner y r ≡ false) x xs (λ h. absurd (cc)) rest.first }

-- past the end stands none, which is it where none passes
slice_end : {X : Type 0} (xs : List X) (n : ℕ) → n ≡ length xs → slice_get xs n ≡ None
slice_end [] n e = refl
slice_end (x ∷ xs) zero e = absurd (omega (arith, e))
slice_end (x ∷ xs) (suc n) e = slice_end xs n (omega (arith, e))

pub none_soonest : (passes : Row → Bool) (xs : List Row) (n : ℕ) → n ≡ length xs → All (λ y. passes y ≡ false) xs → IsSoonestOf passes xs (slice_get xs n)
none_soonest p xs n e h = subst (IsSoonestOf p xs) (sym (slice_end xs n e)) h

-- where none of the first passes, it is that of the second
pub soonest_second : (passes : Row → Bool) (us vs : List Row) (b : Option Row) → All (λ y. passes y ≡ false) us → IsSoonestOf passes vs b → IsSoonestOf passes (us ++ vs) b
soonest_second p us vs None h k = All-append (λ y. p y ≡ false) us vs h k
soonest_second p us vs (Some y) h k = record {
  pass = k.pass;
  there = Contains-append_right us vs y k.there;
  first = All-append (λ z. p z ≡ true → is_sooner z y ≡ false) us vs (All-weaker (λ z. p z ≡ false) (λ z. p z ≡ true → is_sooner z y ≡ false) (λ z e t. absurd (cc)) us h) k.first;
}

-- of what a filter leaves
filter_passes : (q : Row → Bool) (xs : List Row) → All (λ x. q x ≡ true) (filter q xs)
filter_passes q [] = All-nil (λ x. q x ≡ true)
filter_passes q (x ∷ xs) = go (q x) refl (filter_passes q xs)
  where
    go : (b : Bool) → q x ≡ b → All (λ x. q x ≡ true) (filter q xs) → All (λ x. q x ≡ true) (cond b (x ∷ filter q xs) (filter q xs))
    go true e rest = All-cons (λ x. q x ≡ true) x (filter q xs) e rest
    go false e rest = rest

pub all_that_pass : (P : Row → Type 0) (q : Row → Bool) (xs : List Row) → All P (filter q xs) → All (λ y. q y ≡ true → P y) xs
all_that_pass P q [] a = All-nil (λ y. q y ≡ true → P y)
all_that_pass P q (x ∷ xs) a = go (q x) refl (all_that_pass P q xs) a
  where
    go : (b : Bool) → q x ≡ b → (All P (filter q xs) → All (λ y. q y ≡ true → P y) xs) → All P (cond b (x ∷ filter q xs) (filter q xs)) → All (λ y. q y ≡ true → P y) (x ∷ xs)
    go true e rest a = All-cons (λ y. q y ≡ true → P y) x xs (λ h. All-head P x (filter q xs) a) (rest (All-tail P x (filter q xs) a))
    go false e rest a = All-cons (λ y. q y ≡ true → P y) x xs (λ h. absurd (cc)) (rest a)

-- a row of the list, or of what follows its first
pub in_rest : (x r : Row) (xs : List Row) (k : ℕ) → k < length (x ∷ xs) → get_or (x ∷ xs) k r ≡ r → (x ≡ r) ⊎ Contains xs r
in_rest x r xs zero l e = inl e
in_rest x r xs (suc k) l e = inr (k, omega arith, e)

pub both_true : (a b : Bool) → (a && b) ≡ true → (a ≡ true) × (b ≡ true)
both_true true b h = (refl, h)
both_true false b h = absurd (cc)

pub and_true : (a b : Bool) → a ≡ true → b ≡ true → (a && b) ≡ true
and_true true true h k = refl
and_true true false h k = k
and_true false b h k = h

pub and_false : (a b : Bool) → a ≡ false → (a && b) ≡ false
and_false true b h = absurd (cc)
and_false false b h = refl

-- what all pass, each passes
pub test_each : (q : Row → Bool) (xs : List Row) → list_all q xs ≡ true → All (λ x. q x ≡ true) xs
test_each q [] h = All-nil (λ x. q x ≡ true)
test_each q (x ∷ xs) h = let both = both_true (q x) (list_all q xs) h in All-cons (λ x. q x ≡ true) x xs both.0 (test_each q xs both.1)

pub test_all : (q : Row → Bool) (xs : List Row) → All (λ x. q x ≡ true) xs → list_all q xs ≡ true
test_all q [] h = refl
test_all q (x ∷ xs) h = rw (All-head (λ x. q x ≡ true) x xs h) (test_all q xs (All-tail (λ x. q x ≡ true) x xs h))

pub not_above : (p r q s : ℕ) (ready : Bool) → (ready ≡ true → (nat_lt p q || (q == p && nat_lt s r)) ≡ false) → (not ready || nat_le q p) ≡ true
not_above p r q s true h = let k = h refl in grind (arith, nat_tests)
not_above p r q s false h = refl

pub least_place : (p r q s : ℕ) (ready : Bool) → ready ≡ true → (not ready || nat_le p q) ≡ true → (nat_lt p q || (q == p && nat_lt s r)) ≡ false → r ≤ s
least_place p r q s true e h k = grind (arith, nat_tests)
least_place p r q s false e h k = absurd (cc)
