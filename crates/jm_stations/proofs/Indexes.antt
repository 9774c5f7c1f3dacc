-- Where keys stand, and a key that is created.
use Rattle.std.proofs.Common.{◌≡◌, ◌<◌, ◌≤◌, ◌+◌, ◌||◌, ℕ, zero, suc, length, get_or, Bool, true, false, not, cond, List, [], ◌∷◌, Some, None, refl, ap, sym, subst, ◌∙◌, arith, map, nat_eq, min}
use Rattle.std.specs.Prelude.{IsOk, IfOk, nat_lt}
use Rattle.std.specs.declared.result.Result.{Result}
use Rattle.std.specs.declared.result.Result.TheVariants.{Ok, Err}
use Rattle.std.specs.List.{All, AllByRecursion, IsDistinct, list_any, position, position_or_len}
use Rattle.std.proofs.lemmas.Bool.Decides.{nat_tests}
use Rattle.std.proofs.lemmas.Bool.{eqb-true}
use Rattle.std.proofs.lemmas.List.Elements.{All-nil, All-cons}
use Rattle.std.proofs.lemmas.List.Quantifiers.{position-Some}
use Rattle.std.proofs.lemmas.List.{length-map}
use Rattle.jm_dest.specs.declared.key.Key.{Key}
use Rattle.jm_dest.specs.Keys.{key_eq}
use Rattle.jm_stations.specs.Backlogs.{changed_at}
use Rattle.jm_stations.specs.Stations.{index_in}
use Rattle.jm_machine.proofs.Keys.{set_eq, set_is, key_refl, key_same}

-- room for both is room for each
pub room_left : (a b : ℕ) → 0 < min a b → 0 < a
room_left a b h = omega (arith, h)

-- what a call that succeeds says
pub when_ok : {T E A : Type 0} (r : Result T E) → IsOk r → IfOk r (λ x. A) → A
when_ok (Ok x) ok h = h
when_ok (Err e) ok h = cc

-- distinct for the set, distinct as keys
pub distinct_keys : (keys : List Key) → IsDistinct set_eq keys → IsDistinct key_eq keys
distinct_keys keys h = subst (λ (eq : Key → Key → Bool). IsDistinct eq keys) (λ i a b. set_is a b i) h

none_first : (p : Key → Bool) (keys : List Key) → length keys ≤ position_or_len p keys → list_any p keys ≡ false
none_first p [] h = refl
none_first p (k ∷ keys) h = go (p k) h (none_first p keys)
  where
    go : (b : Bool) → length (k ∷ keys) ≤ cond (not b) (1 + position_or_len p keys) 0 → (length keys ≤ position_or_len p keys → list_any p keys ≡ false) → (b || list_any p keys) ≡ false
    go true e later = absurd (omega (arith, e))
    go false e later = later (omega (arith, e))

-- a key that stands nowhere is none of them
pub no_key : (p : Key → Bool) (keys : List Key) → position p keys ≡ None → list_any p keys ≡ false
no_key p keys h = none_first p keys (go (position_or_len p keys) (length keys) (nat_lt (position_or_len p keys) (length keys)) refl h)
  where
    go : (n m : ℕ) (b : Bool) → nat_lt n m ≡ b → cond b (Some n) None ≡ None → m ≤ n
    go n m true e h = cc
    go n m false e h = grind (arith, nat_tests)

-- where a key stands, by either test
pub place_same : (keys : List Key) (key : Key) → position (λ k. set_eq k key) keys ≡ index_in keys key
place_same keys key = λ i. position (λ k. set_is k key i) keys

-- a change of one is of no other
pub length-changed : {X : Type 0} (i : ℕ) (f : X → X) (xs : List X) → length (changed_at i f xs) ≡ length xs
length-changed i f [] = refl
length-changed zero f (x ∷ xs) = refl
length-changed (suc i) f (x ∷ xs) = ap suc (length-changed i f xs)

pub as_many_changed : {X : Type 0} (n i : ℕ) (f : X → X) (xs ys : List X) → n ≡ length xs → ys ≡ changed_at i f xs → n ≡ length ys
as_many_changed n i f xs ys e is = e ∙ sym (ap length is ∙ length-changed i f xs)

pub as_many_mapped : {X : Type 0} (n : ℕ) (f : X → X) (xs ys : List X) → n ≡ length xs → ys ≡ map f xs → n ≡ length ys
as_many_mapped n f xs ys e is = e ∙ sym (ap length is ∙ length-map xs f)

-- an index is within so many
abbrev pub IsWithin : ℕ → ℕ → Type 0
IsWithin n i = i < n

-- the indexes of keys are inside
pub indexes_within : (stored keys : List Key) (is : List ℕ) → map Some is ≡ map (index_in stored) keys → All (λ i. i < length stored) is
indexes_within stored keys [] e = All-nil (λ i. i < length stored)
indexes_within stored [] (i ∷ is) e = cc
indexes_within stored (k ∷ keys) (i ∷ is) e =
    let here : index_in stored k ≡ Some i = cc in
    let there : map Some is ≡ map (index_in stored) keys = cc in
    All-cons (λ i. i < length stored) i is (position-Some (λ x. key_eq x k) stored i k here).0 (indexes_within stored keys is there)

-- one index is of one key
same_index : (stored : List Key) (k l : Key) (i : ℕ) → index_in stored k ≡ Some i → index_in stored l ≡ Some i → k ≡ l
same_index stored k l i e f =
    let a = (position-Some (λ x. key_eq x k) stored i k e).1 in
    let b = (position-Some (λ x. key_eq x l) stored i k f).1 in
    sym (key_same (get_or stored i k) k a) ∙ key_same (get_or stored i k) l b

apart : (stored keys : List Key) (k : Key) (is : List ℕ) (i : ℕ) → index_in stored k ≡ Some i → map Some is ≡ map (index_in stored) keys → AllByRecursion (λ l. key_eq k l ≡ false) keys → AllByRecursion (λ j. nat_eq i j ≡ false) is
apart stored keys k [] i here e h = tt
apart stored [] k (j ∷ is) i here e h = cc
apart stored (l ∷ keys) k (j ∷ is) i here e h =
    let there : index_in stored l ≡ Some j = cc in
    let rest : map Some is ≡ map (index_in stored) keys = cc in
    (go (nat_eq i j) refl there, apart stored keys k is i here rest h.1)
  where
    go : (b : Bool) → nat_eq i j ≡ b → index_in stored l ≡ Some j → b ≡ false
    go false e there = refl
    go true e there = absurd (
        let same : k ≡ l = same_index stored k l i here (there ∙ ap Some (sym (eqb-true i j e))) in
        let own : key_eq k l ≡ true = ap (key_eq k) (sym same) ∙ key_refl k in
        let other : key_eq k l ≡ false = h.0 in
        cc
        )

-- distinct keys stand at distinct indexes
pub distinct_indexes : (stored keys : List Key) (is : List ℕ) → map Some is ≡ map (index_in stored) keys → IsDistinct key_eq keys → IsDistinct nat_eq is
unfolding IsDistinct
distinct_indexes stored keys [] e h = tt
distinct_indexes stored [] (i ∷ is) e h = cc
distinct_indexes stored (k ∷ keys) (i ∷ is) e h =
    let here : index_in stored k ≡ Some i = cc in
    let rest : map Some is ≡ map (index_in stored) keys = cc in
    (apart stored keys k is i here rest h.0, distinct_indexes stored keys is rest h.1)
