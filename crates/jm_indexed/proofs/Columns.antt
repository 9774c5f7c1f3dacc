-- Values that stand beside keys, at the same indexes: what is found under a key, for callers that keep them so.
use Rattle.std.proofs.Common.{◌≡◌, ◌<◌, ℕ, Bool, true, false, cond, List, [], ◌∷◌, ◌++◌, length, get_or, set, Some, None, arith, refl, sym, ◌∙◌, ap, suc, zero}
use Rattle.std.specs.List.{All, IsDistinct, remove, zip}
use Rattle.std.specs.Map.{lookup}
use Rattle.std.specs.Cmp.{IsEquivalence}
use Rattle.std.proofs.lemmas.List.Elements.{All-head, All-tail}
use Rattle.std.proofs.lemmas.List.Quantifiers.{position-Some}
use Rattle.std.proofs.lemmas.Map.Keys.{IsDistinct-tail, apart_from_distinct}
use Rattle.jm_indexed.specs.Entries.{Updates}
use Rattle.jm_indexed.specs.Order.{index_in}
use Rattle.jm_indexed.proofs.Lists.{none_from_position}

module _ {K : Type 0} {eq : K → K → Bool} (same : IsEquivalence eq) where
  pub turned : (a b : K) (r : Bool) → eq a b ≡ r → eq b a ≡ r
  turned a b r e = same.symm b a ∙ e

  -- what is equal to one of two that are apart is not equal to the other
  other : (a b q : K) → eq a b ≡ false → eq q a ≡ true → eq b q ≡ false
  other a b q apart e = turned q b false (same.congr q a b e ∙ apart)

module _ {K V : Type 0} {eq : K → K → Bool} (same : IsEquivalence eq) where
  none_there : (q : K) (keys : List K) (values : List V) → All (λ k. eq q k ≡ false) keys → lookup (eq q) (zip keys values) ≡ None
  none_there q [] values h = refl
  none_there q (k ∷ keys) [] h = refl
  none_there q (k ∷ keys) (v ∷ values) h =
      ap (λ b. cond b (Some v) (lookup (eq q) (zip keys values))) (All-head (λ k. eq q k ≡ false) k keys h) ∙ none_there q keys values (All-tail (λ k. eq q k ≡ false) k keys h)

  there : (key : K) (keys : List K) (values : List V) (i : ℕ) (d : V) → i < length keys → i < length values → eq (get_or keys i key) key ≡ true → ((k : ℕ) → k < i → eq (get_or keys k key) key ≡ false) → lookup (eq key) (zip keys values) ≡ Some (get_or values i d)
  there key [] values i d l m at before = absurd (omega (arith, l))
  there key (k ∷ keys) [] i d l m at before = absurd (omega (arith, m))
  there key (k ∷ keys) (v ∷ values) zero d l m at before = ap (λ b. cond b (Some v) (lookup (eq key) (zip keys values))) (turned same k key true at)
  there key (k ∷ keys) (v ∷ values) (suc i) d l m at before =
      ap (λ b. cond b (Some v) (lookup (eq key) (zip keys values))) (turned same k key false (before 0 (omega arith)))
      ∙ there key keys values i d (omega (arith, l)) (omega (arith, m)) at (λ k l. before (suc k) (omega (arith, l)))

  -- what stands under a key that was found
  pub found : (key : K) (keys : List K) (values : List V) (i : ℕ) (d : V) → length keys ≡ length values → index_in eq keys key ≡ Some i → lookup (eq key) (zip keys values) ≡ Some (get_or values i d)
  found key keys values i d long is =
      let at = position-Some (λ k. eq k key) keys i key is in
      there key keys values i d at.0 (omega (arith, at.0, long)) at.1 at.2

  -- nothing stands under a key that was not found
  pub not_found : (key : K) (keys : List K) (values : List V) → index_in eq keys key ≡ None → lookup (eq key) (zip keys values) ≡ None
  not_found key keys values none = none_there key keys values (λ k d l. turned same (get_or keys k d) key false (none_from_position (λ k. eq k key) keys none k d l))

  -- a key that is new comes behind all others, with its value
  last : (key : K) (value : V) (keys : List K) (values : List V) → length keys ≡ length values → All (λ k. eq k key ≡ false) keys → Updates eq (zip keys values) (zip (keys ++ key ∷ []) (values ++ value ∷ [])) key (Some value)
  last key value [] [] long new q = ap (λ b. cond b (Some value) None) (same.symm q key)
  last key value [] (v ∷ values) long new q = absurd (omega (arith, long))
  last key value (k ∷ keys) [] long new q = absurd (omega (arith, long))
  last key value (k ∷ keys) (v ∷ values) long new q =
      by (eq q k) refl (last key value keys values (omega (arith, long)) (All-tail (λ k. eq k key ≡ false) k keys new) q)
    where
      by : (b : Bool) → eq q k ≡ b → lookup (eq q) (zip (keys ++ key ∷ []) (values ++ value ∷ [])) ≡ cond (eq key q) (Some value) (lookup (eq q) (zip keys values)) →
          cond b (Some v) (lookup (eq q) (zip (keys ++ key ∷ []) (values ++ value ∷ []))) ≡ cond (eq key q) (Some value) (cond b (Some v) (lookup (eq q) (zip keys values)))
      by true e later = sym (ap (λ b. cond b (Some value) (Some v)) (other same k key q (All-head (λ k. eq k key ≡ false) k keys new) e))
      by false e later = later

  pub inserted : (key : K) (value : V) (keys : List K) (values : List V) → length keys ≡ length values → index_in eq keys key ≡ None → Updates eq (zip keys values) (zip (keys ++ key ∷ []) (values ++ value ∷ [])) key (Some value)
  inserted key value keys values long none = last key value keys values long (λ k d l. none_from_position (λ k. eq k key) keys none k d l)

  -- another value comes to the key at an index
  pub replaced : (keys : List K) (values : List V) (i : ℕ) (d : K) (value : V) → IsDistinct eq keys → i < length keys → i < length values → Updates eq (zip keys values) (zip keys (set values i value)) (get_or keys i d) (Some value)
  replaced [] values i d value once l m q = absurd (omega (arith, l))
  replaced (k ∷ keys) [] i d value once l m q = absurd (omega (arith, m))
  replaced (k ∷ keys) (v ∷ values) zero d value once l m q = by (eq q k) refl
    where
      by : (b : Bool) → eq q k ≡ b → cond b (Some value) (lookup (eq q) (zip keys values)) ≡ cond (eq k q) (Some value) (cond b (Some v) (lookup (eq q) (zip keys values)))
      by true e = sym (ap (λ b. cond b (Some value) (Some v)) (turned same q k true e))
      by false e = sym (ap (λ b. cond b (Some value) (lookup (eq q) (zip keys values))) (turned same q k false e))
  replaced (k ∷ keys) (v ∷ values) (suc i) d value once l m q =
      by (eq q k) refl (apart_from_distinct eq (k ∷ keys) 0 (suc i) d once (omega arith) l) (replaced keys values i d value (IsDistinct-tail eq k keys once) (omega (arith, l)) (omega (arith, m)) q)
    where
      by : (b : Bool) → eq q k ≡ b → eq k (get_or keys i d) ≡ false → lookup (eq q) (zip keys (set values i value)) ≡ cond (eq (get_or keys i d) q) (Some value) (lookup (eq q) (zip keys values)) →
          cond b (Some v) (lookup (eq q) (zip keys (set values i value))) ≡ cond (eq (get_or keys i d) q) (Some value) (cond b (Some v) (lookup (eq q) (zip keys values)))
      by true e apart later = sym (ap (λ b. cond b (Some value) (Some v)) (other same k (get_or keys i d) q apart e))
      by false e apart later = later

  -- the key at an index goes with its value
  pub removed : (keys : List K) (values : List V) (i : ℕ) (d : K) → IsDistinct eq keys → i < length keys → i < length values → Updates eq (zip keys values) (zip (remove keys i) (remove values i)) (get_or keys i d) None
  removed [] values i d once l m q = absurd (omega (arith, l))
  removed (k ∷ keys) [] i d once l m q = absurd (omega (arith, m))
  removed (k ∷ keys) (v ∷ values) zero d once l m q = by (eq q k) refl
    where
      by : (b : Bool) → eq q k ≡ b → lookup (eq q) (zip keys values) ≡ cond (eq k q) None (cond b (Some v) (lookup (eq q) (zip keys values)))
      by true e =
          none_there q keys values (λ n d' l'. same.congr q k (get_or keys n d') e ∙ apart_from_distinct eq (k ∷ keys) 0 (suc n) d' once (omega arith) (omega (arith, l')))
          ∙ sym (ap (λ b. cond b None (Some v)) (turned same q k true e))
      by false e = sym (ap (λ b. cond b None (lookup (eq q) (zip keys values))) (turned same q k false e))
  removed (k ∷ keys) (v ∷ values) (suc i) d once l m q =
      by (eq q k) refl (apart_from_distinct eq (k ∷ keys) 0 (suc i) d once (omega arith) l) (removed keys values i d (IsDistinct-tail eq k keys once) (omega (arith, l)) (omega (arith, m)) q)
    where
      by : (b : Bool) → eq q k ≡ b → eq k (get_or keys i d) ≡ false → lookup (eq q) (zip (remove keys i) (remove values i)) ≡ cond (eq (get_or keys i d) q) None (lookup (eq q) (zip keys values)) →
          cond b (Some v) (lookup (eq q) (zip (remove keys i) (remove values i))) ≡ cond (eq (get_or keys i d) q) None (cond b (Some v) (lookup (eq q) (zip keys values)))
      by true e apart later = sym (ap (λ b. cond b None (Some v)) (other same k (get_or keys i d) q apart e))
      by false e apart later = later
