-- The order of slots once a key comes, goes, or others move up.
use Rattle.std.proofs.Common.{◌≡◌, ◌≢◌, ◌<◌, ◌≤◌, inl, inr, ℕ, Bool, true, false, List, [], ◌∷◌, ◌++◌, length, get_or, map, set, Option, Some, None, arith, sym, ◌∙◌, ap, subst}
use Rattle.std.specs.List.{All, AllPairs, Contains, insert}
use Rattle.std.specs.Cmp.{IsTotalOrder}
use Rattle.std.specs.Ordering.{eq_by_cmp, is_eq, is_lt}
use Rattle.std.specs.declared.cmp.Ordering.{Ordering}
use Rattle.std.specs.declared.cmp.Ordering.TheVariants.{Equal}
use Rattle.std.proofs.lemmas.Cmp.{tied_back}
use Rattle.std.proofs.lemmas.List.{get_or-map, get_or_default, length-map, length_push}
use Rattle.jm_indexed.specs.Order.{has_value, IsBefore, IsNowhere, IsOrder, is_below}
use Rattle.jm_indexed.proofs.Lists.{Contains-insert, Contains-inserted, Contains-put, Contains-set, is_equal, sides}
use Rattle.jm_indexed.proofs.Orders.{IsRising-insert, IsRising-put, not_tied, value_kept, value_push, value_within, value_written}

-- ---- no keys

pub IsOrder-none : {K V : Type 0} (cmp : K → K → Ordering) (slots : List (Option V)) → slots ≡ [] → IsOrder cmp [] slots []
IsOrder-none cmp slots none = record {
  rises = record { within = λ k d l. absurd (omega (arith, l)); rising = λ i j d l m. absurd (omega (arith, m)) };
  whole = λ i h. absurd (let l = value_within slots i h in omega (arith, l, ap length none));
}

module _ {K V : Type 0} {cmp : K → K → Ordering} (o : IsTotalOrder cmp) (keys : List K) (slots : List (Option V)) (order : List ℕ) (it : IsOrder cmp keys slots order) where
  -- of two slots that have values and keys that are tied there is one
  pub one_slot : (i j : ℕ) (d : K) → has_value slots i ≡ true → has_value slots j ≡ true → cmp (get_or keys i d) (get_or keys j d) ≡ Equal → i ≡ j
  one_slot i j d l m tied =
      let a = it.whole i l in
      let b = it.whole j m in
      let a_is : get_or order a.0 0 ≡ i = get_or_default order a.0 0 i a.1 ∙ a.2 in
      let b_is : get_or order b.0 0 ≡ j = get_or_default order b.0 0 j b.1 ∙ b.2 in
      elim (sides a.0 b.0) [
        | inl below ↦ absurd (not_tied o (get_or keys i d) (get_or keys j d) ((λ t. is_lt (cmp (get_or keys (sym a_is t) d) (get_or keys (sym b_is t) d))) ∙ it.rises.rising a.0 b.0 0 below b.1 d) tied)
        | inr (inl same) ↦ sym a_is ∙ ap (λ n. get_or order n 0) (sym same) ∙ b_is
        | inr (inr above) ↦ absurd (not_tied o (get_or keys j d) (get_or keys i d) ((λ t. is_lt (cmp (get_or keys (sym b_is t) d) (get_or keys (sym a_is t) d))) ∙ it.rises.rising b.0 a.0 0 above a.1 d) (tied_back o (get_or keys i d) (get_or keys j d) tied))
      ]

  -- ---- one more key

  module _ (even : length slots ≡ length keys) (key : K) (value : V) (at : ℕ) (before : (k : ℕ) → k < at → is_below cmp keys (get_or order k 0) key ≡ true) (behind : (k : ℕ) → at ≤ k → k < length order → is_below cmp keys (get_or order k 0) key ≡ false)
      {eq : K → K → Bool} (ties : (x y : K) → eq x y ≡ eq_by_cmp cmp x y) (absent : IsNowhere eq keys slots key) where
    -- whose slot stands where it belongs
    pub IsOrder-insert : at ≤ length order → ((l : at < length order) → eq (get_or keys (get_or order at 0) key) key ≡ false) → IsOrder cmp (keys ++ key ∷ []) (slots ++ Some value ∷ []) (insert order at (length keys))
    IsOrder-insert within apart = record {
      rises = IsRising-insert o keys order it.rises key at before behind within
          (λ l tied. let hit : eq (get_or keys (get_or order at 0) key) key ≡ true = ties (get_or keys (get_or order at 0) key) key ∙ ap is_eq tied in let miss = apart l in cc);
      whole = λ i h. elim (sides i (length keys)) [
        | inl old ↦ Contains-insert order at (length keys) i within (it.whole i (value_push slots value i (omega (arith, old, even)) h))
        | inr (inl same) ↦ subst (Contains (insert order at (length keys))) same (Contains-inserted order at (length keys) within)
        | inr (inr past) ↦ absurd (let l = value_within (slots ++ Some value ∷ []) i h in omega (arith, l, past, even, length_push slots (Some value)))
      ];
    }

    -- in the place of the slot of an equal one that went
    pub IsOrder-put : at < length order → eq (get_or keys (get_or order at 0) key) key ≡ true → IsOrder cmp (keys ++ key ∷ []) (slots ++ Some value ∷ []) (set order at (length keys))
    IsOrder-put inside equal = record {
      rises = IsRising-put o keys order it.rises key at before behind (omega (arith, inside)) inside (is_equal _ (sym (ties (get_or keys (get_or order at 0) key) key) ∙ equal));
      whole = λ i h. elim (sides i (length keys)) [
        | inl old ↦ (
            let has = value_push slots value i (omega (arith, old, even)) h in
            let k = it.whole i has in
            let other : k.0 ≢ at = λ same.
            let is : get_or order at 0 ≡ i = ap (λ n. get_or order n 0) (sym same) ∙ get_or_default order k.0 0 i k.1 ∙ k.2 in
            absent i (record { within = old; value = has; equal = ap (λ n. eq (get_or keys n key) key) (sym is) ∙ equal }) in
            Contains-set order at (length keys) i k.0 k.1 other k.2)
        | inr (inl same) ↦ subst (Contains (set order at (length keys))) same (Contains-put order at (length keys) inside)
        | inr (inr past) ↦ absurd (let l = value_within (slots ++ Some value ∷ []) i h in omega (arith, l, past, even, length_push slots (Some value)))
      ];
    }

  -- ---- a value goes, or another comes in its place

  pub IsOrder-take : (slot : ℕ) → IsOrder cmp keys (set slots slot None) order
  IsOrder-take slot = record { rises = it.rises; whole = λ i h. it.whole i (value_kept slots slot i h) }

  pub IsOrder-write : (slot : ℕ) (value : V) → has_value slots slot ≡ true → IsOrder cmp keys (set slots slot (Some value)) order
  IsOrder-write slot value there = record { rises = it.rises; whole = λ i h. it.whole i (value_written slots slot value i there h) }

  -- ---- others move up

  -- some of the slots, in their order, each moved to where its key stands now
  module _ {W : Type 0} (fewer : List K) (slots' : List (Option W)) (left : List ℕ) (P : ℕ → Type 0) (f : ℕ → ℕ) (some : All P left) (up : AllPairs (IsBefore cmp keys) left)
      (inside : (i : ℕ) → P i → f i < length fewer) (same : (i : ℕ) (d : K) → P i → get_or fewer (f i) d ≡ get_or keys i d)
      (each : (i : ℕ) → has_value slots' i ≡ true → (j : ℕ) × Contains left j × (f j ≡ i)) where
    pub IsOrder-moved : IsOrder cmp fewer slots' (map f left)
    IsOrder-moved = record {
      rises = record {
        within = λ k d l.
            let l' : k < length left = omega (arith, l, length-map left f) in
            subst (λ n. n < length fewer) (sym (get_or-map f left k d d l')) (inside (get_or left k d) (some k d l'));
        rising = λ i j d l m e.
            let m' : j < length left = omega (arith, m, length-map left f) in
            let l' : i < length left = omega (arith, l, m') in
            let a : get_or fewer (get_or (map f left) i d) e ≡ get_or keys (get_or left i d) e = ap (λ n. get_or fewer n e) (get_or-map f left i d d l') ∙ same (get_or left i d) e (some i d l') in
            let b : get_or fewer (get_or (map f left) j d) e ≡ get_or keys (get_or left j d) e = ap (λ n. get_or fewer n e) (get_or-map f left j d d m') ∙ same (get_or left j d) e (some j d m') in
            (λ t. is_lt (cmp (a t) (b t))) ∙ up i j d l m' e;
      };
      whole = λ i h.
          let found = each i h in
          let k = found.1 in
          (k.0, omega (arith, k.1, length-map left f), get_or-map f left k.0 found.0 i k.1 ∙ ap f k.2 ∙ found.2);
    }
