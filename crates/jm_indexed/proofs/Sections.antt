-- Keys of a section, in the order of their slots and among the entries.
use Rattle.std.proofs.Common.{◌≡◌, ◌+◌, ◌<◌, ◌≤◌, ℕ, inl, inr, Bool, true, false, List, [], ◌∷◌, length, get_or, Option, arith, refl, sym, ◌∙◌, ap, subst}
use Rattle.std.specs.Cmp.{IsTotalOrder}
use Rattle.std.specs.List.{Contains, list_any}
use Rattle.std.specs.Map.{keys_of}
use Rattle.std.specs.Ordering.{is_eq, is_lt, ordering_index, ordering_then}
use Rattle.std.specs.declared.cmp.Ordering.{Ordering}
use Rattle.std.specs.declared.cmp.Ordering.TheVariants.{Less, Equal, Greater}
use Rattle.std.proofs.lemmas.Cmp.{alike_right}
use Rattle.std.proofs.lemmas.List.{get_or_default}
use Rattle.std.proofs.lemmas.List.Folds.{list_any_none}
use Rattle.jm_slots.specs.Items.{items_before}
use Rattle.jm_indexed.specs.Entries.{entries_of}
use Rattle.jm_indexed.specs.Order.{has_value, IsBefore, IsBegun, IsInsideAt, IsOutsideFrom, IsRising}
use Rattle.jm_indexed.specs.Section.{IsMonotone}
use Rattle.jm_indexed.proofs.Lists.{is_equal, is_less, refuted, sides}
use Rattle.jm_indexed.proofs.Slotted.{key_by, key_there, length-keys_of, slot_at}

-- ---- answers of a comparison, by their order

lowest : (r : Ordering) → ordering_index r ≤ 0 → is_lt r ≡ true
lowest Less l = refl
lowest Equal l = absurd (omega (arith, l))
lowest Greater l = absurd (omega (arith, l))

lt_under : (r s : Ordering) → ordering_index r ≤ ordering_index s → is_lt s ≡ true → is_lt r ≡ true
lt_under r s l h = lowest r (omega (arith, l, ap ordering_index (is_less s h)))

-- behind what is neither before nor inside nothing is inside
past : (r s : Ordering) → ordering_index r ≤ ordering_index s → is_lt r ≡ false → is_eq r ≡ false → s ≡ Equal → ⊥
past Less s l h k e = cc
past Equal s l h k e = cc
past Greater s l h k e = omega (arith, l, ap ordering_index e)

-- the answer of a total order never falls as what is compared rises: for sections of keys by the first part of their order
pub monotone_first : {M : Type 0} {cmp : M → M → Ordering} (o : IsTotalOrder cmp) (a b bound : M) (rest : Ordering) → ordering_then (cmp a b) rest ≡ Less → ordering_index (cmp a bound) ≤ ordering_index (cmp b bound)
monotone_first {cmp = cmp} o a b bound rest before = by (cmp a b) refl before
  where
    lower : (r : Ordering) → cmp b bound ≡ r → cmp a b ≡ Less → ordering_index (cmp a bound) ≤ ordering_index r
    lower Less e f = omega (arith, ap ordering_index (o.trans a b bound f e))
    lower Equal e f = omega (arith, ap ordering_index (sym (alike_right o b bound a e) ∙ f))
    lower Greater e f = top (cmp a bound)
      where
        top : (r : Ordering) → ordering_index r ≤ 2
        top Less = omega arith
        top Equal = omega arith
        top Greater = omega arith

    by : (r : Ordering) → cmp a b ≡ r → ordering_then r rest ≡ Less → ordering_index (cmp a bound) ≤ ordering_index (cmp b bound)
    by Less e f = lower (cmp b bound) refl e
    by Equal e f = omega (arith, ap ordering_index (o.congr a b bound e))
    by Greater e f = cc

-- ---- places of the order

-- a key of a list that has one
some : {K : Type 0} (keys : List K) (i : ℕ) → i < length keys → K
some [] i l = absurd (omega (arith, l))
some (k ∷ keys) i l = k

module _ {K : Type 0} {cmp : K → K → Ordering} (place : K → Ordering) (monotone : IsMonotone cmp place) (keys : List K) (order : List ℕ) (it : IsRising cmp keys order) where
  -- of two places the later one has a key that does not stand earlier
  later : (i j : ℕ) (d : K) → i < j → j < length order → ordering_index (place (get_or keys (get_or order i 0) d)) ≤ ordering_index (place (get_or keys (get_or order j 0) d))
  later i j d l m = monotone (get_or keys (get_or order i 0) d) (get_or keys (get_or order j 0) d) (is_less _ (it.rising i j 0 l m d))

  module _ (middle : ℕ) (inside : middle < length order) (x : K) (read : (d : K) → x ≡ get_or keys (get_or order middle 0) d) where
    pub ahead_half : is_lt (place x) ≡ true → (k : ℕ) (d : K) → k < middle + 1 → is_lt (place (get_or keys (get_or order k 0) d)) ≡ true
    ahead_half first k d l = elim (sides k middle) [
      | inl below ↦ lt_under _ _ (later k middle d below inside) (ap (λ y. is_lt (place y)) (sym (read d)) ∙ first)
      | inr (inl same) ↦ subst (λ n. is_lt (place (get_or keys (get_or order n 0) d)) ≡ true) same (ap (λ y. is_lt (place y)) (sym (read d)) ∙ first)
      | inr (inr above) ↦ absurd (omega (arith, l, above))
    ]

    pub begun_half : is_lt (place x) ≡ false → IsBegun place keys order middle
    begun_half begun k d l m = elim (sides k middle) [
      | inl below ↦ absurd (omega (arith, l, below))
      | inr (inl same) ↦ subst (λ n. is_lt (place (get_or keys (get_or order n 0) d)) ≡ false) same (ap (λ y. is_lt (place y)) (sym (read d)) ∙ begun)
      | inr (inr above) ↦ refuted _ (λ hit. let first = lt_under _ _ (later middle k d above m) hit in let same = ap (λ y. is_lt (place y)) (read d) in cc)
    ]

    module _ {V : Type 0} (slots : List (Option V)) where
      -- behind a key that is not in the section no other is, where the section began
      pub outside_from : (first : ℕ) → first ≤ middle → ((k : ℕ) → first ≤ k → k < middle → has_value slots (get_or order k 0) ≡ false) → is_eq (place x) ≡ false → IsBegun place keys order first → IsOutsideFrom place keys slots order first
      outside_from first from passed other begun k l h = elim (sides k middle) [
        | inl below ↦ (let value = h.value in let none = passed k l below in cc)
        | inr (inl same) ↦ (let hit : is_eq (place x) ≡ true = ap (λ y. is_eq (place y)) (read x ∙ ap (λ n. get_or keys (get_or order n 0) x) same) ∙ ap is_eq (h.inside x) in cc)
        | inr (inr above) ↦ past (place x) (place (get_or keys (get_or order k 0) x))
            (let rises = later middle k x above h.within in omega (arith, rises, ap (λ y. ordering_index (place y)) (read x)))
            (ap (λ y. is_lt (place y)) (read x) ∙ begun middle x from inside) other (h.inside x)
      ]

module _ {K V : Type 0} (place : K → Ordering) (keys : List K) (slots : List (Option V)) (order : List ℕ) (cmp : K → K → Ordering) (it : IsRising cmp keys order) where
  -- before the section there is none that is in it
  pub outside_all : (first : ℕ) → ((k : ℕ) (d : K) → k < first → is_lt (place (get_or keys (get_or order k 0) d)) ≡ true) → IsOutsideFrom place keys slots order first → IsOutsideFrom place keys slots order 0
  outside_all first ahead outside k l h = elim (sides k first) [
    | inl below ↦ (
        let d = some keys (get_or order k 0) (it.within k 0 h.within) in
        let before = ahead k d below in
        let hit : is_lt (place (get_or keys (get_or order k 0) d)) ≡ false = ap is_lt (h.inside d) in
        cc)
    | inr (inl same) ↦ outside k (omega (arith, same)) h
    | inr (inr above) ↦ outside k (omega (arith, above)) h
  ]

  -- ---- among the entries

  -- the key at the index of its slot is in the section
  pub found_inside : (at : ℕ) → IsInsideAt place keys slots order at → (d : K) → place (get_or (keys_of (entries_of keys slots)) (items_before slots (get_or order at 0)) d) ≡ Equal
  found_inside at h d = ap place (key_there keys slots (get_or order at 0) d (it.within at 0 h.within) h.value) ∙ h.inside d

  -- no key is, where no slot that has a value has one
  pub none_inside : ((i : ℕ) → has_value slots i ≡ true → Contains order i) → IsOutsideFrom place keys slots order 0 → list_any (λ k. is_eq (place k)) (keys_of (entries_of keys slots)) ≡ false
  none_inside whole outside = list_any_none (λ k. is_eq (place k)) (keys_of (entries_of keys slots)) (λ i d l. refuted _ (λ hit.
      let es = entries_of keys slots in
      let h = slot_at keys slots i (omega (arith, l, length-keys_of es)) in
      let t = h.1 in
      let k = whole h.0 t.value in
      let is : get_or order k.0 0 ≡ h.0 = get_or_default order k.0 0 h.0 k.1 ∙ k.2 in
      outside k.0 (omega arith) (record {
        within = k.1;
        value = ap (has_value slots) is ∙ t.value;
        inside = λ e.
            ap (λ n. place (get_or keys n e)) is ∙ ap place (key_by keys slots h.0 i e t.within t.value t.index_is) ∙ ap place (get_or_default (keys_of es) i e d l) ∙ is_equal _ hit;
      })))
