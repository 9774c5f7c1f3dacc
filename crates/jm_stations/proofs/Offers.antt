-- A row that comes to several lists, one after another.
use Rattle.std.proofs.Common.{◌-◌, ◌≡◌, ℕ, ◌<◌, ◌==◌, List, [], ◌∷◌, ◌++◌, length, get_or, set, take, Bool, true, false, ◌||◌, cond, refl, ap, sym, ◌∙◌, arith, suc, zero, inl, inr}
use Rattle.std.specs.List.{IsDistinct, AllByRecursion}
use Rattle.std.specs.Prelude.{nat_eq}
use Rattle.std.proofs.lemmas.Bool.{eq-eqb, ne_eqb}
use Rattle.std.proofs.lemmas.Bool.Decides.{eqb_tells}
use Rattle.std.proofs.lemmas.List.{length-set, get_or-set_same, get_or-set_other}
use Rattle.std.proofs.lemmas.List.Folds.{list_any-append}
use Rattle.jm_machine.specs.Machine.{one_missed}
use Rattle.jm_lane.specs.declared.row.Row.{Row}
use Rattle.jm_pending.specs.Rows.{Held, is_at_limit}
use Rattle.jm_stations.specs.Backlogs.{is_named}
use Rattle.jm_stations.specs.Kept.{with_row, IsOffered}

pub offered_none : (row : Row) (init : List Held) → IsOffered [] row init init
offered_none row init = record { number = refl; each = λ k d l. refl }

or_false : (b : Bool) → (b || false) ≡ b
or_false true = refl
or_false false = refl

or_true : (b : Bool) → (b || true) ≡ true
or_true true = refl
or_true false = refl

-- one index more is named
pub named_more : (is : List ℕ) (i k : ℕ) → is_named (is ++ i ∷ []) k ≡ (is_named is k || (i == k))
named_more is i k = list_any-append (λ j. j == k) is (i ∷ []) ∙ ap (λ b. is_named is k || b) (or_false (i == k))

-- the lists that are not named so far are as they were
pub offered_other : (is : List ℕ) (row : Row) (init lists : List Held) (i : ℕ) (d : Held) → IsOffered is row init lists → i < length init → is_named is i ≡ false → get_or lists i d ≡ get_or init i d
offered_other is row init lists i d h l new = h.each i d l ∙ ap (λ b. cond b (with_row row (get_or init i d)) (get_or init i d)) new

-- one list more takes the row
pub offered_more : (is : List ℕ) (row : Row) (init lists : List Held) (i : ℕ) (d : Held) → IsOffered is row init lists → i < length init → is_named is i ≡ false → IsOffered (is ++ i ∷ []) row init (set lists i (with_row row (get_or lists i d)))
offered_more is row init lists i d h l new =
    let inside : i < length lists = omega (arith, h.number, l) in
    let y : Held = with_row row (get_or lists i d) in
    record {
      number = length-set lists i y ∙ h.number;
      each = λ k e kl. elim (eqb_tells k i) [
        | inl s ↦
            let named : is_named (is ++ i ∷ []) i ≡ true = named_more is i i ∙ ap (λ b. is_named is i || b) (eq-eqb i i refl) ∙ or_true (is_named is i) in
            let was : get_or lists i d ≡ get_or init i d = offered_other is row init lists i d h l new in
            rw s.1 (get_or-set_same lists i y e inside ∙ ap (with_row row) (was ∙ get_or_any init i d e l) ∙ sym (ap (λ b. cond b (with_row row (get_or init i e)) (get_or init i e)) named))
        | inr n ↦
            let named : is_named (is ++ i ∷ []) k ≡ is_named is k = named_more is i k ∙ ap (λ b. is_named is k || b) (ne_eqb i k (λ q. n.1 (sym q))) ∙ or_false (is_named is k) in
            rw (get_or-set_other lists i k y e n.1, named) (h.each k e kl)
      ];
    }
  where
    get_or_any : (xs : List Held) (j : ℕ) (a b : Held) → j < length xs → get_or xs j a ≡ get_or xs j b
    get_or_any [] j a b q = absurd (omega arith)
    get_or_any (x ∷ xs) zero a b q = refl
    get_or_any (x ∷ xs) (suc j) a b q = get_or_any xs j a b (omega arith)

-- one index alone is named
pub named_one : (i k : ℕ) → is_named (i ∷ []) k ≡ (i == k)
named_one i k = named_more [] i k

-- an index is not among those before it, where all are distinct
none_named : (i : ℕ) (is : List ℕ) (n d : ℕ) → AllByRecursion (λ y. nat_eq i y ≡ false) is → n < length is → (i == get_or is n d) ≡ false
none_named i [] n d h l = absurd (omega arith)
none_named i (x ∷ is) zero d h l = h.0
none_named i (x ∷ is) (suc n) d h l = none_named i is n d h.1 (omega arith)

pub first_named : (is : List ℕ) (n d : ℕ) → IsDistinct nat_eq is → n < length is → is_named (take n is) (get_or is n d) ≡ false
unfolding IsDistinct
first_named [] n d h l = absurd (omega arith)
first_named (i ∷ is) zero d h l = refl
first_named (i ∷ is) (suc n) d h l = rw (none_named i is n d h.0 (omega arith), first_named is n d h.1 (omega arith)) refl

-- what a list says of a row that is added, in one equation
pub added_is : (row : Row) (h h' : Held) → (is_at_limit h.limit (length h.rows) ≡ true → h' ≡ record h { missed = one_missed h.missed }) → (is_at_limit h.limit (length h.rows) ≡ false → h' ≡ record h { rows = h.rows ++ row ∷ []; room = h.room - 1 }) → h' ≡ with_row row h
added_is row h h' missed added = go (is_at_limit h.limit (length h.rows)) missed added
  where
    go : (b : Bool) → (b ≡ true → h' ≡ record h { missed = one_missed h.missed }) → (b ≡ false → h' ≡ record h { rows = h.rows ++ row ∷ []; room = h.room - 1 }) → h' ≡ cond b (record h { missed = one_missed h.missed }) (record h { rows = h.rows ++ row ∷ []; room = h.room - 1 })
    go true missed added = missed refl
    go false missed added = added refl
