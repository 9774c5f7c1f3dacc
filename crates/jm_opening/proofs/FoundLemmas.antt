-- How a database is found, whose last opening is read.
use Rattle.std.proofs.Common.{◌≡◌, ◌<◌, inl, inr, ℕ, ◌+◌, pos, arith, List, [], ◌∷◌, map, Some, Result, Ok, Err, IfOk, refl, sym, ap, subst, ◌∙◌}
use Rattle.std.specs.List.Sorted.{IsPermutation}
use Rattle.std.proofs.lemmas.List.Sorted.{length_permutation}
use Rattle.sqlite_value.specs.declared.value.Value.TheVariants.{Int}
use Rattle.sqlite_value.specs.Order.{Row, column}
use Rattle.sqlite.specs.Schema.{Schema}
use Rattle.sqlite.specs.Effect.{Database}
use Rattle.sqlite.proofs.Callers.{one_permutation}
use Rattle.jm_tables.specs.Schema.{meta_tree}
use Rattle.jm_opening.specs.declared.found.Found.{Found}
use Rattle.jm_opening.specs.declared.found.Found.TheVariants.{Blank, Bare, Indexed, Current}
use Rattle.jm_opening.specs.declared.judged.LastOpening.{LastOpening}
use Rattle.jm_opening.specs.declared.judged.OpenFault.{OpenFault}
use Rattle.jm_opening.specs.Judged.{HasKey, IsLast, version_number}
use Rattle.jm_tables.specs.Valid.{IsOpening, greatest_opening}
use Rattle.jm_opening.specs.Meta.{meta_row, meta_shown}
use Rattle.jm_opening.specs.Opened.{IsFound, IsOfStore, IsOpened, SaysLast, opening_of, schema_of, version_of}

one_row : (all : List Row) (row : Row) → IsPermutation (map meta_shown all) (row ∷ []) → (r : Row) × (all ≡ r ∷ []) × (row ≡ meta_shown r)
one_row [] row h = absurd (omega (arith, length_permutation _ _ h))
one_row (r ∷ []) row h = (r, refl, let one = one_permutation (meta_shown r) (row ∷ []) h in cc)
one_row (r ∷ s ∷ more) row h = absurd (omega (arith, length_permutation _ _ h))

says : (all : List Row) (row : Row) (last : LastOpening) → IsPermutation (map meta_shown all) (row ∷ []) → IsLast row last → HasKey row → SaysLast (Some (version_number last.is_current)) (last.opening + 1) all
says all row last h is key =
    let it = one_row all row h in
    let id = ap (λ r. column r 0) (sym it.2) ∙ key in
    let version = ap (λ r. column r 1) (sym it.2) ∙ is.version_is in
    let opening = ap (λ r. column r 2) (sym it.2) ∙ is.opening_is in
    (last.opening, refl, (it.0, it.1, ap (λ v. v ∷ column it.0 2 ∷ column it.0 3 ∷ []) id ∙ ap (λ v. Int (pos 1) ∷ v ∷ column it.0 3 ∷ []) version ∙ ap (λ v. Int (pos 1) ∷ Int (pos (version_number last.is_current)) ∷ v ∷ []) opening))

of_store : (f : Found) (s : Schema) (version : ℕ) → s ≡ schema_of f → version_of f ≡ Some version → IsOfStore s
of_store Blank s version has is = absurd (cc)
of_store (Bare opening) s version has is = inr (inr has)
of_store (Indexed opening) s version has is = inr (inl has)
of_store (Current opening) s version has is = inl has

pub found_so : (r : Result Found OpenFault) (old db : Database) (last : LastOpening) (rows : List Row) (row : Row) → db ≡ old → IfOk r (λ f. db.schema ≡ schema_of f) → IfOk r (λ f. version_of f ≡ Some (version_number last.is_current))
    → IfOk r (λ f. opening_of f ≡ last.opening + 1) → (IsOfStore old.schema → IsPermutation (map meta_shown (old.trees meta_tree)) rows) → rows ≡ row ∷ [] → IsLast row last → HasKey row → IfOk r (λ f. IsFound f db)
found_so (Err e) old db last rows row same a b c shown one is key = tt
found_so (Ok f) old db last rows row same a b c shown one is key =
    let ours = of_store f old.schema (version_number last.is_current) (ap (λ (d : Database). d.schema) (sym same) ∙ a) b in
    let said = says (old.trees meta_tree) row last (subst (IsPermutation (map meta_shown (old.trees meta_tree))) one (shown ours)) is key in
    let there = subst (λ (d : Database). SaysLast (Some (version_number last.is_current)) (last.opening + 1) (d.trees meta_tree)) (sym same) said in
    record {
      schema_is = a;
      says = subst (λ v. SaysLast v (opening_of f) (db.trees meta_tree)) (sym b) (subst (λ n. SaysLast (Some (version_number last.is_current)) n (db.trees meta_tree)) (sym c) there);
    }

-- the number of this opening is that of one
pub first_number : IsOpening 1
first_number = record { positive = omega arith; within = omega arith }

pub next_number : (r : Result Found OpenFault) (last : ℕ) → last < greatest_opening → IfOk r (λ f. opening_of f ≡ last + 1) → IfOk r (λ f. IsOpening (opening_of f))
next_number (Err e) last low is = tt
next_number (Ok f) last low is = record { positive = omega (arith, is); within = omega (arith, low, is) }

-- the next opening finds what was opened, with one more
pub opened_is_found : (found : Found) (old new : Database) → IsOpened found old new → IsFound (Current (opening_of found + 1)) new
opened_is_found found old new opened = record { schema_is = opened.schema_is; says = (opening_of found, refl, (meta_row 2 (opening_of found), opened.meta, refl)) }
