-- What a look-up finds in rows of which some go, change or come.
use Rattle.std.proofs.Common.{◌≡◌, inl, inr, ℕ, pos, Bool, true, false, not, cond, List, [], ◌∷◌, ◌++◌, map, filter, find, Option, Some, None, option_map, refl, sym, ap, ◌∙◌, Ordering, Less, Equal, Greater, eqb}
use Rattle.std.specs.List.{list_all}
use Rattle.std.specs.Ordering.{int_eq, int_cmp, is_eq, match_ordering}
use Rattle.std.proofs.lemmas.Bool.{cases_Bool, and_parts}
use Rattle.std.proofs.lemmas.Bool.Decides.{same_from_decides, Decides-int_eq, Decides-eqb}
use Rattle.sqlite_value.specs.declared.value.Value.TheVariants.{Int}
use Rattle.sqlite_value.specs.Order.{Row, value_cmp}
use Rattle.sqlite_value.proofs.OrderLemmas.{value_cmp-Int}
use Rattle.sqlite_trees.specs.Tree.{rowid, put_row}
use Rattle.sqlite_trees.specs.View.{is_int}
use Rattle.sqlite_rules.specs.Edit.{id_in, have_rowids}
use Rattle.sqlite_rules.specs.Lists.{Has}
use Rattle.sqlite_rules.proofs.TableLemmas.{int_is}
use Rattle.jm_tables.specs.Rows.{is_at}

-- rows go that a test finds, which answers alike at all that the look-up may find
pub find_left : {X : Type 0} (p q : X → Bool) (b : Bool) → ((x : X) → p x ≡ true → q x ≡ b) → (xs : List X) → find p (filter (λ x. not (q x)) xs) ≡ cond b None (find p xs)
find_left {X} p q b same [] = elim b as (λ c. ◌≡◌ {A = Option X} None (cond c None None)) [ true ↦ refl | false ↦ refl ]
find_left p q b same (x ∷ xs) = elim (cases_Bool (p x)) [
  | inl finds ↦
      let is = same x finds in
      elim b as (λ c. q x ≡ c → find p (filter (λ y. not (q y)) xs) ≡ cond c None (find p xs) → find p (cond (not (q x)) (x ∷ filter (λ y. not (q y)) xs) (filter (λ y. not (q y)) xs)) ≡ cond c None (cond (p x) (Some x) (find p xs))) [
        | true ↦ λ e h. rw e h
        | false ↦ λ e h. rw (e, finds) refl
      ] is (find_left p q b same xs)
  | inr misses ↦
      elim (q x) as (λ c. find p (cond (not c) (x ∷ filter (λ y. not (q y)) xs) (filter (λ y. not (q y)) xs)) ≡ cond b None (cond (p x) (Some x) (find p xs))) [
        | true ↦ rw misses (find_left p q b same xs)
        | false ↦ rw misses (find_left p q b same xs)
      ]
]

-- rows change in what the look-up does not see
pub find_changed : {X : Type 0} (p : X → Bool) (g : X → X) → ((x : X) → p (g x) ≡ p x) → (xs : List X) → find p (map g xs) ≡ option_map g (find p xs)
find_changed p g same [] = refl
find_changed p g same (x ∷ xs) =
    ap (λ b. cond b (Some (g x)) (find p (map g xs))) (same x)
    ∙ elim (p x) as (λ b. cond b (Some (g x)) (find p (map g xs)) ≡ option_map g (cond b (Some x) (find p xs))) [ true ↦ refl | false ↦ find_changed p g same xs ]

-- a row comes behind all others that the look-up does not find
pub find_behind : {X : Type 0} (p : X → Bool) (x : X) → p x ≡ false → (xs : List X) → find p (xs ++ x ∷ []) ≡ find p xs
find_behind p x misses [] = rw misses refl
find_behind p x misses (y ∷ xs) = ap (λ r. cond (p y) (Some y) r) (find_behind p x misses xs)

-- or one that it finds, and no other
pub find_new : {X : Type 0} (p : X → Bool) (x : X) → p x ≡ true → (xs : List X) → ((y : X) → Has xs y → p y ≡ false) → find p (xs ++ x ∷ []) ≡ Some x
find_new p x finds [] none = rw finds refl
find_new p x finds (y ∷ xs) none = rw (none y (inl refl)) (find_new p x finds xs (λ z h. none z (inr h)))

-- two places are the same as numbers of rows
pub same_place : (a b : ℕ) → int_eq (pos a) (pos b) ≡ eqb a b
same_place a b = same_from_decides (int_eq (pos a) (pos b)) (eqb a b) (let d = Decides-int_eq (pos a) (pos b) in ((λ h. let e : pos a ≡ pos b = d.0 h in cc), λ e. d.1 (ap pos e))) (Decides-eqb a b)

pub same_place_back : (a b : ℕ) → int_eq (pos a) (pos b) ≡ eqb b a
same_place_back a b = same_from_decides (int_eq (pos a) (pos b)) (eqb b a) (let d = Decides-int_eq (pos a) (pos b) in ((λ h. let e : pos a ≡ pos b = d.0 h in cc), λ e. d.1 (ap pos (sym e)))) (Decides-eqb b a)

-- a row at one place is at the other where they are the same
pub at_other : (p place : ℕ) (r : Row) → is_at p r ≡ true → is_at place r ≡ eqb place p
at_other p place r h = ap (λ n. int_eq n (pos place)) ((Decides-int_eq (id_in (rowid r)) (pos p)).0 h) ∙ same_place_back p place

pub is_at_new : (p place : ℕ) (new : Row) → rowid new ≡ Int (pos place) → is_at p new ≡ eqb place p
is_at_new p place new is = ap (λ v. int_eq (id_in v) (pos p)) is ∙ same_place place p

-- of rows that are found by their rowid
pub find_put : (p place : ℕ) (new : Row) → rowid new ≡ Int (pos place) → (rows : List Row) → have_rowids rows ≡ true → find (is_at p) (put_row new rows) ≡ cond (eqb place p) (Some new) (find (is_at p) rows)
find_put p place new is [] keyed = ap (λ b. cond b (Some new) None) (is_at_new p place new is)
find_put p place new is (r ∷ rows) keyed =
    let parts = and_parts (is_int (rowid r)) (list_all (λ x. is_int (rowid x)) rows) keyed in
    let same : value_cmp (rowid r) (rowid new) ≡ int_cmp (id_in (rowid r)) (pos place) =
    ap (λ v. value_cmp v (rowid new)) (int_is (rowid r) parts.0) ∙ ap (value_cmp (Int (id_in (rowid r)))) is ∙ value_cmp-Int (id_in (rowid r)) (pos place) in
    ap (λ o. find (is_at p) (match_ordering o (r ∷ put_row new rows) (new ∷ rows) (new ∷ r ∷ rows))) same
    ∙ by_order (int_cmp (id_in (rowid r)) (pos place)) refl (find_put p place new is rows parts.1)
  where
    other : int_eq (id_in (rowid r)) (pos place) ≡ false → eqb place p ≡ true → is_at p r ≡ false
    other e f = ap (λ n. int_eq (id_in (rowid r)) (pos n)) (sym ((Decides-eqb place p).0 f)) ∙ e

    by_order : (o : Ordering) → int_cmp (id_in (rowid r)) (pos place) ≡ o → find (is_at p) (put_row new rows) ≡ cond (eqb place p) (Some new) (find (is_at p) rows)
        → find (is_at p) (match_ordering o (r ∷ put_row new rows) (new ∷ rows) (new ∷ r ∷ rows)) ≡ cond (eqb place p) (Some new) (cond (is_at p r) (Some r) (find (is_at p) rows))
    by_order Less o later = elim (cases_Bool (eqb place p)) [
      | inl there ↦ rw (other (ap is_eq o) there, there) (rw there at later)
      | inr not_there ↦ rw not_there (ap (λ f. cond (is_at p r) (Some r) f) (rw not_there at later))
    ]
    by_order Equal o later =
        let e : id_in (rowid r) ≡ pos place = (Decides-int_eq (id_in (rowid r)) (pos place)).0 (ap is_eq o) in
        ap (λ b. cond b (Some new) (find (is_at p) rows)) (is_at_new p place new is)
        ∙ elim (cases_Bool (eqb place p)) [
          | inl there ↦ rw there refl
          | inr not_there ↦ rw (not_there, ap (λ n. int_eq n (pos p)) e ∙ same_place place p ∙ not_there) refl
        ]
    by_order Greater o later = ap (λ b. cond b (Some new) (cond (is_at p r) (Some r) (find (is_at p) rows))) (is_at_new p place new is)
