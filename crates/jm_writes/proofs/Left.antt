-- What a DELETE by a test leaves of a table.
use Rattle.std.proofs.Common.{◌≡◌, inl, inr, ℤ, Bool, true, false, not, ◌&&◌, ◌||◌, cond, List, [], ◌∷◌, map, filter, refl, sym, ap, ap₂, subst, ◌∙◌, Ordering, Less, Equal, Greater}
use Rattle.std.specs.List.{AllByRecursion, list_any}
use Rattle.std.specs.Ordering.{is_eq}
use Rattle.std.specs.List.Sorted.{IsPermutation}
use Rattle.std.proofs.lemmas.Bool.{cases_Bool, false_from_ne_true, both_ways, not-true}
use Rattle.std.proofs.lemmas.Cmp.{tied_itself}
use Rattle.std.proofs.lemmas.List.Sorted.{Contains-permutation}
use Rattle.sqlite_value.specs.declared.value.Value.TheVariants.{Int}
use Rattle.sqlite_value.specs.Order.{Row, value_cmp}
use Rattle.sqlite_value.proofs.OrderLemmas.{value_cmp_total}
use Rattle.sqlite_trees.specs.Tree.{rowid, has_rowid, without_rowid, IsTable, put_row}
use Rattle.sqlite_trees.proofs.TreeLemmas.{IsTable-put_row}
use Rattle.std.specs.Ordering.{ordering_reverse}
use Rattle.sqlite_trees.specs.View.{is_int}
use Rattle.sqlite_trees.proofs.ListLemmas.{filter_same, all-permutation, ascending-filter, ascending-map, ascending_weaker}
use Rattle.sqlite_rules.specs.Lists.{Has}
use Rattle.sqlite_rules.specs.Calls.{ids_of}
use Rattle.sqlite_rules.specs.Edit.{id_in, without_all, put_all, are_fresh, have_rowids}
use Rattle.sqlite_rules.proofs.ListLemmas.{all_has, all_from, test_has, some_has, some_from, has_filtered, has_kept, has_contained, contains_had}
use Rattle.sqlite_rules.proofs.ProbeLemmas.{has_mapped, mapped_has}
use Rattle.sqlite_rules.proofs.TableLemmas.{int_is, put_all_has, put_all_adds, put_all_keeps}
use Rattle.sqlite_rules.proofs.PlaceLemmas.{tied_same}

pub has_along : {X : Type 0} (xs ys : List X) (x : X) → IsPermutation xs ys → Has xs x → Has ys x
has_along xs ys x same h = has_contained ys x (Contains-permutation xs ys x same (contains_had xs x h))

pub has_back : {X : Type 0} (xs ys : List X) (y : X) → IsPermutation xs ys → Has ys y → Has xs y
has_back xs ys y same h = all_has (Has xs) ys y (all-permutation (Has xs) xs ys same (all_from (Has xs) xs (λ x k. k))) h

filter_twice : {X : Type 0} (p q : X → Bool) (xs : List X) → filter p (filter q xs) ≡ filter (λ x. q x && p x) xs
filter_twice p q [] = refl
filter_twice p q (x ∷ xs) =
    elim (q x) as (λ b. filter p (cond b (x ∷ filter q xs) (filter q xs)) ≡ cond (b && p x) (x ∷ filter (λ y. q y && p y) xs) (filter (λ y. q y && p y) xs))
    [ true ↦ ap (λ l. cond (p x) (x ∷ l) l) (filter_twice p q xs) | false ↦ filter_twice p q xs ]

both_not : (a b : Bool) → (not a && not b) ≡ not (a || b)
both_not true b = refl
both_not false b = refl

without_is : (ids : List ℤ) (rows : List Row) → without_all rows ids ≡ filter (λ r. not (list_any (λ id. has_rowid id r) ids)) rows
without_is [] rows = sym (Rattle.sqlite_trees.proofs.ListLemmas.filter_all (λ r. true) rows (all_from (λ r. true ≡ true) rows (λ r h. refl)))
without_is (id ∷ ids) rows =
    without_is ids (without_rowid id rows) ∙ filter_twice (λ r. not (list_any (λ i. has_rowid i r) ids)) (λ r. not (has_rowid id r)) rows
    ∙ filter_same (λ r. not (has_rowid id r) && not (list_any (λ i. has_rowid i r) ids)) (λ r. not (list_any (λ i. has_rowid i r) (id ∷ ids))) rows
    (all_from (λ r. (not (has_rowid id r) && not (list_any (λ i. has_rowid i r) ids)) ≡ not (list_any (λ i. has_rowid i r) (id ∷ ids))) rows (λ r h. both_not (has_rowid id r) (list_any (λ i. has_rowid i r) ids)))

is_tied : (o : Ordering) → is_eq o ≡ true → o ≡ Equal
is_tied Less h = absurd (cc)
is_tied Equal h = refl
is_tied Greater h = absurd (cc)

-- the rows that are found are taken out, and no other
pub deleted : (rows found : List Row) (hit : Row → Bool) (f : Row → Row) → IsTable rows → have_rowids rows ≡ true → IsPermutation (map (λ r. rowid r ∷ f r) (filter hit rows)) found
    → without_all rows (ids_of found) ≡ filter (λ r. not (hit r)) rows
deleted rows found hit f up keyed same =
    without_is (ids_of found) rows ∙ filter_same (λ r. not (list_any (λ id. has_rowid id r) (ids_of found))) (λ r. not (hit r)) rows
    (all_from (λ r. not (list_any (λ id. has_rowid id r) (ids_of found)) ≡ not (hit r)) rows (λ r h. ap not (elim (cases_Bool (hit r)) [
      | inl hits ↦ taken r h hits ∙ sym hits
      | inr misses ↦ spared r h misses ∙ sym misses
    ])))
  where
    id_is : (r : Row) → Has rows r → rowid r ≡ Int (id_in (rowid r))
    id_is r h = int_is (rowid r) (test_has (λ x. is_int (rowid x)) rows r keyed h)

    itself : (r : Row) → Has rows r → has_rowid (id_in (rowid r)) r ≡ true
    itself r h = ap (λ v. is_eq (value_cmp (rowid r) v)) (sym (id_is r h)) ∙ ap is_eq (tied_itself value_cmp_total (rowid r))

    taken : (r : Row) → Has rows r → hit r ≡ true → list_any (λ id. has_rowid id r) (ids_of found) ≡ true
    taken r h hits =
        let shown : Row = rowid r ∷ f r in
        let there = has_along (map (λ x. rowid x ∷ f x) (filter hit rows)) found shown same (mapped_has (λ x. rowid x ∷ f x) (filter hit rows) r (has_kept hit rows r h hits)) in
        some_from (λ id. has_rowid id r) (ids_of found) (id_in (rowid r)) (mapped_has (λ x. id_in (rowid x)) found shown there) (itself r h)

    spared : (r : Row) → Has rows r → hit r ≡ false → list_any (λ id. has_rowid id r) (ids_of found) ≡ false
    spared r h misses = false_from_ne_true _ (λ some.
        let id = some_has (λ i. has_rowid i r) (ids_of found) some in
        let x = has_mapped (λ y. id_in (rowid y)) found id.0 id.1 in
        let was = has_mapped (λ y. rowid y ∷ f y) (filter hit rows) x.0 (has_back _ found x.0 same x.1) in
        let old = has_filtered hit rows was.0 was.1 in
        let key : id.0 ≡ id_in (rowid was.0) = x.2 ∙ ap (λ y. id_in (rowid y)) was.2 in
        let tie : value_cmp (rowid r) (rowid was.0) ≡ Equal = is_tied _ (ap (λ v. is_eq (value_cmp (rowid r) v)) (id_is was.0 old.0 ∙ ap Int (sym key)) ∙ id.2) in
        let one : r ≡ was.0 = tied_same rows r was.0 up h old.0 tie in
        both_ways (hit r) misses (ap hit one ∙ old.1))

never_both : (a b : Row) → value_cmp (rowid a) (rowid b) ≡ Less → value_cmp (rowid b) (rowid a) ≡ Less → ⊥
never_both a b p q = let e = value_cmp_total.antisymm (rowid a) (rowid b) ∙ ap ordering_reverse q in cc

-- two tables with the same rows are one
same_rows : (xs ys : List Row) → IsTable xs → IsTable ys → ((r : Row) → Has xs r → Has ys r) → ((r : Row) → Has ys r → Has xs r) → xs ≡ ys
same_rows [] [] p q a b = refl
same_rows [] (y ∷ ys) p q a b = absurd (b y (inl refl))
same_rows (x ∷ xs) [] p q a b = absurd (a x (inl refl))
same_rows (x ∷ xs) (y ∷ ys) p q a b =
    let first : x ≡ y = elim (a x (inl refl)) [
      | inl e ↦ e
      | inr later ↦ elim (b y (inl refl)) [ inl e ↦ sym e | inr also ↦ absurd (never_both x y (all_has _ xs y p.0 also) (all_has _ ys x q.0 later)) ]
    ] in
    let past = λ (z : Row) (zs : List Row) (up : AllByRecursion (λ r. value_cmp (rowid z) (rowid r) ≡ Less) zs) (r : Row) (h : Has zs r) (e : r ≡ z).
    let lower = rw e at (all_has _ zs r up h) in never_both z z lower lower in
    ap₂ ◌∷◌ first (same_rows xs ys p.1 q.1
    (λ r h. elim (a r (inr h)) [ inl e ↦ absurd (past x xs p.0 r h (e ∙ sym first)) | inr k ↦ k ])
    (λ r h. elim (b r (inr h)) [ inl e ↦ absurd (past y ys q.0 r h (e ∙ first)) | inr k ↦ k ]))

put_all_table : (news rows : List Row) → IsTable rows → IsTable (put_all rows news)
put_all_table [] rows up = up
put_all_table (n ∷ news) rows up = put_all_table news (put_row n rows) (IsTable-put_row n rows up)

abbrev pub picked : (Row → Bool) → (Row → Row) → Row → Row
picked hit g r = cond (hit r) (g r) r

pub picked_id : (hit : Row → Bool) (g : Row → Row) → ((r : Row) → rowid (g r) ≡ rowid r) → (r : Row) → rowid (picked hit g r) ≡ rowid r
picked_id hit g keeps r = elim (hit r) as (λ b. rowid (cond b (g r) r) ≡ rowid r) [ true ↦ keeps r | false ↦ refl ]

pub picked_table : (hit : Row → Bool) (g : Row → Row) (rows : List Row) → ((r : Row) → rowid (g r) ≡ rowid r) → IsTable rows → IsTable (map (picked hit g) rows)
picked_table hit g rows keeps up =
    ascending-map _ (picked hit g) rows (ascending_weaker _ (λ a b. value_cmp (rowid (picked hit g a)) (rowid (picked hit g b)) ≡ Less)
    (λ a b h. ap₂ value_cmp (picked_id hit g keeps a) (picked_id hit g keeps b) ∙ h) rows up)

-- an UPDATE that keeps the rowids puts each row that it hits in its own place
pub updated : (rows found news : List Row) (hit : Row → Bool) (f g h : Row → Row) → IsTable rows → have_rowids rows ≡ true → IsPermutation (map (λ r. rowid r ∷ f r) (filter hit rows)) found
    → news ≡ map h found → ((r : Row) → Has rows r → h (rowid r ∷ f r) ≡ g r) → ((r : Row) → rowid (g r) ≡ rowid r) → are_fresh (without_all rows (ids_of found)) news ≡ true
    → put_all (without_all rows (ids_of found)) news ≡ map (picked hit g) rows
updated rows found news hit f g h up keyed same news_are shows keeps fresh =
    same_rows (put_all (without_all rows (ids_of found)) news) (map (picked hit g) rows) (put_all_table news (without_all rows (ids_of found)) left_table) (picked_table hit g rows keeps up) into back
  where
    left_is : without_all rows (ids_of found) ≡ filter (λ r. not (hit r)) rows
    left_is = deleted rows found hit f up keyed same

    left_table : IsTable (without_all rows (ids_of found))
    left_table = subst IsTable (sym left_is) (ascending-filter _ (λ r. not (hit r)) rows up)

    into : (x : Row) → Has (put_all (without_all rows (ids_of found)) news) x → Has (map (picked hit g) rows) x
    into x k = elim (put_all_has news (without_all rows (ids_of found)) x k) [
      | inl new ↦
          let s = has_mapped h found x (subst (λ l. Has l x) news_are new) in
          let r = has_mapped (λ y. rowid y ∷ f y) (filter hit rows) s.0 (has_back _ found s.0 same s.1) in
          let old = has_filtered hit rows r.0 r.1 in
          let is : x ≡ picked hit g r.0 = s.2 ∙ ap h r.2 ∙ shows r.0 old.0 ∙ sym (ap (λ b. cond b (g r.0) r.0) old.1) in
          subst (Has (map (picked hit g) rows)) (sym is) (mapped_has (picked hit g) rows r.0 old.0)
      | inr was ↦
          let old = has_filtered (λ r. not (hit r)) rows x (subst (λ l. Has l x) left_is was) in
          let is : x ≡ picked hit g x = sym (ap (λ b. cond b (g x) x) (not-true (hit x) old.1)) in
          subst (Has (map (picked hit g) rows)) (sym is) (mapped_has (picked hit g) rows x old.0)
    ]

    back : (x : Row) → Has (map (picked hit g) rows) x → Has (put_all (without_all rows (ids_of found)) news) x
    back x k =
        let r = has_mapped (picked hit g) rows x k in
        elim (cases_Bool (hit r.0)) [
          | inl hits ↦
              let there = has_along _ found (rowid r.0 ∷ f r.0) same (mapped_has (λ y. rowid y ∷ f y) (filter hit rows) r.0 (has_kept hit rows r.0 r.1 hits)) in
              let is : x ≡ h (rowid r.0 ∷ f r.0) = r.2 ∙ ap (λ b. cond b (g r.0) r.0) hits ∙ sym (shows r.0 r.1) in
              put_all_adds news (without_all rows (ids_of found)) x fresh (subst (λ l. Has l x) (sym news_are) (subst (Has (map h found)) (sym is) (mapped_has h found (rowid r.0 ∷ f r.0) there)))
          | inr misses ↦
              let is : x ≡ r.0 = r.2 ∙ ap (λ b. cond b (g r.0) r.0) misses in
              put_all_keeps news (without_all rows (ids_of found)) x fresh (subst (λ l. Has l x) (sym left_is) (subst (Has (filter (λ y. not (hit y)) rows)) (sym is) (has_kept (λ y. not (hit y)) rows r.0 r.1 (ap not misses))))
        ]
