-- A row of a table is the one that a look-up finds.
use Rattle.std.proofs.Common.{◌≡◌, ◌∙◌, inl, inr, ℕ, ℤ, pos, Bool, true, false, cond, List, [], ◌∷◌, find, Option, Some, None, option_map, ◌||◌, arith, refl, sym, ap, subst, Less, Equal, Greater, Ordering}
use Rattle.std.specs.List.{list_any}
use Rattle.std.specs.Ordering.{int_cmp, int_eq, is_eq}
use Rattle.std.proofs.lemmas.Bool.{both_ways, cases_Bool}
use Rattle.std.proofs.lemmas.Bool.Decides.{Decides-int_eq}
use Rattle.std.proofs.lemmas.Cmp.{int_ranked, tied_itself}
use Rattle.std.proofs.lemmas.Int.{ints}
use Rattle.sqlite_value.specs.declared.value.Value.{Value}
use Rattle.sqlite_value.specs.declared.value.Value.TheVariants.{Int, Text}
use Rattle.sqlite_value.specs.Order.{Row, bytes, column, value_cmp}
use Rattle.sqlite_value.proofs.OrderLemmas.{value_cmp_total}
use Rattle.sqlite_trees.specs.Tree.{IsTable, rowid}
use Rattle.sqlite.specs.Effect.{Database}
use Rattle.sqlite_rules.specs.Edit.{id_in}
use Rattle.sqlite_rules.specs.Lists.{Has}
use Rattle.sqlite_rules.proofs.ListLemmas.{all_has, has_found}
use Rattle.jm_dest.specs.declared.key.Key.{Key}
use Rattle.jm_dest.specs.declared.key.Key.TheVariants.{Queue, Durable}
use Rattle.jm_machine.proofs.Keys.{key_same}
use Rattle.jm_machine.specs.Under.{is_key}
use Rattle.jm_tables.specs.Keys.{client_in, key_in, key_of, queue_in}
use Rattle.jm_tables.specs.Rows.{is_at, is_under, record_at}
use Rattle.jm_tables.specs.Schema.{station_tree}
use Rattle.jm_tables.specs.Sound.{AreRows, Serves}
use Rattle.jm_queries.proofs.Apart.{columns_cmp, stations_apart}
use Rattle.jm_queries.proofs.Values.{int_order}
use Rattle.jm_writes.specs.Columns.{client_of, name_of}
use Rattle.jm_writes.proofs.Serving.{numbered_row, station_row}

-- where something passes, something is found
pub found_some : {X : Type 0} (p : X → Bool) (xs : List X) (x : X) → Has xs x → p x ≡ true → (y : X) × (find p xs ≡ Some y)
found_some p [] x h passes = absurd h
found_some p (y ∷ xs) x (inl same) passes = (y, ap (λ b. cond b (Some y) (find p xs)) (ap p (sym same) ∙ passes))
found_some p (y ∷ xs) x (inr later) passes = let found = found_some p xs x later passes in elim (cases_Bool (p y)) [
  | inl here ↦ (y, ap (λ b. cond b (Some y) (find p xs)) here)
  | inr not_here ↦ (found.0, ap (λ b. cond b (Some y) (find p xs)) not_here ∙ found.1)
]

-- where none passes a weaker test, none is found
pub found_none : {X : Type 0} (p q : X → Bool) → ((x : X) → q x ≡ false → p x ≡ false) → (xs : List X) → list_any q xs ≡ false → find p xs ≡ None
found_none p q weaker [] h = refl
found_none p q weaker (x ∷ xs) h = go (q x) refl h (found_none p q weaker xs)
  where
    go : (b : Bool) → q x ≡ b → (b || list_any q xs) ≡ false → (list_any q xs ≡ false → find p xs ≡ None) → cond (p x) (Some x) (find p xs) ≡ None
    go true is e later = cc
    go false is e later = ap (λ b. cond b (Some x) (find p xs)) (weaker x is) ∙ later e

-- ---- by rowid

not_below : (v w : Value) → v ≡ w → value_cmp v w ≡ Less → ⊥
not_below v w e less = let no : Equal ≡ Less = sym (tied_itself value_cmp_total v) ∙ ap (value_cmp v) e ∙ less in cc

one_row : (rows : List Row) → IsTable rows → (a b : Row) → Has rows a → Has rows b → rowid a ≡ rowid b → a ≡ b
one_row [] rise a b h k e = absurd h
one_row (x ∷ rows) rise a b (inl p) (inl q) e = p ∙ sym q
one_row (x ∷ rows) rise a b (inl p) (inr k) e = absurd (not_below (rowid x) (rowid b) (ap rowid (sym p) ∙ e) (all_has (λ s. value_cmp (rowid x) (rowid s) ≡ Less) rows b rise.0 k))
one_row (x ∷ rows) rise a b (inr h) (inl q) e = absurd (not_below (rowid x) (rowid a) (ap rowid (sym q) ∙ sym e) (all_has (λ s. value_cmp (rowid x) (rowid s) ≡ Less) rows a rise.0 h))
one_row (x ∷ rows) rise a b (inr h) (inr k) e = one_row rows rise.1 a b h k e

module _ (rows : List Row) (are : AreRows rows) where
  same_row : (a b : Row) → Has rows a → Has rows b → id_in (rowid a) ≡ id_in (rowid b) → a ≡ b
  same_row a b h k e = one_row rows are.rise a b h k (numbered_row rows are a h ∙ ap (λ n. Int n) e ∙ sym (numbered_row rows are b k))

  -- a row is found at its place
  pub found_at : (r : Row) (place : ℕ) → Has rows r → id_in (rowid r) ≡ pos place → find (is_at place) rows ≡ Some r
  found_at r place h e =
      let found = found_some (is_at place) rows r h ((Decides-int_eq (id_in (rowid r)) (pos place)).1 e) in
      let there = has_found (is_at place) rows found.0 found.1 in
      found.1 ∙ ap (λ x. Some x) (same_row found.0 r there.0 h ((Decides-int_eq (id_in (rowid found.0)) (pos place)).0 there.1 ∙ sym e))

  -- and so is its record
  pub record_here : (r : Row) (place : ℕ) → Has rows r → id_in (rowid r) ≡ pos place → record_at place rows ≡ Some (bytes (column r 2))
  record_here r place h e = ap (option_map (λ x. bytes (column x 2))) (found_at r place h e)

-- ---- by key

-- the columns of a key
pub record AreOf (f : ℤ) (c n : List ℕ) (g : ℤ) (k : Key) : Type 0 where
  pub family_is : f ≡ g
  pub client_is : c ≡ client_of k
  pub name_is : n ≡ name_of k

abbrev number : Key → ℤ
number (Queue name) = pos 1
number k = pos 2

queue_columns : (f : ℤ) (c n : List ℕ) (k : Key) → f ≡ pos 1 → queue_in c n ≡ Some k → AreOf f c n (number k) k
queue_columns f [] n k one h = let same : Queue n ≡ k = cc in subst (λ x. AreOf f [] n (number x) x) same (record { family_is = one; client_is = refl; name_is = refl })
queue_columns f (byte ∷ more) n k one h = absurd (cc)

durable_columns : (f : ℤ) (c n : List ℕ) (k : Key) → f ≡ pos 2 → Some (Durable (client_in c) n) ≡ Some k → AreOf f c n (number k) k
durable_columns f [] n k two h = let same : Durable None n ≡ k = cc in subst (λ x. AreOf f [] n (number x) x) same (record { family_is = two; client_is = refl; name_is = refl })
durable_columns f (byte ∷ more) n k two h = let same : Durable (Some (byte ∷ more)) n ≡ k = cc in subst (λ x. AreOf f (byte ∷ more) n (number x) x) same (record { family_is = two; client_is = refl; name_is = refl })

columns_of : (f : ℤ) (c n : List ℕ) (k : Key) → key_in f c n ≡ Some k → AreOf f c n (number k) k
columns_of f c n k h = elim (cases_Bool (int_eq f (pos 1))) [
  | inl one ↦ queue_columns f c n k ((Decides-int_eq f (pos 1)).0 one) (rw one at h)
  | inr not_one ↦
      let rest : cond (int_eq f (pos 2)) (Some (Durable (client_in c) n)) None ≡ Some k = rw not_one at h in
      elim (cases_Bool (int_eq f (pos 2))) [
        | inl two ↦ durable_columns f c n k ((Decides-int_eq f (pos 2)).0 two) (rw two at rest)
        | inr neither ↦ absurd (let no : ◌≡◌ {A = Option Key} None (Some k) = rw neither at rest in cc)
      ]
]

is_that : (key : Key) (o : Option Key) → is_key key o ≡ true → o ≡ Some key
is_that key None h = absurd (cc)
is_that key (Some k) h = ap (λ x. Some x) (key_same k key h)

pub key_is : (key : Key) (r : Row) → is_under key r ≡ true → key_of r ≡ Some key
key_is key r h = is_that key (key_of r) h

module _ (db : Database) (s : Serves db) where
  -- the key columns of two rows of one key are the same
  tied : (key : Key) (a b : Row) → Has (db.trees station_tree) a → Has (db.trees station_tree) b → is_under key a ≡ true → is_under key b ≡ true → is_eq (columns_cmp a b Equal) ≡ true
  tied key a b h k p q =
      let x = columns_of (id_in (column a 1)) (bytes (column a 2)) (bytes (column a 3)) key (key_is key a p) in
      let y = columns_of (id_in (column b 1)) (bytes (column b 2)) (bytes (column b 3)) key (key_is key b q) in
      let u = station_row db s a h in
      let v = station_row db s b k in
      let one : column b 1 ≡ column a 1 = v.family ∙ ap (λ n. Int n) (y.family_is ∙ sym x.family_is) ∙ sym u.family in
      let two : column b 2 ≡ column a 2 = v.client ∙ ap (λ t. Text t) (y.client_is ∙ sym x.client_is) ∙ sym u.client in
      let three : column b 3 ≡ column a 3 = v.name ∙ ap (λ t. Text t) (y.name_is ∙ sym x.name_is) ∙ sym u.name in
      rw (one, two, three, tied_itself value_cmp_total (column a 1), tied_itself value_cmp_total (column a 2), tied_itself value_cmp_total (column a 3)) refl

  -- no two rows of station have one key
  pub one_station : (key : Key) (a b : Row) → Has (db.trees station_tree) a → Has (db.trees station_tree) b → is_under key a ≡ true → is_under key b ≡ true → a ≡ b
  one_station key a b h k p q = go (int_cmp (id_in (rowid a)) (id_in (rowid b))) (int_cmp (id_in (rowid b)) (id_in (rowid a))) refl refl
    where
      apart : (x y : Row) → Has (db.trees station_tree) x → Has (db.trees station_tree) y → is_under key x ≡ true → is_under key y ≡ true → int_cmp (id_in (rowid x)) (id_in (rowid y)) ≡ Less → ⊥
      apart x y there also e f less =
          let order = int_order (rowid x) (rowid y) (numbered_row (db.trees station_tree) s.stations x there) (numbered_row (db.trees station_tree) s.stations y also) in
          both_ways (is_eq (columns_cmp x y Equal)) (stations_apart db s x y there also (order ∙ less)) (tied key x y there also e f)

      go : (o r : Ordering) → o ≡ int_cmp (id_in (rowid a)) (id_in (rowid b)) → r ≡ int_cmp (id_in (rowid b)) (id_in (rowid a)) → a ≡ b
      go Less r e f = absurd (apart a b h k p q (sym e))
      go Equal r e f = same_row (db.trees station_tree) s.stations a b h k (int_ranked (id_in (rowid a)) (id_in (rowid b)) Equal e)
      go Greater Less e f = absurd (apart b a k h q p (sym f))
      go Greater Equal e f = same_row (db.trees station_tree) s.stations a b h k (sym (int_ranked (id_in (rowid b)) (id_in (rowid a)) Equal f))
      go Greater Greater e f = absurd (let x = int_ranked (id_in (rowid a)) (id_in (rowid b)) Greater e in let y = int_ranked (id_in (rowid b)) (id_in (rowid a)) Greater f in omega (arith, ints))
