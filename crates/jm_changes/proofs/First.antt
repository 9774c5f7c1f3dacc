-- The first row from a place on that passes, of rows that stand by place.
use Rattle.std.proofs.Common.{◌≡◌, ℕ, ◌<◌, ◌≤◌, Bool, true, false, cond, List, [], ◌∷◌, refl, sym, subst, ◌∙◌, ap, Option, Some, None, arith}
use Rattle.std.specs.Prelude.{◌==◌, ◌&&◌, nat_le, option_map, not}
use Rattle.std.proofs.lemmas.Bool.Decides.{nat_tests}
use Rattle.jm_machine.specs.declared.state.PlacedRow.{PlacedRow}
use Rattle.jm_machine.specs.declared.state.Row.{Row}
use Rattle.jm_machine.specs.Rows.{InOrder}
use Rattle.jm_machine.specs.Under.{is_persistent}
use Rattle.jm_keep.specs.Persisted.{row_at}
use Rattle.jm_keep_law.proofs.Placed.{none_at}
use Rattle.jm_changes.specs.declared.planned.Standing.{Standing}
use Rattle.jm_changes.specs.Standing.{first_where, standing, taken_row}
use Rattle.jm_keep.specs.Steps.{passes}

and_false : (a : Bool) → (a && false) ≡ false
and_false true = refl
and_false false = refl

-- where no row that passes stands from a place on, none stands at a place from there on
pub none_from : (q : Row → Bool) (place p : ℕ) → place ≤ p → (rows : List PlacedRow) → first_where q place rows ≡ None → passes q (row_at p rows) ≡ false
none_from q place p l [] e = refl
none_from q place p l (x ∷ rows) e = go (nat_le place x.place) (q x.row) (x.place == p) refl refl refl e (none_from q place p l rows)
  where
    go : (b c d : Bool) → nat_le place x.place ≡ b → q x.row ≡ c → (x.place == p) ≡ d → cond (b && c) (Some x) (first_where q place rows) ≡ None → (first_where q place rows ≡ None → passes q (row_at p rows) ≡ false)
        → passes q (cond (x.place == p) (Some x.row) (row_at p rows)) ≡ false
    go true true d f g h e r = cc
    go true false true f g h e r = ap (λ o. passes q (cond o (Some x.row) (row_at p rows))) h ∙ ap (λ b. is_persistent x.row.message.mode && b) g ∙ and_false (is_persistent x.row.message.mode)
    go true false false f g h e r = ap (λ o. passes q (cond o (Some x.row) (row_at p rows))) h ∙ r e
    go false c true f g h e r = absurd (let below : nat_le place x.place ≡ true = grind (arith, nat_tests) in cc)
    go false c false f g h e r = ap (λ o. passes q (cond o (Some x.row) (row_at p rows))) h ∙ r e

-- the first one stands at its place, which is not below, and passes, and none that passes stands between
pub record IsFirst (q : Row → Bool) (place : ℕ) (rows : List PlacedRow) (x : PlacedRow) : Type 0 where
  pub from : place ≤ x.place
  pub there : row_at x.place rows ≡ Some x.row
  pub good : q x.row ≡ true
  pub between : (p : ℕ) → place ≤ p → p < x.place → passes q (row_at p rows) ≡ false

pub is_first : (q : Row → Bool) (n place : ℕ) (rows : List PlacedRow) (x : PlacedRow) → InOrder n rows → first_where q place rows ≡ Some x → IsFirst q place rows x
is_first q n place [] x h e = cc
is_first q n place (y ∷ rows) x h e = go (nat_le place y.place) (q y.row) refl refl e (λ f. is_first q n place rows x h.2 f)
  where
    none : (p : ℕ) → p < y.place → passes q (row_at p rows) ≡ false
    none p l = ap (passes q) (none_at p y.place (omega (arith, l)) rows h.1)

    here : y ≡ x → nat_le place y.place ≡ true → q y.row ≡ true → IsFirst q place (y ∷ rows) x
    here s f g = subst (λ z. IsFirst q place (y ∷ rows) z) s (record {
      from = grind (arith, nat_tests);
      there = let same : (y.place == y.place) ≡ true = grind (arith, nat_tests) in ap (λ c. cond c (Some y.row) (row_at y.place rows)) same;
      good = g;
      between = λ p l m. let other : (y.place == p) ≡ false = grind (arith, nat_tests) in ap (λ c. passes q (cond c (Some y.row) (row_at p rows))) other ∙ none p m;
    })

    above : IsFirst q place rows x → y.place < x.place
    above i = go (nat_le x.place y.place) refl
      where
        go : (b : Bool) → nat_le x.place y.place ≡ b → y.place < x.place
        go true f = absurd (let none : row_at x.place rows ≡ None = none_at x.place y.place (grind (arith, nat_tests)) rows h.1 in let some : Some x.row ≡ None = sym i.there ∙ none in cc)
        go false f = grind (arith, nat_tests)

    later : IsFirst q place rows x → ((p : ℕ) → place ≤ p → (y.place == p) ≡ true → passes q (Some y.row) ≡ false) → IsFirst q place (y ∷ rows) x
    later i at =
        let over = above i in
        record {
          from = i.from;
          there = let other : (y.place == x.place) ≡ false = grind (arith, nat_tests) in ap (λ c. cond c (Some y.row) (row_at x.place rows)) other ∙ i.there;
          good = i.good;
          between = λ p l m. step p l m (y.place == p) refl;
        }
      where
        step : (p : ℕ) → place ≤ p → p < x.place → (b : Bool) → (y.place == p) ≡ b → passes q (cond (y.place == p) (Some y.row) (row_at p rows)) ≡ false
        step p l m true f = ap (λ c. passes q (cond c (Some y.row) (row_at p rows))) f ∙ at p l f
        step p l m false f = ap (λ c. passes q (cond c (Some y.row) (row_at p rows))) f ∙ i.between p l m

    go : (b c : Bool) → nat_le place y.place ≡ b → q y.row ≡ c → cond (b && c) (Some y) (first_where q place rows) ≡ Some x → (first_where q place rows ≡ Some x → IsFirst q place rows x) → IsFirst q place (y ∷ rows) x
    go true true f g e r = let s : y ≡ x = cc in here s f g
    go true false f g e r = later (r e) (λ p l m. ap (λ b. is_persistent y.row.message.mode && b) g ∙ and_false (is_persistent y.row.message.mode))
    go false c f g e r = later (r e) (λ p l m. absurd (let below : nat_le place y.place ≡ true = grind (arith, nat_tests) in cc))

found : (o : Option PlacedRow) (r : Standing) → option_map standing o ≡ Some r → (x : PlacedRow) × (o ≡ Some x) × (standing x ≡ r)
found None r e = cc
found (Some x) r e = (x, refl, the e)
  where
    the : Some (standing x) ≡ Some r → standing x ≡ r
    the e = cc

pub none_found : (o : Option PlacedRow) → option_map standing o ≡ None → o ≡ None
none_found None e = refl
none_found (Some x) e = cc

-- the row that was read
pub record IsMet (q : Row → Bool) (place : ℕ) (rows : List PlacedRow) (r : Standing) : Type 0 where
  pub row : PlacedRow
  pub first : IsFirst q place rows row
  pub same : standing row ≡ r

pub met : (q : Row → Bool) (n place : ℕ) (rows : List PlacedRow) (r : Standing) → InOrder n rows → option_map standing (first_where q place rows) ≡ Some r → IsMet q place rows r
met q n place rows r o e = let f = found (first_where q place rows) r e in record { row = f.0; first = is_first q n place rows f.0 o f.1; same = f.2 }

-- whether a row that passes stands at a place is seen by the first from there on
pub stands_here : (q : Row → Bool) (n place : ℕ) (rows : List PlacedRow) (r : Standing) → InOrder n rows → option_map standing (first_where q place rows) ≡ Some r → ((r.place == place) && r.is_persistent) ≡ passes q (row_at place rows)
stands_here q n place rows r o e =
    let m = met q n place rows r o e in
    subst (λ s. ((s.place == place) && s.is_persistent) ≡ passes q (row_at place rows)) m.same (go m.row m.first (m.row.place == place) refl)
  where
    and_true : (a : Bool) → (a && true) ≡ a
    and_true true = refl
    and_true false = refl

    go : (x : PlacedRow) → IsFirst q place rows x → (b : Bool) → (x.place == place) ≡ b → ((x.place == place) && is_persistent x.row.message.mode) ≡ passes q (row_at place rows)
    go x i true f =
        let same : x.place ≡ place = grind (arith, nat_tests) in
        ap (λ b. b && is_persistent x.row.message.mode) f
        ∙ sym (ap (λ p. passes q (row_at p rows)) (sym same) ∙ ap (passes q) i.there ∙ ap (λ b. is_persistent x.row.message.mode && b) i.good ∙ and_true (is_persistent x.row.message.mode))
    go x i false f =
        let from = i.from in
        let below : place < x.place = grind (arith, nat_tests) in
        ap (λ b. b && is_persistent x.row.message.mode) f ∙ sym (i.between place (omega arith) below)

-- a stored row that does not pass
pub passes_not : (q : Row → Bool) (o : Option Row) → (passes (λ r. true) o && not (passes q o)) ≡ passes (λ r. not (q r)) o
passes_not q None = refl
passes_not q (Some r) = go (is_persistent r.message.mode) (q r)
  where
    go : (a b : Bool) → ((a && true) && not (a && b)) ≡ (a && not b)
    go true true = refl
    go true false = refl
    go false b = refl

-- where it stands there
pub stands_there : (q : Row → Bool) (n place : ℕ) (rows : List PlacedRow) (r : Standing) → InOrder n rows → option_map standing (first_where q place rows) ≡ Some r → r.place ≡ place → r.is_persistent ≡ passes q (row_at place rows)
stands_there q n place rows r o e h =
    let same : (r.place == place) ≡ true = grind (arith, nat_tests) in
    sym (ap (λ b. b && r.is_persistent) same) ∙ stands_here q n place rows r o e

-- and where it stands elsewhere
pub stands_off : (q : Row → Bool) (n place : ℕ) (rows : List PlacedRow) (r : Standing) → InOrder n rows → option_map standing (first_where q place rows) ≡ Some r → (r.place ≡ place → ⊥) → (r.place == place) ≡ passes q (row_at place rows)
stands_off q n place rows r o e h = go (r.place == place) refl
  where
    go : (b : Bool) → (r.place == place) ≡ b → (r.place == place) ≡ passes q (row_at place rows)
    go true f = absurd (let same : r.place ≡ place = grind (arith, nat_tests) in h same)
    go false f = f ∙ sym (ap (λ b. b && r.is_persistent) f) ∙ stands_here q n place rows r o e

-- ---- the row at the place that is taken

-- the row that is read there stands at its place
pub taken_stands : (taken : Option ℕ) (n : ℕ) (rows : List PlacedRow) (x : PlacedRow) → InOrder n rows → taken_row taken rows ≡ Some x → row_at x.place rows ≡ Some x.row
taken_stands None n rows x o e = cc
taken_stands (Some place) n rows x o e = let i = is_first (λ r. true) n place rows x o e in i.there

abbrev placed : ℕ → Row → PlacedRow
placed place row = record { place = place; row = row }

same_row : (x y : PlacedRow) → x.place ≡ y.place → x.row ≡ y.row → x ≡ y
same_row x y p r = ap (λ (place : ℕ). placed place x.row) p ∙ ap (λ (row : Row). placed y.place row) r

-- a row that stands at its place is the first from there on
pub first_at : (n : ℕ) (rows : List PlacedRow) (x : PlacedRow) → InOrder n rows → row_at x.place rows ≡ Some x.row → first_where (λ r. true) x.place rows ≡ Some x
first_at n [] x o e = cc
first_at n (y ∷ rows) x o e = go (y.place == x.place) refl e (first_at n rows x o.2)
  where
    own : Some y.row ≡ Some x.row → y.row ≡ x.row
    own e = cc

    go : (b : Bool) → (y.place == x.place) ≡ b → cond b (Some y.row) (row_at x.place rows) ≡ Some x.row → (row_at x.place rows ≡ Some x.row → first_where (λ r. true) x.place rows ≡ Some x)
        → cond (nat_le x.place y.place && true) (Some y) (first_where (λ r. true) x.place rows) ≡ Some x
    go true f e r =
        let same : y.place ≡ x.place = grind (arith, nat_tests) in
        let here : nat_le x.place y.place ≡ true = grind (arith, nat_tests) in
        ap (λ b. cond (b && true) (Some y) (first_where (λ r. true) x.place rows)) here ∙ ap (λ (z : PlacedRow). Some z) (same_row y x same (own e))
    go false f e r = below (nat_le x.place y.place) refl
      where
        below : (b : Bool) → nat_le x.place y.place ≡ b → cond (nat_le x.place y.place && true) (Some y) (first_where (λ r. true) x.place rows) ≡ Some x
        below true g = absurd (let none : row_at x.place rows ≡ None = none_at x.place y.place (grind (arith, nat_tests)) rows o.1 in let some : Some x.row ≡ None = sym e ∙ none in cc)
        below false g = ap (λ b. cond (b && true) (Some y) (first_where (λ r. true) x.place rows)) g ∙ r e
