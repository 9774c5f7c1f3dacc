-- The row at a place, of rows that stand by place.
use Rattle.std.proofs.Common.{◌≡◌, ℕ, ◌≤◌, Bool, true, false, cond, List, [], ◌∷◌, refl, sym, ◌∙◌, ap, Option, Some, None, arith, subst}
use Rattle.std.specs.Prelude.{option_map, filter, find, ◌==◌}
use Rattle.std.proofs.lemmas.Bool.Decides.{nat_tests}
use Rattle.jm_machine.specs.declared.state.PlacedRow.{PlacedRow}
use Rattle.jm_machine.specs.declared.state.Row.{Row}
use Rattle.jm_machine.specs.Rows.{AllAbove, InOrder, change_placed}
use Rattle.jm_keep.specs.Persisted.{row_at}
use Rattle.jm_keep.specs.Steps.{is_place_of}

-- no row stands at a place below which none stands
pub none_at : (place n : ℕ) → place ≤ n → (rows : List PlacedRow) → AllAbove n rows → row_at place rows ≡ None
none_at place n h [] a = refl
none_at place n h (x ∷ rows) a = let i = a.0 in grind (arith, nat_tests, none_at place n h rows a.1)

-- a row that there may be, where it passes
abbrev pub if_passes : (Row → Bool) → Option Row → Option Row
if_passes p None = None
if_passes p (Some r) = cond (p r) (Some r) None

none_passes : (p : Row → Bool) (b : Bool) (o : Option Row) → o ≡ None → cond b o (if_passes p o) ≡ None
none_passes p true o e = e
none_passes p false o e = ap (if_passes p) e

-- the row at a place of those that pass
pub row_at-filter : (n place : ℕ) (p : Row → Bool) (rows : List PlacedRow) → InOrder n rows → row_at place (filter (λ x. p x.row) rows) ≡ if_passes p (row_at place rows)
row_at-filter n place p [] h = refl
row_at-filter n place p (x ∷ rows) h = go (p x.row) (x.place == place) refl refl (row_at-filter n place p rows h.2)
  where
    rest : (x.place == place) ≡ true → row_at place rows ≡ None
    rest e = none_at place x.place (grind (arith, nat_tests)) rows h.1

    go : (b c : Bool) → p x.row ≡ b → (x.place == place) ≡ c → row_at place (filter (λ x. p x.row) rows) ≡ if_passes p (row_at place rows)
        → row_at place (cond b (x ∷ filter (λ x. p x.row) rows) (filter (λ x. p x.row) rows)) ≡ if_passes p (cond c (Some x.row) (row_at place rows))
    go true true e f r = ap (λ d. cond d (Some x.row) (row_at place (filter (λ x. p x.row) rows))) f ∙ sym (ap (λ d. cond d (Some x.row) None) e)
    go true false e f r = ap (λ d. cond d (Some x.row) (row_at place (filter (λ x. p x.row) rows))) f ∙ r
    go false true e f r = r ∙ ap (if_passes p) (rest f) ∙ sym (ap (λ d. cond d (Some x.row) None) e)
    go false false e f r = r

-- none that is found there stands at such a place
away : (place n : ℕ) → place ≤ n → (p : Row → Bool) (rows : List PlacedRow) → AllAbove n rows → is_place_of (find (λ x. p x.row) rows) place ≡ false
away place n h p [] a = refl
away place n h p (x ∷ rows) a = go (p x.row) (away place n h p rows a.1)
  where
    go : (b : Bool) → is_place_of (find (λ x. p x.row) rows) place ≡ false → is_place_of (cond b (Some x) (find (λ x. p x.row) rows)) place ≡ false
    go true r = let i = a.0 in grind (arith, nat_tests)
    go false r = r

-- fewer rows stand in order
above_filter : (n : ℕ) (p : PlacedRow → Bool) (rows : List PlacedRow) → AllAbove n rows → AllAbove n (filter p rows)
above_filter n p [] h = h
above_filter n p (x ∷ rows) h = go (p x) (above_filter n p rows h.1)
  where
    go : (b : Bool) → AllAbove n (filter p rows) → AllAbove n (cond b (x ∷ filter p rows) (filter p rows))
    go true r = (h.0, r)
    go false r = r

pub order_filter : (n : ℕ) (p : PlacedRow → Bool) (rows : List PlacedRow) → InOrder n rows → InOrder n (filter p rows)
order_filter n p [] h = h
order_filter n p (x ∷ rows) h = go (p x) (order_filter n p rows h.2)
  where
    go : (b : Bool) → InOrder n (filter p rows) → InOrder n (cond b (x ∷ filter p rows) (filter p rows))
    go true r = (h.0, above_filter x.place p rows h.1, r)
    go false r = r

-- the row at a place of those that are left as the first goes that passes
pub row_at-gone : (n place : ℕ) (p : Row → Bool) (rows : List PlacedRow) → InOrder n rows → row_at place (change_placed p (λ r. []) rows) ≡ cond (is_place_of (find (λ x. p x.row) rows) place) None (row_at place rows)
row_at-gone n place p [] h = refl
row_at-gone n place p (x ∷ rows) h = go (p x.row) (x.place == place) refl (row_at-gone n place p rows h.2)
  where
    rest : (x.place == place) ≡ true → row_at place rows ≡ None
    rest e = none_at place x.place (grind (arith, nat_tests)) rows h.1

    here : (x.place == place) ≡ true → is_place_of (find (λ x. p x.row) rows) place ≡ false
    here e = away place x.place (grind (arith, nat_tests)) p rows h.1

    go : (b c : Bool) → (x.place == place) ≡ c → row_at place (change_placed p (λ r. []) rows) ≡ cond (is_place_of (find (λ x. p x.row) rows) place) None (row_at place rows)
        → row_at place (cond b rows (x ∷ change_placed p (λ r. []) rows)) ≡ cond (is_place_of (cond b (Some x) (find (λ x. p x.row) rows)) place) None (cond c (Some x.row) (row_at place rows))
    go true true e r = rest e ∙ sym (ap (λ d. cond d None (Some x.row)) e)
    go true false e r = sym (ap (λ d. cond d None (row_at place rows)) e)
    go false true e r = ap (λ d. cond d (Some x.row) (row_at place (change_placed p (λ r. []) rows))) e ∙ sym (ap (λ d. cond d None (Some x.row)) (here e))
    go false false e r = ap (λ d. cond d (Some x.row) (row_at place (change_placed p (λ r. []) rows))) e ∙ r

-- the row at a place of rows of which the first that passes is another
pub row_at-sent : (n place : ℕ) (p : Row → Bool) (g : Row → Row) (rows : List PlacedRow) → InOrder n rows → row_at place (change_placed p (λ r. g r ∷ []) rows) ≡ cond (is_place_of (find (λ x. p x.row) rows) place) (option_map g (row_at place rows)) (row_at place rows)
row_at-sent n place p g [] h = refl
row_at-sent n place p g (x ∷ rows) h = go (p x.row) (x.place == place) refl (row_at-sent n place p g rows h.2)
  where
    here : (x.place == place) ≡ true → is_place_of (find (λ x. p x.row) rows) place ≡ false
    here e = away place x.place (grind (arith, nat_tests)) p rows h.1

    go : (b c : Bool) → (x.place == place) ≡ c → row_at place (change_placed p (λ r. g r ∷ []) rows) ≡ cond (is_place_of (find (λ x. p x.row) rows) place) (option_map g (row_at place rows)) (row_at place rows)
        → row_at place (cond b (record { place = x.place; row = g x.row } ∷ rows) (x ∷ change_placed p (λ r. g r ∷ []) rows)) ≡ cond (is_place_of (cond b (Some x) (find (λ x. p x.row) rows)) place) (option_map g (cond c (Some x.row) (row_at place rows))) (cond c (Some x.row) (row_at place rows))
    go true true e r = ap (λ d. cond d (Some (g x.row)) (row_at place rows)) e ∙ sym (ap (λ d. cond d (Some (g x.row)) (Some x.row)) e)
    go true false e r = ap (λ d. cond d (Some (g x.row)) (row_at place rows)) e ∙ sym (ap (λ d. cond d (option_map g (row_at place rows)) (row_at place rows)) e)
    go false true e r = ap (λ d. cond d (Some x.row) (row_at place (change_placed p (λ r. g r ∷ []) rows))) e ∙ sym (ap (λ d. cond d (Some (g x.row)) (Some x.row)) (here e))
    go false false e r = ap (λ d. cond d (Some x.row) (row_at place (change_placed p (λ r. g r ∷ []) rows))) e ∙ r

-- a row that is found stands at its place
pub found_row : (n : ℕ) (p : Row → Bool) (rows : List PlacedRow) → InOrder n rows → (x : PlacedRow) → find (λ y. p y.row) rows ≡ Some x → row_at x.place rows ≡ Some x.row
found_row n p [] h x e = cc
found_row n p (y ∷ rows) h x e = go (p y.row) e (found_row n p rows h.2 x)
  where
    at : (b : Bool) → (y.place == x.place) ≡ b → row_at x.place rows ≡ Some x.row → cond b (Some y.row) (row_at x.place rows) ≡ Some x.row
    at true f g = absurd (let none : row_at x.place rows ≡ None = none_at x.place y.place (grind (arith, nat_tests)) rows h.1 in let bad : None ≡ Some x.row = sym none ∙ g in cc)
    at false f g = g

    own : (y.place == y.place) ≡ true
    own = grind (arith, nat_tests)

    go : (b : Bool) → cond b (Some y) (find (λ y. p y.row) rows) ≡ Some x → (find (λ y. p y.row) rows ≡ Some x → row_at x.place rows ≡ Some x.row) → cond (y.place == x.place) (Some y.row) (row_at x.place rows) ≡ Some x.row
    go true e r = let same : y ≡ x = cc in subst (λ (t : PlacedRow). cond (y.place == t.place) (Some y.row) (row_at t.place rows) ≡ Some t.row) same (ap (λ b. cond b (Some y.row) (row_at y.place rows)) own)
    go false e r = at (y.place == x.place) refl (r e)
