-- Rows that stand in order are as many as the places at which they stand.
use Rattle.std.proofs.Common.{◌≡◌, ◌<◌, ◌+◌, ◌==◌, ℕ, Bool, true, false, true≢false, cond, ◌||◌, List, [], ◌∷◌, length, map, refl, ap, sym, subst, ◌∙◌, arith}
use Rattle.std.specs.Prelude.{nat_eq}
use Rattle.std.specs.Bool.{Decides}
use Rattle.std.specs.Cmp.{unsigned_Decides}
use Rattle.std.specs.List.{AllByRecursion, IsDistinct}
use Rattle.std.specs.Set.{is_member}
use Rattle.std.proofs.lemmas.Bool.Decides.{same_from_decides}
use Rattle.std.proofs.lemmas.Cmp.{nat_eq_equiv}
use Rattle.std.proofs.lemmas.List.{length-map}
use Rattle.std.proofs.lemmas.List.Sums.{sum_by-cons}
use Rattle.std.proofs.lemmas.Map.Made.{is_member-Decides, length-from_same_keys}
use Rattle.jm_machine.specs.declared.state.PlacedRow.{PlacedRow}
use Rattle.jm_machine.specs.Rows.{AllAbove, InOrder}
use Rattle.jm_stations.specs.Backlogs.{Backlog, IsNumberOfMessages, holders_at, placed_at}

-- the places of rows
abbrev places_of : List PlacedRow → List ℕ
places_of rows = map (λ (x : PlacedRow). x.place) rows

-- a place differs from those above it
other : (n m : ℕ) → n < m → nat_eq n m ≡ false
other n m l = go (nat_eq n m) refl
  where
    go : (b : Bool) → nat_eq n m ≡ b → b ≡ false
    go true e = absurd (let s = (unsigned_Decides n m).0 e in omega (arith, l, s))
    go false e = refl

apart : (n : ℕ) (rows : List PlacedRow) → AllAbove n rows → AllByRecursion (λ m. nat_eq n m ≡ false) (places_of rows)
apart n [] h = tt
apart n (x ∷ rows) h = (other n x.place h.0, apart n rows h.1)

-- each place stands once
once : (n : ℕ) (rows : List PlacedRow) → InOrder n rows → IsDistinct nat_eq (places_of rows)
unfolding IsDistinct
once n [] h = tt
once n (x ∷ rows) h = (apart x.place rows h.1, once n rows h.2)

-- a place is that of a row exactly where some row stands there
one_more : (b : Bool) (n : ℕ) (r : Bool) → Decides r (0 < n) → Decides (b || r) (0 < cond b 1 0 + n)
one_more true n r d = (λ e. omega arith, λ l. refl)
one_more false n r d = (λ e. omega (arith, d.0 e), λ l. d.1 (omega (arith, l)))

held_at : (p : ℕ) (rows : List PlacedRow) → Decides (is_member nat_eq (places_of rows) p) (0 < placed_at p rows)
held_at p [] = (λ e. absurd (true≢false (sym e)), λ l. absurd (omega (arith, l)))
held_at p (x ∷ rows) =
    rw (sum_by-cons (λ (y : PlacedRow). cond (y.place == p) 1 0) x rows, nat_eq_equiv.symm p x.place)
    (one_more (x.place == p) (placed_at p rows) (is_member nat_eq (places_of rows) p) (held_at p rows))

-- of one list alone
one_held : (p : ℕ) (b : Backlog) → holders_at p (b ∷ []) ≡ placed_at p b.rows
one_held p b = let e : 0 + placed_at p b.rows ≡ placed_at p b.rows = omega arith in e

-- the number of messages that one list holds is that of its rows
pub number_of_rows : (n next_place : ℕ) (b : Backlog) → InOrder next_place b.rows → IsNumberOfMessages n (b ∷ []) → n ≡ length b.rows
number_of_rows n next_place b h is =
    sym is.number
    ∙ length-from_same_keys nat_eq_equiv is.places (places_of b.rows) is.once (once next_place b.rows h) same
    ∙ length-map b.rows (λ (x : PlacedRow). x.place)
  where
    here : (p : ℕ) → Decides (is_member nat_eq is.places p) (0 < placed_at p b.rows)
    here p =
        let d = is_member-Decides unsigned_Decides is.places p in
        let e = is.each p in
        (λ t. subst (λ n. 0 < n) (one_held p b) (e.0 (d.0 t)), λ l. d.1 (e.1 (subst (λ n. 0 < n) (sym (one_held p b)) l)))

    same : (p : ℕ) → is_member nat_eq is.places p ≡ is_member nat_eq (places_of b.rows) p
    same p = same_from_decides _ _ (here p) (held_at p b.rows)
