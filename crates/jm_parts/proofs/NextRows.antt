-- The row that a delivery takes, at its place and without it.
use Rattle.std.proofs.Common.{◌≡◌, ℕ, Bool, true, false, cond, List, [], ◌∷◌, refl, ap, ◌∙◌, Some}
use Rattle.std.specs.Prelude.{◌&&◌, IfOk, Result, Ok, Err, filter, find, not, option_map}
use Rattle.jm_header.specs.declared.content.Content.{Content}
use Rattle.jm_machine.specs.declared.state.PlacedRow.{PlacedRow}
use Rattle.jm_machine.specs.declared.state.Row.{Row}
use Rattle.jm_machine.specs.Rows.{bare, chosen, has_lapsed, is_next, live, live_placed, next}
use Rattle.jm_machine.specs.Wants.{next_chosen, next_placed}

found_bare : (q : Row → Bool) (rows : List PlacedRow) → option_map (λ (x : PlacedRow). x.row) (find (λ x. q x.row) rows) ≡ find q (bare rows)
found_bare q [] = refl
found_bare q (x ∷ rows) = go (q x.row) (found_bare q rows)
  where
    go : (b : Bool) → option_map (λ (x : PlacedRow). x.row) (find (λ x. q x.row) rows) ≡ find q (bare rows) → option_map (λ (x : PlacedRow). x.row) (cond b (Some x) (find (λ x. q x.row) rows)) ≡ cond b (Some x.row) (find q (bare rows))
    go true r = refl
    go false r = r

live_bare : (now : ℕ) (rows : List PlacedRow) → bare (live_placed now rows) ≡ live now (bare rows)
live_bare now [] = refl
live_bare now (x ∷ rows) = go (has_lapsed now x.row) (live_bare now rows)
  where
    go : (b : Bool) → bare (live_placed now rows) ≡ live now (bare rows) → bare (cond (not b) (x ∷ live_placed now rows) (live_placed now rows)) ≡ cond (not b) (x.row ∷ live now (bare rows)) (live now (bare rows))
    go true r = r
    go false r = ap (λ rs. x.row ∷ rs) r

-- of a subscription
pub next_row : (now : ℕ) (rows : List PlacedRow) → option_map (λ (x : PlacedRow). x.row) (next_placed now rows) ≡ next now (live now (bare rows))
next_row now rows =
    let q = is_next now (live now (bare rows)) in
    found_bare q (live_placed now rows) ∙ ap (λ rs. find q rs) (live_bare now rows)

-- the first of those that pass
found_filtered : (p q : Row → Bool) (rows : List Row) → find (λ r. p r && q r) rows ≡ find q (filter p rows)
found_filtered p q [] = refl
found_filtered p q (r ∷ rows) = go (p r) (found_filtered p q rows)
  where
    go : (b : Bool) → find (λ r. p r && q r) rows ≡ find q (filter p rows) → cond (b && q r) (Some r) (find (λ r. p r && q r) rows) ≡ find q (cond b (r ∷ filter p rows) (filter p rows))
    go false e = e
    go true e = by (q r)
      where
        by : (c : Bool) → cond c (Some r) (find (λ r. p r && q r) rows) ≡ cond c (Some r) (find q (filter p rows))
        by true = refl
        by false = e

filters_swap : (p q : Row → Bool) (rows : List Row) → filter p (filter q rows) ≡ filter q (filter p rows)
filters_swap p q [] = refl
filters_swap p q (r ∷ rows) = go (p r) (q r) refl refl (filters_swap p q rows)
  where
    go : (b c : Bool) → p r ≡ b → q r ≡ c → filter p (filter q rows) ≡ filter q (filter p rows) → filter p (cond c (r ∷ filter q rows) (filter q rows)) ≡ filter q (cond b (r ∷ filter p rows) (filter p rows))
    go true true e f h = rw (e, f) (ap (λ rs. r ∷ rs) h)
    go true false e f h = rw f h
    go false true e f h = rw e h
    go false false e f h = h

-- of a queue, of those whose messages pass
pub chosen_row : (p : Content → Bool) (now : ℕ) (rows : List PlacedRow) → option_map (λ (x : PlacedRow). x.row) (next_chosen p now rows) ≡ next now (live now (chosen p (bare rows)))
chosen_row p now rows =
    let all = live now (bare rows) in
    let q = is_next now (chosen p all) in
    found_bare (λ r. p r.message && q r) (live_placed now rows)
    ∙ ap (λ rs. find (λ r. p r.message && q r) rs) (live_bare now rows)
    ∙ found_filtered (λ r. p r.message) q all
    ∙ ap (λ rs. next now rs) (filters_swap (λ r. p r.message) (λ r. not (has_lapsed now r)) (bare rows))

-- what follows of each success
pub when_ok : {V E : Type 0} (P Q : V → Type 0) → ((v : V) → P v → Q v) → (r : Result V E) → IfOk r P → IfOk r Q
when_ok P Q f (Ok v) h = f v h
when_ok P Q f (Err e) h = tt
