-- How many rows the lanes have that a walk has been through.
use Rattle.std.proofs.Common.{◌≡◌, ℕ, ◌+◌, ◌<◌, ◌≤◌, List, [], ◌∷◌, length, get_or, set, take, Bool, true, false, cond, refl, ap, ◌∙◌, arith, suc, zero}
use Rattle.std.specs.List.{filter}
use Rattle.std.proofs.lemmas.List.{length-append, length-set, get_or-set_same, take-set, take_all}
use Rattle.jm_lane.specs.declared.row.Row.{Row}
use Rattle.jm_lane.specs.Lanes.{Lane}
use Rattle.jm_lanes.specs.Lanes.{all_rows}
use Rattle.jm_lanes.proofs.Found.{rows_taken}

few_pass : (q : Row → Bool) (xs : List Row) → length (filter q xs) ≤ length xs
few_pass q [] = omega arith
few_pass q (x ∷ xs) = elim (q x) as (λ b. length (cond b (x ∷ filter q xs) (filter q xs)) ≤ length (x ∷ xs)) [ true ↦ omega (arith, few_pass q xs) | false ↦ omega (arith, few_pass q xs) ]

-- an edit of one lane changes the number of all rows by that of its own
set_number : (lanes : List Lane) (i : ℕ) (d lane : Lane) → i < length lanes → length (all_rows (set lanes i lane)) + length (get_or lanes i d).rows ≡ length (all_rows lanes) + length lane.rows
set_number [] i d lane l = absurd (omega arith)
set_number (x ∷ xs) zero d lane l = omega (arith, length-append x.rows (all_rows xs), length-append lane.rows (all_rows xs))
set_number (x ∷ xs) (suc i) d lane l =
    omega (arith, length-append x.rows (all_rows (set xs i lane)), length-append x.rows (all_rows xs), set_number xs i d lane (omega arith))

-- so many rows are left in the lanes before the one at an index, and no more in all than there were
pub record AreLeft (init lanes : List Lane) (i left : ℕ) : Type 0 where
  pub before : left ≡ length (all_rows (take i lanes))
  pub fewer : length (all_rows lanes) ≤ length (all_rows init)

pub left_none : (init : List Lane) → AreLeft init init 0 0
left_none init = record { before = refl; fewer = omega arith }

pub left_more : (q : Row → Bool) (init lanes : List Lane) (i left : ℕ) (d lane : Lane) → AreLeft init lanes i left → i < length lanes → lane.rows ≡ filter q (get_or lanes i d).rows → AreLeft init (set lanes i lane) (i + 1) (left + length lane.rows) × (left + length lane.rows ≤ length (all_rows init))
left_more q init lanes i left d lane h l is =
    let inside : i < length (set lanes i lane) = omega (arith, length-set lanes i lane) in
    let taken = rows_taken (set lanes i lane) i lane inside in
    let more : length (all_rows (take (i + 1) (set lanes i lane))) ≡ length (all_rows (take i lanes)) + length lane.rows = rw (take-set lanes i lane, get_or-set_same lanes i lane lane l) at taken.0 in
    let shorter : length lane.rows ≤ length (get_or lanes i d).rows = rw is (few_pass q (get_or lanes i d).rows) in
    let fewer : length (all_rows (set lanes i lane)) ≤ length (all_rows init) = omega (arith, set_number lanes i d lane l, shorter, h.fewer) in
    (record { before = omega (arith, more, h.before); fewer = fewer }, omega (arith, more, h.before, fewer, taken.1))

pub left_all_lanes : (init lanes : List Lane) (i left : ℕ) → AreLeft init lanes i left → length lanes ≤ i → left ≡ length (all_rows lanes)
left_all_lanes init lanes i left h le = h.before ∙ ap (λ xs. length (all_rows xs)) (take_all i lanes le)
