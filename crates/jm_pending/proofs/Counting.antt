-- What the other lists keep while one of them changes: holders, messages, and what is read of the rows.
use Rattle.std.proofs.Common.{◌≡◌, ◌≢◌, ℕ, ◌+◌, ◌<◌, ◌≤◌, ◌==◌, List, [], ◌∷◌, ◌++◌, length, get_or, set, cond, refl, arith}
use Rattle.std.specs.List.{All}
use Rattle.std.proofs.lemmas.Bool.{eq-eqb}
use Rattle.std.proofs.lemmas.List.{get_or-set_other, length-set}
use Rattle.std.proofs.lemmas.List.Elements.{All-nil, All-cons, All-head, All-tail}
use Rattle.std.proofs.lemmas.List.Sums.{sum_by-cons, sum_by-append, sum_by-set, get_or-le-sum_by}
use Rattle.jm_lane.specs.declared.row.Row.{Row}
use Rattle.jm_lane.specs.Rows.{IsRising}
use Rattle.jm_lane.specs.Holders.{Messages, GainsHolder, LosesHolder, KeepsMessages, Follows, Covers, holders_of, message_of, rows_at}
use Rattle.jm_pending.specs.Counts.{all_at, IsCounted, IsCountedBeside}
use Rattle.jm_pending.specs.Placed.{all_placed, IsRowOf, AreRowsOf}
pub use Rattle.jm_lane.proofs.Holding.{covers_after}
use Rattle.jm_lane.proofs.Holding.{row_first}
use Rattle.jm_lanes.proofs.Holding.{rising_once}

-- a list of many has no more rows at a place than all
pub part_of_all : (p : ℕ) (lists : List (List Row)) (k : ℕ) (d : List Row) → k < length lists → rows_at p (get_or lists k d) ≤ all_at p lists
part_of_all p lists k d l = get_or-le-sum_by (λ rows. rows_at p rows) lists k d l

-- all rows at a place, where one list is another
pub all_set : (p : ℕ) (lists : List (List Row)) (k : ℕ) (d after : List Row) → k < length lists → all_at p (set lists k after) + rows_at p (get_or lists k d) ≡ all_at p lists + rows_at p after
all_set p lists k d after l = sum_by-set (λ rows. rows_at p rows) lists k after d l

-- each list of many is covered
pub covers_each : (t : Messages) (lists : List (List Row)) (k : ℕ) (d : List Row) → k < length lists → IsCounted t lists → Covers t (get_or lists k d)
covers_each t lists k d l c = record { held = λ p. omega (arith, part_of_all p lists k d l, c.each p) }

-- and stays so while a publication is under way
pub covers_beside : (t : Messages) (place : ℕ) (lists : List (List Row)) (k : ℕ) (d : List Row) → k < length lists → IsCountedBeside t place lists → Covers t (get_or lists k d)
covers_beside t place lists k d l c = record { held = λ p. omega (arith, part_of_all p lists k d l, c.each p) }

-- no list holds anything in an empty table
pub counted_none : (t : Messages) → ((p : ℕ) → holders_of t p ≡ 0) → IsCounted t []
counted_none t h = record { each = h }

-- one list more, which is empty
pub counted_more : (t : Messages) (lists : List (List Row)) → IsCounted t lists → IsCounted t (lists ++ [] ∷ [])
counted_more t lists c = record { each = λ p. omega (arith, c.each p, sum_by-append (λ rows. rows_at p rows) lists ([] ∷ [])) }

-- one list changes, and its holders follow
pub counted_after : (old new : Messages) (lists : List (List Row)) (k : ℕ) (d after : List Row) → k < length lists → IsCounted old lists → Follows old new (get_or lists k d) after → IsCounted new (set lists k after)
counted_after old new lists k d after l c f = record { each = λ p. omega (arith, all_set p lists k d after l, c.each p, f.holders p) }

-- the same while a publication is under way
pub beside_after : (old new : Messages) (place : ℕ) (lists : List (List Row)) (k : ℕ) (d after : List Row) → k < length lists → IsCountedBeside old place lists → Follows old new (get_or lists k d) after → IsCountedBeside new place (set lists k after)
beside_after old new place lists k d after l c f = record { each = λ p. omega (arith, all_set p lists k d after l, c.each p, f.holders p) }

-- a publication begins
pub beside_put : (old new : Messages) (place : ℕ) (lists : List (List Row)) → IsCounted old lists → GainsHolder old new place → IsCountedBeside new place lists
beside_put old new place lists c g = record { each = λ p. omega (arith, c.each p, g.holders p) }

-- and ends
pub counted_released : (old new : Messages) (place : ℕ) (lists : List (List Row)) → IsCountedBeside old place lists → LosesHolder old new place → IsCounted new lists
counted_released old new place lists c g = record { each = λ p. omega (arith, c.each p, g.holders p) }

-- no more rows are at a place than there are lists, where each rises by place
pub few_at : (p : ℕ) (lists : List (List Row)) → All IsRising lists → all_at p lists ≤ length lists
few_at p [] h = omega arith
few_at p (rows ∷ lists) h =
    omega (arith, sum_by-cons (λ rows. rows_at p rows) rows lists, rising_once p rows (All-head IsRising rows lists h), few_at p lists (All-tail IsRising rows lists h))

-- rows whose messages are the old ones are read as before
pub placed_same : (old new : Messages) (rows : List Row) → KeepsMessages old new → Covers new rows → all_placed new rows ≡ all_placed old rows
placed_same old new [] k c = refl
placed_same old new (x ∷ xs) k c =
    let one : cond {A = ℕ} (x.place == x.place) 1 0 ≡ 1 = rw (eq-eqb x.place x.place refl) refl in
    let here : message_of new x.place ≡ message_of old x.place = k.same x.place (omega (arith, one, row_first x.place x xs, c.held x.place)) in
    rw (here, placed_same old new xs k (record { held = λ p. omega (arith, row_first p x xs, c.held p) })) refl

-- what the other lists show stays, while one of them changes and its holders follow
pub others_same : (old new : Messages) (lists : List (List Row)) (at k : ℕ) (d after : List Row) → at < length lists → k < length lists → k ≢ at → IsCounted old lists → Follows old new (get_or lists at d) after → all_placed new (get_or lists k d) ≡ all_placed old (get_or lists k d)
others_same old new lists at k d after l kl ne c f =
    let counted = counted_after old new lists at d after l c f in
    let inside : k < length (set lists at after) = omega (arith, length-set lists at after, kl) in
    let covered : Covers new (get_or lists k d) = rw (get_or-set_other lists at k after d ne) at (covers_each new (set lists at after) k d inside counted) in
    placed_same old new (get_or lists k d) f.messages covered

row_same : (old new : Messages) (x : Row) → message_of new x.place ≡ message_of old x.place → IsRowOf old x → IsRowOf new x
row_same old new x same h = record { priority = rw same h.priority; expiration = rw same h.expiration; due = rw same h.due }

-- rows are still those of their messages, where these are the old ones
pub rows_same : (old new : Messages) (rows : List Row) → KeepsMessages old new → Covers new rows → AreRowsOf old rows → AreRowsOf new rows
rows_same old new [] k c h = record { each = All-nil (IsRowOf new) }
rows_same old new (x ∷ xs) k c h =
    let one : cond {A = ℕ} (x.place == x.place) 1 0 ≡ 1 = rw (eq-eqb x.place x.place refl) refl in
    let here : message_of new x.place ≡ message_of old x.place = k.same x.place (omega (arith, one, row_first x.place x xs, c.held x.place)) in
    let rest = rows_same old new xs k (record { held = λ p. omega (arith, row_first p x xs, c.held p) }) (record { each = All-tail (IsRowOf old) x xs h.each }) in
    record { each = All-cons (IsRowOf new) x xs (row_same old new x here (All-head (IsRowOf old) x xs h.each)) rest.each }
