-- What the holders of all lists are after each change.
use Rattle.std.proofs.Common.{◌≡◌, ℕ, ◌+◌, ◌<◌, ◌≤◌, ◌==◌, List, [], ◌∷◌, length, get_or, set, Bool, true, false, cond, refl, ap, ◌∙◌, arith, suc}
use Rattle.std.proofs.lemmas.Bool.{eqb-true}
use Rattle.std.proofs.lemmas.Bool.Decides.{nat_tests}
use Rattle.std.proofs.lemmas.List.{map-set, get_or-map}
use Rattle.jm_lane.specs.declared.row.Row.{Row}
use Rattle.jm_pending.specs.Rows.{Held, is_at_limit}
use Rattle.jm_lane.specs.Holders.{Messages, LosesHolder, KeepsMessages, Follows, Covers, holders_of, rows_at}
use Rattle.jm_pending.specs.Counts.{all_at, IsCounted, IsCountedBeside}
use Rattle.jm_pending.proofs.Counting.{all_set, covers_each}
use Rattle.jm_lane.proofs.Holding.{row_first, rows_both}
use Rattle.jm_stations.specs.Kept.{all_rows, with_row, FollowsAll}

-- the rows of one list are the rows of the lists at its index
pub rows_get : (lists : List Held) (k : ℕ) (d : Held) → k < length lists → get_or (all_rows lists) k d.rows ≡ (get_or lists k d).rows
rows_get lists k d l = get_or-map (λ (h : Held). h.rows) lists k d d.rows l

pub rows_set : (lists : List Held) (k : ℕ) (h : Held) → all_rows (set lists k h) ≡ set (all_rows lists) k h.rows
rows_set lists k h = map-set (λ (h : Held). h.rows) lists k h

pub rows_length : (lists : List Held) → length (all_rows lists) ≡ length lists
rows_length [] = refl
rows_length (h ∷ lists) = ap suc (rows_length lists)

-- all rows at a place, where one list is another
pub all_changed : (p : ℕ) (lists : List Held) (k : ℕ) (d h : Held) → k < length lists → all_at p (all_rows (set lists k h)) + rows_at p (get_or lists k d).rows ≡ all_at p (all_rows lists) + rows_at p h.rows
all_changed p lists k d h l =
    let inside : k < length (all_rows lists) = omega (arith, rows_length lists, l) in
    rw (rows_set lists k h, ← rows_get lists k d l) (all_set p (all_rows lists) k d.rows h.rows inside)

-- each list is covered
pub covers_one : (t : Messages) (lists : List Held) (k : ℕ) (d : Held) → k < length lists → IsCounted t (all_rows lists) → Covers t (get_or lists k d).rows
covers_one t lists k d l c = rw (← rows_get lists k d l) (covers_each t (all_rows lists) k d.rows (omega (arith, rows_length lists, l)) c)

-- one list changes, and its holders follow
pub counted_one : (old new : Messages) (lists : List Held) (k : ℕ) (d h : Held) → k < length lists → IsCounted old (all_rows lists) → Follows old new (get_or lists k d).rows h.rows → IsCounted new (all_rows (set lists k h))
counted_one old new lists k d h l c f = record { each = λ p. omega (arith, all_changed p lists k d h l, c.each p, f.holders p) }

same_test : (a b : ℕ) → cond {A = ℕ} (a == b) 1 0 ≡ cond {A = ℕ} (b == a) 1 0
same_test a b = grind (arith, nat_tests)

-- one row more at its place, at most
pub with_row_count : (p : ℕ) (row : Row) (h : Held) → rows_at p (with_row row h).rows ≤ rows_at p h.rows + cond {A = ℕ} (p == row.place) 1 0
with_row_count p row h = go (is_at_limit h.limit (length h.rows)) refl
  where
    go : (b : Bool) → is_at_limit h.limit (length h.rows) ≡ b → rows_at p (with_row row h).rows ≤ rows_at p h.rows + cond {A = ℕ} (p == row.place) 1 0
    go true e = rw e (omega arith)
    go false e = rw e (omega (arith, rows_both p h.rows (row ∷ []), row_first p row [], same_test row.place p))

-- and no row less
pub with_row_more : (p : ℕ) (row : Row) (h : Held) → rows_at p h.rows ≤ rows_at p (with_row row h).rows
with_row_more p row h = go (is_at_limit h.limit (length h.rows)) refl
  where
    go : (b : Bool) → is_at_limit h.limit (length h.rows) ≡ b → rows_at p h.rows ≤ rows_at p (with_row row h).rows
    go true e = rw e (omega arith)
    go false e = rw e (omega (arith, rows_both p h.rows (row ∷ [])))

-- a place of its own has a holder before, where it has one after
other_place : (a b x y : ℕ) (same : Bool) → a + x ≡ b + y → y ≤ x + cond {A = ℕ} same 1 0 → (same ≡ true → 0 < b) → 0 < a → 0 < b
other_place a b x y true e le there pos = there refl
other_place a b x y false e le there pos = omega (arith, e, le, pos)

-- what follows in one list more, follows in all
pub record IsFollowed (origin t : Messages) (place n : ℕ) (before after : List (List Row)) : Type 0 where
  pub follows : FollowsAll origin t before after
  pub there : 0 < holders_of t place
  pub few : holders_of t place ≤ n + 1

pub followed_none : (t : Messages) (place : ℕ) (before : List (List Row)) → holders_of t place ≡ 1 → IsFollowed t t place 0 before before
followed_none t place before one = record {
  follows = record { holders = λ p. refl; messages = record { same = λ p h. refl; room = omega arith } };
  there = omega (arith, one);
  few = omega (arith, one);
}

pub followed_more : (origin t t' : Messages) (row : Row) (n : ℕ) (before : List (List Row)) (lists : List Held) (k : ℕ) (d : Held) → k < length lists → IsFollowed origin t row.place n before (all_rows lists) → Follows t t' (get_or lists k d).rows (with_row row (get_or lists k d)).rows
    → IsFollowed origin t' row.place (n + 1) before (all_rows (set lists k (with_row row (get_or lists k d))))
followed_more origin t t' row n before lists k d l w f =
    let h : Held = get_or lists k d in
    let h' : Held = with_row row h in
    let had : (p : ℕ) → 0 < holders_of t' p → 0 < holders_of t p = λ p pos. other_place (holders_of t' p) (holders_of t p) (rows_at p h.rows) (rows_at p h'.rows) (p == row.place) (f.holders p) (with_row_count p row h) (λ e. rw (eqb-true p row.place e) w.there) pos in
    let here : rows_at row.place h'.rows ≤ rows_at row.place h.rows + 1 = go (row.place == row.place) (with_row_count row.place row h) in
    record {
      follows = record {
        holders = λ p. omega (arith, all_changed p lists k d h' l, f.holders p, w.follows.holders p);
        messages = record { same = λ p pos. f.messages.same p pos ∙ w.follows.messages.same p (had p pos); room = omega (arith, f.messages.room, w.follows.messages.room) };
      };
      there = omega (arith, f.holders row.place, with_row_more row.place row h, w.there);
      few = omega (arith, f.holders row.place, here, w.few);
    }
  where
    go : (b : Bool) → rows_at row.place (with_row row (get_or lists k d)).rows ≤ rows_at row.place (get_or lists k d).rows + cond {A = ℕ} b 1 0 → rows_at row.place (with_row row (get_or lists k d)).rows ≤ rows_at row.place (get_or lists k d).rows + 1
    go true e = e
    go false e = omega (arith, e)

-- a publication is under way while the lists take it
pub beside_all : (t t' : Messages) (place : ℕ) (before after : List (List Row)) → IsCountedBeside t place before → FollowsAll t t' before after → IsCountedBeside t' place after
beside_all t t' place before after c f = record { each = λ p. omega (arith, c.each p, f.holders p) }

-- what one holder less keeps, all keeps
pub keeps_released : (t second third : Messages) (place : ℕ) → KeepsMessages t second → LosesHolder second third place → KeepsMessages second third → KeepsMessages t third
keeps_released t second third place k lost m =
    record { same = λ p pos. m.same p pos ∙ k.same p (omega (arith, lost.holders p, pos)); room = omega (arith, k.room, m.room) }
