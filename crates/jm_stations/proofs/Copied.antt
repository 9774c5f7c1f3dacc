-- Copies of keys, lists and rows.
use Rattle.std.proofs.Common.{◌≡◌, ◌<◌, ◌≤◌, ◌+◌, ◌-◌, ◌++◌, ℕ, zero, suc, length, get_or, false, not, List, [], ◌∷◌, Option, Some, None, refl, ap, sym, subst, ◌∙◌, arith, map, take, option_map}
use Rattle.std.specs.Prelude.{IfSome}
use Rattle.std.specs.List.{filter, find, AllByRecursion, IsDistinct, list_any}
use Rattle.std.proofs.lemmas.List.{map-append, length-append}
use Rattle.std.proofs.lemmas.List.Filters.{length-filter_both}
use Rattle.std.proofs.lemmas.List.Elements.{All-map, All-weaker}
use Rattle.jm_dest.specs.declared.key.Key.{Key}
use Rattle.jm_dest.specs.Keys.{key_eq}
use Rattle.jm_machine.specs.declared.state.PlacedRow.{PlacedRow}
use Rattle.jm_lane.specs.declared.row.Row.{Row}
use Rattle.jm_lane.specs.Rows.{IsRising, is_from}
use Rattle.jm_pending.specs.Rows.{Held}
use Rattle.jm_lane.specs.Lanes.{is_below}
use Rattle.jm_dest.specs.Numbers.{long_end}
use Rattle.jm_lanes.proofs.Places.{find_has}
use Rattle.jm_lane.proofs.From.{below_all}
use Rattle.jm_lanes.proofs.From.{below_more}
use Rattle.jm_lane.specs.Holders.{Messages, Covers, holders_of}
use Rattle.jm_pending.specs.Placed.{placed, all_placed}
use Rattle.jm_lane.proofs.Holding.{holder_there}
use Rattle.std.proofs.lemmas.List.{get_or_default}
use Rattle.jm_stations.specs.Backlogs as spec
use Rattle.jm_stations.specs.Kept.{all_rows, all_shown, without_room, IsBacklog, IsKept}
use Rattle.jm_machine.proofs.Keys.{key_sym}

-- a key is not among those before it, where all are distinct
pub none_later : (k : Key) (keys : List Key) (n : ℕ) (d : Key) → AllByRecursion (λ l. key_eq k l ≡ false) keys → n < length keys → key_eq k (get_or keys n d) ≡ false
none_later k [] n d h l = absurd (omega arith)
none_later k (x ∷ keys) zero d h l = h.0
none_later k (x ∷ keys) (suc n) d h l = none_later k keys n d h.1 (omega arith)

none_before : (keys : List Key) (n : ℕ) (d : Key) → IsDistinct key_eq keys → n < length keys → list_any (key_eq (get_or keys n d)) (take n keys) ≡ false
unfolding IsDistinct
none_before [] n d h l = absurd (omega arith)
none_before (k ∷ keys) zero d h l = refl
none_before (k ∷ keys) (suc n) d h l = rw (key_sym (get_or keys n d) k, none_later k keys n d h.0 (omega arith), none_before keys n d h.1 (omega arith)) refl

-- the first row from a place on has a holder
pub row_held : (t : Messages) (rows : List Row) (p : ℕ) → Covers t rows → IfSome (find (is_from p) rows) (λ (r : Row). 0 < holders_of t r.place)
row_held t rows p c =
    find_has (λ (r : Row). 0 < holders_of t r.place) (is_from p) rows (λ k d l. holder_there t rows k (get_or rows k d) c l (get_or_default rows k d (get_or rows k d) l))

some_is : (x y : PlacedRow) → Some x ≡ Some y → x ≡ y
some_is x y e = cc

-- one row more, from a place on
pub record IsRowMore (t : Messages) (rows : List Row) (p : ℕ) (y : PlacedRow) : Type 0 where
  pub bound : y.place + 1 ≤ long_end
  pub more : all_placed t (filter (is_below (y.place + 1)) rows) ≡ all_placed t (filter (is_below p) rows) ++ y ∷ []
  pub less : length rows - length (filter (is_below (y.place + 1)) rows) < length rows - length (filter (is_below p) rows)

pub row_more : (t : Messages) (rows : List Row) (p : ℕ) (o : Option Row) (y : PlacedRow) → IsRising rows → o ≡ find (is_from p) rows → IfSome o (λ (r : Row). r.place < long_end) → option_map (placed t) o ≡ Some y → IsRowMore t rows p y
row_more t rows p None y up e low is = absurd (cc)
row_more t rows p (Some r) y up e low is =
    let same : placed t r ≡ y = some_is (placed t r) y is in
    let below : filter (is_below (r.place + 1)) rows ≡ filter (is_below p) rows ++ r ∷ [] = below_more p rows r up (sym e) in
    let count : length (filter (is_below (r.place + 1)) rows) ≡ length (filter (is_below p) rows) + 1 = ap length below ∙ length-append (filter (is_below p) rows) (r ∷ []) in
    let both = length-filter_both (is_below (r.place + 1)) (λ (x : Row). not (is_below (r.place + 1) x)) (λ x. refl) rows in
    subst (λ (z : PlacedRow). IsRowMore t rows p z) same (record {
      bound = omega (arith, low);
      more = ap (all_placed t) below ∙ map-append (placed t) (filter (is_below p) rows) (r ∷ []);
      less = omega (arith, count, both);
    })

-- all rows are there
pub rows_all : (t : Messages) (rows : List Row) (p : ℕ) → option_map (placed t) (find (is_from p) rows) ≡ None → all_placed t (filter (is_below p) rows) ≡ all_placed t rows
rows_all t rows p e = go (find (is_from p) rows) refl e
  where
    go : (o : Option Row) → find (is_from p) rows ≡ o → option_map (placed t) o ≡ None → all_placed t (filter (is_below p) rows) ≡ all_placed t rows
    go None f h = ap (all_placed t) (below_all p rows f)
    go (Some r) f h = absurd (cc)

-- lists without room have the same rows
rows_copied : (lists : List Held) → all_rows (map without_room lists) ≡ all_rows lists
rows_copied [] = refl
rows_copied (h ∷ lists) = ap (λ xs. h.rows ∷ xs) (rows_copied lists)

pub copied_kept : (t : Messages) (place : ℕ) (lists : List Held) → IsKept t lists place → IsKept t (map without_room lists) place
copied_kept t place lists w = record {
  counted = rw (rows_copied lists) w.counted;
  each = All-map (IsBacklog t place) without_room lists (All-weaker (IsBacklog t place) (λ (h : Held). IsBacklog t place (without_room h)) (λ h b. record { below = b.below; own = b.own }) lists w.each);
  places = w.places;
}

pub copied_shown : (t : Messages) (lists : List Held) → all_shown t (map without_room lists) ≡ map spec.without_room (all_shown t lists)
copied_shown t [] = refl
copied_shown t (h ∷ lists) = ap (λ xs. record { rows = all_placed t h.rows; limit = h.limit; missed = h.missed; room = 0 } ∷ xs) (copied_shown t lists)
