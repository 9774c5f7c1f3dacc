-- Rows that are read where they stand.
use Rattle.std.proofs.Common.{◌≡◌, ℕ, ◌<◌, ◌==◌, nat_le, List, [], ◌∷◌, length, get_or, Bool, true, false, not, ◌&&◌, cond, Option, Some, None, refl, ap, sym, subst, ◌∙◌, arith, option_map, is_some}
use Rattle.std.specs.List.{find, All, slice_get}
use Rattle.std.specs.Option.{IfSome}
use Rattle.std.proofs.lemmas.List.{get_or-map, get_or_default, length-map}
use Rattle.std.proofs.lemmas.List.Elements.{All-head, All-tail, All-weaker}
use Rattle.jm_gaps.proofs.Items.{item_read}
use Rattle.jm_dest.specs.declared.session.SessionId.{SessionId}
use Rattle.jm_header.specs.declared.content.Content.{Content}
use Rattle.jm_machine.specs.declared.state.PlacedRow.{PlacedRow}
use Rattle.jm_machine.specs.Rows as machine
use Rattle.jm_machine.specs.Wants.{next_chosen}
use Rattle.jm_lane.specs.declared.row.Row.{Row}
use Rattle.jm_lane.specs.Rows as here
use Rattle.jm_lane.specs.Rows.{IsRising}
use Rattle.jm_pending.specs.Rows.{Held}
use Rattle.jm_lane.specs.Lanes as lane
use Rattle.jm_lane.specs.Cursors as cursor
use Rattle.jm_lane.specs.Holders.{Messages, Covers, holders_of}
use Rattle.jm_pending.specs.Placed.{placed, all_placed, IsRowOf, AreRowsOf}
use Rattle.jm_lanes.proofs.Places.{find_has}
use Rattle.jm_stations.specs.declared.picked.Picked.{Picked}
use Rattle.jm_stations.specs.Backlogs.{Backlog, IsPicked, picked_of}
use Rattle.jm_stations.specs.Kept.{shown, all_shown, IsKept}
use Rattle.jm_stations.specs.Standing.{is_at, is_from, lapsed_from, out_from, holds, has_row, IsFirstOf}
use Rattle.jm_stations.proofs.Holders.{covers_one}
use Rattle.jm_stations.proofs.Receiving.{no_rows, picked_one, within_shown}
use Rattle.jm_stations.proofs.Choosing.{all_held, next_where_same, where_there}

-- a row is found with its message where it is found without
pub find_shown : (t : Messages) (p : Row → Bool) (q : PlacedRow → Bool) (rs : List Row) → All (λ r. q (placed t r) ≡ p r) rs → option_map (placed t) (find p rs) ≡ find q (all_placed t rs)
find_shown t p q [] h = refl
find_shown t p q (r ∷ rs) h = rw (All-head (λ r. q (placed t r) ≡ p r) r rs h) (go (p r) (find_shown t p q rs (All-tail (λ r. q (placed t r) ≡ p r) r rs h)))
  where
    go : (b : Bool) → option_map (placed t) (find p rs) ≡ find q (all_placed t rs) → option_map (placed t) (cond b (Some r) (find p rs)) ≡ cond b (Some (placed t r)) (find q (all_placed t rs))
    go true e = refl
    go false e = e

pub at_shown : (t : Messages) (place : ℕ) (rs : List Row) → option_map (placed t) (find (lane.is_at place) rs) ≡ find (is_at place) (all_placed t rs)
at_shown t place rs = find_shown t (lane.is_at place) (is_at place) rs (λ k d l. refl)

pub from_shown : (t : Messages) (place : ℕ) (rs : List Row) → option_map (placed t) (find (here.is_from place) rs) ≡ find (is_from place) (all_placed t rs)
from_shown t place rs = find_shown t (here.is_from place) (is_from place) rs (λ k d l. refl)

pub out_shown : (t : Messages) (place : ℕ) (w : SessionId → ℕ → Bool) (rs : List Row) → option_map (placed t) (find (cursor.out_from place w) rs) ≡ find (out_from place w) (all_placed t rs)
out_shown t place w rs = find_shown t (cursor.out_from place w) (out_from place w) rs (λ k d l. refl)

pub lapsed_shown : (t : Messages) (place now : ℕ) (rs : List Row) → All (IsRowOf t) rs → option_map (placed t) (find (cursor.lapsed_from place now) rs) ≡ find (lapsed_from place now) (all_placed t rs)
lapsed_shown t place now rs own =
    find_shown t (cursor.lapsed_from place now) (lapsed_from place now) rs (All-weaker (IsRowOf t) (λ r. lapsed_from place now (placed t r) ≡ cursor.lapsed_from place now r) (λ r h. ap (λ e. nat_le place r.place && (machine.waits r.state && (not (e == 0) && nat_le e now))) (sym h.expiration)) rs own)

-- what is found has a holder
pub found_held : (t : Messages) (p : Row → Bool) (rs : List Row) (o : Option Row) → o ≡ find p rs → Covers t rs → IfSome o (λ (r : Row). 0 < holders_of t r.place)
found_held t p rs o is c =
    subst (λ (x : Option Row). IfSome x (λ (r : Row). 0 < holders_of t r.place)) (sym is) (find_has (λ (r : Row). 0 < holders_of t r.place) p rs (all_held t rs c))

-- one of many lists
pub covers_at : (t : Messages) (lists : List Held) (place k : ℕ) (h : Held) → k < length (all_shown t lists) → slice_get lists k ≡ Some h → IsKept t lists place → Covers t h.rows
covers_at t lists place k h l is w = subst (λ (x : Held). Covers t x.rows) (sym (item_read lists k h is)) (covers_one t lists k h (within_shown t lists k l) w.counted)

pub own_at : (t : Messages) (lists : List Held) (place k : ℕ) (h : Held) → k < length (all_shown t lists) → slice_get lists k ≡ Some h → IsKept t lists place → AreRowsOf t h.rows
own_at t lists place k h l is w = subst (λ (x : Held). AreRowsOf t x.rows) (sym (item_read lists k h is)) (w.each k h (within_shown t lists k l)).own

pub rows_seen : (t : Messages) (lists : List Held) (k : ℕ) (h : Held) (d : Backlog) → k < length (all_shown t lists) → slice_get lists k ≡ Some h → all_placed t h.rows ≡ (get_or (all_shown t lists) k d).rows
rows_seen t lists k h d l is =
    let inside = within_shown t lists k l in
    let found : h ≡ get_or lists k no_rows = item_read lists k h is ∙ get_or_default lists k h no_rows inside in
    ap (λ (x : Held). all_placed t x.rows) found ∙ ap (λ (b : Backlog). b.rows) (sym (get_or-map (shown t) lists k no_rows d inside))

-- the row at the place that was picked is the next one of those whose messages pass
pub picked_seen : (p : Content → Bool) (settles : Bool) (t : Messages) (place now k : ℕ) (lists : List Held) (h : Held) (q : Picked) (d : Backlog) → k < length (all_shown t lists) → slice_get lists k ≡ Some h → IsKept t lists place → IsRising h.rows → IsPicked p settles now (all_shown t lists) k (Some q) → find (is_at q.place) (all_placed t h.rows) ≡ next_chosen p now (get_or (all_shown t lists) k d).rows
picked_seen p settles t place now k lists h q d l is w rising picked =
    let inside = within_shown t lists k l in
    let found : h ≡ get_or lists k h = item_read lists k h is in
    let rows : List Row = (get_or lists k h).rows in
    let one = picked_one p settles t place now k h lists q inside w picked in
    let there : find (lane.is_at one.0.place) rows ≡ Some one.0 = where_there p t now rows one.0 (subst (λ (x : Held). IsRising x.rows) found rising) one.1.0 in
    (λ i. find (is_at (one.1.1 i)) (all_placed t (found i).rows))
    ∙ sym (at_shown t one.0.place rows)
    ∙ ap (option_map (placed t)) (there ∙ sym one.1.0)
    ∙ sym (next_where_same p t now rows (covers_one t lists k h inside w.counted) (w.each k h inside).own.each)
    ∙ ap (λ (b : Backlog). next_chosen p now b.rows) (sym (get_or-map (shown t) lists k h d inside))

-- where nothing was picked, none is next
none_next : (settles : Bool) (list : List Backlog) (o : Option PlacedRow) → None ≡ picked_of settles list o → None ≡ o
none_next settles list None e = refl
none_next settles list (Some x) e = absurd (cc)

pub none_seen : (p : Content → Bool) (settles : Bool) (now k : ℕ) (list : List Backlog) (d : Backlog) → IsPicked p settles now list k None → None ≡ next_chosen p now (get_or list k d).rows
none_seen p settles now k list d picked = none_next settles list (next_chosen p now (get_or list k d).rows) (picked d)

-- a list with a row at the place is seen with one
is_some_map : {X Y : Type 0} (f : X → Y) (o : Option X) → is_some (option_map f o) ≡ is_some o
is_some_map f None = refl
is_some_map f (Some x) = refl

holds_shown : (t : Messages) (place : ℕ) (h : Held) → holds place (shown t h) ≡ has_row place h
holds_shown t place h = ap is_some (sym (at_shown t place h.rows)) ∙ is_some_map (placed t) (find (lane.is_at place) h.rows)

holds_at : (t : Messages) (place k : ℕ) (lists : List Held) (d : Backlog) (b : Bool) → k < length lists → ((e : Held) → has_row place (get_or lists k e) ≡ b) → holds place (get_or (all_shown t lists) k d) ≡ b
holds_at t place k lists d b l h = ap (holds place) (get_or-map (shown t) lists k no_rows d l) ∙ holds_shown t place (get_or lists k no_rows) ∙ h no_rows

pub holder_seen : (t : Messages) (place from : ℕ) (lists : List Held) (o : Option ℕ) → IsFirstOf (has_row place) from lists o → IsFirstOf (holds place) from (all_shown t lists) o
holder_seen t place from lists None h = λ k d le l. let inside = within_shown t lists k l in holds_at t place k lists d false inside (λ e. h k e le inside)
holder_seen t place from lists (Some i) h = record {
  start = h.start;
  within = let w = h.within in omega (arith, length-map lists (shown t), w);
  pass = λ d. holds_at t place i lists d true h.within h.pass;
  before = λ k d le l. let w = h.within in holds_at t place k lists d false (omega (arith, l, w)) (λ e. h.before k e le l);
}
