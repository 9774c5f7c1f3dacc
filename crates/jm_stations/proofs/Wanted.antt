-- The copy that a delivery wants.
use Rattle.std.proofs.Common.{◌≡◌, ℕ, ◌<◌, List, length, get_or, Option, Some, None, Bool, refl, ap, sym, ◌∙◌, option_map, nat_eq}
use Rattle.std.specs.Map.{lookup}
use Rattle.std.specs.Option.{IfSome}
use Rattle.std.specs.Prelude.{IfOk, Result, Ok, Err}
use Rattle.jm_header.specs.declared.content.Content.{Content}
use Rattle.jm_lane.specs.declared.row.Row.{Row}
use Rattle.jm_pending.specs.Rows.{Held, next}
use Rattle.jm_pending.specs.Chosen.{next_where}
use Rattle.jm_lane.specs.Holders.{Messages, holders_of, message_of}
use Rattle.jm_pending.specs.Placed.{placed, all_placed, content_of}
use Rattle.jm_machine.specs.Wants.{next_chosen, next_placed}
use Rattle.jm_stations.specs.Backlogs.{Backlog, holders_at, kept_message, copy_wanted, copy_wanted_where, picked_of}
use Rattle.jm_stations.specs.Kept.{all_shown, copied, picked, IsKept}
use Rattle.jm_stations.proofs.Holders.{covers_one}
use Rattle.jm_stations.proofs.Choosing.{next_where_same, where_held}
use Rattle.jm_stations.proofs.Delivery.{next_same}
use Rattle.jm_stations.proofs.Receiving.{shown_count, next_held, has_message}

-- the table says which copy is wanted of a row that has a holder
kept_row : (settles : Bool) (t : Messages) (place : ℕ) (lists : List Held) (o : Option Row) → IsKept t lists place → IfSome o (λ (x : Row). 0 < holders_of t x.place) → copied settles t o ≡ kept_message settles (all_shown t lists) (option_map (placed t) o)
kept_row settles t place lists None w there = refl
kept_row settles t place lists (Some r) w there =
    let number : holders_at r.place (all_shown t lists) ≡ holders_of t r.place = shown_count t r.place lists ∙ sym (w.counted.each r.place) in
    let message : message_of t r.place ≡ Some (content_of t r) = has_message (lookup (nat_eq r.place) t.entries) there in
    rw (number, message) refl

-- of the next row
pub copied_is : (settles : Bool) (t : Messages) (place now k : ℕ) (d : Held) (lists : List Held) → k < length lists → IsKept t lists place → copied settles t (next now (get_or lists k d).rows) ≡ copy_wanted settles now (all_shown t lists) (all_placed t (get_or lists k d).rows)
copied_is settles t place now k d lists l w =
    let rows = (get_or lists k d).rows in
    kept_row settles t place lists (next now rows) w (next_held t now rows (covers_one t lists k d l w.counted)) ∙ ap (kept_message settles (all_shown t lists)) (sym (next_same t now rows (w.each k d l).own.each))

-- and of the next one of those whose messages pass
pub copied_where_is : (p : Content → Bool) (settles : Bool) (t : Messages) (place now k : ℕ) (d : Held) (lists : List Held) → k < length lists → IsKept t lists place → copied settles t (next_where p t now (get_or lists k d).rows) ≡ copy_wanted_where p settles now (all_shown t lists) (all_placed t (get_or lists k d).rows)
copied_where_is p settles t place now k d lists l w =
    let rows = (get_or lists k d).rows in
    let covers = covers_one t lists k d l w.counted in
    kept_row settles t place lists (next_where p t now rows) w (where_held p t now rows covers) ∙ ap (kept_message settles (all_shown t lists)) (sym (next_where_same p t now rows covers (w.each k d l).own.each))

-- what a delivery takes of a row is what callers see that it takes
pub picked_shown : (settles : Bool) (t : Messages) (list : List Backlog) (o : Option Row) → copied settles t o ≡ kept_message settles list (option_map (placed t) o) → picked settles t o ≡ picked_of settles list (option_map (placed t) o)
picked_shown settles t list None e = refl
picked_shown settles t list (Some r) e = ap (λ (m : Option Content). Some (record { place = r.place; copy = m })) e

-- of the next row
pub picked_is : (settles : Bool) (t : Messages) (place now k : ℕ) (d : Held) (lists : List Held) → k < length lists → IsKept t lists place → picked settles t (next now (get_or lists k d).rows) ≡ picked_of settles (all_shown t lists) (next_placed now (all_placed t (get_or lists k d).rows))
picked_is settles t place now k d lists l w =
    let rows = (get_or lists k d).rows in
    picked_shown settles t (all_shown t lists) (next now rows) (kept_row settles t place lists (next now rows) w (next_held t now rows (covers_one t lists k d l w.counted))) ∙ ap (picked_of settles (all_shown t lists)) (sym (next_same t now rows (w.each k d l).own.each))

-- and of the next one of those whose messages pass
pub picked_where_is : (p : Content → Bool) (settles : Bool) (t : Messages) (place now k : ℕ) (d : Held) (lists : List Held) → k < length lists → IsKept t lists place → picked settles t (next_where p t now (get_or lists k d).rows) ≡ picked_of settles (all_shown t lists) (next_chosen p now (all_placed t (get_or lists k d).rows))
picked_where_is p settles t place now k d lists l w =
    let rows = (get_or lists k d).rows in
    let covers = covers_one t lists k d l w.counted in
    picked_shown settles t (all_shown t lists) (next_where p t now rows) (kept_row settles t place lists (next_where p t now rows) w (where_held p t now rows covers)) ∙ ap (picked_of settles (all_shown t lists)) (sym (next_where_same p t now rows covers (w.each k d l).own.each))

-- what holds of a result for each backlog holds of it for all
pub each_ok : {E : Type 0} {X Y : Type 0} (r : Result X E) (P : X → Y → Type 0) → ((d : Y) → IfOk r (λ x. P x d)) → IfOk r (λ x. (d : Y) → P x d)
each_ok (Ok x) P h = h
each_ok (Err e) P h = tt
