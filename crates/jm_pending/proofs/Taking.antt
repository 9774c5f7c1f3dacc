-- What a delivery does to the lanes: it drops rows, and sends or takes out the row at a place.
use Rattle.std.proofs.Common.{◌≡◌, ℕ, List, ◌∙◌, None, ap, refl, sym, map}
use Rattle.std.specs.List.{find, filter}
use Rattle.std.proofs.lemmas.List.Elements.{filter-append}
use Rattle.jm_dest.specs.declared.session.SessionId.{SessionId}
use Rattle.jm_lane.specs.Lanes.{Lane, is_at}
use Rattle.jm_lane.specs.Rows.{stays, is_elsewhere, sent_at}
use Rattle.jm_lanes.specs.Lanes.{all_rows, rows_of, IsHeld, IsApart, EachBecomes}
use Rattle.jm_lane.proofs.Rising.{filter_elsewhere}
use Rattle.jm_lane.proofs.Steps.{sent_at_place, sent_at_priority}
use Rattle.jm_lanes.proofs.Edited.{all_rows_each}
use Rattle.jm_lanes.proofs.Found.{none_found}
use Rattle.jm_lanes.proofs.Keeping.{held_filter, held_map}
use Rattle.jm_lanes.proofs.Places.{apart_from_rising}
use Rattle.jm_lanes.proofs.Ranks.{at_sorted}

-- what is left of the rows that are not dropped
pub dropped : (now : ℕ) (xs ys : List Lane) → EachBecomes (filter (stays now)) xs ys → all_rows ys ≡ filter (stays now) (all_rows xs)
dropped now xs ys e = all_rows_each (filter (stays now)) refl (filter-append (stays now)) xs ys e

pub dropped_apart : (now : ℕ) (xs ys : List Lane) (room : ℕ) → IsHeld xs room → EachBecomes (filter (stays now)) xs ys → IsApart (all_rows ys)
dropped_apart now xs ys room h e = apart_from_rising (all_rows ys) (held_filter (stays now) xs ys room h e).0.rising

-- the row at a place, once the expired ones are dropped
pub found_dropped : (place now : ℕ) (xs ys : List Lane) (room : ℕ) → IsHeld xs room → EachBecomes (filter (stays now)) xs ys → find (is_at place) (all_rows ys) ≡ find (is_at place) (filter (stays now) (rows_of xs))
found_dropped place now xs ys room h e =
    let kept = held_filter (stays now) xs ys room h e in
    sym (at_sorted place (all_rows ys) kept.0.rising) ∙ ap (find (is_at place)) kept.1

-- what a drop and a sending do
pub sent_held : (now place : ℕ) (s : SessionId) (c : ℕ) (xs ys zs : List Lane) (room : ℕ) → IsHeld xs room → EachBecomes (filter (stays now)) xs ys → EachBecomes (map (sent_at place s c)) ys zs → IsHeld zs room × (rows_of zs ≡ map (sent_at place s c) (filter (stays now) (rows_of xs)))
sent_held now place s c xs ys zs room h e f =
    let kept = held_filter (stays now) xs ys room h e in
    rw (← kept.1) (held_map (sent_at place s c) (sent_at_place place s c) (sent_at_priority place s c) ys zs room kept.0 f)

-- what a drop and a removal do
pub removed_held : (now place : ℕ) (xs ys zs : List Lane) (room : ℕ) → IsHeld xs room → EachBecomes (filter (stays now)) xs ys → EachBecomes (filter (is_elsewhere place)) ys zs → IsHeld zs room × (rows_of zs ≡ filter (is_elsewhere place) (filter (stays now) (rows_of xs)))
removed_held now place xs ys zs room h e f =
    let kept = held_filter (stays now) xs ys room h e in
    rw (← kept.1) (held_filter (is_elsewhere place) ys zs room kept.0 f)

-- where no row is at the place, the rows are as they were
pub none_left : (place : ℕ) (ys zs : List Lane) → find (is_at place) (all_rows ys) ≡ None → EachBecomes (filter (is_elsewhere place)) ys zs → all_rows zs ≡ all_rows ys
none_left place ys zs none e =
    all_rows_each (filter (is_elsewhere place)) refl (filter-append (is_elsewhere place)) ys zs e ∙ filter_elsewhere place (all_rows ys) (none_found place (all_rows ys) none)
