-- What stands at a spot, and what all lanes are when it goes.
use Rattle.std.proofs.Common.{◌≡◌, ◌≢◌, ℕ, ◌+◌, ◌<◌, ◌≤◌, List, length, get_or, set, map, take, drop, None, subst, refl, sym, arith}
use Rattle.std.specs.List.{filter, find, All}
use Rattle.jm_dest.specs.declared.session.SessionId.{SessionId}
use Rattle.jm_lane.specs.declared.row.Row.{Row}
use Rattle.jm_lane.specs.declared.spot.Spot.{Spot}
use Rattle.jm_lane.specs.Rows.{is_elsewhere, sent_at}
use Rattle.jm_lane.specs.Lanes.{Lane, is_at}
use Rattle.jm_lanes.specs.Lanes.{IsApart, EachBecomes, all_rows, IsSpot}
use Rattle.jm_lanes.proofs.Found.{all_in_lane, apart_lanes, others_at, each_but, none_found}
use Rattle.jm_lane.proofs.Rising.{map_elsewhere, filter_elsewhere}

-- the rows of all other lanes are at other places
spot_others : (lanes : List Lane) (x : Spot) (d : Lane) → IsApart (all_rows lanes) → IsSpot lanes x → (k : ℕ) (e : Lane) → k < length lanes → k ≢ x.lane → All (λ (y : Row). y.place ≢ x.row.place) (get_or lanes k e).rows
spot_others lanes x d apart at =
    let rows : List Row = (get_or lanes x.lane d).rows in
    let here = at.stands d in
    let both = apart_lanes lanes x.lane d apart at.within in
    let before : All (λ (y : Row). y.place ≢ x.row.place) (all_rows (take x.lane lanes)) = subst (λ (r : Row). All (λ (y : Row). y.place ≢ r.place) (all_rows (take x.lane lanes))) (here.row x.row) (both.0 x.index x.row here.within) in
    let behind : All (λ (y : Row). y.place ≢ x.row.place) (all_rows (drop (x.lane + 1) lanes)) = subst (λ (r : Row). All (λ (y : Row). y.place ≢ r.place) (all_rows (drop (x.lane + 1) lanes))) (here.row x.row) (both.1 x.index x.row here.within) in
    others_at lanes x.lane x.row at.within before behind

-- what is done to one lane, said of all: its row goes out
pub spot_taken : (s : SessionId) (c : ℕ) (lanes : List Lane) (x : Spot) (d after : Lane) → IsApart (all_rows lanes) → IsSpot lanes x → after.priority ≡ (get_or lanes x.lane d).priority → after.rows ≡ map (sent_at x.row.place s c) (get_or lanes x.lane d).rows → (get_or lanes x.lane d).spare ≤ after.spare → EachBecomes (map (sent_at x.row.place s c)) lanes (set lanes x.lane after)
spot_taken s c lanes x d after apart at priority rows room =
    each_but (map (sent_at x.row.place s c)) lanes x.lane d after at.within (record { priority = priority; rows = rows; room = room }) (λ k e kl ne. map_elsewhere s c x.row.place (get_or lanes k e).rows (spot_others lanes x d apart at k e kl ne))

-- or leaves
pub spot_left : (lanes : List Lane) (x : Spot) (d after : Lane) → IsApart (all_rows lanes) → IsSpot lanes x → after.priority ≡ (get_or lanes x.lane d).priority → after.rows ≡ filter (is_elsewhere x.row.place) (get_or lanes x.lane d).rows → (get_or lanes x.lane d).spare ≤ after.spare → EachBecomes (filter (is_elsewhere x.row.place)) lanes (set lanes x.lane after)
spot_left lanes x d after apart at priority rows room =
    each_but (filter (is_elsewhere x.row.place)) lanes x.lane d after at.within (record { priority = priority; rows = rows; room = room }) (λ k e kl ne. filter_elsewhere x.row.place (get_or lanes k e).rows (spot_others lanes x d apart at k e kl ne))

-- where no row is at a place, none goes out there
none_changed : (f : List Row → List Row) (place : ℕ) (lanes : List Lane) → ((rows : List Row) → All (λ (y : Row). y.place ≢ place) rows → f rows ≡ rows) → find (is_at place) (all_rows lanes) ≡ None → EachBecomes f lanes lanes
none_changed f place lanes same none = record {
  len = refl;
  at = λ k e l. record { priority = refl; rows = sym (same (get_or lanes k e).rows (all_in_lane (λ (y : Row). y.place ≢ place) lanes k e l (none_found place (all_rows lanes) none))); room = omega arith };
}

pub none_sent : (s : SessionId) (c place : ℕ) (lanes : List Lane) → find (is_at place) (all_rows lanes) ≡ None → EachBecomes (map (sent_at place s c)) lanes lanes
none_sent s c place lanes none = none_changed (map (sent_at place s c)) place lanes (map_elsewhere s c place) none

-- and none leaves
pub none_left : (place : ℕ) (lanes : List Lane) → find (is_at place) (all_rows lanes) ≡ None → EachBecomes (filter (is_elsewhere place)) lanes lanes
none_left place lanes none = none_changed (filter (is_elsewhere place)) place lanes (filter_elsewhere place) none
