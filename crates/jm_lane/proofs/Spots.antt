-- What stands at a spot, and what a lane keeps when it goes.
use Rattle.std.proofs.Common.{◌≡◌, ℕ, ◌+◌, ◌<◌, ◌≤◌, ◌==◌, List, length, set, map, take, true, false, cond, Some, refl, sym, subst, ◌∙◌, arith, ◌⊎◌, inl, inr}
use Rattle.std.specs.List.{filter, remove, slice_get, All}
use Rattle.std.proofs.lemmas.Bool.{eq-eqb, ne_eqb}
use Rattle.std.proofs.lemmas.Bool.Decides.{eqb_tells}
use Rattle.std.proofs.lemmas.List.{get_or-take, length-take, take_more_set, take-set-le}
use Rattle.std.proofs.lemmas.List.Elements.{All-push}
use Rattle.std.proofs.lemmas.Option.{get_or_from_slice_get, slice_get_within}
use Rattle.jm_dest.specs.declared.session.SessionId.{SessionId}
use Rattle.jm_lane.specs.declared.row.Row.{Row}
use Rattle.jm_lane.specs.declared.spot.Spot.{Spot}
use Rattle.jm_lane.specs.Rows.{IsRising, is_elsewhere, is_waiting, sent, sent_at}
use Rattle.jm_lane.specs.Lanes.{IsLane}
use Rattle.jm_lane.specs.Chosen.{StandsIn, low_after}
use Rattle.jm_lane.proofs.Rising.{others_before, set_sent, remove_at}
use Rattle.jm_lane.proofs.Steps.{lane_low, lane_out}
use Rattle.jm_lane.proofs.Turns.{lane_kept}

-- what the first rows have, fewer of them have
fewer : (P : Row → Type 0) (n m : ℕ) (rs : List Row) → n ≤ m → All P (take m rs) → All P (take n rs)
fewer P n m rs le a = λ k d l.
    let long = length-take n rs in
    let in_rows : k < length rs = omega (arith, l, long) in
    let in_first : k < n = omega (arith, l, long) in
    let in_more : k < length (take m rs) = omega (arith, length-take m rs, in_rows, in_first, le) in
    subst P (get_or-take m rs k d (omega (arith, in_first, le)) ∙ sym (get_or-take n rs k d in_first)) (a k d in_more)

-- of the rows of a lane, one goes out from the middle or as the first that waits
pub spot_out : (s : SessionId) (c : ℕ) (rs : List Row) (pr low high least top : ℕ) (x : Spot) → IsLane rs pr low high least → StandsIn rs x → high ≤ top → x.index + 1 ≤ top → top ≤ length rs → IsLane (set rs x.index (sent s c x.row)) pr (low_after x) top least
spot_out s c rs pr low high least top x h at h1 h2 h3 =
    rw (at.row x.row) at (lane_out s c rs pr low high least x.index top (low_after x) x.row h at.within within (rw (at.row x.row) before) h1 h2 h3)
  where
    y : Row
    y = sent s c x.row

    within : low_after x ≤ length rs
    within = elim (x.low == x.index) as (λ b. cond b (x.index + 1) x.low ≤ length rs) [ true ↦ omega (arith, at.within) | false ↦ omega (arith, at.within, at.low) ]

    before : All (λ r. is_waiting r ≡ false) (take (low_after x) (set rs x.index y))
    before = elim (eqb_tells x.low x.index) [
      | inl s ↦ rw (eq-eqb x.low x.index s.1, take_more_set rs x.index y at.within) (All-push (λ r. is_waiting r ≡ false) (take x.index rs) y (subst (λ n. All (λ r. is_waiting r ≡ false) (take n rs)) s.1 at.before) refl)
      | inr n ↦ rw (ne_eqb x.low x.index n.1, take-set-le x.low rs x.index y at.low) at.before
    ]

-- or leaves
pub spot_gone : (rs : List Row) (pr low high least top : ℕ) (x : Spot) → IsLane rs pr low high least → StandsIn rs x → top ≤ length (filter (is_elsewhere x.row.place) rs) → (top ≡ high) ⊎ (length (filter (is_elsewhere x.row.place) rs) ≤ top) → IsLane (filter (is_elsewhere x.row.place) rs) pr x.low top least
spot_gone rs pr low high least top x h at le which =
    let others : All (λ r. is_elsewhere x.row.place r ≡ true) (take x.index rs) = rw (at.row x.row) at (others_before rs x.index x.row h.rising at.within) in
    lane_kept (is_elsewhere x.row.place) rs pr x.low high least top (lane_low rs pr low high least x.low h (omega (arith, at.within, at.low)) at.before) (fewer (λ r. is_elsewhere x.row.place r ≡ true) x.low x.index rs at.low others) le which

-- what that does to the rows
pub spot_sent : (s : SessionId) (c : ℕ) (rs : List Row) (x : Spot) → IsRising rs → StandsIn rs x → set rs x.index (sent s c x.row) ≡ map (sent_at x.row.place s c) rs
spot_sent s c rs x up at = rw (at.row x.row) at (set_sent s c rs x.index x.row up at.within)

pub spot_removed : (rs : List Row) (x : Spot) → IsRising rs → StandsIn rs x → remove rs x.index ≡ filter (is_elsewhere x.row.place) rs
spot_removed rs x up at = rw (at.row x.row) at (remove_at rs x.index x.row up at.within)

-- the row that is read at an index stands there, and of any fewer rows than do not wait none does
pub stands_at : (rs : List Row) (lane low lower index : ℕ) (r : Row) → slice_get rs index ≡ Some r → lower ≤ low → lower ≤ index → All (λ r. is_waiting r ≡ false) (take low rs) → StandsIn rs (record { lane = lane; low = lower; index = index; row = r })
stands_at rs lane low lower index r at less in_front before =
    record { within = slice_get_within rs index r at; row = λ d. get_or_from_slice_get rs index r d at; low = in_front; before = fewer (λ r. is_waiting r ≡ false) lower low rs less before }
