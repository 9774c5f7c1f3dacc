use Rattle.std.proofs.Common.{◌≡◌, ◌∙◌, ap, arith, length, sym, cond, get_or, refl, Some, None}
use Rattle.std.specs.List.{filter, slice_get}
use Rattle.std.proofs.lemmas.Bool.{eq-eqb}
use Rattle.std.proofs.lemmas.Option.{get_or_from_slice_get, slice_get_within}
use Rattle.jm_lane.specs.declared.row.Row.{Row}
use Rattle.jm_lane.specs.Lanes.{is_below}
use Rattle.jm_lane.proofs.Ranks.{found_at, kept_at, rank_at}
use Rattle.jm_lane.proofs.Spots.{stands_at}
use Rattle.jm_lane.proofs.lane.Lane.spot_of.Goals as goal

pub returns-in-Some-clause-row : goal.returns-in-Some-clause-row
returns-in-Some-clause-row c =
    let rows = c.args.self.now.rows in
    let row : Row = c.in-Some.row in
    let low = c.first_waiting-low.result in
    let at : slice_get rows low ≡ Some row = sym c.get.ensures.row ∙ c.in-Some.is in
    let place : row.place ≡ c.args.place = c.if-row-place.true in
    let here : (get_or rows low row).place ≡ c.args.place = ap (λ (r : Row). r.place) (get_or_from_slice_get rows low row row at) ∙ place in
    let rank : length (filter (is_below c.args.place) rows) ≡ low = ap (λ n. length (filter (is_below n) rows)) (sym here) ∙ rank_at rows low row c.get.ensures.rising (slice_get_within rows low row at) in
    sym (found_at c.args.place rows c.get.ensures.rising ∙ ap (λ n. kept_at c.args.place (slice_get rows n)) rank ∙ ap (kept_at c.args.place) at ∙ ap (λ b. cond b (Some row) None) (eq-eqb row.place c.args.place place))

pub returns-in-Some-clause-spot : goal.returns-in-Some-clause-spot
returns-in-Some-clause-spot c =
    let row : Row = c.in-Some.row in
    let low = c.first_waiting-low.result in (
      refl,
      c.if-row-place.true,
      stands_at c.args.self.now.rows c.args.lane low low low row (sym c.get.ensures.row ∙ c.in-Some.is) (omega arith) (omega arith) c.first_waiting-low.ensures.before,
    )
