use Rattle.std.proofs.Common.{◌≡◌, ◌∙◌, ap, sym, subst, Option, None, Some, length}
use Rattle.std.specs.List.{filter, slice_get}
use Rattle.jm_lane.specs.declared.row.Row.{Row}
use Rattle.jm_lane.specs.Lanes.{IsPlaceFrom, is_below}
use Rattle.jm_lane.proofs.From.{lane_from, place_of}
use Rattle.jm_lane.proofs.lane.Lane.place_from.Goals as goal

pub returns-in-Some : goal.returns-in-Some
returns-in-Some c =
    let rows = c.args.self.now.rows in
    let p = c.args.place in
    let found : slice_get rows (length (filter (is_below p) rows)) ≡ Some c.in-Some.row = ap (slice_get rows) (sym c.below.ensures) ∙ sym c.get.ensures.row ∙ c.in-Some.is in
    subst (λ (o : Option Row). IsPlaceFrom p (place_of o) rows) found (lane_from p rows c.requires c.get.ensures.rising)

pub returns-in-None : goal.returns-in-None
returns-in-None c =
    let rows = c.args.self.now.rows in
    let p = c.args.place in
    let found : slice_get rows (length (filter (is_below p) rows)) ≡ None = ap (slice_get rows) (sym c.below.ensures) ∙ sym c.get.ensures.row ∙ c.in-None.is in
    subst (λ (o : Option Row). IsPlaceFrom p (place_of o) rows) found (lane_from p rows c.requires c.get.ensures.rising)
