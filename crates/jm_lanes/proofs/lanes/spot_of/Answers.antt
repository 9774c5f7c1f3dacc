use Rattle.std.proofs.Common.{◌≡◌, ◌∙◌, ap, sym, refl, is_some, Option, None, Some}
use Rattle.std.specs.List.{find}
use Rattle.jm_lane.specs.declared.spot.Spot.{Spot}
use Rattle.jm_lane.specs.Chosen.{row_of}
use Rattle.jm_lane.specs.Lanes.{Lane, is_at}
use Rattle.jm_lanes.proofs.Found.{find_here, find_more, none_of}
use Rattle.jm_lanes.proofs.lanes.spot_of.Goals as goal

-- a spot has a row
some_row : (o : Option Spot) → is_some (row_of o) ≡ is_some o
some_row None = refl
some_row (Some s) = refl

pub returns-then-is_some-clause-row : goal.returns-then-is_some-clause-row
returns-then-is_some-clause-row c =
    let found = c.spot_of-found.result in
    let here = c.spot_of-found.ensures.row ∙ ap (λ (x : Lane). find (is_at c.args.place) x.rows) c.index-lanes-i.is in
    here ∙ sym (find_here (is_at c.args.place) c.args.lanes.now c.loop-i.i c.index-lanes-i.result c.loop-i-test.true c.loop-i.invariant (ap is_some (sym here) ∙ some_row found ∙ sym c.is_some.ensures ∙ c.if-is_some.true))

pub loop-i-preserved : goal.loop-i-preserved
loop-i-preserved c =
    let found = c.spot_of-found.result in
    find_more (is_at c.args.place) c.args.lanes.now c.loop-i.i c.index-lanes-i.result c.loop-i-test.true c.loop-i.invariant (ap (λ (x : Lane). find (is_at c.args.place) x.rows) (sym c.index-lanes-i.is) ∙ sym c.spot_of-found.ensures.row ∙ none_of (row_of found) (some_row found ∙ sym c.is_some.ensures ∙ c.if-is_some.false))
