use Rattle.std.proofs.Common.{◌∙◌, ap, sym, arith, is_some}
use Rattle.std.specs.List.{find}
use Rattle.jm_lane.specs.Lanes.{is_at}
use Rattle.jm_lane.specs.Lanes.{Lane}
use Rattle.jm_lanes.proofs.Found.{find_here, find_more, none_of}
use Rattle.jm_lanes.proofs.lanes.at.Goals as goal

pub returns-then-is_some : goal.returns-then-is_some
returns-then-is_some c =
    c.at-found.ensures ∙ ap (λ (x : Lane). find (is_at c.args.place) x.rows) c.lane-item.is ∙ sym (find_here (is_at c.args.place) c.args.lanes.now c.loop-lane.lane-index c.lane-item.result (omega arith) c.loop-lane.invariant (ap is_some (sym (c.at-found.ensures ∙ ap (λ (x : Lane). find (is_at c.args.place) x.rows) c.lane-item.is)) ∙ sym c.is_some.ensures ∙ c.if-is_some.true))

pub loop-lane-preserved : goal.loop-lane-preserved
loop-lane-preserved c =
    find_more (is_at c.args.place) c.args.lanes.now c.loop-lane.lane-index c.lane-item.result (omega arith) c.loop-lane.invariant (ap (λ (x : Lane). find (is_at c.args.place) x.rows) (sym c.lane-item.is) ∙ sym c.at-found.ensures ∙ none_of c.at-found.result (sym c.is_some.ensures ∙ c.if-is_some.false))
