use Rattle.std.proofs.Common.{◌≡◌, arith, length}
use Rattle.std.specs.List.{filter}
use Rattle.std.proofs.lemmas.List.Elements.{All-nil}
use Rattle.jm_machine.specs.Machine.{are_meant}
use Rattle.jm_lane.specs.Rows.{is_out}
use Rattle.jm_lane.specs.Lanes.{is_below}
use Rattle.jm_lane.specs.Cursors.{improves, out_from}
use Rattle.jm_lane.proofs.Rising.{get_found}
use Rattle.jm_lane.proofs.Lowest.{found_from, passes_from, few_below}
use Rattle.jm_lane.proofs.lane.Lane.first_out.Goals as goal

pub first_out-requires-clause-in_range : goal.first_out-requires-clause-in_range
first_out-requires-clause-in_range c =
    let below = rw (← c.self.view_is) at c.below.ensures in
    omega (arith, below, few_below (is_below c.args.place) c.self.inside.rows.items)

pub returns : goal.returns
returns c =
    let rows = c.self.inside.rows.items in
    let best = c.args.best.now in
    let p = c.args.place in
    let w = are_meant c.args.which.now in
    let q = is_out w in
    let lane = c.self.invariant.lane in
    let at = c.first_out.result in
    let below : c.below.result ≡ length (filter (is_below p) rows) = rw (← c.self.view_is) at c.below.ensures in
    rw (← c.self.view_is) (get_found (improves best (out_from p w)) rows at (found_from best p q rows 0 c.below.result c.below.result at lane.rising below (All-nil _) (omega arith) (omega arith) c.first_out.ensures.within c.first_out.ensures.before) (λ d l. passes_from best p q rows at d lane.rising (omega (arith, below, c.first_out.ensures.from)) l (c.first_out.ensures.found d l)))
