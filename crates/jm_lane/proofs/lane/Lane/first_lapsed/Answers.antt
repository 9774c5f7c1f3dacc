use Rattle.std.proofs.Common.{◌≡◌, ◌∙◌, sym, arith, length}
use Rattle.std.specs.List.{filter}
use Rattle.jm_lane.specs.Lanes.{is_below}
use Rattle.jm_lane.specs.Cursors.{has_lapsed, improves, lapsed_from}
use Rattle.jm_lane.proofs.Rising.{get_found}
use Rattle.jm_lane.proofs.Lowest.{none_lapsed, low_not_lapsed, found_from, passes_from, past_end, few_below}
use Rattle.jm_lane.proofs.lane.Lane.first_lapsed.Goals as goal

pub returns-then-get-self : goal.returns-then-get-self
returns-then-get-self c =
    let rows = c.self.inside.rows.items in
    let end = past_end rows c.len.result (omega arith) in
    rw (← c.self.view_is) (end ∙ sym (none_lapsed c.args.best.now c.args.now c.self.inside.least c.args.place rows c.self.invariant.lane.bound (omega arith)))

pub first_lapsed-requires-clause-in_range : goal.first_lapsed-requires-clause-in_range
first_lapsed-requires-clause-in_range c =
    let below = rw (← c.self.view_is) at c.below.ensures in
    omega (arith, below, few_below (is_below c.args.place) c.self.inside.rows.items, c.self.invariant.lane.low_in)

pub returns : goal.returns
returns c =
    let rows = c.self.inside.rows.items in
    let best = c.args.best.now in
    let p = c.args.place in
    let q = has_lapsed c.args.now in
    let lane = c.self.invariant.lane in
    let at = c.first_lapsed.result in
    let from = c.max-from.result in
    let below : c.below.result ≡ length (filter (is_below p) rows) = rw (← c.self.view_is) at c.below.ensures in
    rw (← c.self.view_is) (get_found (improves best (lapsed_from p c.args.now)) rows at (found_from best p q rows c.self.inside.low c.below.result from at lane.rising below (low_not_lapsed c.args.now _ lane.before) lane.low_in (omega arith) c.first_lapsed.ensures.within c.first_lapsed.ensures.before) (λ d l. passes_from best p q rows at d lane.rising (omega (arith, below, c.first_lapsed.ensures.from)) l (c.first_lapsed.ensures.found d l)))
