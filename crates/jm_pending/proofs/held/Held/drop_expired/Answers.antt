use Rattle.std.proofs.Common.{◌∙◌, arith, refl, sym}
use Rattle.jm_lane.specs.Rows.{stays}
use Rattle.jm_lanes.specs.Lanes.{rows_of}
use Rattle.jm_lanes.proofs.Holding.{covers_all, follows_all}
use Rattle.jm_lanes.proofs.Keeping.{held_filter}
use Rattle.jm_lanes.proofs.Pushing.{few_rows}
use Rattle.jm_pending.proofs.Receiving.{follows_still, known_filter}
use Rattle.jm_pending.proofs.Shown.{length_shown}
use Rattle.jm_pending.proofs.held.Held.drop_expired.Goals as goal

pub drop_expired-self-inside-requires-clause-covered : goal.drop_expired-self-inside-requires-clause-covered
drop_expired-self-inside-requires-clause-covered c = covers_all c.args.table.now c.self.inside.lanes (rw (← c.self.view_is) at c.requires)

pub drop_expired-self-inside-requires-clause-few : goal.drop_expired-self-inside-requires-clause-few
drop_expired-self-inside-requires-clause-few c = omega (arith, few_rows c.self.inside.lanes c.self.inside.room c.self.invariant.0)

pub invariant_of-self : goal.invariant_of-self
invariant_of-self c =
    let kept = held_filter (stays c.args.now) c.self.inside.lanes c.drop_expired-self-inside.new.self c.self.inside.room c.self.invariant.0 c.drop_expired-self-inside.ensures.rows in (
      kept.0,
      known_filter c.self.inside.receivers (stays c.args.now) (rows_of c.self.inside.lanes) (rows_of c.drop_expired-self-inside.new.self) kept.1 c.self.invariant.1,
      c.drop_expired-self-inside.ensures.left ∙ sym (length_shown c.drop_expired-self-inside.new.self),
    )

pub returns-then-not-is_empty-clause-rows : goal.returns-then-not-is_empty-clause-rows
returns-then-not-is_empty-clause-rows c =
    rw (← c.self.view_is, (held_filter (stays c.args.now) c.self.inside.lanes c.drop_expired-self-inside.new.self c.self.inside.room c.self.invariant.0 c.drop_expired-self-inside.ensures.rows).1) refl

pub returns-then-not-is_empty-clause-table : goal.returns-then-not-is_empty-clause-table
returns-then-not-is_empty-clause-table c =
    rw (← c.self.view_is) (follows_all c.args.table.now c.drop_expired-self-inside.new.table c.self.inside.lanes c.drop_expired-self-inside.new.self c.drop_expired-self-inside.ensures.table)

pub returns-else-not-is_empty-clause-rows : goal.returns-else-not-is_empty-clause-rows
returns-else-not-is_empty-clause-rows c =
    let none = rw (← c.self.view_is) at (c.is_empty.ensures c.if-not-is_empty.false) in
    rw (← c.self.view_is, none) refl

pub returns-else-not-is_empty-clause-table : goal.returns-else-not-is_empty-clause-table
returns-else-not-is_empty-clause-table c = follows_still _ _ _ refl
