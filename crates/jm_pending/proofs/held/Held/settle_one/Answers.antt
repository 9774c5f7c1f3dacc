use Rattle.std.proofs.Common.{refl, ◌∙◌, arith, sym}
use Rattle.jm_lanes.proofs.Holding.{covers_all, follows_all}
use Rattle.jm_lanes.proofs.Keeping.{held_filter}
use Rattle.jm_pending.proofs.Receiving.{known_filter, follows_still}
use Rattle.jm_lanes.proofs.Pushing.{few_rows}
use Rattle.jm_pending.proofs.Shown.{length_shown}
use Rattle.jm_pending.proofs.held.Held.settle_one.Goals as goal

pub invariant_of-self : goal.invariant_of-self
invariant_of-self c =
    let kept = held_filter _ c.self.inside.lanes c.settle-self-inside.new.self c.self.inside.room c.self.invariant.0 c.settle-self-inside.ensures.rows in
    (kept.0, known_filter _ _ _ _ kept.1 c.self.invariant.1, c.settle-self-inside.ensures.left ∙ sym (length_shown c.settle-self-inside.new.self))

pub settle-self-inside-requires-clause-covered : goal.settle-self-inside-requires-clause-covered
settle-self-inside-requires-clause-covered c = covers_all c.args.table.now c.self.inside.lanes (rw (← c.self.view_is) at c.requires)

pub returns-clause-table : goal.returns-clause-table
returns-clause-table c = rw (← c.self.view_is) (follows_all c.args.table.now c.settle-self-inside.new.table c.self.inside.lanes c.settle-self-inside.new.self c.settle-self-inside.ensures.table)

pub returns-clause-rows : goal.returns-clause-rows
returns-clause-rows c =
    rw (← c.self.view_is, (held_filter _ c.self.inside.lanes c.settle-self-inside.new.self c.self.inside.room c.self.invariant.0 c.settle-self-inside.ensures.rows).1) refl

pub settle-self-inside-requires-clause-few : goal.settle-self-inside-requires-clause-few
settle-self-inside-requires-clause-few c = omega (arith, few_rows c.self.inside.lanes c.self.inside.room c.self.invariant.0)

pub returns-then-is_empty-clause-rows : goal.returns-then-is_empty-clause-rows
returns-then-is_empty-clause-rows c =
    let none = rw (← c.self.view_is) at (c.is_empty.ensures c.if-is_empty.true) in
    rw (← c.self.view_is, none) refl

pub returns-then-is_empty-clause-table : goal.returns-then-is_empty-clause-table
returns-then-is_empty-clause-table c = rw (← c.self.view_is) (follows_still _ _ _ refl)
