use Rattle.std.proofs.Common.{refl, ◌∙◌, arith, sym}
use Rattle.jm_machine.specs.Machine.{are_meant}
use Rattle.jm_lane.specs.declared.row.Outs.TheVariants.{Of}
use Rattle.jm_lane.specs.Rows.{keeps}
use Rattle.jm_lanes.specs.Lanes.{rows_of}
use Rattle.jm_lanes.proofs.Holding.{covers_all, follows_all}
use Rattle.jm_lanes.proofs.Keeping.{held_filter}
use Rattle.jm_pending.proofs.Receiving.{known_left, none_go, follows_still, known_no_rows}
use Rattle.jm_lanes.proofs.Pushing.{few_rows}
use Rattle.jm_pending.proofs.Shown.{length_shown}
use Rattle.jm_pending.specs.declared.receivers.Receivers.TheVariants.{Nobody}
use Rattle.jm_pending.proofs.held.Held.settle.Goals as goal

pub invariant_of-self-then-include : goal.invariant_of-self-then-include
invariant_of-self-then-include c =
    let kept = held_filter (keeps (Of c.args.which.now)) c.self.inside.lanes c.settle-self-inside.new.self c.self.inside.room c.self.invariant.0 c.settle-self-inside.ensures.rows in
    (kept.0, known_left (are_meant c.args.which.now) c.self.inside.receivers c.without-self-inside.result (rows_of c.self.inside.lanes) (rows_of c.settle-self-inside.new.self) kept.1 c.without-self-inside.ensures c.self.invariant.1, c.settle-self-inside.ensures.left ∙ sym (length_shown c.settle-self-inside.new.self))

pub settle-self-inside-requires-clause-covered : goal.settle-self-inside-requires-clause-covered
settle-self-inside-requires-clause-covered c = covers_all c.args.table.now c.self.inside.lanes (rw (← c.self.view_is) at c.requires)

pub returns-then-include-clause-rows : goal.returns-then-include-clause-rows
returns-then-include-clause-rows c =
    rw (← c.self.view_is, (held_filter (keeps (Of c.args.which.now)) c.self.inside.lanes c.settle-self-inside.new.self c.self.inside.room c.self.invariant.0 c.settle-self-inside.ensures.rows).1) refl

pub returns-then-include-clause-table : goal.returns-then-include-clause-table
returns-then-include-clause-table c = rw (← c.self.view_is) (follows_all c.args.table.now c.settle-self-inside.new.table c.self.inside.lanes c.settle-self-inside.new.self c.settle-self-inside.ensures.table)

pub returns-else-include-clause-rows : goal.returns-else-include-clause-rows
returns-else-include-clause-rows c =
    rw (← c.self.view_is, none_go (are_meant c.args.which.now) c.self.inside.receivers (rows_of c.self.inside.lanes) (c.include.ensures c.if-include.false) c.self.invariant.1) refl

pub settle-self-inside-requires-clause-few : goal.settle-self-inside-requires-clause-few
settle-self-inside-requires-clause-few c = omega (arith, few_rows c.self.inside.lanes c.self.inside.room c.self.invariant.0)

pub returns-then-is_empty-clause-rows : goal.returns-then-is_empty-clause-rows
returns-then-is_empty-clause-rows c =
    let none = rw (← c.self.view_is) at (c.is_empty.ensures c.if-is_empty.true) in
    rw (← c.self.view_is, none) refl

pub returns-then-is_empty-clause-table : goal.returns-then-is_empty-clause-table
returns-then-is_empty-clause-table c = rw (← c.self.view_is) (follows_still _ _ _ refl)

pub invariant_of-self : goal.invariant_of-self
invariant_of-self c =
    let none = rw (← c.self.view_is) at (c.is_empty.ensures c.if-is_empty.true) in
    (c.self.invariant.0, known_no_rows Nobody (rows_of c.self.inside.lanes) none, c.self.invariant.2)
