use Rattle.std.proofs.Common.{false, refl}
use Rattle.jm_lanes.proofs.Keeping.{held_filter}
use Rattle.jm_pending.specs.declared.receivers.Receivers.TheVariants.{Nobody}
use Rattle.jm_lanes.specs.Lanes.{rows_of}
use Rattle.jm_pending.proofs.Receiving.{known_none, follows_still, known_no_rows}
use Rattle.jm_lanes.proofs.Holding.{covers_all, follows_all}
use Rattle.jm_pending.proofs.held.Held.clear.Goals as goal

pub invariant_of-self-2 : goal.invariant_of-self-2
invariant_of-self-2 c =
    let kept = held_filter (λ r. false) c.self.inside.lanes c.clear.new.self c.self.inside.room c.self.invariant.0 c.clear.ensures.rows in
    (kept.0, known_none Nobody (rows_of c.self.inside.lanes) (rows_of c.clear.new.self) kept.1, rw c.clear.ensures.gone refl)

pub clear-requires : goal.clear-requires
clear-requires c = covers_all c.args.table.now c.self.inside.lanes (rw (← c.self.view_is) at c.requires)

pub returns-clause-table : goal.returns-clause-table
returns-clause-table c = rw (← c.self.view_is) (follows_all c.args.table.now c.clear.new.table c.self.inside.lanes c.clear.new.self c.clear.ensures.table)

pub returns-clause-rows : goal.returns-clause-rows
returns-clause-rows c = rw (← c.self.view_is, c.clear.ensures.gone) refl

pub returns-then-is_empty-clause-rows : goal.returns-then-is_empty-clause-rows
returns-then-is_empty-clause-rows c =
    let none = rw (← c.self.view_is) at (c.is_empty.ensures c.if-is_empty.true) in
    rw (← c.self.view_is, none) refl

pub returns-then-is_empty-clause-table : goal.returns-then-is_empty-clause-table
returns-then-is_empty-clause-table c = rw (← c.self.view_is) (follows_still _ _ _ refl)

pub invariant_of-self : goal.invariant_of-self
invariant_of-self c =
    let none = rw (← c.self.view_is) at (c.is_empty.ensures c.if-is_empty.true) in
    (c.self.invariant.0, known_no_rows Nobody (rows_of c.self.inside.lanes) none, c.self.invariant.2)
