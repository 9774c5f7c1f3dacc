use Rattle.std.proofs.Common.{◌∙◌, sym, refl}
use Rattle.jm_lanes.specs.Lanes.{rows_of}
use Rattle.jm_lanes.proofs.Home.{home_shown}
use Rattle.jm_pending.proofs.Receiving.{home_known}
use Rattle.jm_pending.proofs.held.Held.is_home.Goals as goal

pub returns-then-is_nobody : goal.returns-then-is_nobody
returns-then-is_nobody c =
    rw (← c.self.view_is) (c.if-is_nobody.true ∙ sym (home_known c.self.inside.receivers (rows_of c.self.inside.lanes) (c.is_nobody.ensures c.if-is_nobody.true) c.self.invariant.1))

pub returns-else-is_nobody : goal.returns-else-is_nobody
returns-else-is_nobody c = rw (← c.self.view_is) (c.are_home.ensures ∙ sym (home_shown c.self.inside.lanes))

pub returns-then-is_empty : goal.returns-then-is_empty
returns-then-is_empty c = rw (c.is_empty.ensures c.if-is_empty.true) refl
