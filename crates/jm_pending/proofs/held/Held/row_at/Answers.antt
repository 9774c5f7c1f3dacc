use Rattle.std.proofs.Common.{arith, sym}
use Rattle.std.proofs.lemmas.Option.{slice_get_past}
use Rattle.jm_lanes.specs.Lanes.{rows_of}
use Rattle.jm_lanes.proofs.Pushing.{few_rows}
use Rattle.jm_pending.proofs.Shown.{length_shown}
use Rattle.jm_pending.proofs.held.Held.row_at.Goals as goal

pub row_at-requires-clause-few : goal.row_at-requires-clause-few
row_at-requires-clause-few c = omega (arith, few_rows c.self.inside.lanes c.self.inside.room c.self.invariant.0)

pub row_at-requires-clause-some : goal.row_at-requires-clause-some
row_at-requires-clause-some c = omega (arith, c.self.invariant.2, length_shown c.self.inside.lanes)

pub returns-else-index-self : goal.returns-else-index-self
returns-else-index-self c =
    rw (← c.self.view_is) (sym (slice_get_past (rows_of c.self.inside.lanes) c.args.index (omega (arith, c.self.invariant.2))))
