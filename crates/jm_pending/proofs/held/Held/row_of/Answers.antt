use Rattle.std.proofs.Common.{refl}
use Rattle.jm_pending.proofs.held.Held.row_of.Goals as goal

pub returns-then-is_empty : goal.returns-then-is_empty
returns-then-is_empty c =
    rw (c.is_empty.ensures c.if-is_empty.true) refl
