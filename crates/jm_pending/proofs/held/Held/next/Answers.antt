use Rattle.std.proofs.Common.{refl}
use Rattle.jm_pending.proofs.held.Held.next.Goals as goal

pub returns-then-is_empty-clause-next : goal.returns-then-is_empty-clause-next
returns-then-is_empty-clause-next c =
    rw (c.is_empty.ensures c.if-is_empty.true) refl
