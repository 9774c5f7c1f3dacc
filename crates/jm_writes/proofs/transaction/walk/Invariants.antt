use Rattle.std.proofs.Common.{◌≡◌, IsTrue, take}
use Rattle.sqlite.specs.State.{HasCleanDisk, Survives, KeepsCommit}
use Rattle.sqlite.specs.Held.{state}
use Rattle.jm_tables.specs.Sound.{Serves}
use Rattle.jm_writes.specs.Steps.{Walks}
use Rattle.jm_writes.proofs.transaction.walk.Given as goal

abbrev pub invariant-loop-change : goal.invariant-loop-change
invariant-loop-change g l =
    let old = state g.S.Store l.fn.tx.conn.now in
    let now = state g.S.Store l.tx.conn.now in
    (l.tx.conn.ghost_name ≡ l.fn.tx.conn.ghost_name) × Survives old now (λ _. ⊥)
    × (HasCleanDisk now → KeepsCommit old now)
    × (HasCleanDisk now → IsTrue old.in_transaction → IsTrue old.is_open → Serves old.now → Walks old now (take l.change-index l.changes))
