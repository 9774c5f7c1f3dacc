use Rattle.std.proofs.Common.{◌≡◌, take}
use Rattle.jm_keep.specs.Stored.{changed_all, nothing}
use Rattle.jm_keep.proofs.memory.MemKeep.due.Given as goal

abbrev pub invariant-loop-change : goal.invariant-loop-change
invariant-loop-change l = l.due ≡ (changed_all nothing (take l.change-index l.change-items)).due l.place
