use Rattle.std.proofs.Common.{◌≡◌, take}
use Rattle.std.specs.Option.{option_copied}
use Rattle.jm_keep.specs.Stored.{changed_all, nothing}
use Rattle.jm_keep.proofs.memory.MemKeep.definition.Given as goal

abbrev pub invariant-loop-change : goal.invariant-loop-change
invariant-loop-change l = option_copied l.definition ≡ (changed_all nothing (take l.change-index l.change-items)).definition l.key
