use Rattle.std.proofs.Common.{◌≡◌, take}
use Rattle.jm_session.proofs.copies.copied_keys.Given as goal

abbrev pub invariant-loop-index : goal.invariant-loop-index
invariant-loop-index g l = l.keys.items ≡ take l.index l.set.keys
