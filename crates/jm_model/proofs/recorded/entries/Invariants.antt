use Rattle.std.proofs.Common.{◌≡◌, ◌++◌, length, drop}
use Rattle.jm_machine.specs.Entries.{entries_of}
use Rattle.jm_model.proofs.recorded.entries.Given as goal

abbrev pub invariant-loop-call : goal.invariant-loop-call
invariant-loop-call l = l.entries.items ++ entries_of l.opening (drop (length l.yielded) l.calls) (drop (length l.yielded) l.replies) ≡ entries_of l.opening l.calls l.replies
