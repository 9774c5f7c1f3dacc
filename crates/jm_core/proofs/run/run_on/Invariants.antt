use Rattle.std.proofs.Common.{◌≡◌, ◌≤◌, ◌++◌, length, vec_len, vec_capacity}
use Rattle.std.specs.Vec.Iter.{into_iter_items}
use Rattle.jm_machine.specs.Client.{begun, RunOwed}
use Rattle.jm_tx.specs.Halves.{room}
use Rattle.jm_plans.specs.Provider.{state_of}
use Rattle.jm_core.specs.Runs.{progress}
use Rattle.jm_core.proofs.run.run_on.Given as goal

abbrev pub invariant-loop-call : goal.invariant-loop-call
invariant-loop-call l =
    RunOwed (begun (state_of l.fn.core)) l.yielded l.replies.items (progress (state_of l.core) l.halves) × (vec_len l.replies ≡ length l.yielded) × (length l.fn.calls.items ≤ vec_capacity l.replies) × (l.fn.calls.items ≡ l.yielded ++ into_iter_items l.call-iterator) × (length (into_iter_items l.call-iterator) ≤ room l.halves)
