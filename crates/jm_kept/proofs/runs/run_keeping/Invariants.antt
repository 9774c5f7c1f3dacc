use Rattle.std.proofs.Common.{◌≡◌, ◌≤◌, ◌++◌, length, vec_len, vec_capacity, Err}
use Rattle.std.specs.Prelude.{Contains, IsTrue}
use Rattle.std.specs.Vec.Iter.{into_iter_items}
use Rattle.jm_base.specs.declared.refusal.Refusal.TheVariants.{Store}
use Rattle.jm_machine.specs.Client.{begun}
use Rattle.jm_tx.specs.Halves.{room}
use Rattle.jm_plans.specs.Provider.{state_of}
use Rattle.jm_core.specs.Runs.{progress}
use Rattle.jm_keep.specs.Persisted.{IsPersisted}
use Rattle.jm_kept.specs.Runs.{HasFailed, RunKept}
use Rattle.jm_kept.proofs.runs.run_keeping.Given as goal

abbrev pub invariant-loop-call : goal.invariant-loop-call
invariant-loop-call g l = record {
  owed : RunKept (begun (state_of l.fn.core)) l.yielded l.replies.items (progress (state_of l.core) l.halves);
  told : vec_len l.replies ≡ length l.yielded;
  capacity : length l.fn.calls.items ≤ vec_capacity l.replies;
  rest : l.fn.calls.items ≡ l.yielded ++ into_iter_items l.call-iterator;
  some : length (into_iter_items l.call-iterator) ≤ room l.halves;
  store : Contains l.replies.items (Err Store) → HasFailed (g.K.Keep.faults l.fn.keeper) (g.K.Keep.faults l.keeper);
  faults : g.K.Keep.faults l.fn.keeper ≤ g.K.Keep.faults l.keeper;
  clean : IsTrue (g.K.Keep.is_clean l.keeper) → IsTrue (g.K.Keep.is_clean l.fn.keeper);
  kept : IsTrue (g.K.Keep.is_clean l.keeper) → IsPersisted (state_of l.fn.core) (g.K.Keep.stored l.fn.keeper) → IsPersisted (state_of l.core) (g.K.Keep.stored l.keeper);
}
