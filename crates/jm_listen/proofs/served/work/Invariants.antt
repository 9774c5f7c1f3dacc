use Rattle.std.proofs.Common.{◌≤◌}
use Rattle.jm_listen.specs.Runs.{JobRan}
use Rattle.jm_listen.proofs.served.work.Given as goal

abbrev pub invariant-loop-number : goal.invariant-loop-number
invariant-loop-number g l = record {
  ran : JobRan l.number l.initial.job l.job l.ended;
  small : l.ended ≤ l.number;
}
