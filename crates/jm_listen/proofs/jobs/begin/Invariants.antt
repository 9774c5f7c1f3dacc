use Rattle.std.proofs.Common.{◌≡◌, ◌≤◌, map, length, vec_len}
use Rattle.std.specs.Vec.{vec_capacity}
use Rattle.jm_listen.proofs.jobs.begin.Given as goal

abbrev pub invariant-loop-job : goal.invariant-loop-job
invariant-loop-job g l = record {
  items : map (λ t. t.job) l.tasks.items ≡ l.yielded;
  count : vec_len l.tasks ≡ length l.yielded;
  room : length l.fn.jobs.items ≤ vec_capacity l.tasks;
}
