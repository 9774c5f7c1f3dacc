use Rattle.std.proofs.Common.{◌≡◌, ◌≤◌, map, length, vec_len}
use Rattle.std.specs.Vec.{vec_capacity}
use Rattle.jm_listen.proofs.jobs.end.Given as goal

abbrev pub invariant-loop-task : goal.invariant-loop-task
invariant-loop-task g l = record {
  jobs : l.jobs.items ≡ map (λ t. t.job) l.yielded;
  counts : l.counts.items ≡ map (λ t. t.ended) l.yielded;
  jobs_count : vec_len l.jobs ≡ length l.yielded;
  counts_count : vec_len l.counts ≡ length l.yielded;
  jobs_room : length l.fn.tasks.items ≤ vec_capacity l.jobs;
  counts_room : length l.fn.tasks.items ≤ vec_capacity l.counts;
}
