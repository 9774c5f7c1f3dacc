use Rattle.std.proofs.Common.{◌≡◌}
use Rattle.jm_loading.specs.Stations.{queues_in, subscriptions_in}
use Rattle.jm_loading.proofs.stations.sorted.Given as goal

abbrev pub invariant-loop-row : goal.invariant-loop-row
invariant-loop-row l = record {
  queues : l.stations.queues.items ≡ queues_in l.yielded;
  subscriptions : l.stations.subscriptions.items ≡ subscriptions_in l.yielded;
}
