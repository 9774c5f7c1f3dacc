use Rattle.std.proofs.Common.{◌∙◌, ◌++◌, ap, sym}
use Rattle.jm_loading.specs.Stations.{queues_of, subscriptions_of}
use Rattle.jm_loading.proofs.Sorted.{queues_more, subscriptions_more}
use Rattle.jm_loading.proofs.stations.sorted.Goals as goal

pub loop-row-preserved : goal.loop-row-preserved
loop-row-preserved c = record {
  queues = c.in_ok-add.ensures.queues ∙ ap (λ xs. xs ++ queues_of c.in-Some.row) c.loop-row.invariant.queues ∙ sym (queues_more c.loop-row.yielded c.in-Some.row);
  subscriptions = c.in_ok-add.ensures.subscriptions ∙ ap (λ xs. xs ++ subscriptions_of c.in-Some.row) c.loop-row.invariant.subscriptions ∙ sym (subscriptions_more c.loop-row.yielded c.in-Some.row);
}
