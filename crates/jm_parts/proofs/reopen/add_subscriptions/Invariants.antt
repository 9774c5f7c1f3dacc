use Rattle.std.proofs.Common.{◌≡◌, ◌++◌}
use Rattle.std.specs.Vec.Iter.{into_iter_items}
use Rattle.jm_parts.specs.Reopening.{AreMade}
use Rattle.jm_parts.proofs.reopen.add_subscriptions.Given as goal

abbrev pub invariant-loop-subscription : goal.invariant-loop-subscription
invariant-loop-subscription l = record {
  subscriptions : l.fn.subscriptions.items ≡ l.yielded ++ into_iter_items l.subscription-iterator;
  made : AreMade l.yielded l.subs.list l.stations.keys l.stations.list;
  next_place : l.stations.next_place ≡ l.fn.stations.next_place;
}
