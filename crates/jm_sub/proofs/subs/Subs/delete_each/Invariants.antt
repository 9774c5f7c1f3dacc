use Rattle.std.proofs.Common.{◌≡◌, ◌≤◌, length}
use Rattle.jm_sub.specs.Subscriptions.{without_own}
use Rattle.jm_sub.proofs.subs.Subs.delete_each.Given as goal

abbrev pub invariant-loop-index : goal.invariant-loop-index
invariant-loop-index l = (without_own l.which l.self.list ≡ without_own l.which l.initial.self.list) × (l.initial.self.spare ≤ l.self.spare)

abbrev pub decreases-loop-index : goal.decreases-loop-index
decreases-loop-index l = length l.self.list
