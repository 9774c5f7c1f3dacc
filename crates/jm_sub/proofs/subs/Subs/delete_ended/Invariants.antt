use Rattle.std.proofs.Common.{◌≡◌, ◌≤◌, length}
use Rattle.jm_sub.proofs.Ended.{ended_from}
use Rattle.jm_sub.proofs.subs.Subs.delete_ended.Given as goal

abbrev pub invariant-loop-end : goal.invariant-loop-end
invariant-loop-end l = (l.self.list ≡ ended_from l.which l.attached l.end l.initial.self.list) × ((l.initial.self.spare ≤ l.self.spare) × (l.end ≤ length l.initial.self.list))

abbrev pub decreases-loop-end : goal.decreases-loop-end
decreases-loop-end l = l.end
