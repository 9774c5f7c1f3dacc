use Rattle.std.proofs.Common.{◌≡◌, take}
use Rattle.jm_sub.specs.Entries.{subscriptions_of}
use Rattle.jm_sub.proofs.subs.copied.Given as goal

abbrev pub invariant-loop-at : goal.invariant-loop-at
invariant-loop-at l = l.copy.list ≡ subscriptions_of (take l.at l.items.entries)
