use Rattle.std.proofs.Common.{◌≡◌, ◌≤◌, ◌++◌, suc, drop}
use Rattle.jm_runner.specs.Lone.{numbers_from}
use Rattle.jm_runner.proofs.subscription.numbers.Given as goal

-- the numbers so far, and those of the calls among the other items, are the numbers of all
abbrev pub invariant-loop-index : goal.invariant-loop-index
invariant-loop-index l =
    record {
      numbered : l.numbers.items ++ numbers_from l.opening (suc l.index) (drop l.index l.items) (drop l.made l.replies) ≡ numbers_from l.opening 1 l.items l.replies;
      bounded : l.made ≤ l.index;
    }
