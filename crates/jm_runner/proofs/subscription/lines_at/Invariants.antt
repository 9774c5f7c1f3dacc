use Rattle.std.proofs.Common.{◌≡◌, ◌++◌, drop, string_bytes}
use Rattle.jm_runner.specs.Lone.{lines_at}
use Rattle.jm_runner.proofs.subscription.lines_at.Given as goal

-- the lines so far, and those of the other replies, are the lines of all
abbrev pub invariant-loop-placed : goal.invariant-loop-placed
invariant-loop-placed l = string_bytes l.lines ++ lines_at l.numbers (drop l.placed-index l.replies) ≡ lines_at l.numbers l.replies
