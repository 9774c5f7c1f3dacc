use Rattle.std.proofs.Common.{◌≡◌, ◌++◌, suc, drop, string_bytes}
use Rattle.jm_scenario.specs.Lines.{lines, lines_from}
use Rattle.jm_scenario.proofs.lines.write_replies.Given as goal

abbrev pub invariant-loop-index : goal.invariant-loop-index
invariant-loop-index l = string_bytes l.lines ++ lines_from (suc l.index) (drop l.index l.replies) ≡ lines l.replies
