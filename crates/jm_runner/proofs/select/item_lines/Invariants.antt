use Rattle.std.proofs.Common.{◌≡◌, ◌++◌, suc, string_bytes}
use Rattle.std.specs.Vec.Iter.{into_iter_items}
use Rattle.jm_session.specs.Sends.{sent_of}
use Rattle.jm_runner.specs.Select.{lines, lines_from}
use Rattle.jm_runner.proofs.select.item_lines.Given as goal

-- the lines so far, and those of the other items, are the lines of all items
abbrev pub invariant-loop-index : goal.invariant-loop-index
invariant-loop-index l =
    string_bytes l.lines ++ lines_from l.selector (sent_of l.sends) (suc l.index-iterator.count) (into_iter_items l.index-iterator.iter)
    ≡ lines l.selector l.fn.items.items
