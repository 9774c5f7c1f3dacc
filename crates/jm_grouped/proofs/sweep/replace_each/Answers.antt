use Rattle.std.proofs.Common.{◌<◌, arith, get_or, length}
use Rattle.std.proofs.lemmas.List.{get_or_default}
use Rattle.std.proofs.lemmas.List.Edits.{map_over_more}
use Rattle.jm_grouped.proofs.sweep.replace_each.Goals as goal

pub loop-slot-preserved : goal.loop-slot-preserved
loop-slot-preserved c =
    let ys = c.loop-slot.order in
    let i = c.loop-slot.slot-index in
    let within : i < length ys = omega (arith, c.loop-slot.auto.order, c.loop-slot-test.true) in
    map_over_more (λ n. get_or c.args.marks.now n 0) c.args.order.now ys i (get_or ys i 0) c.loop-slot-test.true c.loop-slot.invariant (get_or_default ys i 0 (get_or ys i 0) within)
