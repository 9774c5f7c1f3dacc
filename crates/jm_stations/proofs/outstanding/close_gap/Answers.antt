use Rattle.std.proofs.Common.{◌<◌, ◌∙◌, arith, ap, get_or, length, set}
use Rattle.std.proofs.lemmas.List.{get_or_default}
use Rattle.std.proofs.lemmas.List.Edits.{map_over_more}
use Rattle.jm_stations.specs.Outstanding.{moved_up}
use Rattle.jm_stations.proofs.outstanding.close_gap.Goals as goal

pub loop-other-preserved : goal.loop-other-preserved
loop-other-preserved c =
    let ys = c.loop-other.indexes in
    let i = c.loop-other.other-index in
    let within : i < length ys = omega (arith, c.loop-other.auto.indexes, c.loop-other-test.true) in
    ap (set ys i) c.moved_up.ensures
    ∙ map_over_more (moved_up c.args.index) c.args.indexes.now ys i (get_or ys i 0) c.loop-other-test.true c.loop-other.invariant (get_or_default ys i 0 (get_or ys i 0) within)
