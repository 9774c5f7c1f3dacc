use Rattle.std.proofs.Common.{◌<◌, ◌∙◌, Bool, [], length, not, sym, arith}
use Rattle.std.proofs.lemmas.List.Edits.{length-remove}
use Rattle.jm_dest.specs.declared.key.Key.{Key}
use Rattle.jm_dest.specs.declared.key.Key.TheVariants.{Queue}
use Rattle.jm_machine.specs.Attached.{ended}
use Rattle.jm_stations.specs.Kept.{lists_under}
use Rattle.jm_stations.proofs.Closing.{left_all, left_goes, left_stays}
use Rattle.jm_stations.proofs.Receiving.{no_rows}
use Rattle.jm_stations.proofs.lists.keep_each.Goals as goal
use Rattle.jm_stations.proofs.lists.keep_each.Goals.{then-stays, else-stays}

pub overflow_add-at : goal.overflow_add-at
overflow_add-at c = omega arith

pub loop-index-preserved : goal.loop-index-preserved
loop-index-preserved c =
    let p : Key → Bool = λ k. not (ended c.args.which.now c.args.attached.now k) in
    let keys = c.args.keys.now.keys in
    let all = lists_under p keys c.args.lists.now.items in
    let lists = c.loop-index.lists.items in
    let at = c.loop-index.at in
    let i = c.loop-index.index in
    let so_far = c.loop-index.invariant.lists in
    let within : i < length keys = omega arith in
    let inside : at < length lists = omega (arith, c.loop-index.invariant.number) in
    elim c.if-stays.branch [
      | then-stays w ↦ rw (w.at-is, w.lists-is) (record {
        number = omega (arith, c.loop-index.invariant.number);
        behind = omega (arith, c.loop-index.invariant.behind);
        lists = left_stays p keys i (Queue []) lists at all so_far no_rows within inside (sym c.stays.ensures ∙ w.if-stays.true);
        spare = c.loop-index.invariant.spare;
      })
      | else-stays w ↦ rw (w.at-is, w.lists-is, w.remove-gone.ensures.items) (record {
        number = omega (arith, c.loop-index.invariant.number, length-remove lists at inside);
        behind = omega (arith, c.loop-index.invariant.behind);
        lists = left_goes p keys i (Queue []) lists at all so_far no_rows within inside (sym c.stays.ensures ∙ w.if-stays.false);
        spare = omega (arith, c.loop-index.invariant.spare, w.remove-gone.ensures.spare);
      })
    ]

pub returns-clause-lists : goal.returns-clause-lists
returns-clause-lists c =
    let p : Key → Bool = λ k. not (ended c.args.which.now c.args.attached.now k) in
    let keys = c.args.keys.now.keys in
    left_all p keys c.loop-index.index (Queue []) c.loop-index.lists.items c.loop-index.at (lists_under p keys c.args.lists.now.items) c.loop-index.invariant.lists (omega arith) (omega (arith, c.loop-index.invariant.number))
