use Rattle.std.proofs.Common.{◌∙◌, arith}
use Rattle.jm_gaps.proofs.Items.{item_read}
use Rattle.jm_pending.specs.Rows.{Held}
use Rattle.jm_stations.proofs.Rising.{rising_few}
use Rattle.jm_stations.proofs.Sweeping.{added_others, added_rising}
use Rattle.jm_stations.proofs.outstanding.add_each_out.Goals as goal

pub add_out-requires : goal.add_out-requires
add_out-requires c = omega (arith, rising_few 0 c.loop-index.index c.loop-index.indexes.items c.loop-index.invariant.rising, c.loop-index.indexes.ok.0, c.loop-index.invariant.capacity, c.requires.room, c.loop-index-test.true)

pub loop-index-preserved : goal.loop-index-preserved
loop-index-preserved c =
    let h : Held = c.at.result.now in
    let lists = c.args.lists.now.items in
    let i = c.loop-index.index in
    record {
      rising = added_rising c.loop-index.indexes.items c.add_out.new.indexes.items i h c.loop-index.invariant.rising c.add_out.ensures.home c.add_out.ensures.out;
      others = added_others lists c.loop-index.indexes.items c.add_out.new.indexes.items i h (omega (arith, c.loop-index-test.true)) (item_read lists i h c.at.ensures) c.loop-index.invariant.others c.add_out.ensures.home c.add_out.ensures.out;
      capacity = c.add_out.ensures.capacity ∙ c.loop-index.invariant.capacity;
    }
