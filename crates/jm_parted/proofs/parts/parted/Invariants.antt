use Rattle.std.proofs.Common.{◌≡◌, ◌<◌, ◌++◌, ℕ, length, drop, vec_len}
use Rattle.std.specs.Prelude.{slice_index_or}
use Rattle.std.specs.Vec.Iter.{into_iter_items}
use Rattle.jm_parted.specs.Parts.{of_owner}
use Rattle.jm_parted.proofs.parts.parted.Given as goal

-- what is in the parts, and those of the other items, are the parts of all items
abbrev pub invariant-loop-index : goal.invariant-loop-index
invariant-loop-index g l = record {
  len : vec_len l.parts ≡ l.count;
  left : length (drop l.index-iterator.count l.owners) ≡ length (into_iter_items l.index-iterator.iter);
  parts : (k : ℕ) (d : _) → k < l.count → (slice_index_or l.parts.items k d).items ++ of_owner k (drop l.index-iterator.count l.owners) (into_iter_items l.index-iterator.iter)
      ≡ of_owner k l.owners l.fn.items.items;
}
