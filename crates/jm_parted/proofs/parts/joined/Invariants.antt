use Rattle.std.proofs.Common.{◌≡◌, ◌≤◌, ◌<◌, ◌++◌, ℕ, length, reverse, take, drop, vec_len}
use Rattle.std.specs.Prelude.{slice_index_or}
use Rattle.std.specs.Vec.{vec_capacity}
use Rattle.jm_parted.specs.Parts.{count_of, of_owner}
use Rattle.jm_parted.proofs.parts.joined.Given as goal

-- what stands in the list, and what is left of each part, from its end to its beginning
abbrev pub invariant-loop-owner : goal.invariant-loop-owner
invariant-loop-owner g l = record {
  len : vec_len l.list ≡ l.owner-index;
  room : length l.owners ≤ vec_capacity l.list;
  count : vec_len l.parts ≡ vec_len l.fn.parts;
  parts : (k : ℕ) (d : _) → k < vec_len l.fn.parts → of_owner k (take l.owner-index l.owners) l.list.items ++ reverse (slice_index_or l.parts.items k d).items
      ≡ (slice_index_or l.fn.parts.items k d).items;
  left : (k : ℕ) (d : _) → k < vec_len l.fn.parts → vec_len (slice_index_or l.parts.items k d) ≡ count_of k (drop l.owner-index l.owners);
}
