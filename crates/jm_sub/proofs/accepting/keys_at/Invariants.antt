use Rattle.std.proofs.Common.{◌≡◌, ◌≤◌, Some, length, take, vec_capacity, vec_len}
use Rattle.std.specs.Prelude.{map, slice_get}
use Rattle.std.specs.Map.{keys_of}
use Rattle.jm_sub.proofs.accepting.keys_at.Given as goal

abbrev pub invariant-loop-place : goal.invariant-loop-place
invariant-loop-place l = record {
  there : map Some l.keys.items ≡ map (slice_get (keys_of l.items.entries)) (take l.place-index l.places);
  number : vec_len l.keys ≡ l.place-index;
  capacity : length l.places ≤ vec_capacity l.keys;
}
