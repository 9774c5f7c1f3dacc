use Rattle.std.proofs.Common.{◌≡◌, ◌+◌, ◌-◌, min, length, take}
use Rattle.std.specs.List.{concat, flat_map}
use Rattle.jm_format.specs.Limits.{length_end}
use Rattle.jm_format.specs.Format as format
use Rattle.jm_format.proofs.length.properties_length.Given as goal

abbrev pub invariant-loop-index : goal.invariant-loop-index
invariant-loop-index l = l.total ≡ min (8 + length (concat (flat_map format.property_fields (take l.index l.properties)))) (length_end - 1)
