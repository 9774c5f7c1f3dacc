use Rattle.std.proofs.Common.{◌≡◌, ◌++◌, length, take}
use Rattle.std.specs.Int.{w64, to_be_bytes}
use Rattle.std.specs.List.{concat, flat_map, AllByRecursion}
use Rattle.jm_format.specs.Format as format
use Rattle.jm_format.specs.Messages.{IsProperty}
use Rattle.jm_format.proofs.writing.put_properties.Given as goal

abbrev pub invariant-loop-index : goal.invariant-loop-index
invariant-loop-index l =
    (l.out.items ≡ l.fn.out.items ++ (to_be_bytes w64 (length l.properties) ++ concat (flat_map format.property_fields (take l.index l.properties))))
    × AllByRecursion IsProperty (take l.index l.properties)
