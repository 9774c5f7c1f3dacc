-- What the lanes show through each call.
use Rattle.std.proofs.Common.{◌≡◌, ◌<◌, ◌+◌, ◌-◌, ◌^◌, ℕ, min, Bool, List, length, map, ap, ◌∙◌, refl, arith}
use Rattle.std.specs.List.{filter}
use Rattle.std.proofs.lemmas.List.{map-append}
use Rattle.std.proofs.lemmas.List.Elements.{filter-append}
use Rattle.std.proofs.lemmas.Bool.Decides.{nat_tests}
use Rattle.jm_machine.specs.Machine.{one_missed}
use Rattle.jm_lanes.specs.Lists.{sorted}
use Rattle.jm_lane.specs.declared.row.Row.{Row}
use Rattle.jm_lane.specs.Rows.{back, IsRising}
use Rattle.jm_lane.specs.Lanes.{Lane}
use Rattle.jm_lanes.specs.Lanes.{EachBecomes, all_rows, is_lower, rows_of}
use Rattle.jm_lanes.proofs.Edited.{all_rows_each}
use Rattle.jm_lanes.proofs.Places.{sorted-filter, sorted-map}
use Rattle.jm_lanes.proofs.Pushing.{length_sorted}
use Rattle.jm_lane.proofs.Steps.{back_place}

-- as many rows are shown as stand in the lanes
pub length_shown : (xs : List Lane) → length (rows_of xs) ≡ length (all_rows xs)
length_shown xs = length_sorted (all_rows xs)

-- rows that do not pass go
pub filter_shown : (p : Row → Bool) (xs ys : List Lane) → IsRising (rows_of xs) → EachBecomes (filter p) xs ys → rows_of ys ≡ filter p (rows_of xs)
filter_shown p xs ys rising e =
    ap (sorted is_lower) (all_rows_each (filter p) refl (filter-append p) xs ys e) ∙ sorted-filter p (all_rows xs) rising

-- rows that pass wait again
pub back_shown : (passes : Row → Bool) (xs ys : List Lane) → EachBecomes (map (back passes)) xs ys → rows_of ys ≡ map (back passes) (rows_of xs)
back_shown passes xs ys e =
    ap (sorted is_lower) (all_rows_each (map (back passes)) refl (map-append (back passes)) xs ys e) ∙ sorted-map (back passes) (back_place passes) (all_rows xs)

-- one more is missed, up to the greatest number
pub missed_more : (n : ℕ) → n < 2 ^ 64 → min (n + 1) (2 ^ 64 - 1) ≡ one_missed n
missed_more n l = grind (arith, nat_tests, l)
