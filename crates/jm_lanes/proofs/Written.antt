-- Lanes are written back to where they stand.
use Rattle.std.proofs.Common.{◌≡◌, ℕ, List, ◌++◌, length, set, take, drop, ap, arith, ◌∙◌}
use Rattle.std.proofs.lemmas.List.{length-set, take-append-le, take_all}
use Rattle.jm_lane.specs.Lanes.{Lane}

-- as many lanes as there were take their places
pub written : (count : ℕ) (xs old ys : List Lane) → old ≡ xs → length old ≡ count → length ys ≡ length old → take count (ys ++ drop (length ys) xs) ≡ ys
written count xs old ys is number same =
    take-append-le count ys (drop (length ys) xs) (omega (arith, number, same)) ∙ take_all count ys (omega (arith, number, same))

-- one more row in one of them leaves as many
pub pushed_lanes : (xs ys : List Lane) (at : ℕ) (after : Lane) → ys ≡ set xs at after → length ys ≡ length xs
pushed_lanes xs ys at after e = ap length e ∙ length-set xs at after
