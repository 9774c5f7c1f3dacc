-- What is left in the lanes where no row passes.
use Rattle.std.proofs.Common.{◌≡◌, false, List, [], ◌∙◌, refl}
use Rattle.std.specs.List.{filter}
use Rattle.std.proofs.lemmas.List.Elements.{filter-append}
use Rattle.jm_lane.specs.Lanes.{Lane}
use Rattle.jm_lanes.specs.Lanes.{EachBecomes, all_rows}
use Rattle.jm_lanes.proofs.Edited.{all_rows_each}
use Rattle.jm_lane.proofs.Rolling.{filter_none}

-- where no row passes, none is left
pub none_left : (xs ys : List Lane) → EachBecomes (filter (λ r. false)) xs ys → all_rows ys ≡ []
none_left xs ys e = all_rows_each (filter (λ r. false)) refl (filter-append (λ r. false)) xs ys e ∙ filter_none (all_rows xs)
