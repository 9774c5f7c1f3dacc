-- Facts on items that were read at their indexes, for those that hold lists by index.
use Rattle.std.proofs.Common.{◌≡◌, ℕ, List, get_or, Some, sym}
use Rattle.std.specs.List.{slice_get}
use Rattle.std.proofs.lemmas.Option.{get_or_from_slice_get}

-- what was found at an index stands there
pub item_read : {A : Type 0} (xs : List A) (i : ℕ) (x : A) → slice_get xs i ≡ Some x → x ≡ get_or xs i x
item_read xs i x e = sym (get_or_from_slice_get xs i x x e)
