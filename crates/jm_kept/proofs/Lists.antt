-- Lists that were gone over in part.
use Rattle.std.proofs.Common.{◌≡◌, ◌++◌, List, [], ◌∷◌, length, refl, ap, sym, ◌∙◌, arith}

pub list_assoc : {A : Type 0} (a b c : List A) → a ++ (b ++ c) ≡ (a ++ b) ++ c
list_assoc [] b c = refl
list_assoc (x ∷ a) b c = ap (λ t. x ∷ t) (list_assoc a b c)

append_nil : {A : Type 0} (a : List A) → a ++ [] ≡ a
append_nil [] = refl
append_nil (x ∷ a) = ap (λ t. x ∷ t) (append_nil a)

-- where nothing is left, all was gone over
pub nothing_left : {A : Type 0} (all done rest : List A) → all ≡ done ++ rest → length rest ≡ 0 → done ≡ all
nothing_left all done [] e h = sym (e ∙ append_nil done)
nothing_left all done (x ∷ rest) e h = absurd (omega (arith, h))
