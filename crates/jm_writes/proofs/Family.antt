-- A family is a small number.
use Rattle.std.proofs.Common.{◌≡◌, ℕ, ℤ, pos, List, [], ◌∷◌, Option, Some, None, subst, sym, ap, ◌∙◌, w64}
use Rattle.std.specs.Prelude.{FitsSigned}
use Rattle.std.proofs.lemmas.Int.{to_z-of_z}
use mir.Val.{of_z, to_z}
use Rattle.jm_dest.specs.declared.key.Key.{Key}
use Rattle.jm_dest.specs.declared.key.Key.TheVariants.{Queue, Own, SharedOwn, Durable}
use Rattle.jm_writes.specs.Columns.{durable_family, family_of}
use Rattle.std.proofs.Common.{arith}
use Rattle.std.proofs.lemmas.Int.{ints}

one_fits : FitsSigned w64 (pos 1)
one_fits = first_of (omega (arith, ints), grind arith)

two_fits : FitsSigned w64 (pos 2)
two_fits = first_of (omega (arith, ints), grind arith)

durable_fits : (client : Option (List ℕ)) (family : ℤ) → durable_family client ≡ Some family → FitsSigned w64 family
durable_fits None family h = let is : family ≡ pos 2 = cc in subst (FitsSigned w64) (sym is) two_fits
durable_fits (Some []) family h = absurd (cc)
durable_fits (Some (b ∷ more)) family h = let is : family ≡ pos 2 = cc in subst (FitsSigned w64) (sym is) two_fits

pub family_fits : (key : Key) (family : ℤ) → family_of key ≡ Some family → FitsSigned w64 family
family_fits (Queue name) family h = let is : family ≡ pos 1 = cc in subst (FitsSigned w64) (sym is) one_fits
family_fits (Own s c) family h = absurd (cc)
family_fits (SharedOwn client name) family h = absurd (cc)
family_fits (Durable client name) family h = durable_fits client family h

-- the family that the machine's number 2 stands for
pub family_two : (key : Key) (family : ℤ) → family_of key ≡ Some family → of_z w64 family ≡ 2 → family_of key ≡ Some (pos 2)
family_two key family h two =
    let is : family ≡ pos 2 = sym (to_z-of_z w64 family (family_fits key family h)) ∙ ap (to_z w64) two in
    h ∙ ap (λ f. Some f) is
