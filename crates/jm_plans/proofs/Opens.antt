-- When a core may be made.
use Rattle.std.proofs.Common.{◌≡◌, ◌≤◌, ◌∙◌, ℕ, Bool, true, ap, sym}
use Rattle.std.specs.Prelude.{◌&&◌, nat_le}
use Rattle.std.proofs.lemmas.Bool.{le-leb}
use Rattle.jm_plans.specs.Provider.{greatest_limit, may_open}

-- where both numbers are in their range, as two tests told
pub opens : (opening limit : ℕ) (told : Bool) → 1 ≤ opening → told ≡ (nat_le 1 limit && nat_le limit greatest_limit) → told ≡ true → may_open opening limit ≡ true
opens opening limit told counted is found = ap (λ c. c && (nat_le 1 limit && nat_le limit greatest_limit)) (le-leb 1 opening counted) ∙ sym is ∙ found
