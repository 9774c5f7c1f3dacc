-- Why the replies of a subscription alone are not given.
use Rattle.std.specs.Prelude.{◌≡◌, ℕ, Bool, true, false, List, codes}
use Rattle.jm_model.specs.declared.fault.LoneFault.{LoneFault}
use Rattle.jm_model.specs.declared.fault.LoneFault.TheVariants.{NotUnshared, Memory}

-- a fault stands where the key is not that of an unshared topic subscription, or for want of memory where it is
abbrev pub Stands : LoneFault → Bool → Type 0
Stands NotUnshared is_unshared = is_unshared ≡ false
Stands Memory is_unshared = is_unshared ≡ true

-- the name of a fault
abbrev pub fault_name : LoneFault → List ℕ
fault_name NotUnshared = codes "NotUnshared"
fault_name Memory = codes "Memory"
