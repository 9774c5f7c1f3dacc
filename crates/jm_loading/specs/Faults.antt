-- Why the rows of one table are refused.
use Rattle.std.specs.Prelude.{◌≡◌, ℕ, ⊤}
use Rattle.jm_opening.specs.declared.judged.OpenFault.{OpenFault}
use Rattle.jm_opening.specs.declared.judged.OpenFault.TheVariants.{Damaged, Memory}
use Rattle.jm_opening.specs.declared.judged.TableName.{TableName}

-- the row of the table with that index is the first of which that is so, or memory was refused
abbrev pub IsFaultAt : TableName → (ℕ → Type 0) → OpenFault → Type 0
IsFaultAt table IsFirst (Damaged of at) = (of ≡ table) × IsFirst at
IsFaultAt table IsFirst Memory = ⊤
IsFaultAt table IsFirst _ = ⊥
