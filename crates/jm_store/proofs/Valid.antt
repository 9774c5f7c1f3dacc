-- A valid database is told no damage after its opening.
use Rattle.std.proofs.Common.{◌≡◌, ◌⊎◌, ℕ, sym, subst}
use Rattle.sqlite.specs.Effect.{Database}
use Rattle.sqlite_trees.specs.Tree.{Trees}
use Rattle.jm_tables.specs.Valid.{IsValid}
use Rattle.jm_opening.specs.declared.judged.OpenFault.{OpenFault}
use Rattle.jm_opening.specs.declared.judged.OpenFault.TheVariants.{Memory, Store}
use Rattle.jm_load.specs.Faults.{IsFaultOf}
use Rattle.jm_load.proofs.Told.{never_damaged}
use Rattle.jm_load.proofs.Valid.{opened_whole}
use Rattle.jm_store.specs.Opened.{IsOpenedOf}

-- what was valid, and is opened and not loaded, is so for want of memory, or as the database refused
pub valid_is_undamaged : (committed : Trees) (now : Database) (fault : OpenFault) (last : ℕ) → IsValid last committed → IsOpenedOf committed now → IsFaultOf now.trees fault → (fault ≡ Memory) ⊎ (fault ≡ Store)
valid_is_undamaged committed now fault last valid opened told =
    never_damaged now.trees fault (opened_whole opened.2.0 last opened.0 now opened.2.1 opened.2.2 (subst (IsValid last) (sym opened.1) valid)) told
