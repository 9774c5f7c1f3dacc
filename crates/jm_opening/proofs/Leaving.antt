-- What a crash leaves of an opening.
use Rattle.std.proofs.Common.{◌≡◌, inl, inr, subst, arith, IsTrue}
use Rattle.sqlite.specs.Effect.{Database}
use Rattle.sqlite.specs.State.{State, HasCleanDisk, Survives}
use Rattle.sqlite.proofs.StateLemmas.{survives_then}
use Rattle.sqlite_trees.specs.Tree.{Trees}
use Rattle.jm_tables.specs.Valid.{IsOpening}
use Rattle.jm_opening.specs.declared.found.Found.{Found}
use Rattle.jm_opening.specs.Opened.{HoldsOpened, IsFound, opening_of}
use Rattle.jm_opening.specs.Opening.{LeavesOpened, LeavesOrOpened}

-- of a database that was found so, read alone, and then opened
pub found_leaves : (old mid new : State) (found : Found) → Survives old mid (λ _. ⊥) → Survives mid new (λ db. IsTrue mid.is_open × (IsFound found mid.now → HoldsOpened found mid.now db))
    → (HasCleanDisk mid → IsTrue mid.is_open → old.now ≡ old.committed → IsFound found mid.now)
    → (HasCleanDisk mid → IsTrue mid.is_open → old.now ≡ old.committed → (mid.now ≡ old.now) × (mid.committed ≡ old.committed)) → IsOpening (opening_of found)
    → Survives old new (λ db. old.now ≡ old.committed → LeavesOpened old.now db)
found_leaves old mid new found first later is same number =
    survives_then old mid new (λ _. ⊥) (λ db. IsTrue mid.is_open × (IsFound found mid.now → HoldsOpened found mid.now db)) (λ db. old.now ≡ old.committed → LeavesOpened old.now db)
    (λ _ db none. absurd none)
    (λ clean db by settled.
    let early : HasCleanDisk mid = omega (arith, later.clean, clean) in
    let found_so = is early by.0 settled in
    let now : mid.now ≡ old.now = (same early by.0 settled).0 in
    (found, subst (IsFound found) now found_so, number, subst (λ (d : Database). HoldsOpened found d db) now (by.1 found_so)))
    first later

-- of a connection that was settled, and then opened
pub settled_leaves : (old settled new : State) → (HasCleanDisk settled → settled.now ≡ settled.committed) → (HasCleanDisk settled → settled.now.trees ≡ old.committed.trees)
    → (HasCleanDisk settled → (db : Trees) → settled.may_leave db → old.may_leave db) → Survives settled new (λ db. settled.now ≡ settled.committed → LeavesOpened settled.now db)
    → HasCleanDisk new → LeavesOrOpened old new.may_leave
settled_leaves old settled new shows same leaves survives clean db left =
    let early : HasCleanDisk settled = omega (arith, survives.clean, clean) in
    elim (survives.crash clean db left) [ inl before ↦ inl (leaves early db before) | inr by ↦ inr (settled.now, same early, by (shows early)) ]
