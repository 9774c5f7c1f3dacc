-- What refused changes leave.
use Rattle.std.proofs.Common.{◌≡◌, ◌∙◌, inl, inr, ap, List, Ok, Err, Result, OnErr, IfErr, IsTrue, ◌≤◌, ◌&&◌, true, false, Bool, refl, arith}
use Rattle.std.proofs.lemmas.Bool.{and_parts, and_from}
use Rattle.sqlite_trees.specs.View.{doubt}
use Rattle.sqlite_trees.proofs.Doubt.{no_doubt}
use Rattle.sqlite.specs.Effect.{Database}
use Rattle.jm_writes.specs.Own.{HasOwnRows}
use Rattle.sqlite_trees.specs.Tree.{Trees}
use Rattle.jm_keep.specs.declared.change.RowChange.{RowChange}
use Rattle.jm_writes.specs.Steps.{HasAll, IsOurs, HasChanges, LeavesOnly, LeavesOr}
use Rattle.jm_tables.specs.Rows.{stored_in}
use Rattle.jm_tables.specs.Sound.{Serves}
use Rattle.sqlite.specs.State.{State, IsRolledBack, KeepsCommit, HasCleanDisk, Survives}
use Rattle.sqlite.specs.Steps.{FailsToCommit}
use Rattle.sqlite.specs.declared.error.Error.{Error}

pub walk_refused : (begun mid new : State) → KeepsCommit begun mid → IsRolledBack mid new → IsTrue new.is_open → (new.now ≡ begun.committed) × (new.committed ≡ begun.committed)
walk_refused begun mid new kept back live = ((back.undone live).0 ∙ kept.committed (back.was_open live), (back.undone live).1 ∙ kept.committed (back.was_open live))

pub commit_refused : {X : Type 0} (begun mid new : State) (r : Result X Error) → KeepsCommit begun mid → IsTrue mid.in_transaction → IfErr r (FailsToCommit mid new) → IsTrue new.is_open → OnErr r ((new.now ≡ begun.committed) × (new.committed ≡ begun.committed))
commit_refused begun mid new (Ok x) kept within h live = tt
commit_refused begun mid new (Err e) kept within (inl failed) live = walk_refused begun mid new kept failed.3 live
commit_refused begun mid new (Err e) kept within (inr late) live = absurd (let x = late.1 in cc)

doubtless : (b : Bool) → doubt b ≡ 0 → IsTrue b
unfolding doubt
doubtless true h = refl
doubtless false h = absurd (omega (arith, h))

-- what an open store was, where it is open and clean still
module _ (old new : State) (ours : IsOurs old) (falls : doubt old.is_clean ≤ doubt new.is_clean) (was_open : HasCleanDisk new → IsTrue new.is_open → IsTrue old.is_open) (k : IsTrue (new.is_clean && new.is_open)) where
  clean : HasCleanDisk new
  clean = no_doubt new.is_clean (and_parts new.is_clean new.is_open k).0

  live : IsTrue new.is_open
  live = (and_parts new.is_clean new.is_open k).1

  was : IsTrue old.is_open
  was = was_open clean live

  old_clean : HasCleanDisk old
  old_clean = omega (arith, falls, clean)

  pub then_written : {T : Type 0} → (HasCleanDisk new → IsTrue old.is_open → Serves old.now → T) → T
  then_written written = written clean was (ours old_clean was).0

  pub then_refused : (HasCleanDisk new → IsTrue old.is_open → Serves old.now → IsTrue new.is_open → (new.now ≡ old.committed) × (new.committed ≡ old.committed)) → stored_in new.now.trees ≡ stored_in old.now.trees
  then_refused refused = ap (λ (d : Database). stored_in d.trees) ((refused clean was (ours old_clean was).0 live).0 ∙ (ours old_clean was).1)

  pub then_clean : IsTrue (old.is_clean && old.is_open)
  then_clean = and_from old.is_clean old.is_open (doubtless old.is_clean old_clean) was

-- what a crash leaves of a write, where the store was ours
module _ (old new : State) (changes : List RowChange) (ours : IsOurs old) (survives : Survives old new (λ db. IsTrue old.is_open → Serves old.now → HasChanges changes old.now.trees db)) (clean : HasCleanDisk new) (live : IsTrue old.is_open) where
  before : HasCleanDisk old
  before = omega (arith, survives.clean, clean)

  has_all : (db : Trees) → HasChanges changes old.now.trees db → HasAll changes old.now.trees db
  has_all db l = record { holds = l.holds; ours = l.ours (ours before live).2 }

  pub stop_leaves : LeavesOr old new changes
  stop_leaves db left = elim (survives.crash clean db left) [ inl was ↦ inl was | inr by ↦ inr (has_all db (by live (ours before live).0)) ]

  pub write_leaves : (HasCleanDisk new → IsTrue old.is_open → Serves old.now → (db : Trees) → new.may_leave db → HasChanges changes old.now.trees db) → LeavesOnly old new changes
  write_leaves durable db left = has_all db (durable clean live (ours before live).0 db left)
