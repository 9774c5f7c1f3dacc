-- A query that fails has its cause, also behind others.
use Rattle.std.proofs.Common.{◌≡◌, ◌∙◌, ◌⊎◌, ◌≤◌, ℕ, inl, inr, refl, sym, subst, arith, IsTrue, IsSome, Option}
use Rattle.sqlite_disk.specs.Disk.{MoreFaults}
use Rattle.sqlite.specs.Effect.{Database}
use Rattle.sqlite.specs.State.{HasCause, HasCleanDisk, State, Survives, store_error}
use Rattle.sqlite.specs.declared.error.Error.{Error}
use Rattle.sqlite.specs.declared.error.Error.TheVariants.{SqliteFailure}
use Rattle.sqlite.specs.declared.error.ErrorCode.TheVariants as code
use Rattle.sqlite_trees.specs.declared.error.StoreError.{StoreError}
use Rattle.sqlite_trees.specs.declared.error.StoreError.TheVariants.{OutOfMemory, Io, Corrupt, Full, Broken, Unstorable}
use Rattle.jm_tables.specs.Sound.{Serves}
use Rattle.jm_opening.specs.declared.judged.OpenFault.{OpenFault}
use Rattle.jm_opening.specs.declared.judged.OpenFault.TheVariants.{Damaged, WrongVersion, Exhausted, Memory, Store}
use Rattle.jm_queries.specs.Asked.{IsQueryFault, IsUndone}
use Rattle.jm_load.specs.Causes.{IsStoreCause, IsUnread, query_fault}

-- what a failed query is told as has its cause
by_cause : (old new : State) (cause : StoreError) → HasCause old new ⊥ cause → IsUnread old new (query_fault (store_error cause))
by_cause old new OutOfMemory h = tt
by_cause old new Io h = inr (inl h)
by_cause old new Corrupt h = inr (inl h)
by_cause old new Full h = inr (inl h)
by_cause old new Broken h = inl h
by_cause old new Unstorable h = absurd h

query_unread : (old new : State) (e : Error) → IsQueryFault old new e → IsUnread old new (query_fault e)
query_unread old new e (inl h) = subst (λ (x : Error). IsUnread old new (query_fault x)) (sym h.1) (by_cause old new h.0 h.2)
query_unread old new e (inr h) = subst (λ (x : Error). IsUnread old new (query_fault x)) (sym h.0) (inr (inr h.1))

one_of_two : (e : Error) → (query_fault e ≡ Memory) ⊎ (query_fault e ≡ Store)
one_of_two (SqliteFailure code.OutOfMemory) = inl refl
one_of_two _ = inr refl

pub first_unread : (old new : State) (e : Error) (told : OpenFault) → told ≡ query_fault e → IsQueryFault old new e → IsUnread old new told
first_unread old new e told is h = subst (λ (x : OpenFault). IsUnread old new x) (sym is) (query_unread old new e h)

-- it is told as one of two
pub told_two : (e : Error) (told : OpenFault) → told ≡ query_fault e → (told ≡ Memory) ⊎ (told ≡ Store)
told_two e told is = subst (λ (x : OpenFault). (x ≡ Memory) ⊎ (x ≡ Store)) (sym is) (one_of_two e)

-- where it is told as Store, the database has a cause
pub store_cause : (old new : State) (fault : OpenFault) → IsUnread old new fault → fault ≡ Store → IsStoreCause old new
store_cause old new fault h is = subst (λ (x : OpenFault). IsUnread old new x) is h

-- ---- calls that change nothing, one after another

-- the database was only read since
pub record IsRead (old new : State) : Type 0 where
  pub survives : Survives old new (λ _. ⊥)
  pub same : HasCleanDisk new → IsTrue new.is_open → IsUndone old new

more_late : (a b c : ℕ) → a ≤ b → MoreFaults b c → MoreFaults a c
more_late a b c l h = omega (arith, l, h)

more_early : (a b c : ℕ) → b ≤ c → MoreFaults a b → MoreFaults a c
more_early a b c l h = omega (arith, l, h)

module _ (old new : State) where
  caused : (fault : OpenFault) → (fault ≡ Memory) ⊎ (fault ≡ Store) → IsStoreCause old new → IsUnread old new fault
  caused fault (inl memory) h = subst (λ (x : OpenFault). IsUnread old new x) (sym memory) tt
  caused fault (inr store) h = subst (λ (x : OpenFault). IsUnread old new x) (sym store) h

module _ (old mid new : State) (first : IsRead old mid) where
  pub early : Survives mid new (λ _. ⊥) → HasCleanDisk new → HasCleanDisk mid
  early survives clean = omega (arith, survives.clean, clean)

  pub read_then : IsRead mid new → IsRead old new
  read_then second = record {
    survives = record {
      clean = omega (arith, first.survives.clean, second.survives.clean);
      shield = λ h. second.survives.shield (first.survives.shield h);
      counts = omega (arith, first.survives.counts, second.survives.counts);
      limit = second.survives.limit ∙ first.survives.limit;
      closes = λ clean was_open. elim (first.survives.closes (early second.survives clean) was_open) [
        | inl live ↦ (elim (second.survives.closes clean live) [ inl still ↦ inl still | inr faults ↦ inr (more_late old.faults mid.faults new.faults first.survives.counts faults) ])
        | inr faults ↦ inr (more_early old.faults mid.faults new.faults second.survives.counts faults)
      ];
      crash = λ clean db h. elim (second.survives.crash clean db h) [ inl before ↦ first.survives.crash (early second.survives clean) db before | inr never ↦ absurd never ];
    };
    same = λ clean live.
        let last = second.same clean live in
        let begun = first.same (early second.survives clean) last.was_open in
        record { was_open = begun.was_open; now_is = last.now_is ∙ begun.committed_is; committed_is = last.committed_is ∙ begun.committed_is };
  }

  -- a cause of the later call is one of both
  carried : (fault : OpenFault) → IsTrue mid.is_open → IsUnread mid new fault → IsUnread old new fault
  carried Memory live h = tt
  carried Store live (inl shut) = absurd (let no = sym live ∙ shut in cc)
  carried Store live (inr (inl faults)) = inr (inl (more_late old.faults mid.faults new.faults first.survives.counts faults))
  carried Store live (inr (inr limit)) = inr (inr (subst (λ (o : Option ℕ). IsSome o) first.survives.limit limit))
  carried (Damaged of at) live h = absurd h
  carried (WrongVersion version) live h = absurd h
  carried Exhausted live h = absurd h

  -- the later call's cause, where all was committed before the first
  pub later_unread : (e : Error) (told : OpenFault) → told ≡ query_fault e → (HasCleanDisk new → Serves mid.now → IsQueryFault mid new e) → Survives mid new (λ _. ⊥) → (HasCleanDisk mid → IsTrue old.is_open) → old.now ≡ old.committed → Serves old.now
      → HasCleanDisk new → IsUnread old new told
  later_unread e told is fault survives was_open settled serves clean =
      let before = early survives clean in
      subst (λ (x : OpenFault). IsUnread old new x) (sym is)
      (elim (first.survives.closes before (was_open before)) [
        | inl live ↦ (let now : mid.now ≡ old.now = (first.same before live).now_is ∙ sym settled in
            carried (query_fault e) live (query_unread mid new e (fault clean (subst (λ (d : Database). Serves d) (sym now) serves))))
        | inr faults ↦ caused old new (query_fault e) (one_of_two e) (inr (inl (more_early old.faults mid.faults new.faults survives.counts faults)))
      ])
