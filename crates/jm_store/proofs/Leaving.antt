-- What a crash leaves of an opening that is refused.
use Rattle.std.proofs.Common.{◌≡◌, ℕ, inl, inr, refl, sym, subst, arith}
use Rattle.sqlite.specs.Effect.{Database}
use Rattle.sqlite.specs.State.{State, HasCleanDisk, Survives}
use Rattle.sqlite_trees.specs.Tree.{Trees}
use Rattle.sqlite_trees.specs.declared.store.Store.{Ghosts}
use Rattle.jm_tables.specs.Valid.{IsOpening, IsValid}
use Rattle.jm_opening.specs.declared.outcome.Left.{Left}
use Rattle.jm_opening.specs.declared.outcome.Left.TheVariants.{Settled, Shut}
use Rattle.jm_opening.specs.Meta.{meta_row}
use Rattle.jm_opening.specs.Opened.{opening_of}
use Rattle.jm_opening.specs.Opening.{IsOpenedAgain, LeavesOf, LeavesOpened, LeavesOpenedAgain, LeavesOrOpened}
use Rattle.jm_load.proofs.Valid.{opened_whole, whole_is_valid}
use Rattle.jm_store.specs.Opened.{LeavesValid, LeavesValidOf}

-- of what was opened, and was only read since
pub opened_leaves : (old opened new : State) (opening : ℕ) → IsOpening opening → (HasCleanDisk opened → IsOpenedAgain opening old.committed.trees opened)
    → (HasCleanDisk opened → (db : Trees) → opened.may_leave db → db ≡ opened.now.trees) → Survives opened new (λ _. ⊥) → HasCleanDisk new → LeavesOrOpened old new.may_leave
opened_leaves old opened new opening within is durable survives clean db left =
    let early : HasCleanDisk opened = omega (arith, survives.clean, clean) in
    let it = is early in
    elim (survives.crash clean db left) [
      | inl before ↦ inr (it.before, it.same, (it.from.found, it.from.is_found, subst IsOpening it.from.number within, (opened.now, durable early db before, it.from.opened)))
      | inr never ↦ absurd never
    ]

-- a valid file that is opened is one
raised_is_valid : (last : ℕ) (before : Database) (db : Trees) → IsValid last before.trees → LeavesOpened before db → (opening : ℕ) × IsValid opening db
raised_is_valid last before db valid is =
    let number = opening_of is.0 in
    let after = is.3.0 in
    let opened = is.3.2 in
    let whole = opened_whole is.0 last before after is.1 opened valid in
    (number, subst (IsValid number) (sym is.3.1) (whole_is_valid number after.trees (record { row = meta_row 2 number; alone = opened.meta; version_is = refl; opening_is = refl }) is.2 whole))

again_is_valid : (last : ℕ) (committed db : Trees) → IsValid last committed → LeavesOpenedAgain committed db → (opening : ℕ) × IsValid opening db
again_is_valid last committed db valid is = raised_is_valid last is.0 db (subst (IsValid last) (sym is.1) valid) is.2

-- so a crash leaves one, where what it could leave before is what was committed
module _ {S : Type 0} (g : Ghosts S) (old : State) (settled : (db : Trees) → old.may_leave db → db ≡ old.committed.trees) (last : ℕ) (valid : IsValid last old.committed.trees) where
  before_is_valid : LeavesValid old.may_leave
  before_is_valid db left = (last, subst (IsValid last) (sym (settled db left)) valid)

  pub leaves_valid : (left : Left S) → LeavesOf g old left → LeavesValidOf g left
  leaves_valid (Settled conn) leaves = λ clean db left. elim (leaves clean db left) [ inl before ↦ before_is_valid db before | inr by ↦ again_is_valid last old.committed.trees db valid by ]
  leaves_valid (Shut store) leaves = λ db left. before_is_valid db (leaves db left)
