-- A store's database that has all changes of a valid file is a valid file.
use Rattle.std.proofs.Common.{ℕ, pos, List, sym, subst}
use Rattle.sqlite_value.specs.Order.{Row}
use Rattle.sqlite_trees.specs.Tree.{Trees}
use Rattle.jm_machine.specs.Machine.{State}
use Rattle.jm_holds.specs.Holds.{HoldsMessages}
use Rattle.jm_keep.specs.Persisted.{IsPersisted, LeadsTo}
use Rattle.jm_keep.specs.declared.change.RowChange.{RowChange}
use Rattle.jm_tables.specs.Rows.{stored_in}
use Rattle.jm_tables.specs.Valid.{IsMeta, IsValid}
use Rattle.jm_writes.specs.Own.{HasOwnRows}
use Rattle.jm_writes.specs.Steps.{AreOurs, HasAll}
use Rattle.jm_valid.specs.Stores.{ChangedIsValid}
use Rattle.jm_valid.proofs.Valid.{kept_is_valid}

-- a store's database that holds what is stored of such a state is valid
left_valid : (state : State) (db : Trees) → HoldsMessages state → AreOurs db → IsPersisted state (stored_in db) → (opening : ℕ) × IsValid opening db
left_valid state db holds is persisted =
    let valid = kept_is_valid state is.database holds (record {
      serves = is.serves;
      own = subst HasOwnRows (sym is.same) is.own;
      persisted = subst (λ (t : Trees). IsPersisted state (stored_in t)) (sym is.same) persisted;
    }) in
    (valid.0, subst (IsValid valid.0) is.same valid.1)

pub changed_is_valid : ChangedIsValid
changed_is_valid before after changes opening old db was persisted leads holds all =
    let valid = (left_valid after db holds all.ours (subst (IsPersisted after) (sym all.holds.stored_is) (leads (stored_in old) persisted))).1 in
    record {
      meta = subst (λ (rows : List Row). IsMeta (pos 2) (pos opening) rows) (sym all.holds.opening) was.meta;
      within = was.within;
      stations = valid.stations;
      messages = valid.messages;
      held = valid.held;
      delayed = valid.delayed;
      kept = valid.kept;
    }
