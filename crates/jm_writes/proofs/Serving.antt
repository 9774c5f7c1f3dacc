-- A database that serves still does after a statement on one table.
use Rattle.std.proofs.Common.{◌≡◌, ◌≢◌, inl, inr, ℕ, Bool, true, List, map, filter, drop, None, sym, ap, subst, ◌∙◌}
use Rattle.std.proofs.Math.Path.{fun_ext}
use Rattle.std.proofs.lemmas.Bool.{cases_eq, and_parts}
use Rattle.jm_dest.specs.declared.key.Key.{Key}
use Rattle.jm_keep.specs.Stored.{Stored, changed, definition_after, count_after, message_after, due_after}
use Rattle.jm_keep.specs.declared.change.RowChange.{RowChange}
use Rattle.sqlite_value.specs.declared.value.Value.TheVariants.{Int}
use Rattle.sqlite_value.specs.Order.{Row}
use Rattle.sqlite.specs.Tree.{rowid, put_row}
use Rattle.sqlite.specs.Edit.{id_in}
use Rattle.sqlite.specs.Effect.{Database}
use Rattle.sqlite.specs.State.{State, Shows}
use Rattle.sqlite_catalog.specs.Listing.{IsSound}
use Rattle.sqlite_schema.specs.declared.schema.Constraint.TheVariants.{Datatype, NotNull}
use Rattle.sqlite_schema.specs.Rules.{are_typed, has_computed}
use Rattle.sqlite_trees.specs.View.{is_int}
use Rattle.sqlite_trees.proofs.ListLemmas.{ascending-filter}
use Rattle.sqlite_trees.proofs.TreeLemmas.{IsTable-put_row}
use Rattle.sqlite_rules.specs.Edit.{IsNoIndex}
use Rattle.sqlite_rules.specs.Lists.{Has}
use Rattle.sqlite_rules.proofs.ListLemmas.{all_has, test_has, test_from, has_filtered}
use Rattle.sqlite_rules.proofs.ProbeLemmas.{has_mapped}
use Rattle.sqlite_rules.proofs.TableLemmas.{int_is, put_has}
use Rattle.jm_tables.specs.Schema.{schema, station, held, meta_tree, station_tree, message_tree, held_tree, delayed_tree}
use Rattle.jm_tables.specs.Rows.{stored_in, definition_under, count_under, record_at, due_at}
use Rattle.jm_tables.specs.Sound.{AreRows, Serves}
use Rattle.jm_writes.specs.Own.{HasOwnRows}
use Rattle.jm_writes.specs.Steps.{Steps}
use Rattle.jm_writes.proofs.Edits.{Leaves}
use Rattle.jm_writes.proofs.Left.{picked, picked_id, picked_table}
use Rattle.jm_writes.proofs.Values.{IsKeyed, IsHeld, keyed_is, held_is}

-- ---- rows of a table

pub fewer : (p : Row → Bool) (rows : List Row) → AreRows rows → AreRows (filter p rows)
fewer p rows is = record {
  rise = ascending-filter _ p rows is.rise;
  numbered = test_from (λ r. is_int (rowid r)) (filter p rows) (λ r h. test_has (λ x. is_int (rowid x)) rows r is.numbered (has_filtered p rows r h).0);
}

pub changed_rows : (hit : Row → Bool) (g : Row → Row) (rows : List Row) → ((r : Row) → rowid (g r) ≡ rowid r) → AreRows rows → AreRows (map (picked hit g) rows)
changed_rows hit g rows same is = record {
  rise = picked_table hit g rows same is.rise;
  numbered = test_from (λ r. is_int (rowid r)) (map (picked hit g) rows) (λ x k.
      let r = has_mapped (picked hit g) rows x k in ap (λ y. is_int (rowid y)) r.2 ∙ ap is_int (picked_id hit g same r.0) ∙ test_has (λ y. is_int (rowid y)) rows r.0 is.numbered r.1);
}

pub more : (new : Row) (rows : List Row) → is_int (rowid new) ≡ true → AreRows rows → AreRows (put_row new rows)
more new rows int is = record {
  rise = IsTable-put_row new rows is.rise;
  numbered = test_from (λ r. is_int (rowid r)) (put_row new rows) (λ r h. elim (put_has new rows r h) [
    | inl same ↦ ap (λ x. is_int (rowid x)) same ∙ int
    | inr was ↦ test_has (λ x. is_int (rowid x)) rows r is.numbered was
  ]);
}

-- the rowid of a row is a number
pub numbered_row : (rows : List Row) → AreRows rows → (r : Row) → Has rows r → rowid r ≡ Int (id_in (rowid r))
numbered_row rows is r h = int_is (rowid r) (test_has (λ x. is_int (rowid x)) rows r is.numbered h)

-- a row of station has the columns of a key
pub station_row : (db : Database) → Serves db → (r : Row) → Has (db.trees station_tree) r → IsKeyed r
station_row db s r h =
    let sound = subst (λ x. IsSound x db.trees) s.schema_is s.sound in
    let typed = all_has _ (db.trees station_tree) r (sound.obeys.rules Datatype).1.0 h in
    let present = all_has _ (db.trees station_tree) r (sound.obeys.rules NotNull).1.0 h in
    keyed_is (drop 3 station.columns) r (and_parts (are_typed None 0 station.columns (drop 1 r)) (has_computed station r) typed).0 present

-- and one of held those of a key and a place
pub held_row : (db : Database) → Serves db → (r : Row) → Has (db.trees held_tree) r → IsHeld r
held_row db s r h =
    let sound = subst (λ x. IsSound x db.trees) s.schema_is s.sound in
    let typed = all_has _ (db.trees held_tree) r (sound.obeys.rules Datatype).1.1.1.0 h in
    let present = all_has _ (db.trees held_tree) r (sound.obeys.rules NotNull).1.1.1.0 h in
    held_is (drop 4 held.columns) r (and_parts (are_typed None 0 held.columns (drop 1 r)) (has_computed held r) typed).0 present

-- ---- the database

no_index : (t : ℕ) → t ≢ 2 → t ≢ 5 → t ≢ 6 → IsNoIndex schema t
no_index t a b c = ((λ e. a (sym e)), ((λ e. b (sym e)), ((λ e. c (sym e)), tt)))

pub meta_bare : IsNoIndex schema meta_tree
meta_bare = no_index 0 (λ e. cc) (λ e. cc) (λ e. cc)

pub station_bare : IsNoIndex schema station_tree
station_bare = no_index 1 (λ e. cc) (λ e. cc) (λ e. cc)

pub message_bare : IsNoIndex schema message_tree
message_bare = no_index 3 (λ e. cc) (λ e. cc) (λ e. cc)

pub held_bare : IsNoIndex schema held_tree
held_bare = no_index 4 (λ e. cc) (λ e. cc) (λ e. cc)

pub delayed_bare : IsNoIndex schema delayed_tree
delayed_bare = no_index 7 (λ e. cc) (λ e. cc) (λ e. cc)

module _ (old new : State) (tree : ℕ) (rows : List Row) (l : Leaves old new tree rows) where
  kept : AreRows rows → (t : ℕ) → IsNoIndex schema t → AreRows (old.now.trees t) → AreRows (new.now.trees t)
  kept are t none was = elim (cases_eq t tree) [
    | inl e ↦ subst AreRows (sym (ap new.now.trees e ∙ l.rows_are)) are
    | inr other ↦ subst AreRows (sym (l.others t other none)) was
  ]

  pub still_serves : Serves old.now → AreRows rows → Serves new.now
  still_serves s are = record {
    schema_is = l.schema_is;
    sound = l.sound;
    meta = kept are meta_tree meta_bare s.meta;
    stations = kept are station_tree station_bare s.stations;
    messages = kept are message_tree message_bare s.messages;
    held = kept are held_tree held_bare s.held;
    delayed = kept are delayed_tree delayed_bare s.delayed;
  }

-- ---- what is stored

same_stored : (a b : Stored) → ((k : Key) → a.definition k ≡ b.definition k) → ((k : Key) (p : ℕ) → a.count k p ≡ b.count k p) → ((p : ℕ) → a.message p ≡ b.message p) → ((p : ℕ) → a.due p ≡ b.due p) → a ≡ b
same_stored a b d c m u =
    ap (λ f. let s : Stored = record { definition = f; count = a.count; message = a.message; due = a.due } in s) (fun_ext d)
    ∙ ap (λ f. let s : Stored = record { definition = b.definition; count = f; message = a.message; due = a.due } in s) (fun_ext (λ k. fun_ext (c k)))
    ∙ ap (λ f. let s : Stored = record { definition = b.definition; count = b.count; message = f; due = a.due } in s) (fun_ext m)
    ∙ ap (λ f. let s : Stored = record { definition = b.definition; count = b.count; message = b.message; due = f } in s) (fun_ext u)

module _ (old new : State) (tree : ℕ) (rows : List Row) (l : Leaves old new tree rows) (change : RowChange) (s : Serves old.now) (are : AreRows rows) (shown : Shows old new new.now old.committed true) (apart : meta_tree ≢ tree) where
  -- a change is made where each look-up gives what it should
  pub step : ((k : Key) → definition_under k (new.now.trees station_tree) ≡ definition_after k (definition_under k (old.now.trees station_tree)) change)
      → ((k : Key) (p : ℕ) → count_under k p (new.now.trees held_tree) ≡ count_after k p (count_under k p (old.now.trees held_tree)) change)
      → ((p : ℕ) → record_at p (new.now.trees message_tree) ≡ message_after p (record_at p (old.now.trees message_tree)) change)
      → ((p : ℕ) → due_at p (new.now.trees delayed_tree) ≡ due_after p (due_at p (old.now.trees delayed_tree)) change)
      → (HasOwnRows old.now.trees → HasOwnRows new.now.trees) → Steps old new change
  step d c m u own = record {
    serves = still_serves old new tree rows l s are;
    holds = record {
      stored_is = same_stored (stored_in new.now.trees) (changed (stored_in old.now.trees) change) d c m u;
      opening = l.others meta_tree apart meta_bare;
    };
    own = own;
    shown = shown;
  }
