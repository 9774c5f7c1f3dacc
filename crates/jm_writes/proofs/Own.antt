-- Each row stays one of a store's.
use Rattle.std.proofs.Common.{◌≡◌, ◌∙◌, ◌≤◌, inl, inr, ℕ, ℤ, pos, Bool, true, false, ◌&&◌, ◌||◌, cond, List, [], ◌∷◌, map, filter, refl, sym, ap, subst, arith}
use Rattle.std.specs.List.{AllByRecursion}
use Rattle.std.proofs.lemmas.Bool.{and_from, or_left, or_right}
use Rattle.sqlite_value.specs.Order.{Row}
use Rattle.sqlite_trees.specs.Tree.{put_row}
use Rattle.sqlite.specs.State.{State}
use Rattle.sqlite_rules.specs.Lists.{Has}
use Rattle.sqlite_rules.proofs.ListLemmas.{all_from, all_has, has_filtered}
use Rattle.sqlite_rules.proofs.ProbeLemmas.{has_mapped}
use Rattle.sqlite_rules.proofs.TableLemmas.{put_has}
use Rattle.jm_tables.specs.Schema.{meta_tree, station_tree, message_tree, held_tree, delayed_tree}
use Rattle.jm_writes.specs.Own.{HasOwnRows, IsDelayRow, IsHeldRow, IsMessageRow, IsOpened, IsStationRow}
use Rattle.jm_writes.proofs.Edits.{Leaves}
use Rattle.jm_writes.proofs.Left.{picked}
use Rattle.jm_writes.proofs.Serving.{meta_bare, station_bare, message_bare, held_bare, delayed_bare}

-- ---- the rows of one table

module _ (P : Row → Type 0) where
  -- fewer rows are such
  pub all_fewer : (p : Row → Bool) (rows : List Row) → AllByRecursion P rows → AllByRecursion P (filter p rows)
  all_fewer p rows are = all_from P (filter p rows) (λ r h. all_has P rows r are (has_filtered p rows r h).0)

  -- one more that is such
  pub all_put : (new : Row) (rows : List Row) → P new → AllByRecursion P rows → AllByRecursion P (put_row new rows)
  all_put new rows is are = all_from P (put_row new rows) (λ r h. elim (put_has new rows r h) [
    | inl same ↦ subst P (sym same) is
    | inr was ↦ all_has P rows r are was
  ])

  -- rows of which some are changed to such
  pub all_changed : (hit : Row → Bool) (g : Row → Row) (rows : List Row) → ((r : Row) → P (g r)) → AllByRecursion P rows → AllByRecursion P (map (picked hit g) rows)
  all_changed hit g rows is are = all_from P (map (picked hit g) rows) (λ x k.
      let r = has_mapped (picked hit g) rows x k in
      subst P (sym r.2) (one (hit r.0) r.0 (all_has P rows r.0 are r.1)))
    where
      one : (b : Bool) (r : Row) → P r → P (cond b (g r) r)
      one true r was = is r
      one false r was = was

-- ---- all tables, of which one changes

module _ (old new : State) (rows : List Row) where
  pub own_stations : Leaves old new station_tree rows → (AllByRecursion IsStationRow (old.now.trees station_tree) → AllByRecursion IsStationRow rows) → HasOwnRows old.now.trees → HasOwnRows new.now.trees
  own_stations l keeps h = record {
    meta = subst IsOpened (sym (l.others meta_tree (λ e. cc) meta_bare)) h.meta;
    stations = subst (AllByRecursion IsStationRow) (sym l.rows_are) (keeps h.stations);
    messages = subst (AllByRecursion IsMessageRow) (sym (l.others message_tree (λ e. cc) message_bare)) h.messages;
    held = subst (AllByRecursion IsHeldRow) (sym (l.others held_tree (λ e. cc) held_bare)) h.held;
    delayed = subst (AllByRecursion IsDelayRow) (sym (l.others delayed_tree (λ e. cc) delayed_bare)) h.delayed;
  }

  pub own_messages : Leaves old new message_tree rows → (AllByRecursion IsMessageRow (old.now.trees message_tree) → AllByRecursion IsMessageRow rows) → HasOwnRows old.now.trees → HasOwnRows new.now.trees
  own_messages l keeps h = record {
    meta = subst IsOpened (sym (l.others meta_tree (λ e. cc) meta_bare)) h.meta;
    stations = subst (AllByRecursion IsStationRow) (sym (l.others station_tree (λ e. cc) station_bare)) h.stations;
    messages = subst (AllByRecursion IsMessageRow) (sym l.rows_are) (keeps h.messages);
    held = subst (AllByRecursion IsHeldRow) (sym (l.others held_tree (λ e. cc) held_bare)) h.held;
    delayed = subst (AllByRecursion IsDelayRow) (sym (l.others delayed_tree (λ e. cc) delayed_bare)) h.delayed;
  }

  pub own_held : Leaves old new held_tree rows → (AllByRecursion IsHeldRow (old.now.trees held_tree) → AllByRecursion IsHeldRow rows) → HasOwnRows old.now.trees → HasOwnRows new.now.trees
  own_held l keeps h = record {
    meta = subst IsOpened (sym (l.others meta_tree (λ e. cc) meta_bare)) h.meta;
    stations = subst (AllByRecursion IsStationRow) (sym (l.others station_tree (λ e. cc) station_bare)) h.stations;
    messages = subst (AllByRecursion IsMessageRow) (sym (l.others message_tree (λ e. cc) message_bare)) h.messages;
    held = subst (AllByRecursion IsHeldRow) (sym l.rows_are) (keeps h.held);
    delayed = subst (AllByRecursion IsDelayRow) (sym (l.others delayed_tree (λ e. cc) delayed_bare)) h.delayed;
  }

  pub own_delayed : Leaves old new delayed_tree rows → (AllByRecursion IsDelayRow (old.now.trees delayed_tree) → AllByRecursion IsDelayRow rows) → HasOwnRows old.now.trees → HasOwnRows new.now.trees
  own_delayed l keeps h = record {
    meta = subst IsOpened (sym (l.others meta_tree (λ e. cc) meta_bare)) h.meta;
    stations = subst (AllByRecursion IsStationRow) (sym (l.others station_tree (λ e. cc) station_bare)) h.stations;
    messages = subst (AllByRecursion IsMessageRow) (sym (l.others message_tree (λ e. cc) message_bare)) h.messages;
    held = subst (AllByRecursion IsHeldRow) (sym (l.others held_tree (λ e. cc) held_bare)) h.held;
    delayed = subst (AllByRecursion IsDelayRow) (sym l.rows_are) (keeps h.delayed);
  }
