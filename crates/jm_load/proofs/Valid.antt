-- A valid database of this version is whole, and so is what an opening makes of it.
use Rattle.std.proofs.Common.{◌≡◌, ◌∙◌, ℕ, pos, List, [], ◌∷◌, find, Some, sym, ap, subst}
use Rattle.std.specs.Prelude.{IsTrue}
use Rattle.std.specs.List.{AllByRecursion, list_any}
use Rattle.sqlite_value.specs.declared.value.Value.TheVariants.{Int}
use Rattle.sqlite_value.specs.Order.{Row, column}
use Rattle.sqlite.specs.Effect.{Database}
use Rattle.sqlite_trees.specs.Tree.{Trees}
use Rattle.sqlite_rules.specs.Edit.{id_in}
use Rattle.jm_format.specs.Format as format
use Rattle.jm_tables.specs.Rows.{is_at, is_under, record_at}
use Rattle.jm_tables.specs.Schema.{meta_tree, station_tree, message_tree, held_tree, delayed_tree}
use Rattle.jm_tables.specs.Valid.{IsKept, IsMeta, IsOpening, IsStoredDelay, IsStoredHeld, IsStoredMessage, IsValid, is_held_at}
use Rattle.jm_opening.specs.declared.found.Found.{Found}
use Rattle.jm_opening.specs.declared.found.Found.TheVariants.{Blank, Bare, Indexed, Current}
use Rattle.jm_opening.specs.Opened.{IsFound, IsOpened, SaysLast}
use Rattle.jm_load.specs.Faults.{IsStation, IsWhole}
use Rattle.jm_load.proofs.Listed.{all_as}

-- so `load` never tells it as Damaged (its clause `whole`)
pub valid_is_whole : (opening : ℕ) (db : Trees) → IsValid opening db → IsWhole db
valid_is_whole opening db valid = record {
  rows = record { stations = valid.stations; messages = valid.messages; held = valid.held; delays = valid.delayed };
  kept = valid.kept;
}

-- what such a database lacks to be valid is its row of meta alone
pub whole_is_valid : (opening : ℕ) (db : Trees) → IsMeta (pos 2) (pos opening) (db meta_tree) → IsOpening opening → IsWhole db → IsValid opening db
whole_is_valid opening db meta within whole = record {
  meta = meta;
  within = within;
  stations = whole.rows.stations;
  messages = whole.rows.messages;
  held = whole.rows.held;
  delayed = whole.rows.delays;
  kept = whole.kept;
}

-- ---- what is whole speaks of four tables alone

module _ (a b : Trees) (stations : a station_tree ≡ b station_tree) (messages : a message_tree ≡ b message_tree) (held : a held_tree ≡ b held_tree) (delays : a delayed_tree ≡ b delayed_tree) where
  held_too : (r : Row) → IsStoredHeld a r → IsStoredHeld b r
  held_too r is = record {
    place = is.place;
    place_is = is.place_is;
    count = is.count;
    count_is = is.count_is;
    count_within = is.count_within;
    key = is.key;
    key_is = is.key_is;
    station = is.station;
    station_is = subst (λ (rows : List Row). find (is_under is.key) rows ≡ Some is.station) stations is.station_is;
    message = is.message;
    message_is = subst (λ (rows : List Row). record_at is.place rows ≡ Some (format.record is.message)) messages is.message_is;
    is_message = is.is_message;
    may_hold = is.may_hold;
  }

  delay_too : (r : Row) → IsStoredDelay a r → IsStoredDelay b r
  delay_too r is = record {
    place = is.place;
    place_is = is.place_is;
    message = is.message;
    message_is = subst (λ (rows : List Row). record_at is.place rows ≡ Some (format.record is.message)) messages is.message_is;
    is_message = is.is_message;
    is_delayed = is.is_delayed;
    due_is = is.due_is;
  }

  kept_too : (r : Row) → IsKept a r → IsKept b r
  kept_too r is = record {
    place = is.place;
    place_is = is.place_is;
    held = subst (λ (rows : List Row). IsTrue (is_held_at is.place rows)) held is.held;
    delayed = λ m is_record late. subst (λ (rows : List Row). IsTrue (list_any (is_at is.place) rows)) delays (is.delayed m is_record late);
  }

  whole_too : IsWhole a → IsWhole b
  whole_too whole = record {
    rows = record {
      stations = subst (AllByRecursion IsStation) stations whole.rows.stations;
      messages = subst (AllByRecursion IsStoredMessage) messages whole.rows.messages;
      held = subst (AllByRecursion (IsStoredHeld b)) held (all_as (IsStoredHeld a) (IsStoredHeld b) held_too (a held_tree) whole.rows.held);
      delays = subst (AllByRecursion (IsStoredDelay b)) delays (all_as (IsStoredDelay a) (IsStoredDelay b) delay_too (a delayed_tree) whole.rows.delays);
    };
    kept = subst (AllByRecursion (IsKept b)) messages (all_as (IsKept a) (IsKept b) kept_too (a message_tree) whole.kept);
  }

-- ---- what an opening makes of a valid database

-- it is not of version 1
of_version_2 : (opening last : ℕ) (rows : List Row) → IsMeta (pos 2) (pos last) rows → SaysLast (Some 1) opening rows → ⊥
of_version_2 opening last rows meta says =
    let row = says.2.0 in
    let one : meta.row ∷ [] ≡ row ∷ [] = sym meta.alone ∙ says.2.1 in
    let same : meta.row ≡ row = cc in
    let version : column row 2 ≡ Int (pos 1) = let shown = says.2.2 in cc in
    let two : id_in (column row 2) ≡ pos 2 = ap (λ (r : Row). id_in (column r 2)) (sym same) ∙ meta.version_is in
    let number : pos 1 ≡ pos 2 = sym (ap id_in version) ∙ two in
    cc

pub opened_whole : (found : Found) (last : ℕ) (old new : Database) → IsFound found old → IsOpened found old new → IsValid last old.trees → IsWhole new.trees
opened_whole Blank last old new is opened valid =
    let s = opened.rows in
    record {
      rows = record {
        stations = subst (AllByRecursion IsStation) (sym s.0) tt;
        messages = subst (AllByRecursion IsStoredMessage) (sym s.1.0) tt;
        held = subst (AllByRecursion (IsStoredHeld new.trees)) (sym s.1.1.0) tt;
        delays = subst (AllByRecursion (IsStoredDelay new.trees)) (sym s.1.1.1.0) tt;
      };
      kept = subst (AllByRecursion (IsKept new.trees)) (sym s.1.0) tt;
    }
opened_whole (Bare opening) last old new is opened valid = absurd (of_version_2 opening last (old.trees meta_tree) valid.meta is.says)
opened_whole (Indexed opening) last old new is opened valid = absurd (of_version_2 opening last (old.trees meta_tree) valid.meta is.says)
opened_whole (Current opening) last old new is opened valid =
    let s = opened.rows in
    whole_too old.trees new.trees (sym s.0) (sym s.1.0) (sym s.1.1.0) (sym s.1.1.1.0) (valid_is_whole last old.trees valid)
