-- The rows of a store, as they are shown, have columns of their kinds.
use Rattle.std.proofs.Common.{refl}
use Rattle.sqlite_value.specs.Order.{Row}
use Rattle.sqlite.specs.Effect.{Database}
use Rattle.sqlite_rules.specs.Lists.{Has}
use Rattle.sqlite_rules.proofs.ListLemmas.{all_has, has_found}
use Rattle.jm_tables.specs.Rows.{is_under}
use Rattle.jm_tables.specs.Schema.{station_tree, message_tree, held_tree, delayed_tree}
use Rattle.jm_tables.specs.Sound.{Serves}
use Rattle.jm_tables.specs.Valid.{IsStoredDelay, IsStoredHeld, IsStoredMessage}
use Rattle.jm_queries.specs.Shown.{delay_shown, held_shown, message_shown, station_shown}
use Rattle.jm_queries.proofs.Columns.{due_kind, held_kind, record_kind, rowid_kind, station_kind}
use Rattle.jm_decoding.specs.Kinds.{HasKeyKinds, HasMessageKinds, HasStationKinds}
use Rattle.jm_decoding.specs.Readable.{IsReadableDelay, IsReadableHeld, IsReadableMessage, IsReadableStation}
use Rattle.jm_decoding.proofs.Stored.{readable_delay, readable_held}
use Rattle.jm_load.specs.Faults.{AreAllStations, IsStation}

module _ (db : Database) (s : Serves db) where
  -- ---- the kinds

  station_kinds : (r : Row) → Has (db.trees station_tree) r → HasStationKinds (station_shown r)
  station_kinds r h = record {
    key = record { family = station_kind db s r 0 _ h refl refl refl (λ any. cc); client = station_kind db s r 1 _ h refl refl refl (λ any. cc); name = station_kind db s r 2 _ h refl refl refl (λ any. cc) };
    asked = record {
      shared = station_kind db s r 3 _ h refl refl refl (λ any. cc);
      topic = station_kind db s r 4 _ h refl refl refl (λ any. cc);
      selector = station_kind db s r 5 _ h refl refl refl (λ any. cc);
      no_local = station_kind db s r 6 _ h refl refl refl (λ any. cc);
    };
  }

  message_kinds : (r : Row) → Has (db.trees message_tree) r → HasMessageKinds (message_shown r)
  message_kinds r h = record { place = rowid_kind (db.trees message_tree) s.messages r h; bytes = record_kind db s r h }

  held_key_kinds : (r : Row) → Has (db.trees held_tree) r → HasKeyKinds (held_shown r)
  held_key_kinds r h = record { family = held_kind db s r 0 _ h refl refl refl (λ any. cc); client = held_kind db s r 1 _ h refl refl refl (λ any. cc); name = held_kind db s r 2 _ h refl refl refl (λ any. cc) }

  -- ---- rows that a store may have may be read

  pub station_readable : (r : Row) → Has (db.trees station_tree) r → IsStation (station_shown r) → IsReadableStation (station_shown r)
  station_readable r h is = record { kinds = station_kinds r h; station = is }

  pub message_readable : (r : Row) → Has (db.trees message_tree) r → IsStoredMessage (message_shown r) → IsReadableMessage (message_shown r)
  message_readable r h is = record { kinds = message_kinds r h; stored = is }

  pub held_readable : AreAllStations db.trees → (r : Row) → Has (db.trees held_tree) r → IsStoredHeld db.trees (held_shown r) → IsReadableHeld (held_shown r)
  held_readable stations r h is =
      let found = has_found (is_under is.key) (db.trees station_tree) is.station is.station_is in
      readable_held db.trees (held_shown r) is (held_key_kinds r h) (held_kind db s r 3 _ h refl refl refl (λ any. cc)) (held_kind db s r 4 _ h refl refl refl (λ any. cc))
      (all_has IsStation (db.trees station_tree) is.station stations found.0) found.1

  pub delay_readable : (r : Row) → Has (db.trees delayed_tree) r → IsStoredDelay db.trees (delay_shown r) → IsReadableDelay (delay_shown r)
  delay_readable r h is = readable_delay db.trees (delay_shown r) is (rowid_kind (db.trees delayed_tree) s.delayed r h) (due_kind db s r h)
