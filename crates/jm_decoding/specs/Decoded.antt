-- What a row that may be read stands for.
use Rattle.std.specs.Prelude.{◌≡◌, ◌≤◌, ◌<◌, pos, Some, None, if◌then◌else◌, ⊤}
use Rattle.jm_dest.specs.Numbers.{long_end}
use Rattle.jm_format.specs.Messages.{IsWriteable}
use Rattle.jm_machine.specs.Reopened.{is_durable}
use Rattle.jm_machine.specs.Rows.{greatest_count}
use Rattle.sqlite_value.specs.Order.{Row, column, bytes}
use Rattle.sqlite_trees.specs.Tree.{rowid}
use Rattle.sqlite_rules.specs.Edit.{id_in}
use Rattle.jm_tables.specs.Keys.{key_of}
use Rattle.jm_tables.specs.Rows.{definition_in}
use Rattle.jm_tables.specs.Valid.{IsRecordOf}
use Rattle.jm_decoding.specs.Readable.{IsReadableStation, IsReadableMessage, IsReadableHeld, IsReadableDelay}
use Rattle.jm_decoding.specs.declared.delay.DelayRow.{DelayRow}
use Rattle.jm_decoding.specs.declared.fault.RowFault.{RowFault}
use Rattle.jm_decoding.specs.declared.fault.RowFault.TheVariants.{Damaged, Memory}
use Rattle.jm_decoding.specs.declared.held.HeldRow.{HeldRow}
use Rattle.jm_decoding.specs.declared.message.MessageRow.{MessageRow}
use Rattle.jm_decoding.specs.declared.station.StationRow.{StationRow}

-- the row of station is that of the key, with what a durable subscription asks for
pub record IsStationOf (r : Row) (station : StationRow) : Type 0 where
  pub readable : IsReadableStation r
  pub key_is : key_of r ≡ Some station.key
  pub definition_is : station.definition ≡ (if is_durable station.key then Some (definition_in r) else None)

-- the row of message is that of the place, and its bytes are the record of the message
pub record IsMessageOf (r : Row) (stored : MessageRow) : Type 0 where
  pub readable : IsReadableMessage r
  pub place_is : id_in (rowid r) ≡ pos stored.place
  pub positive : 1 ≤ stored.place
  pub below : stored.place < long_end
  pub record_is : IsRecordOf stored.message (bytes (column r 2))
  pub fresh : IsWriteable stored.message

-- the row of held is that of the key at the place, which was delivered so often
pub record IsHeldOf (r : Row) (held : HeldRow) : Type 0 where
  pub readable : IsReadableHeld r
  pub key_is : key_of r ≡ Some held.key
  pub place_is : id_in (column r 4) ≡ pos held.place
  pub count_is : id_in (column r 5) ≡ pos held.count
  pub count_within : held.count ≤ greatest_count

-- the row of delayed is that of the place, which becomes due then
pub record IsDelayOf (r : Row) (delay : DelayRow) : Type 0 where
  pub readable : IsReadableDelay r
  pub place_is : id_in (rowid r) ≡ pos delay.place
  pub due_is : id_in (column r 2) ≡ pos delay.due

-- why a row is refused: it is damaged where it may not be read, or memory is wanted
abbrev pub IsFaultOfRow : Type 0 → RowFault → Type 0
IsFaultOfRow IsReadable Damaged = ¬ IsReadable
IsFaultOfRow IsReadable Memory = ⊤
