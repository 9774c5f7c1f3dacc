-- The rows of all tables, and what they stand for.
use Rattle.std.specs.Prelude.{◌≡◌, ◌⊎◌, ℕ, List, [], take, Option, None, Some, Result, Err, ⊤}
use Rattle.std.specs.List.{AllByRecursion}
use Rattle.sqlite_value.specs.Order.{Row}
use Rattle.sqlite_trees.specs.Tree.{Trees}
use Rattle.jm_opening.specs.declared.judged.OpenFault.{OpenFault}
use Rattle.jm_opening.specs.declared.judged.OpenFault.TheVariants.{Damaged, Memory}
use Rattle.jm_opening.specs.declared.judged.TableName.{TableName}
use Rattle.jm_opening.specs.declared.judged.TableName.TheVariants.{Station, Message, Held, Delayed}
use Rattle.jm_decoding.specs.declared.fault.TableFault.{TableFault}
use Rattle.jm_decoding.specs.declared.fault.TableFault.TheVariants as table
use Rattle.jm_decoding.specs.declared.station.StationRow.{StationRow}
use Rattle.jm_decoding.specs.declared.message.MessageRow.{MessageRow}
use Rattle.jm_decoding.specs.declared.held.HeldRow.{HeldRow}
use Rattle.jm_decoding.specs.declared.delay.DelayRow.{DelayRow}
use Rattle.jm_decoding.specs.Decoded.{IsStationOf, IsMessageOf, IsHeldOf, IsDelayOf}
use Rattle.jm_decoding.specs.Readable.{IsReadableStation, IsReadableMessage, IsReadableHeld, IsReadableDelay}
use Rattle.jm_decoding.specs.Tables.{IsFirstDamaged, StandFor}
use Rattle.jm_queries.specs.Shown.{AreStations, AreMessages, AreHeld, AreDelays}
use Rattle.jm_loading.specs.declared.assembled.Assembled.{Assembled}
use Rattle.jm_loading.specs.Fitting.{FitDelays, FitHeld, FitMessages, FitStations, IsFirstFault}
use Rattle.jm_load.specs.declared.decoding.Decoded.{Decoded}
use Rattle.jm_load.specs.declared.reading.TableRows.{TableRows}

-- the rows are those of the tables, as the queries show them
pub record AreRowsOf (db : Trees) (rows : TableRows) : Type 0 where
  pub stations : AreStations db rows.stations.items
  pub messages : AreMessages db rows.messages.items
  pub held : AreHeld db rows.held.items
  pub delays : AreDelays db rows.delays.items

-- ---- decoding

-- the fault of a table's rows, as it is told
abbrev pub fault_told : TableName → TableFault → OpenFault
fault_told of (table.Damaged at) = Damaged of at
fault_told of table.Memory = Memory

-- each row stands for the value with its index: all rows, or those before the first that may not be read
abbrev pub StandTo : {X : Type 0} → (Row → X → Type 0) → (Row → Type 0) → List Row → List X → Option ℕ → Type 0
StandTo StandsFor IsReadable rows xs None = StandFor StandsFor rows xs
StandTo StandsFor IsReadable rows xs (Some at) = IsFirstDamaged IsReadable rows at × StandFor StandsFor (take at rows) xs

-- the rows of held, and of delayed, stand for those values: all rows, or those before the first that may not be read
abbrev pub AreDecodedTo : TableRows → List HeldRow → List DelayRow → Option OpenFault → Type 0
AreDecodedTo rows held delays None = StandFor IsHeldOf rows.held.items held × StandFor IsDelayOf rows.delays.items delays
AreDecodedTo rows held delays (Some (Damaged Held at)) = StandTo IsHeldOf IsReadableHeld rows.held.items held (Some at) × (delays ≡ [])
AreDecodedTo rows held delays (Some (Damaged Delayed at)) = StandFor IsHeldOf rows.held.items held × StandTo IsDelayOf IsReadableDelay rows.delays.items delays (Some at)
AreDecodedTo rows held delays (Some _) = ⊥

-- each row stands for the value with its index, up to the first of held, or else of delayed, that may not be read
pub record IsDecodedOf (rows : TableRows) (decoded : Decoded) : Type 0 where
  pub stations : StandFor IsStationOf rows.stations.items decoded.stations.items
  pub messages : StandFor IsMessageOf rows.messages.items decoded.messages.items
  pub later : AreDecodedTo rows decoded.held.items decoded.delays.items decoded.damaged

-- why no row is decoded: the first row of station may not be read, or else the first of message; or memory is wanted
abbrev pub IsUndecoded : TableRows → OpenFault → Type 0
IsUndecoded rows (Damaged Station at) = IsFirstDamaged IsReadableStation rows.stations.items at
IsUndecoded rows (Damaged Message at) = AllByRecursion IsReadableStation rows.stations.items × IsFirstDamaged IsReadableMessage rows.messages.items at
IsUndecoded rows Memory = ⊤
IsUndecoded rows _ = ⊥

-- ---- making

-- the first of two faults: what the rows before the damaged one say together, or that this one is damaged
abbrev pub first_told : Result Assembled OpenFault → OpenFault → OpenFault
first_told (Err Memory) damaged = Memory
first_told (Err (Damaged Held at)) damaged = Damaged Held at
first_told (Err (Damaged Delayed at)) damaged = Damaged Delayed at
first_told _ damaged = damaged

-- the rows of held and of delayed fit, if those of station and of message do
abbrev pub DoFit : List StationRow → List MessageRow → List HeldRow → List DelayRow → Type 0
DoFit stations messages held delays = FitStations stations → FitMessages messages → FitHeld stations messages held × FitDelays messages delays

-- the first row of held, or else of delayed, does not fit; or memory is wanted
abbrev pub IsFirstLater : List StationRow → List MessageRow → List HeldRow → List DelayRow → OpenFault → Type 0
IsFirstLater stations messages held delays (Damaged Held at) = IsFirstFault stations messages held delays (Damaged Held at)
IsFirstLater stations messages held delays (Damaged Delayed at) = IsFirstFault stations messages held delays (Damaged Delayed at)
IsFirstLater stations messages held delays Memory = ⊤
IsFirstLater stations messages held delays _ = ⊥

-- why no core is made: the first fault of the rows; where a row of held or of delayed is damaged, that, where those before it fit,
-- or else the first of these that does not
abbrev pub IsUnmade : List StationRow → List MessageRow → List HeldRow → List DelayRow → Option OpenFault → OpenFault → Type 0
IsUnmade stations messages held delays None fault = IsFirstFault stations messages held delays fault
IsUnmade stations messages held delays (Some damaged) fault = ((fault ≡ damaged) × DoFit stations messages held delays) ⊎ IsFirstLater stations messages held delays fault
