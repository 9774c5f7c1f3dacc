-- Why the rows of a store are not read.
use Rattle.std.specs.Prelude.{◌≡◌, ◌⊎◌, false, IsSome, ⊤}
use Rattle.sqlite_disk.specs.Disk.{MoreFaults}
use Rattle.sqlite.specs.State.{State}
use Rattle.sqlite.specs.declared.error.Error.{Error}
use Rattle.sqlite.specs.declared.error.Error.TheVariants.{SqliteFailure}
use Rattle.sqlite.specs.declared.error.ErrorCode.TheVariants.{OutOfMemory}
use Rattle.jm_opening.specs.declared.judged.OpenFault.{OpenFault}
use Rattle.jm_opening.specs.declared.judged.OpenFault.TheVariants.{Memory, Store}

-- an error of a query, as it is told
abbrev pub query_fault : Error → OpenFault
query_fault (SqliteFailure OutOfMemory) = Memory
query_fault _ = Store

-- the database was shut before, the disk failed in the call, or a limit on steps stands
abbrev pub IsStoreCause : State → State → Type 0
IsStoreCause old new = (old.is_open ≡ false) ⊎ MoreFaults old.faults new.faults ⊎ IsSome old.step_limit

-- memory was refused, or the database has a cause
abbrev pub IsUnread : State → State → OpenFault → Type 0
IsUnread old new Memory = ⊤
IsUnread old new Store = IsStoreCause old new
IsUnread old new _ = ⊥
