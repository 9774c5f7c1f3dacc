-- What an error of the database is told as.
use Rattle.sqlite.specs.declared.error.Error.{Error}
use Rattle.sqlite.specs.declared.error.Error.TheVariants.{SqliteFailure}
use Rattle.sqlite.specs.declared.error.ErrorCode.TheVariants.{OutOfMemory}
use Rattle.jm_keep.specs.declared.keep.StoreFault.{StoreFault}
use Rattle.jm_keep.specs.declared.keep.StoreFault.TheVariants.{Memory, Device}

-- that memory was refused is told as such, and any other error as one of the device
abbrev pub fault_of : Error → StoreFault
fault_of (SqliteFailure OutOfMemory) = Memory
fault_of _ = Device
