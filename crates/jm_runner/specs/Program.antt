-- The exit status of the program, and the fault of a database that is not opened (ours).
use Rattle.std.specs.Prelude.{ℕ}
use Rattle.sqlite.specs.declared.error.Error.{Error}
use Rattle.sqlite.specs.declared.error.Error.TheVariants.{SqliteFailure}
use Rattle.sqlite.specs.declared.error.ErrorCode.TheVariants.{OutOfMemory}
use Rattle.clap.specs.Values.{kind_of}
use Rattle.clap.specs.declared.error.ErrorKind.{ErrorKind}
use Rattle.clap.specs.declared.error.ErrorKind.TheVariants.{DisplayHelp, DisplayVersion}
use Rattle.jm_play.specs.declared.database.DatabaseFault.TheVariants.{Failed}
use Rattle.jm_play.specs.declared.fault.Fault.{Fault}
use Rattle.jm_play.specs.declared.fault.Fault.TheVariants as fault
use Rattle.jm_words.specs.declared.words.WordsFault.{WordsFault}
use Rattle.jm_words.specs.declared.words.WordsFault.TheVariants.{Refused, Memory}

-- the exit status of words that clap refuses: 0 where they ask for help or the version, and 2 where they are wrong
abbrev pub status_of_kind : ErrorKind → ℕ
status_of_kind DisplayHelp = 0
status_of_kind DisplayVersion = 0
status_of_kind _ = 2

-- the exit status of words that give nothing to do: that one, or 3 where memory is refused
abbrev pub status_of_words : WordsFault → ℕ
status_of_words (Refused error) = status_of_kind (kind_of error)
status_of_words Memory = 3

-- the program's fault for a database that is not opened
abbrev pub fault_of_database : Error → Fault
fault_of_database (SqliteFailure OutOfMemory) = fault.Memory
fault_of_database _ = fault.Database Failed
