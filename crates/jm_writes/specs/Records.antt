-- What is written of messages.
use Rattle.std.specs.Prelude.{ℕ, List, IfSome, ⊤}
use Rattle.jm_header.specs.declared.content.Content.{Content}
use Rattle.jm_keep.specs.Stored.{Stored}
use Rattle.jm_keep.specs.declared.change.RowChange.{RowChange}
use Rattle.jm_keep.specs.declared.change.RowChange.TheVariants.{PutMessage}
use Rattle.jm_tables.specs.Valid.{IsRecordOf}

-- the bytes are the record of a message, which is PERSISTENT
abbrev pub IsRecord : List ℕ → Type 0
IsRecord bytes = (m : Content) × IsRecordOf m bytes

-- where a change brings a message, it brings its record
abbrev pub BringsRecord : RowChange → Type 0
BringsRecord (PutMessage place bytes) = IsRecord bytes
BringsRecord _ = ⊤

-- of each message that is stored, its record is
abbrev pub StoresRecords : Stored → Type 0
StoresRecords stored = (place : ℕ) → IfSome (stored.message place) IsRecord
