-- What is read from a source, and when it cannot be read (ours).
use Rattle.std.specs.Prelude.{◌≡◌, ◌⊎◌, ◌<◌, ◌≤◌, ◌+◌, ◌-◌, ◌^◌, min, ℕ, Bool, true, false, List, length, Option, None, Result, Ok, Err, IfSome}
use Rattle.std.specs.Io.KnownBytes.{Consumes}
use Rattle.jm_play.specs.declared.fault.Fault.{Fault}
use Rattle.jm_play.specs.declared.fault.Fault.TheVariants as fault
use Rattle.jm_play.specs.declared.source.Source.{Source}

-- the most bytes that a scenario may have
abbrev pub scenario_max : ℕ
scenario_max = 16777216

-- the most reads that are made of a scenario: one for each byte, and one that finds the end
abbrev pub reads_max : ℕ
reads_max = 16777217

-- the bytes that an opened reader has left, where they are known; of one that was not opened none are
abbrev pub opened_remaining : {R E : Type 0} → (R → Option (List ℕ)) → Result R E → Option (List ℕ)
opened_remaining remaining (Ok reader) = remaining reader
opened_remaining remaining (Err error) = None

-- the bytes that a source has left, where they are known
abbrev pub source_remaining : {R : Type 0} → (R → Option (List ℕ)) → Source R → Option (List ℕ)
source_remaining remaining source = opened_remaining remaining source.opened

-- a read of the source has failed
abbrev pub has_failed : {R : Type 0} → Source R → Bool
has_failed source = source.has_failed

-- how many reads were made of the source
abbrev pub reads : {R : Type 0} → Source R → ℕ
reads source = source.reads

-- one more read; the count stays at 2^64-1
abbrev pub one_more : ℕ → ℕ
one_more reads = min (reads + 1) (2 ^ 64 - 1)

-- what a source gave, to its end: all that it had left, no more than a scenario may have, and no read of it failed
abbrev pub GivesAll : {R : Type 0} → (R → Option (List ℕ)) → Source R → Source R → List ℕ → Type 0
GivesAll remaining old new bytes = IfSome (source_remaining remaining old) (λ all. bytes ≡ all)
    × (length bytes ≤ scenario_max) × (has_failed old ≡ false) × (has_failed new ≡ false)

-- more bytes came than a scenario may have
abbrev pub GaveTooMuch : Option (List ℕ) → Option (List ℕ) → Type 0
GaveTooMuch old new = (bytes : List ℕ) × Consumes old new bytes × (scenario_max < length bytes)

-- a source cannot be read: a read of it failed, or too many bytes came
abbrev pub IsUnreadable : {R : Type 0} → (R → Option (List ℕ)) → Source R → Source R → Type 0
IsUnreadable remaining old new =
    (has_failed new ≡ true) ⊎ GaveTooMuch (source_remaining remaining old) (source_remaining remaining new)

-- a fault of reading a source: it cannot be read, or memory is refused before a read failed
abbrev pub IsFaultOfReading : {R : Type 0} → (R → Option (List ℕ)) → Source R → Source R → Fault → Type 0
IsFaultOfReading remaining old new fault.File = IsUnreadable remaining old new
IsFaultOfReading remaining old new fault.Memory = has_failed new ≡ has_failed old
IsFaultOfReading remaining old new _ = ⊥
