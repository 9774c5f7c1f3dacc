-- Where bytes are damaged that are not the record of a message.
use Rattle.std.specs.Prelude.{◌≡◌, ◌≢◌, ℕ, ◌≤◌, List, ◌++◌, length, take}
use Rattle.std.specs.List.{concat}
use Rattle.jm_header.specs.declared.content.Content.{Content}
use Rattle.jm_record.specs.declared.fault.RecordFault.{RecordFault}
use Rattle.jm_record.specs.declared.fault.RecordFault.TheVariants.{Damaged, Memory}
use Rattle.jm_format.specs.Format.{fields, «record»}
use Rattle.jm_format.specs.Messages.{IsMessage}

-- the first so many bytes are the first fields of some message's record, each of them whole
pub record Begins (bytes : List ℕ) (at : ℕ) : Type 0 where
  pub message : Content
  pub is_message : IsMessage message
  pub count : ℕ
  pub rest : List ℕ
  pub parts : bytes ≡ concat (take count (fields message)) ++ rest
  pub ends : at ≡ length (concat (take count (fields message)))

-- where the first field begins that is cut or not allowed, or the first byte after the end: the bytes are whole
-- fields of some message's record up to there and no further, and are no message's record
pub record IsDamaged (bytes : List ℕ) (at : ℕ) : Type 0 where
  pub begins : Begins bytes at
  pub first : (further : ℕ) → Begins bytes further → further ≤ at
  pub none : (m : Content) → IsMessage m → bytes ≢ «record» m

-- why bytes are refused: they are damaged there, or memory is wanted
abbrev pub Refuses : List ℕ → RecordFault → Type 0
Refuses bytes (Damaged at) = IsDamaged bytes at
Refuses bytes Memory = Unit {0}
