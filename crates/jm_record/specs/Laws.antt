-- What the records of all messages obey.
use Rattle.std.specs.Prelude.{◌≡◌, ℕ, List, [], ◌++◌}
use Rattle.jm_header.specs.declared.content.Content.{Content}
use Rattle.jm_format.specs.Format as format
use Rattle.jm_format.specs.Messages.{IsMessage, writeable}

-- no record is a proper prefix of another
abbrev pub NoPrefix : Type 0
NoPrefix = (a b : Content) (rest : List ℕ) → IsMessage a → IsMessage b → format.record a ++ rest ≡ format.record b → rest ≡ []

-- messages of one record are the same but for their read-only marks
abbrev pub OneMessage : Type 0
OneMessage = (a b : Content) → IsMessage a → IsMessage b → format.record a ≡ format.record b → writeable a ≡ writeable b
