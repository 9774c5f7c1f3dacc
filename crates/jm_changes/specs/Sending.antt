-- What a message that is published changes of what is stored.
use Rattle.std.specs.Prelude.{◌≡◌, ℕ, true, List, ◌++◌}
use Rattle.jm_dest.specs.declared.key.Key.{Key}
use Rattle.jm_header.specs.declared.content.Content.{Content}
use Rattle.jm_machine.specs.Machine.{State}
use Rattle.jm_machine.specs.Under.{is_persistent}
use Rattle.jm_keep.specs.declared.change.RowChange.{RowChange}
use Rattle.jm_keep.specs.Calls.{AreTakers, brought}

-- after those changes stand the ones by which the message comes at the place to the keys that take it
abbrev pub IsBrought : State → Content → ℕ → List RowChange → List RowChange → Type 0
IsBrought state m place old new = (keys : List Key) × (is_persistent m.mode ≡ true → AreTakers state m keys) × (new ≡ old ++ brought m place keys)
