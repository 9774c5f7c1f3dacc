-- What it changes that a durable subscription is put.
use Rattle.std.specs.Prelude.{◌≡◌, Bool, true, false, List, [], ◌∷◌, Some}
use Rattle.jm_dest.specs.declared.key.Key.{Key}
use Rattle.jm_machine.specs.declared.state.Definition.{Definition}
use Rattle.jm_machine.specs.Machine.{State}
use Rattle.jm_keep.specs.declared.change.RowChange.{RowChange}
use Rattle.jm_keep.specs.declared.change.RowChange.TheVariants.{DropStation, PutStation}
use Rattle.jm_keep.specs.Calls.{DropsThen}
use Rattle.jm_keep.specs.Steps.{all_under}

-- the subscription comes; where another stands, that goes first with its rows
abbrev pub ArePut : Bool → Key → Definition → State → List RowChange → Type 0
ArePut true k d state changes = DropsThen (all_under k) state (DropStation k ∷ PutStation k (Some d) ∷ []) changes
ArePut false k d state changes = changes ≡ PutStation k (Some d) ∷ []
