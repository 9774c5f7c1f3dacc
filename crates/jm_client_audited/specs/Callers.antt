-- Who called.
use Rattle.std.specs.Prelude.{ℕ, suc, Bool, false, List, [], ◌∷◌, ◌==◌, if◌then◌else◌}
use Rattle.jm_dest.specs.Names.{session_eq}
use Rattle.jm_machine.specs.declared.call.Who.{Who}
use Rattle.jm_machine.specs.declared.call.Who.TheVariants.{Connection, Session}

-- both are the same connection, or the same session
abbrev pub who_eq : Who → Who → Bool
who_eq (Connection a) (Connection b) = a == b
who_eq (Session s) (Session t) = session_eq s t
who_eq a b = false

-- the place of the first of the callers that is this one, or their number, where none is
abbrev pub place_of : List Who → Who → ℕ
place_of [] w = 0
place_of (c ∷ cs) w = if who_eq c w then 0 else suc (place_of cs w)
