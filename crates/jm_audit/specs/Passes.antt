-- What contracts see of a pass.
use Rattle.std.specs.Prelude.{ℕ, List, [], nat_le}
use Rattle.std.specs.List.{filter}
use Rattle.jm_audit.specs.declared.pass.PassEntry.{PassEntry}

-- the calls of a pass that it still has, in order; how many were made with it; and for how many more there is room
pub record Calls : Type 0 where
  pub entries : List PassEntry
  pub made : ℕ
  pub room : ℕ

-- a pass with which nothing was called
abbrev pub no_calls : Calls
no_calls = record { entries = []; made = 0; room = 0 }

-- the entries at that position or above it, in order
abbrev pub not_below : ℕ → List PassEntry → List PassEntry
not_below first entries = filter (λ e. nat_le first e.position) entries
