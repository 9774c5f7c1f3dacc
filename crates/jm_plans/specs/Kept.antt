-- How many messages a state holds.
use Rattle.std.specs.Prelude.{◌≡◌, ◌<◌, ◌↔◌, ℕ, List, Contains, length, nat_eq}
use Rattle.std.specs.List.{IsDistinct}
use Rattle.jm_machine.specs.declared.state.Station.{Station}
use Rattle.jm_machine.specs.Wants.{holders_of}

-- so many messages are held: as many as places have rows
pub record IsNumberOfMessages (n : ℕ) (stations : List Station) : Type 0 where
  pub places : List ℕ
  pub once : IsDistinct nat_eq places
  pub each : (p : ℕ) → (Contains places p) ↔ (0 < holders_of p stations)
  pub number : length places ≡ n
