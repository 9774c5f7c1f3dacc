use Rattle.std.proofs.Common.{◌≡◌, ◌∷◌, map}
use Rattle.jm_seats.specs.Desks.{seats_at}
use Rattle.jm_seats.proofs.seats.Seats.into_passes.Given as goal

abbrev pub invariant-loop-desk : goal.invariant-loop-desk
invariant-loop-desk g l = l.passes.items ≡ l.fn.self.connections ∷ map (λ seat. seat.pass) (seats_at l.yielded)
