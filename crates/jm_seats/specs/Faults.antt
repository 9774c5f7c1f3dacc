-- The faults of a stretch.
use Rattle.jm_seats.specs.declared.stretch.StretchFault.{StretchFault}
use Rattle.jm_seats.specs.declared.stretch.StretchFault.TheVariants.{NoSeat, Memory}

-- P, where the fault is that a call is made at no seat; a want of memory may come always
abbrev pub OnNoSeat : StretchFault → Type 0 → Type 0
OnNoSeat NoSeat P = P
OnNoSeat Memory P = Unit {0}
