-- How much the numbers in a record hold.
use Rattle.std.specs.Prelude.{ℕ, ◌-◌, ◌^◌}
use Rattle.std.specs.Int.{Width}
use mir.Val.{bits}

-- the first number that 4 bytes do not hold
abbrev pub number_end : ℕ
number_end = 2 ^ 32

-- the first length that 8 bytes do not hold
abbrev pub length_end : ℕ
length_end = 2 ^ 64

-- the greatest number of this width
abbrev pub greatest : Width → ℕ
greatest w = 2 ^ bits w - 1
