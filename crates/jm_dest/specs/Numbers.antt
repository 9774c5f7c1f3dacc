-- Up to where numbers run.
use Rattle.std.specs.Prelude.{ℕ, ◌^◌}

-- the first number that is no long: moments, numbers of sends and places run to 2^63-1 (ours)
abbrev pub long_end : ℕ
long_end = 2 ^ 63
