-- Integers in bits.
use Rattle.std.specs.Prelude.{ℕ, ◌^◌, ℤ, pos, unsigned_abs}
use Rattle.std.specs.Int.{int_rem_euclid}

-- the remainder of an integer by 2 ^ width: its low bits in two's complement
abbrev pub remainder : ℕ → ℤ → ℕ
remainder width z = unsigned_abs (int_rem_euclid z (pos (2 ^ width)))
