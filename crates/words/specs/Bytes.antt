-- Numbers written in bytes, low byte first.
use Rattle.std.specs.Prelude.{ℕ, zero, suc, ◌+◌, ◌*◌, List, slice_index}

-- the byte at a place, 0 past the end
abbrev pub byte : List ℕ → ℕ → ℕ
byte bytes at = slice_index bytes at

-- the number that `count` bytes from a place on write
abbrev pub number : List ℕ → ℕ → ℕ → ℕ
number bytes at zero = 0
number bytes at (suc count) = byte bytes at + 256 * number bytes (at + 1) count
