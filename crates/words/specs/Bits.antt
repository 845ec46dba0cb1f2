-- Fields of a word as quotients and remainders, and two's complement.
use Rattle.std.specs.Prelude.{ℕ, ◌*◌, ◌/◌, ◌%◌, ◌^◌, cond, ℤ, pos, ◌-ℤ◌, nat_lt}

-- the `count` bits of a word from bit `low` on
abbrev pub field : ℕ → ℕ → ℕ → ℕ
field word low count = word / 2 ^ low % 2 ^ count

-- what a number below 2 ^ width stands for in two's complement
abbrev pub complement : ℕ → ℕ → ℤ
complement width n = cond (nat_lt (2 * n) (2 ^ width)) (pos n) (pos n -ℤ pos (2 ^ width))

-- what the low `width` bits of a word stand for in two's complement
abbrev pub signed : ℕ → ℕ → ℤ
signed width word = complement width (field word 0 width)
