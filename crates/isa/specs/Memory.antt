-- Bytes and halves in a word, low byte first.
use Rattle.std.specs.Prelude.{ℕ, ◌+◌, ◌-◌, ◌*◌, ◌%◌, ◌^◌, Bool, ◌==◌}
use Rattle.words.specs.Bits.{field}

abbrev pub is_aligned : ℕ → ℕ → Bool
is_aligned bytes address = address % bytes == 0

-- the `count` bytes of a word from the one at an address on
abbrev pub bytes_at : ℕ → ℕ → ℕ → ℕ
bytes_at word address count = field word (8 * (address % 4)) (8 * count)

-- a word with `count` bits from bit `shift` on replaced by the low bits of a value
abbrev pub replaced : ℕ → ℕ → ℕ → ℕ → ℕ
replaced word shift count value = word - field word shift count * 2 ^ shift + field value 0 count * 2 ^ shift
