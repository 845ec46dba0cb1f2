-- The loads: their numbers, how many bytes each has, and what it makes of them.
use Rattle.std.specs.Prelude.{ℕ, List, [], ◌∷◌}
use Rattle.words.specs.Bits.{signed}
use Rattle.isa.specs.declared.instruction.LoadWidth.{LoadWidth}
use Rattle.isa.specs.declared.instruction.LoadWidth.TheVariants.{Byte, Half, Word, ByteUnsigned, HalfUnsigned}
use Rattle.isa.specs.Integers.{remainder}
use Rattle.isa.specs.Memory.{bytes_at}

pub record LoadRow : Type 0 where
  pub funct3 : ℕ
  pub bytes : ℕ
  pub meaning : ℕ → ℕ

-- LB and LH extend the sign, LBU and LHU extend with zeros
abbrev pub load_row : LoadWidth → LoadRow
load_row Byte = record { funct3 = 0; bytes = 1; meaning = λ value. remainder 32 (signed 8 value) }
load_row Half = record { funct3 = 1; bytes = 2; meaning = λ value. remainder 32 (signed 16 value) }
load_row Word = record { funct3 = 2; bytes = 4; meaning = λ value. value }
load_row ByteUnsigned = record { funct3 = 4; bytes = 1; meaning = λ value. value }
load_row HalfUnsigned = record { funct3 = 5; bytes = 2; meaning = λ value. value }

abbrev pub loads : List LoadWidth
loads = Byte ∷ Half ∷ Word ∷ ByteUnsigned ∷ HalfUnsigned ∷ []

abbrev pub load_number : LoadWidth → ℕ
load_number width = (load_row width).funct3

abbrev pub load_bytes : LoadWidth → ℕ
load_bytes width = (load_row width).bytes

-- what a load gives from the word that its address lies in
abbrev pub loaded : LoadWidth → ℕ → ℕ → ℕ
loaded width word address = (load_row width).meaning (bytes_at word address (load_bytes width))
