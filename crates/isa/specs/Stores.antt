-- The stores: their numbers, how many bytes each has, and the word that its address lies in after it.
use Rattle.std.specs.Prelude.{ℕ, ◌*◌, ◌/◌, ◌%◌, List, [], ◌∷◌}
use Rattle.isa.specs.declared.instruction.StoreWidth.{StoreWidth}
use Rattle.isa.specs.declared.instruction.StoreWidth.TheVariants.{Byte, Half, Word}
use Rattle.isa.specs.Memory.{replaced}

pub record StoreRow : Type 0 where
  pub funct3 : ℕ
  pub bytes : ℕ
  pub meaning : (word address value : ℕ) → ℕ

abbrev pub store_row : StoreWidth → StoreRow
store_row Byte = record { funct3 = 0; bytes = 1; meaning = λ word address value. replaced word (8 * (address % 4)) 8 value }
store_row Half = record { funct3 = 1; bytes = 2; meaning = λ word address value. replaced word (16 * (address / 2 % 2)) 16 value }
store_row Word = record { funct3 = 2; bytes = 4; meaning = λ word address value. value }

abbrev pub stores : List StoreWidth
stores = Byte ∷ Half ∷ Word ∷ []

abbrev pub store_number : StoreWidth → ℕ
store_number width = (store_row width).funct3

abbrev pub store_bytes : StoreWidth → ℕ
store_bytes width = (store_row width).bytes

-- the word after a store into it
abbrev pub stored : StoreWidth → ℕ → ℕ → ℕ → ℕ
stored width = (store_row width).meaning
