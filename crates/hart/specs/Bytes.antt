-- Loads and stores, byte by byte.
use Rattle.std.specs.Prelude.{◌≡◌, ℕ, ◌+◌, ◌-◌, ◌*◌, ◌%◌, ◌^◌, ◌<◌, ◌≤◌}
use Rattle.words.specs.Bits.{field, signed}
use Rattle.isa.specs.declared.instruction.LoadWidth.{LoadWidth}
use Rattle.isa.specs.declared.instruction.LoadWidth.TheVariants.{Byte, Half, Word, ByteUnsigned, HalfUnsigned}
use Rattle.isa.specs.declared.instruction.StoreWidth.{StoreWidth}
use Rattle.isa.specs.Loads.{loaded}
use Rattle.isa.specs.Stores.{store_bytes, stored}

-- byte k of a word, from its lowest
abbrev pub byte_of : ℕ → ℕ → ℕ
byte_of word k = field word (8 * k) 8

-- the number that two bytes from byte k on write, low byte first, and the number that four write
abbrev pub two_bytes : ℕ → ℕ → ℕ
two_bytes word k = byte_of word k + 2 ^ 8 * byte_of word (k + 1)

abbrev pub four_bytes : ℕ → ℕ → ℕ
four_bytes word k = two_bytes word k + 2 ^ 16 * two_bytes word (k + 2)

-- from the address on stand the low bytes of the value, low byte first, and the other bytes of the word stay; a word of 32 bits stays one
pub record StoredIn (width : StoreWidth) (address word value : ℕ) : Type 0 where
  pub there : (k : ℕ) → address % 4 ≤ k → k < address % 4 + store_bytes width → byte_of (stored width word address value) k ≡ byte_of value (k - address % 4)
  pub below : (k : ℕ) → k < address % 4 → byte_of (stored width word address value) k ≡ byte_of word k
  pub above : (k : ℕ) → address % 4 + store_bytes width ≤ k → k < 4 → byte_of (stored width word address value) k ≡ byte_of word k
  pub fits : word < 2 ^ 32 → value < 2 ^ 32 → stored width word address value < 2 ^ 32

-- so does every store to an aligned address
abbrev pub StoresBytes : Type 0
StoresBytes = (width : StoreWidth) (address word value : ℕ) → address % store_bytes width ≡ 0 → StoredIn width address word value

-- a load gives the bytes from the address on, low byte first; those of LB and LH are read as a signed number of 8 and of 16 bits
pub record LoadedFrom (address word : ℕ) : Type 0 where
  pub byte : loaded ByteUnsigned word address ≡ byte_of word (address % 4)
  pub half : loaded HalfUnsigned word address ≡ two_bytes word (address % 4)
  pub whole : loaded Word word address ≡ four_bytes word (address % 4)
  pub signed_byte : signed 32 (loaded Byte word address) ≡ signed 8 (byte_of word (address % 4))
  pub signed_half : signed 32 (loaded Half word address) ≡ signed 16 (two_bytes word (address % 4))
  pub fits : (width : LoadWidth) → loaded width word address < 2 ^ 32

abbrev pub LoadsBytes : Type 0
LoadsBytes = (address word : ℕ) → LoadedFrom address word
