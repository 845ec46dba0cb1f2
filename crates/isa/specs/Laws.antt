-- What decoding, the registers and the operations come to.
use Rattle.std.specs.Prelude.{◌≡◌, ℕ, ◌+◌, ◌-◌, ◌%◌, ◌^◌, ◌<◌, ◌≤◌, min, max, ◌≢◌, ◌⊎◌, pos, ◌+ℤ◌, ◌*ℤ◌, ◌≤ℤ◌, ◌<ℤ◌, Some, None, Decides}
use Rattle.std.specs.Int.{bit_at}
use Rattle.words.specs.Bits.{signed}
use Rattle.isa.specs.declared.register.Register.{Register}
use Rattle.isa.specs.declared.register.Registers.{Registers}
use Rattle.isa.specs.declared.instruction.Operation.{Operation}
use Rattle.isa.specs.declared.instruction.Operation.TheVariants.{Add, Sub, ShiftLeft, LessThan, LessThanUnsigned, Xor, ShiftRight, ShiftRightArithmetic, Or, And}
use Rattle.isa.specs.declared.instruction.Condition.TheVariants.{Equal, NotEqual, Less, GreaterEqual, LessUnsigned, GreaterEqualUnsigned}
use Rattle.isa.specs.declared.instruction.Instruction.{Instruction}
use Rattle.isa.specs.Registers.{register, blank, held, written}
use Rattle.isa.specs.Operations.{computed}
use Rattle.isa.specs.Conditions.{holds}
use Rattle.isa.specs.Decoding.{decoded}
use Rattle.isa.specs.Encoding.{encoding, Encodable}

-- a word decodes to an instruction if and only if it is the word of that instruction, which is lawful
pub record Decodes (w : ℕ) (i : Instruction) : Type 0 where
  pub only : decoded w ≡ Some i → (encoding i ≡ w) × Encodable i
  pub each : encoding i ≡ w → Encodable i → decoded w ≡ Some i

abbrev pub Exact : Type 0
Exact = (w : ℕ) (i : Instruction) → w < 2 ^ 32 → Decodes w i

-- a lawful instruction has a word of 32 bits, and no other has the same
abbrev pub Encodes : Type 0
Encodes = (i : Instruction) → Encodable i → encoding i < 2 ^ 32

abbrev pub Injective : Type 0
Injective = (i j : Instruction) → Encodable i → Encodable j → encoding i ≡ encoding j → i ≡ j

-- a word is illegal if and only if no lawful instruction has it
pub record Refuses (w : ℕ) : Type 0 where
  pub none : decoded w ≡ None → (i : Instruction) → Encodable i → encoding i ≢ w
  pub illegal : ((i : Instruction) → Encodable i → encoding i ≢ w) → decoded w ≡ None

abbrev pub Illegal : Type 0
Illegal = (w : ℕ) → w < 2 ^ 32 → Refuses w

-- register 0 holds 0, and at the start every register does
abbrev pub Zero : Type 0
Zero = (rs : Registers) → held rs (register 0) ≡ 0

abbrev pub Starts : Type 0
Starts = (r : Register) → held blank r ≡ 0

-- a write is read back, but from register 0, and leaves every other register
pub record Writing (rs : Registers) (r : Register) (value : ℕ) : Type 0 where
  pub back : r ≢ register 0 → held (written rs r value) r ≡ value
  pub zero : held (written rs r value) (register 0) ≡ 0
  pub others : (s : Register) → s ≢ r → held (written rs r value) s ≡ held rs s

abbrev pub Writes : Type 0
Writes = (rs : Registers) (r : Register) (value : ℕ) → Writing rs r value

-- what an operation computes of two words is a word
abbrev pub GivesWords : Type 0
GivesWords = (o : Operation) (a b : ℕ) → a < 2 ^ 32 → b < 2 ^ 32 → computed o a b < 2 ^ 32

-- ADD is the sum or 2 ^ 32 below it, SUB the difference or 2 ^ 32 above it
pub record Wraps (a b : ℕ) : Type 0 where
  pub sum : (computed Add a b ≡ a + b) ⊎ (computed Add a b + 2 ^ 32 ≡ a + b)
  pub difference : (computed Sub a b + b ≡ a) ⊎ (computed Sub a b + b ≡ a + 2 ^ 32)

abbrev pub Adds : Type 0
Adds = (a b : ℕ) → a < 2 ^ 32 → b < 2 ^ 32 → Wraps a b

-- SUB undoes ADD, and ADD undoes SUB
abbrev pub Undoes : Type 0
Undoes = (a b : ℕ) → a < 2 ^ 32 → b < 2 ^ 32 → (computed Sub (computed Add a b) b ≡ a) × (computed Add (computed Sub a b) b ≡ a)

-- XOR, OR and AND take each bit by itself: it is 1 where exactly one of the two is, where at least one is, where both are
pub record BitByBit (a b i : ℕ) : Type 0 where
  pub xor : bit_at (computed Xor a b) i ≡ (bit_at a i + bit_at b i) % 2
  pub or : bit_at (computed Or a b) i ≡ max (bit_at a i) (bit_at b i)
  pub and : bit_at (computed And a b) i ≡ min (bit_at a i) (bit_at b i)

abbrev pub Bitwise : Type 0
Bitwise = (a b i : ℕ) → BitByBit a b i

-- SLL by k moves every bit k places up, with 0 below them, and SRL moves every bit k places down
pub record Moved (a k i : ℕ) : Type 0 where
  pub below : i < k → bit_at (computed ShiftLeft a k) i ≡ 0
  pub up : k ≤ i → bit_at (computed ShiftLeft a k) i ≡ bit_at a (i - k)
  pub down : bit_at (computed ShiftRight a k) i ≡ bit_at a (i + k)

abbrev pub Moves : Type 0
Moves = (a k i : ℕ) → k < 32 → i < 32 → Moved a k i

-- a shift is by the low five bits of its second operand
pub record LowFive (a b : ℕ) : Type 0 where
  pub sll : computed ShiftLeft a b ≡ computed ShiftLeft a (b % 32)
  pub srl : computed ShiftRight a b ≡ computed ShiftRight a (b % 32)
  pub sra : computed ShiftRightArithmetic a b ≡ computed ShiftRightArithmetic a (b % 32)

abbrev pub ShiftsByFive : Type 0
ShiftsByFive = (a b : ℕ) → LowFive a b

-- SLT and SLTU give 1 or 0 by the order of the signed readings and of the words, and branches are taken by the same orders
pub record Compares (a b : ℕ) : Type 0 where
  pub slt : (signed 32 a <ℤ signed 32 b → computed LessThan a b ≡ 1) × (signed 32 b ≤ℤ signed 32 a → computed LessThan a b ≡ 0)
  pub sltu : (a < b → computed LessThanUnsigned a b ≡ 1) × (b ≤ a → computed LessThanUnsigned a b ≡ 0)
  pub beq : Decides (holds Equal a b) (a ≡ b)
  pub bne : Decides (holds NotEqual a b) (a ≢ b)
  pub blt : Decides (holds Less a b) (signed 32 a <ℤ signed 32 b)
  pub bge : Decides (holds GreaterEqual a b) (signed 32 b ≤ℤ signed 32 a)
  pub bltu : Decides (holds LessUnsigned a b) (a < b)
  pub bgeu : Decides (holds GreaterEqualUnsigned a b) (b ≤ a)

abbrev pub Orders : Type 0
Orders = (a b : ℕ) → Compares a b

-- SRA rounds down: the signed result times 2 ^ k is at most the signed operand, and one more is too much
pub record Floor (a k : ℕ) : Type 0 where
  pub low : (pos (2 ^ k) *ℤ signed 32 (computed ShiftRightArithmetic a k)) ≤ℤ signed 32 a
  pub high : signed 32 a <ℤ (pos (2 ^ k) *ℤ (signed 32 (computed ShiftRightArithmetic a k) +ℤ pos 1))

abbrev pub RoundsDown : Type 0
RoundsDown = (a k : ℕ) → a < 2 ^ 32 → k < 32 → Floor a k
