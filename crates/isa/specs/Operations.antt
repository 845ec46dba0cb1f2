-- The operations of the ALU: their numbers, and what each computes from two words, in integers and remainders by 2 ^ 32.
use Rattle.std.specs.Prelude.{◌≡◌, ℕ, ◌+◌, ◌*◌, ◌/◌, ◌%◌, ◌^◌, cond, List, [], ◌∷◌, None, Result, pos, ◌+ℤ◌, ◌-ℤ◌, bit_and, bit_or, bit_xor, int_lt, nat_lt}
use Rattle.std.specs.Result.{result_ok}
use Rattle.std.specs.Int.Signed.{shr_z}
use Rattle.words.specs.Bits.{signed}
use Rattle.isa.specs.declared.instruction.Operation.{Operation}
use Rattle.isa.specs.declared.instruction.Operation.TheVariants.{Add, Sub, ShiftLeft, LessThan, LessThanUnsigned, Xor, ShiftRight, ShiftRightArithmetic, Or, And}
use Rattle.isa.specs.declared.numbers.Illegal.{Illegal}
use Rattle.isa.specs.Integers.{remainder}
use Rattle.isa.specs.Tables.{numbered}

pub record OperationRow : Type 0 where
  pub funct7 : ℕ
  pub funct3 : ℕ
  pub meaning : ℕ → ℕ → ℕ

-- sums and differences wrap at 2 ^ 32; a shift is by the low five bits of b
abbrev pub operation_row : Operation → OperationRow
operation_row Add = record { funct7 = 0x00; funct3 = 0; meaning = λ a b. remainder 32 (pos a +ℤ pos b) }
operation_row Sub = record { funct7 = 0x20; funct3 = 0; meaning = λ a b. remainder 32 (pos a -ℤ pos b) }
operation_row ShiftLeft = record { funct7 = 0x00; funct3 = 1; meaning = λ a b. a * 2 ^ (b % 32) % 2 ^ 32 }
operation_row LessThan = record { funct7 = 0x00; funct3 = 2; meaning = λ a b. cond (int_lt (signed 32 a) (signed 32 b)) 1 0 }
operation_row LessThanUnsigned = record { funct7 = 0x00; funct3 = 3; meaning = λ a b. cond (nat_lt a b) 1 0 }
operation_row Xor = record { funct7 = 0x00; funct3 = 4; meaning = bit_xor }
operation_row ShiftRight = record { funct7 = 0x00; funct3 = 5; meaning = λ a b. a / 2 ^ (b % 32) }
operation_row ShiftRightArithmetic = record { funct7 = 0x20; funct3 = 5; meaning = λ a b. remainder 32 (shr_z (signed 32 a) (2 ^ (b % 32))) }
operation_row Or = record { funct7 = 0x00; funct3 = 6; meaning = bit_or }
operation_row And = record { funct7 = 0x00; funct3 = 7; meaning = bit_and }

abbrev pub operations : List Operation
operations = Add ∷ Sub ∷ ShiftLeft ∷ LessThan ∷ LessThanUnsigned ∷ Xor ∷ ShiftRight ∷ ShiftRightArithmetic ∷ Or ∷ And ∷ []

-- the operations that take a constant of twelve bits, told by funct3 alone, and those that take a shift by 0 to 31
abbrev pub constants : List Operation
constants = Add ∷ LessThan ∷ LessThanUnsigned ∷ Xor ∷ Or ∷ And ∷ []

abbrev pub shifts : List Operation
shifts = ShiftLeft ∷ ShiftRight ∷ ShiftRightArithmetic ∷ []

abbrev pub computed : Operation → ℕ → ℕ → ℕ
computed o = (operation_row o).meaning

abbrev pub funct3_of : Operation → ℕ
funct3_of o = (operation_row o).funct3

abbrev pub funct7_of : Operation → ℕ
funct7_of o = (operation_row o).funct7

-- both in one number
abbrev pub operation_number : Operation → ℕ
operation_number o = funct7_of o * 8 + funct3_of o

-- what a funct7 and a funct3 are read as; 8 and above are no funct3
abbrev pub ReadsOperation : ℕ × ℕ → Result Operation Illegal → Type 0
ReadsOperation (f7, f3) read = result_ok read ≡ cond (nat_lt f3 8) (numbered operation_number operations (f7 * 8 + f3)) None
