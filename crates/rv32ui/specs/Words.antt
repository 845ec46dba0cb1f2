-- Instruction words: what an instruction names, each part moved to its place, over the fixed bits.
use Rattle.std.specs.Prelude.{ℕ, ◌*◌, ◌/◌, ◌%◌, ◌^◌, ℤ, bit_or}
use Rattle.std.specs.Int.{cast_unsigned, w32}

-- a value with the lowest bit of its place: its bits in a word of 32
abbrev pub placed : ℕ → ℕ → ℕ
placed value low = value * 2 ^ low % 2 ^ 32

-- the bits of an offset: two's complement
abbrev pub offset_bits : ℤ → ℕ
offset_bits offset = cast_unsigned w32 offset

-- the second operand stands from bit 20 on: a register, a constant of twelve bits, or the amount of a shift
abbrev pub operand_format : ℕ → ℕ → ℕ → ℕ → ℕ
operand_format fixed target first second = bit_or (bit_or (bit_or fixed (placed target 7)) (placed first 15)) (placed second 20)

abbrev pub upper_format : ℕ → ℕ → ℕ → ℕ
upper_format fixed target value = bit_or (bit_or fixed (placed target 7)) (placed value 12)

-- 16 bytes forward
abbrev pub branch_format : ℕ → ℕ → ℕ → ℕ
branch_format fixed first second = bit_or (bit_or (bit_or fixed (placed 8 8)) (placed first 15)) (placed second 20)

-- the low twelve bits of the offset in the constant's place
abbrev pub load_format : ℕ → ℕ → ℕ → ℤ → ℕ
load_format fixed target base offset = operand_format fixed target base (offset_bits offset % 2 ^ 12)

-- bits 4 to 0 of the offset in the target's place, 11 to 5 at the top
abbrev pub store_format : ℕ → ℕ → ℕ → ℤ → ℕ
store_format fixed base source offset =
    bit_or
    (bit_or (bit_or (bit_or fixed (placed (offset_bits offset % 2 ^ 5) 7)) (placed base 15)) (placed source 20))
    (placed (offset_bits offset / 2 ^ 5 % 2 ^ 7) 25)

-- bits 20, 10 to 1, 11, and 19 to 12 of the offset, from bit 31 on
abbrev pub jal_format : ℕ → ℤ → ℕ
jal_format target offset =
    bit_or
    (bit_or
    (bit_or 0x6f (placed target 7))
    (bit_or (placed (offset_bits offset / 2 % 2 ^ 10) 21) (placed (offset_bits offset / 2 ^ 11 % 2) 20)))
    (bit_or (placed (offset_bits offset / 2 ^ 12 % 2 ^ 8) 12) (placed (offset_bits offset / 2 ^ 20 % 2) 31))

abbrev pub jalr_format : ℕ → ℕ → ℤ → ℕ
jalr_format target base offset = load_format 0x67 target base offset
