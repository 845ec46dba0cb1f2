-- What the instruction words come to: each part that is named stands in its place of the manual's format, and the fixed bits stay.
use Rattle.std.specs.Prelude.{◌≡◌, ℕ, ◌+◌, ◌*◌, ◌%◌, ◌^◌, ◌<◌, ℤ, pos, neg_ℤ}
use Rattle.words.specs.Bits.{field}
use Rattle.rv32ui.specs.Words.{branch_format, jal_format, jalr_format, load_format, offset_bits, operand_format, store_format, upper_format}

-- the fields opcode and funct3 of a word are those of the fixed bits
pub record Opcode (w fixed : ℕ) : Type 0 where
  pub opcode : field w 0 7 ≡ field fixed 0 7
  pub funct3 : field w 12 3 ≡ field fixed 12 3

-- two registers are read and one is written; a shift by a constant has its amount where the second stands
pub record RegisterWord (w fixed target first second : ℕ) : Type 0 where
  pub kept : Opcode w fixed
  pub funct7 : field w 25 7 ≡ field fixed 25 7
  pub in_target : field w 7 5 ≡ target
  pub in_first : field w 15 5 ≡ first
  pub in_second : field w 20 5 ≡ second

abbrev pub RegisterWords : Type 0
RegisterWords = (fixed target first second : ℕ) → fixed < 2 ^ 32 → field fixed 7 5 ≡ 0 → field fixed 15 10 ≡ 0 →
    target < 32 → first < 32 → second < 32 → RegisterWord (operand_format fixed target first second) fixed target first second

-- a constant of twelve bits, of which an offset is one
pub record ConstantWord (w fixed target source value : ℕ) : Type 0 where
  pub kept : Opcode w fixed
  pub in_target : field w 7 5 ≡ target
  pub in_source : field w 15 5 ≡ source
  pub in_value : field w 20 12 ≡ value

abbrev pub ConstantWords : Type 0
ConstantWords = (fixed target source value : ℕ) → fixed < 2 ^ 15 → field fixed 7 5 ≡ 0 →
    target < 32 → source < 32 → value < 2 ^ 12 → ConstantWord (operand_format fixed target source value) fixed target source value

-- a constant of twenty bits
pub record UpperWord (w fixed target value : ℕ) : Type 0 where
  pub opcode : field w 0 7 ≡ fixed
  pub in_target : field w 7 5 ≡ target
  pub in_value : field w 12 20 ≡ value

abbrev pub UpperWords : Type 0
UpperWords = (fixed target value : ℕ) → fixed < 2 ^ 7 → target < 32 → value < 2 ^ 20 → UpperWord (upper_format fixed target value) fixed target value

-- a branch by 16 bytes: bits 12, 11, 10 to 5 and 4 to 1 of its offset
pub record BranchWord (w fixed first second : ℕ) : Type 0 where
  pub kept : Opcode w fixed
  pub in_first : field w 15 5 ≡ first
  pub in_second : field w 20 5 ≡ second
  pub in_offset : field w 31 1 * 2 ^ 12 + field w 7 1 * 2 ^ 11 + field w 25 6 * 2 ^ 5 + field w 8 4 * 2 ≡ 16

abbrev pub BranchWords : Type 0
BranchWords = (fixed first second : ℕ) → fixed < 2 ^ 15 → field fixed 7 5 ≡ 0 → first < 32 → second < 32 → BranchWord (branch_format fixed first second) fixed first second

-- a store: bits 11 to 5 and 4 to 0 of its offset
pub record StoreWord (w fixed base source : ℕ) (offset : ℤ) : Type 0 where
  pub kept : Opcode w fixed
  pub in_base : field w 15 5 ≡ base
  pub in_source : field w 20 5 ≡ source
  pub in_offset : field w 25 7 * 2 ^ 5 + field w 7 5 ≡ offset_bits offset % 2 ^ 12

abbrev pub StoreWords : Type 0
StoreWords = (fixed base source : ℕ) (offset : ℤ) → fixed < 2 ^ 15 → field fixed 7 5 ≡ 0 → base < 32 → source < 32 →
    StoreWord (store_format fixed base source offset) fixed base source offset

-- JAL: bits 20, 19 to 12, 11 and 10 to 1 of its offset, which is even
pub record JalWord (w target : ℕ) (offset : ℤ) : Type 0 where
  pub opcode : field w 0 7 ≡ 0x6f
  pub in_target : field w 7 5 ≡ target
  pub in_offset : field w 31 1 * 2 ^ 20 + field w 12 8 * 2 ^ 12 + field w 20 1 * 2 ^ 11 + field w 21 10 * 2 ≡ offset_bits offset % 2 ^ 21

abbrev pub JalWords : Type 0
JalWords = (target : ℕ) (offset : ℤ) → target < 32 → offset_bits offset % 2 ≡ 0 → JalWord (jal_format target offset) target offset

-- each law at a word, and the word is the one that LLVM's assembler makes
pub record Example : Type 0 where
  -- add x14, x1, x2; srai x2, x2, 20; addi x5, x5, 4; lb x14, -3(x2); jalr x0, 20(x4)
  pub add : RegisterWord (operand_format 0x33 14 1 2) 0x33 14 1 2
  pub add_word : operand_format 0x33 14 1 2 ≡ 0x00208733
  pub srai : RegisterWord (operand_format 0x40005013 2 2 20) 0x40005013 2 2 20
  pub srai_word : operand_format 0x40005013 2 2 20 ≡ 0x41415113
  pub addi : ConstantWord (operand_format 0x13 5 5 4) 0x13 5 5 4
  pub addi_word : operand_format 0x13 5 5 4 ≡ 0x00428293
  pub lb : ConstantWord (load_format 0x3 14 2 (neg_ℤ (pos 3))) 0x3 14 2 0xffd
  pub lb_word : load_format 0x3 14 2 (neg_ℤ (pos 3)) ≡ 0xffd10703
  pub jalr : ConstantWord (jalr_format 0 4 (pos 20)) 0x67 0 4 20
  pub jalr_word : jalr_format 0 4 (pos 20) ≡ 0x01420067
  -- lui x2, 17; beq x1, x2, 16; sh x1, -32(x2); jal x1, 2048
  pub lui : UpperWord (upper_format 0x37 2 17) 0x37 2 17
  pub lui_word : upper_format 0x37 2 17 ≡ 0x00011137
  pub beq : BranchWord (branch_format 0x63 1 2) 0x63 1 2
  pub beq_word : branch_format 0x63 1 2 ≡ 0x00208863
  pub sh : StoreWord (store_format 0x1023 2 1 (neg_ℤ (pos 32))) 0x1023 2 1 (neg_ℤ (pos 32))
  pub sh_word : store_format 0x1023 2 1 (neg_ℤ (pos 32)) ≡ 0xfe111023
  pub jal : JalWord (jal_format 1 (pos 2048)) 1 (pos 2048)
  pub jal_word : jal_format 1 (pos 2048) ≡ 0x001000ef
