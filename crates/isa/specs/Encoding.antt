-- The word of an instruction, and which instructions have one.
use Rattle.std.specs.Prelude.{◌≡◌, ℕ, ◌+◌, ◌-◌, ◌*◌, ◌^◌, ◌⊎◌, ℤ, pos, neg_ℤ, ◌≤ℤ◌, ◌<ℤ◌}
use Rattle.isa.specs.declared.instruction.Instruction.{Instruction}
use Rattle.isa.specs.declared.instruction.Instruction.TheVariants.{Lui, Auipc, Jal, Jalr, Branch, Load, Store, RegisterImmediate, RegisterRegister, ReadCsr}
use Rattle.isa.specs.Formats.{r_format, i_format, s_format, b_format, u_format, j_format}
use Rattle.isa.specs.Integers.{remainder}
use Rattle.isa.specs.Tables.{Listed}
use Rattle.isa.specs.Operations.{operation_number, funct3_of, funct7_of, constants, shifts}
use Rattle.isa.specs.Conditions.{condition_number}
use Rattle.isa.specs.Loads.{load_number}
use Rattle.isa.specs.Stores.{store_number}
use Rattle.isa.specs.Csrs.{csr_number, read_and_set, no_source}
use Rattle.isa.specs.Decoding.{Major, opcode_of, jalr_number}

abbrev pub encoding : Instruction → ℕ
encoding (Lui rd value) = u_format (remainder 32 value) rd.index (opcode_of Major.LUI)
encoding (Auipc rd value) = u_format (remainder 32 value) rd.index (opcode_of Major.AUIPC)
encoding (Jal rd offset) = j_format (remainder 21 offset) rd.index (opcode_of Major.JAL)
encoding (Jalr rd base offset) = i_format (remainder 12 offset) base.index jalr_number rd.index (opcode_of Major.JALR)
encoding (Branch condition left right offset) =
    b_format (remainder 13 offset) right.index left.index (condition_number condition) (opcode_of Major.BRANCH)
encoding (Load width rd base offset) = i_format (remainder 12 offset) base.index (load_number width) rd.index (opcode_of Major.LOAD)
encoding (Store width base source offset) =
    s_format (remainder 12 offset) source.index base.index (store_number width) (opcode_of Major.STORE)
-- funct7 stands above the amount of a shift; the operations with a constant of twelve bits have funct7 0
encoding (RegisterImmediate operation rd source value) =
    i_format (funct7_of operation * 2 ^ 5 + remainder 12 value) source.index (funct3_of operation) rd.index (opcode_of Major.OPIMM)
encoding (RegisterRegister operation rd left right) =
    r_format (funct7_of operation) right.index left.index (funct3_of operation) rd.index (opcode_of Major.OP)
encoding (ReadCsr rd csr) = i_format (csr_number csr) no_source read_and_set rd.index (opcode_of Major.SYSTEM)

-- a number that `width` bits can hold in two's complement
abbrev pub Within : ℕ → ℤ → Type 0
Within width z = (neg_ℤ (pos (2 ^ (width - 1))) ≤ℤ z) × (z <ℤ pos (2 ^ (width - 1)))

-- a multiple of 2 ^ zeros
abbrev pub Multiple : ℕ → ℤ → Type 0
Multiple zeros z = remainder zeros z ≡ 0

-- the instructions that have a word: their immediates can be written. Their registers are below 32 by type.
abbrev pub Encodable : Instruction → Type 0
Encodable (Lui rd value) = Within 32 value × Multiple 12 value
Encodable (Auipc rd value) = Within 32 value × Multiple 12 value
Encodable (Jal rd offset) = Within 21 offset × Multiple 1 offset
Encodable (Jalr rd base offset) = Within 12 offset
Encodable (Branch condition left right offset) = Within 13 offset × Multiple 1 offset
Encodable (Load width rd base offset) = Within 12 offset
Encodable (Store width base source offset) = Within 12 offset
Encodable (RegisterImmediate operation rd source value) =
    (Listed funct3_of constants operation × Within 12 value)
    ⊎ (Listed operation_number shifts operation × (pos 0 ≤ℤ value) × (value <ℤ pos 32))
Encodable (RegisterRegister operation rd left right) = Unit {0}
Encodable (ReadCsr rd csr) = Unit {0}
