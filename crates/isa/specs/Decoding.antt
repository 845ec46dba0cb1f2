-- The instruction of a word, where it has one.
use Rattle.std.specs.Prelude.{ℕ, ◌+◌, ◌*◌, cond, ◌&&◌, pos, List, [], ◌∷◌, Some, None, Option, ◌==◌}
use Rattle.std.specs.Option.{option_and_then, option_or}
use Rattle.words.specs.Bits.{field}
use Rattle.isa.specs.declared.instruction.Instruction.{Instruction}
use Rattle.isa.specs.declared.instruction.Instruction.TheVariants.{Lui, Auipc, Jal, Jalr, Branch, Load, Store, RegisterImmediate, RegisterRegister, ReadCsr}
use Rattle.isa.specs.Formats.{opcode, rd, funct3, rs1, rs2, funct7, i_immediate, s_immediate, b_immediate, u_immediate, j_immediate}
use Rattle.isa.specs.Tables.{numbered}
use Rattle.isa.specs.Operations.{operation_number, operations, funct3_of, constants, shifts}
use Rattle.isa.specs.Conditions.{condition_number, conditions}
use Rattle.isa.specs.Loads.{load_number, loads}
use Rattle.isa.specs.Stores.{store_number, stores}
use Rattle.isa.specs.Csrs.{csr_number, csrs, read_and_set, no_source}

-- funct3 of JALR
abbrev pub jalr_number : ℕ
jalr_number = 0

abbrev pub jalr : ℕ → Option Instruction
jalr w = cond (funct3 w == jalr_number) (Some (Jalr (rd w) (rs1 w) (i_immediate w))) None

abbrev pub branch : ℕ → Option Instruction
branch w = option_and_then (λ c. Some (Branch c (rs1 w) (rs2 w) (b_immediate w))) (numbered condition_number conditions (funct3 w))

abbrev pub load : ℕ → Option Instruction
load w = option_and_then (λ s. Some (Load s (rd w) (rs1 w) (i_immediate w))) (numbered load_number loads (funct3 w))

abbrev pub store : ℕ → Option Instruction
store w = option_and_then (λ s. Some (Store s (rs1 w) (rs2 w) (s_immediate w))) (numbered store_number stores (funct3 w))

abbrev pub constant : ℕ → Option Instruction
constant w = option_and_then (λ o. Some (RegisterImmediate o (rd w) (rs1 w) (i_immediate w))) (numbered funct3_of constants (funct3 w))

-- a shift by a constant has its funct7 above the five bits of the amount
abbrev pub shift : ℕ → Option Instruction
shift w =
    option_and_then (λ o. Some (RegisterImmediate o (rd w) (rs1 w) (pos (field w 20 5)))) (numbered operation_number shifts (funct7 w * 8 + funct3 w))

abbrev pub register_register : ℕ → Option Instruction
register_register w =
    option_and_then (λ o. Some (RegisterRegister o (rd w) (rs1 w) (rs2 w))) (numbered operation_number operations (funct7 w * 8 + funct3 w))

-- CSRRS of a CSR from register 0
abbrev pub read_csr : ℕ → Option Instruction
read_csr w =
    cond (funct3 w == read_and_set && field w 15 5 == no_source)
    (option_and_then (λ k. Some (ReadCsr (rd w) k)) (numbered csr_number csrs (field w 20 12)))
    None

abbrev pub register_immediate : ℕ → Option Instruction
register_immediate w = option_or (constant w) (shift w)

-- the major opcodes
pub data Major : Type 0 where
  LUI : Major
  AUIPC : Major
  JAL : Major
  JALR : Major
  BRANCH : Major
  LOAD : Major
  STORE : Major
  OPIMM : Major
  OP : Major
  SYSTEM : Major

-- an opcode, and the instruction of a word that has it
pub record MajorRow : Type 0 where
  pub opcode : ℕ
  pub meaning : ℕ → Option Instruction

abbrev pub major_row : Major → MajorRow
major_row LUI = record { opcode = 0x37; meaning = λ w. Some (Lui (rd w) (u_immediate w)) }
major_row AUIPC = record { opcode = 0x17; meaning = λ w. Some (Auipc (rd w) (u_immediate w)) }
major_row JAL = record { opcode = 0x6F; meaning = λ w. Some (Jal (rd w) (j_immediate w)) }
major_row JALR = record { opcode = 0x67; meaning = jalr }
major_row BRANCH = record { opcode = 0x63; meaning = branch }
major_row LOAD = record { opcode = 0x03; meaning = load }
major_row STORE = record { opcode = 0x23; meaning = store }
major_row OPIMM = record { opcode = 0x13; meaning = register_immediate }
major_row OP = record { opcode = 0x33; meaning = register_register }
major_row SYSTEM = record { opcode = 0x73; meaning = read_csr }

abbrev pub majors : List Major
majors = LUI ∷ AUIPC ∷ JAL ∷ JALR ∷ BRANCH ∷ LOAD ∷ STORE ∷ OPIMM ∷ OP ∷ SYSTEM ∷ []

abbrev pub opcode_of : Major → ℕ
opcode_of m = (major_row m).opcode

abbrev pub in_major : ℕ → Major → Option Instruction
in_major w m = (major_row m).meaning w

-- every word that is in no table is illegal
abbrev pub decoded : ℕ → Option Instruction
decoded w = option_and_then (in_major w) (numbered opcode_of majors (opcode w))
