-- Words and what they mean, as an assembler writes them.
use Rattle.std.specs.Prelude.{◌≡◌, ℕ, ◌*◌, ◌^◌, List, [], ◌∷◌, map, pos, neg_ℤ, Some, None, Option}
use Rattle.isa.specs.declared.register.Register.{Register}
use Rattle.isa.specs.declared.instruction.Operation.{Operation}
use Rattle.isa.specs.declared.instruction.Condition.{Condition}
use Rattle.isa.specs.declared.instruction.LoadWidth.{LoadWidth}
use Rattle.isa.specs.declared.instruction.StoreWidth.{StoreWidth}
use Rattle.isa.specs.declared.instruction.Csr.{Csr}
use Rattle.isa.specs.declared.instruction.Instruction.{Instruction}
use Rattle.isa.specs.declared.instruction.Instruction.TheVariants.{Lui, Auipc, Jal, Jalr, Branch, Load, Store, RegisterImmediate, RegisterRegister, ReadCsr}
use Rattle.isa.specs.Registers.{register}
use Rattle.isa.specs.Decoding.{decoded}

abbrev x : ℕ → Register
x = register

abbrev pub worked_words : List (ℕ × Option Instruction)
worked_words =
    -- ADDI x2, x0, 5; LUI x2, 17; LW x6, 0(x2); SW x8, 0(x3)
    (0x00500113, Some (RegisterImmediate Operation.Add (x 2) (x 0) (pos 5)))
    ∷ (0x00011137, Some (Lui (x 2) (pos (17 * 2 ^ 12))))
    ∷ (0x00012303, Some (Load LoadWidth.Word (x 6) (x 2) (pos 0)))
    ∷ (0x0081A023, Some (Store StoreWidth.Word (x 3) (x 8) (pos 0)))
    -- BEQ x0, x0, -8; JAL x0, 0; rdcycle x5; ECALL, which is illegal
    ∷ (0xFE000CE3, Some (Branch Condition.Equal (x 0) (x 0) (neg_ℤ (pos 8))))
    ∷ (0x0000006F, Some (Jal (x 0) (pos 0)))
    ∷ (0xC00022F3, Some (ReadCsr (x 5) Csr.Cycle))
    ∷ (0x00000073, None)
    -- LUI x1, 0x80000; AUIPC x1, 0; JAL x1, -4; JALR x0, 0(x1); LW x1, -4(x2); SW x1, -4(x2)
    ∷ (0x800000B7, Some (Lui (x 1) (neg_ℤ (pos (2 ^ 31)))))
    ∷ (0x00000097, Some (Auipc (x 1) (pos 0)))
    ∷ (0xFFDFF0EF, Some (Jal (x 1) (neg_ℤ (pos 4))))
    ∷ (0x00008067, Some (Jalr (x 0) (x 1) (pos 0)))
    ∷ (0xFFC12083, Some (Load LoadWidth.Word (x 1) (x 2) (neg_ℤ (pos 4))))
    ∷ (0xFE112E23, Some (Store StoreWidth.Word (x 2) (x 1) (neg_ℤ (pos 4))))
    -- SRAI x1, x2, 3; SUB x1, x2, x3; rdcycleh x5; CSRRS x5, cycle, x1 and FENCE, EBREAK, and the words of zeros and of ones, which are illegal
    ∷ (0x40315093, Some (RegisterImmediate Operation.ShiftRightArithmetic (x 1) (x 2) (pos 3)))
    ∷ (0x403100B3, Some (RegisterRegister Operation.Sub (x 1) (x 2) (x 3)))
    ∷ (0xC80022F3, Some (ReadCsr (x 5) Csr.CycleHigh))
    ∷ (0xC000A2F3, None)
    ∷ (0x0FF0000F, None)
    ∷ (0x00100073, None)
    ∷ (0x00000000, None)
    ∷ (0xFFFFFFFF, None)
    -- rdtime x5; rdinstret x5 and rdtimeh x5, which are illegal
    ∷ (0xC01022F3, Some (ReadCsr (x 5) Csr.Time))
    ∷ (0xC02022F3, None)
    ∷ (0xC81022F3, None)
    -- illegal by one number: LD, SD, a branch by funct3 2, JALR by funct3 1, SLLI with funct7 1 and 20, SLL with funct7 20
    ∷ (0x00003003, None)
    ∷ (0x00003023, None)
    ∷ (0x00002063, None)
    ∷ (0x00001067, None)
    ∷ (0x02011093, None)
    ∷ (0x40011093, None)
    ∷ (0x40001033, None)
    ∷ []

abbrev pub Worked : Type 0
Worked = map (λ row. decoded row.0) worked_words ≡ map (λ row. row.1) worked_words
