-- Single instructions, each with what it leaves. The results were worked out by hand from the RISC-V manual.
use Rattle.std.specs.Prelude.{◌≡◌, ℕ, ◌+◌, ◌*◌, ◌^◌, List}
use Rattle.words.specs.Frames.{word, written}
use Rattle.isa.specs.Registers.{blank, held, register, written as set}
use Rattle.hart.specs.declared.cause.Cause.TheVariants.{IllegalInstruction, FetchMisaligned, FetchFault, LoadMisaligned, LoadFault, StoreMisaligned, StoreFault}
use Rattle.hart.specs.declared.context.State.{State}
use Rattle.hart.specs.declared.context.State.TheVariants.{Ready, Stopped}
use Rattle.hart.specs.declared.context.Context.{Context}
use Rattle.hart.specs.declared.step.Core.{Core}
use Rattle.tables.specs.First.{first_tables}
use Rattle.hart.specs.Architecture.{Outcome, architecture}
use Rattle.paging.specs.Small.{mapped}

-- a ready program at an address under root 0; x1 and x2 hold two numbers, and every other register 0
abbrev pub program_at : ℕ → ℕ → ℕ → Context
program_at pc one two = record { registers = set (set blank (register 1) one) (register 2) two; pc = pc; state = Ready }

abbrev pub core_at : ℕ → Context → Core
core_at clock x = record { context = x; tables = first_tables; root = 0; clock = clock }

-- a word of code is the first of page 16, and the bytes 81, F2, 70, 80 are the first of page 17, both in hexadecimal
abbrev pub with_code : ℕ → List ℕ
with_code code = written (written mapped 2 0 code) 3 0 0x8070F281

-- that word executed with two numbers in x1 and x2, at clock 5 * 2 ^ 32 + 7
abbrev pub does_word : ℕ → ℕ → ℕ → Outcome
does_word code one two = architecture (core_at (5 * 2 ^ 32 + 7) (program_at 0x10000 one two)) (with_code code)

-- what it leaves in a register, in the counter, in the first word of page 17, and the state
abbrev pub leaves_in : ℕ → ℕ → ℕ → ℕ → ℕ
leaves_in r code one two = held (does_word code one two).context.registers (register r)

abbrev pub goes_to : ℕ → ℕ → ℕ → ℕ
goes_to code one two = (does_word code one two).context.pc

abbrev pub stores_in : ℕ → ℕ → ℕ → ℕ
stores_in code one two = word (does_word code one two).words 3 0

abbrev pub state_of : ℕ → ℕ → ℕ → State
state_of code one two = (does_word code one two).context.state

-- LB x3, 1(x1) gives F2 with its sign and LB x3, 2(x1) gives 70; LBU x3, 3(x1) gives 80; LH x3, 2(x1) gives 8070 with its sign, LHU x3, 0(x1) gives F281
-- and LHU x3, 2(x1) 8070; LW x3, 0(x1) gives all four
pub record LoadsMeant : Type 0 where
  pub lb : leaves_in 3 0x00108183 0x11000 0 ≡ 0xFFFFFFF2
  pub lb_positive : leaves_in 3 0x00208183 0x11000 0 ≡ 0x70
  pub lbu : leaves_in 3 0x0030C183 0x11000 0 ≡ 0x80
  pub lh : leaves_in 3 0x00209183 0x11000 0 ≡ 0xFFFF8070
  pub lhu : leaves_in 3 0x0000D183 0x11000 0 ≡ 0xF281
  pub lhu_high : leaves_in 3 0x0020D183 0x11000 0 ≡ 0x8070
  pub lw : leaves_in 3 0x0000A183 0x11000 0 ≡ 0x8070F281

-- SB x2, 1(x1), SH x2, 2(x1) and SW x2, 0(x1), of 12345678
pub record StoresMeant : Type 0 where
  pub sb : stores_in 0x002080A3 0x11000 0x12345678 ≡ 0x80707881
  pub sh : stores_in 0x00209123 0x11000 0x12345678 ≡ 0x5678F281
  pub sw : stores_in 0x0020A023 0x11000 0x12345678 ≡ 0x12345678

-- JAL x3, 8 leaves the address after it in x3 and goes on 8 bytes from its own; JALR x1, 5(x1) reads x1 before it sets it, and its odd sum loses 1;
-- BLT x1, x2, -8 is taken where x1 is -1 and x2 is 1, and counts from its own address
pub record JumpsMeant : Type 0 where
  pub jal_link : leaves_in 3 0x008001EF 0 0 ≡ 0x10004
  pub jal_target : goes_to 0x008001EF 0 0 ≡ 0x10008
  pub jalr_link : leaves_in 1 0x005080E7 0x10010 0 ≡ 0x10004
  pub jalr_target : goes_to 0x005080E7 0x10010 0 ≡ 0x10014
  pub blt : goes_to 0xFE20CCE3 0xFFFFFFFF 1 ≡ 0xFFF8

-- AUIPC x3, 1 adds 1000 to its own address, in hexadecimal; SUB x3, x1, x2 is 5 less 7; SLTIU x3, x1, -1 compares 1000 in hexadecimal with the largest word;
-- rdcycle, rdtime and rdcycleh into x3
pub record OperationsMeant : Type 0 where
  pub auipc : leaves_in 3 0x00001197 0 0 ≡ 0x11000
  pub next : goes_to 0x00001197 0 0 ≡ 0x10004
  pub sub : leaves_in 3 0x402081B3 5 7 ≡ 0xFFFFFFFE
  pub sltiu : leaves_in 3 0xFFF0B193 0x1000 0 ≡ 1
  pub rdcycle : leaves_in 3 0xC00021F3 0 0 ≡ 7
  pub rdtime : leaves_in 3 0xC01021F3 0 0 ≡ 7
  pub rdcycleh : leaves_in 3 0xC80021F3 0 0 ≡ 5

-- a word of zeros; JAL x3, 2, which leaves x3 and the counter as they were; BEQ x0, x0, 2, while BNE x0, x0, 2 goes on; a counter in page 17, which has no X; LH x3, 1(x1), LHU x3, 1(x1) and
-- LW x3, 2(x1), while LW x3, 4(x1) goes on; LW x1, 0(x1) in page 18, which is not mapped: x1 stays as it was; SH x2, 1(x1) and SW x2, 2(x1), while SW x2, 4(x1) goes on;
-- SW x2, 0(x1) in page 16, which has no W
pub record StopsMeant : Type 0 where
  pub illegal : state_of 0 0 0 ≡ Stopped IllegalInstruction 0x10000
  pub fetch_misaligned : state_of 0x002001EF 0 0 ≡ Stopped FetchMisaligned 0x10000
  pub no_link : leaves_in 3 0x002001EF 0 0 ≡ 0
  pub stays : goes_to 0x002001EF 0 0 ≡ 0x10000
  pub branch_misaligned : state_of 0x00000163 0 0 ≡ Stopped FetchMisaligned 0x10000
  pub not_taken : goes_to 0x00001163 0 0 ≡ 0x10004
  pub fetch_fault : (architecture (core_at 0 (program_at 0x11000 0 0)) (with_code 0)).context.state ≡ Stopped FetchFault 0x11000
  pub load_misaligned : state_of 0x00109183 0x11000 0 ≡ Stopped LoadMisaligned 0x10000
  pub lhu_misaligned : state_of 0x0010D183 0x11000 0 ≡ Stopped LoadMisaligned 0x10000
  pub lw_misaligned : state_of 0x0020A183 0x11000 0 ≡ Stopped LoadMisaligned 0x10000
  pub lw_at_four : state_of 0x0040A183 0x11000 0 ≡ Ready
  pub load_fault : state_of 0x0000A083 0x12000 0 ≡ Stopped LoadFault 0x10000
  pub keeps : leaves_in 1 0x0000A083 0x12000 0 ≡ 0x12000
  pub sh_misaligned : state_of 0x002090A3 0x11000 0 ≡ Stopped StoreMisaligned 0x10000
  pub sw_misaligned : state_of 0x0020A123 0x11000 0 ≡ Stopped StoreMisaligned 0x10000
  pub sw_at_four : state_of 0x0020A223 0x11000 0 ≡ Ready
  pub store_fault : state_of 0x0020A023 0x10000 0 ≡ Stopped StoreFault 0x10000

pub record Meant : Type 0 where
  pub loads : LoadsMeant
  pub stores : StoresMeant
  pub jumps : JumpsMeant
  pub operations : OperationsMeant
  pub stops : StopsMeant
