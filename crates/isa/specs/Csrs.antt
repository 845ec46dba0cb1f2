-- The CSRs that a program may read: their numbers among the control and status registers, and what each reads at a clock.
use Rattle.std.specs.Prelude.{ℕ, ◌/◌, ◌%◌, ◌^◌, List, [], ◌∷◌}
use Rattle.isa.specs.declared.instruction.Csr.{Csr}
use Rattle.isa.specs.declared.instruction.Csr.TheVariants.{Cycle, Time, CycleHigh}

pub record CsrRow : Type 0 where
  pub number : ℕ
  pub value : ℕ → ℕ

-- the two halves of the clock
abbrev pub csr_row : Csr → CsrRow
csr_row Cycle = record { number = 0xC00; value = λ clock. clock % 2 ^ 32 }
csr_row Time = record { number = 0xC01; value = λ clock. clock % 2 ^ 32 }
csr_row CycleHigh = record { number = 0xC80; value = λ clock. clock / 2 ^ 32 }

abbrev pub csrs : List Csr
csrs = Cycle ∷ Time ∷ CycleHigh ∷ []

abbrev pub csr_number : Csr → ℕ
csr_number csr = (csr_row csr).number

abbrev pub csr_value : Csr → ℕ → ℕ
csr_value csr = (csr_row csr).value

-- a CSR is read by CSRRS, with its funct3 and register 0 for its source, which sets nothing
abbrev pub read_and_set : ℕ
read_and_set = 2

abbrev pub no_source : ℕ
no_source = 0
