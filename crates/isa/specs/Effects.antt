-- What an instruction asks for, by its name: of a register, of the program counter, of memory.
use Rattle.std.specs.Prelude.{ℕ, ◌-◌, ◌%◌, Bool, ℤ, pos, ◌+ℤ◌}
use Rattle.isa.specs.declared.register.Register.{Register}
use Rattle.isa.specs.declared.register.Registers.{Registers}
use Rattle.isa.specs.declared.instruction.LoadWidth.{LoadWidth}
use Rattle.isa.specs.declared.instruction.StoreWidth.{StoreWidth}
use Rattle.isa.specs.declared.instruction.Instruction.{Instruction}
use Rattle.isa.specs.declared.instruction.Instruction.TheVariants.{Lui, Auipc, Jal, Jalr, Branch, Load, Store, RegisterImmediate, RegisterRegister, ReadCsr}
use Rattle.isa.specs.Integers.{remainder}
use Rattle.isa.specs.Registers.{held}
use Rattle.isa.specs.Operations.{computed}
use Rattle.isa.specs.Conditions.{holds}
use Rattle.isa.specs.Csrs.{csr_value}

-- an address and an offset, which wrap at 2 ^ 32
abbrev pub offset_by : ℕ → ℤ → ℕ
offset_by address offset = remainder 32 (pos address +ℤ offset)

pub data Effect : Type 0 where
  -- a register is set
  sets : Register → ℕ → Effect
  -- the address after the instruction goes to a register, and the program goes on at the target
  jumps : Register → ℕ → Effect
  -- if taken, the program goes on at the target
  branches : Bool → ℕ → Effect
  -- a register is set from memory
  loads : LoadWidth → Register → ℕ → Effect
  -- a value goes to memory
  stores : StoreWidth → ℕ → ℕ → Effect

-- each instruction by its name, from the registers, the program counter and the clock. JALR clears the lowest bit of its target
abbrev pub effect_of : Instruction → Registers → (pc : ℕ) → (clock : ℕ) → Effect
effect_of (Lui rd value) rs pc clock = sets rd (remainder 32 value)
effect_of (Auipc rd value) rs pc clock = sets rd (offset_by pc value)
effect_of (Jal rd offset) rs pc clock = jumps rd (offset_by pc offset)
effect_of (Jalr rd base offset) rs pc clock = jumps rd (offset_by (held rs base) offset - offset_by (held rs base) offset % 2)
effect_of (Branch condition left right offset) rs pc clock = branches (holds condition (held rs left) (held rs right)) (offset_by pc offset)
effect_of (Load width rd base offset) rs pc clock = loads width rd (offset_by (held rs base) offset)
effect_of (Store width base source offset) rs pc clock = stores width (offset_by (held rs base) offset) (held rs source)
effect_of (RegisterImmediate operation rd source value) rs pc clock = sets rd (computed operation (held rs source) (remainder 32 value))
effect_of (RegisterRegister operation rd left right) rs pc clock = sets rd (computed operation (held rs left) (held rs right))
effect_of (ReadCsr rd csr) rs pc clock = sets rd (csr_value csr clock)
