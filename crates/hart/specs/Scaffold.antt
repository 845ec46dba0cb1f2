-- What contracts inside this crate and proofs cite. A reader need not believe it: what it is for is said by the other pages.
use Rattle.std.specs.Prelude.{ℕ, List, Some, None, Option}
use Rattle.isa.specs.declared.instruction.Instruction.{Instruction}
use Rattle.isa.specs.Effects.{effect_of}
use Rattle.paging.specs.declared.access.Access.{Access}
use Rattle.hart.specs.declared.context.Context.{Context}
use Rattle.hart.specs.declared.step.Core.{Core}
use Rattle.hart.specs.declared.stepper.Opened.{Opened}
use Rattle.tables.specs.declared.tlb.Lookup.{Lookup}
use Rattle.costs.specs.Cycles.{walk_cycles}
use Rattle.hart.specs.Causes.{fault_cause}
use Rattle.hart.specs.Execution.{stopped}
use Rattle.hart.specs.Core.{Step, after_lookup, executed}

-- after a look-up, which stops a program whose access faults
abbrev pub unless_fault : Context → Access → Option ℕ → Context
unless_fault x access None = stopped x (fault_cause access)
unless_fault x access (Some frame) = x

abbrev pub faulted : Core → List ℕ → ℕ → Access → Option ℕ → Core
faulted core ws address access frame = record (after_lookup core ws address access) { context = unless_fault core.context access frame }

-- what the code tells of a look-up for a fetch
abbrev pub opened : Lookup → Opened
opened found = record { frame = found.frame; cycles = walk_cycles found.walked }

abbrev pub execution_of : Core → List ℕ → Instruction → Step
execution_of core ws i = executed core ws (effect_of i core.context.registers core.context.pc core.clock)
