-- The architecture: what the manual says of registers, counter, words and faults, with the page tables and no other table, and no cost.
use Rattle.std.specs.Prelude.{ℕ, ◌/◌, cond, List, Some, None, Ok, Err, Option, Result}
use Rattle.words.specs.Frames.{word, written}
use Rattle.isa.specs.declared.register.Register.{Register}
use Rattle.isa.specs.declared.instruction.Instruction.{Instruction}
use Rattle.isa.specs.declared.instruction.LoadWidth.{LoadWidth}
use Rattle.isa.specs.declared.instruction.StoreWidth.{StoreWidth}
use Rattle.isa.specs.Decoding.{decoded}
use Rattle.isa.specs.Effects.{Effect, sets, jumps, branches, loads, stores, effect_of}
use Rattle.paging.specs.declared.access.Access.{Access}
use Rattle.paging.specs.declared.access.Access.TheVariants.{Fetch, Load, Store}
use Rattle.paging.specs.Accesses.{PageFault}
use Rattle.paging.specs.declared.physical.PhysicalAddress.{PhysicalAddress}
use Rattle.paging.specs.Walks.{translated}
use Rattle.hart.specs.declared.cause.Cause.TheVariants.{IllegalInstruction}
use Rattle.hart.specs.declared.context.State.{State}
use Rattle.hart.specs.declared.context.State.TheVariants.{Ready, Stopped}
use Rattle.hart.specs.declared.context.Context.{Context}
use Rattle.hart.specs.declared.step.Core.{Core}
use Rattle.hart.specs.Causes.{fault_cause, misaligned_cause}
use Rattle.isa.specs.Loads.{load_bytes, loaded}
use Rattle.isa.specs.Memory.{is_aligned}
use Rattle.isa.specs.Stores.{store_bytes, stored}
use Rattle.hart.specs.Execution.{branch_context, goes_on, jumped, next_pc, register_set, stopped}

-- what a program and its memory are after an instruction
pub record Outcome : Type 0 where
  pub context : Context
  pub words : List ℕ

abbrev pub outcome : Context → List ℕ → Outcome
outcome x ws = record { context = x; words = ws }

-- the word that a physical address lies in
abbrev pub word_at : List ℕ → PhysicalAddress → ℕ
word_at ws physical = word ws physical.frame (physical.offset / 4)

-- a load and a store, at the physical address that the address leads to
abbrev pub load_at : Context → List ℕ → LoadWidth → Register → ℕ → PhysicalAddress → Outcome
load_at x ws width rd address physical = outcome (register_set x rd (loaded width (word_at ws physical) address)) ws

abbrev pub store_at : Context → List ℕ → StoreWidth → ℕ → ℕ → PhysicalAddress → Outcome
store_at x ws width address value physical =
    outcome (goes_on x (next_pc x)) (written ws physical.frame (physical.offset / 4) (stored width (word_at ws physical) address value))

-- an access to memory, done at its physical address. It stops the program if its address is not aligned, or leads to none
abbrev pub physical_does : Context → List ℕ → Access → (PhysicalAddress → Outcome) → Result PhysicalAddress PageFault → Outcome
physical_does x ws access at (Ok physical) = at physical
physical_does x ws access at (Err fault) = outcome (stopped x (fault_cause access)) ws

abbrev pub access_does : Core → List ℕ → Access → ℕ → ℕ → (PhysicalAddress → Outcome) → Outcome
access_does core ws access bytes address at =
    cond (is_aligned bytes address) (physical_does core.context ws access at (translated ws core.root address access))
    (outcome (stopped core.context (misaligned_cause access)) ws)

-- what an instruction asks for, done
abbrev pub does : Core → List ℕ → Effect → Outcome
does core ws (sets rd value) = outcome (register_set core.context rd value) ws
does core ws (jumps rd target) = outcome (jumped core.context rd target) ws
does core ws (branches taken target) = outcome (branch_context core.context taken target) ws
does core ws (loads width rd address) = access_does core ws Load (load_bytes width) address (load_at core.context ws width rd address)
does core ws (stores width address value) = access_does core ws Store (store_bytes width) address (store_at core.context ws width address value)

abbrev pub instruction_does : Core → List ℕ → Option Instruction → Outcome
instruction_does core ws None = outcome (stopped core.context IllegalInstruction) ws
instruction_does core ws (Some i) = does core ws (effect_of i core.context.registers core.context.pc core.clock)

abbrev pub fetch_does : Core → List ℕ → Result PhysicalAddress PageFault → Outcome
fetch_does core ws (Ok physical) = instruction_does core ws (decoded (word_at ws physical))
fetch_does core ws (Err fault) = outcome (stopped core.context (fault_cause Fetch)) ws

abbrev pub program_does : State → Core → List ℕ → Outcome
program_does Ready core ws = fetch_does core ws (translated ws core.root core.context.pc Fetch)
program_does (Stopped cause pc) core ws = outcome core.context ws

-- one instruction of the program on a core, under its root, at its reading of the clock; the core's tables do not enter
unfoldable pub architecture : Core → List ℕ → Outcome
architecture core ws = program_does core.context.state core ws
