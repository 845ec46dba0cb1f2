-- The core: one instruction with TLB, cache and predictor, and what it used of them.
use Rattle.std.specs.Prelude.{ℕ, ◌+◌, ◌/◌, ◌%◌, ◌^◌, Bool, false, cond, List, Some, None, Option}
use Rattle.costs.specs.declared.used.Used.{Used}
use Rattle.costs.specs.Cycles.{cycles, plain}
use Rattle.words.specs.Frames.{word}
use Rattle.isa.specs.declared.instruction.Instruction.{Instruction}
use Rattle.isa.specs.Decoding.{decoded}
use Rattle.isa.specs.Effects.{Effect, sets, jumps, branches, loads, stores, effect_of}
use Rattle.paging.specs.declared.access.Access.{Access}
use Rattle.paging.specs.declared.access.Access.TheVariants.{Fetch, Load, Store}
use Rattle.paging.specs.declared.physical.PhysicalAddress.{PhysicalAddress}
pub use Rattle.paging.specs.Accesses.{physical_in}
use Rattle.paging.specs.Walks.{walked}
use Rattle.tables.specs.declared.tlb.Lookup.{Lookup}
use Rattle.tables.specs.declared.predictor.Predictor.{Predictor}
use Rattle.tables.specs.First.{first_tables}
use Rattle.tables.specs.Tlb.{found, filled}
use Rattle.tables.specs.Cache.{access_use, accessed, is_store, line_of}
use Rattle.tables.specs.Predictor.{learned, mispredicts}
use Rattle.hart.specs.declared.cause.Cause.TheVariants.{IllegalInstruction}
use Rattle.hart.specs.declared.context.State.{State}
use Rattle.hart.specs.declared.context.State.TheVariants.{Ready, Stopped}
use Rattle.hart.specs.declared.context.Context.{Context}
use Rattle.hart.specs.declared.step.Core.{Core}
use Rattle.hart.specs.Causes.{fault_cause, misaligned_cause}
use Rattle.isa.specs.Loads.{load_bytes}
use Rattle.isa.specs.Memory.{is_aligned}
use Rattle.isa.specs.Stores.{store_bytes}
use Rattle.hart.specs.Execution.{branch_context, fresh, jumped, misses_target, register_set, stopped}
use Rattle.hart.specs.Architecture.{Outcome, load_at, store_at}

-- what a step leaves, and what was used on the way
pub record Step : Type 0 where
  pub core : Core
  pub words : List ℕ
  pub used : Used

-- a core with a fresh program: the tables in their first state, the clock at 0
abbrev pub first_core : ℕ → ℕ → Core
first_core root pc = record { context = fresh pc; tables = first_tables; root = root; clock = 0 }

-- no table is used: the program goes on, or stops
abbrev pub leads_to : Core → List ℕ → Context → Step
leads_to core ws x = record { core = record core { context = x }; words = ws; used = plain }

-- the TLB's answer to an access to an address, and the core after it
abbrev pub looked_up : Core → List ℕ → ℕ → Access → Lookup
looked_up core ws address access = found core.tables.tlb (address / 4096) access (walked ws core.root (address / 4096))

abbrev pub after_lookup : Core → List ℕ → ℕ → Access → Core
after_lookup core ws address access =
    record core { tables = record core.tables { tlb = filled core.tables.tlb (address / 4096) access (walked ws core.root (address / 4096)) } }

-- a load or store by what the look-up of its page found: a frame, in which it is done as the architecture says, with the cache; or a fault
abbrev pub access_found : Core → List ℕ → Access → ℕ → (PhysicalAddress → Outcome) → Bool → Option ℕ → Step
access_found core ws access address at walked None =
    record { core = record core { context = stopped core.context (fault_cause access) }; words = ws; used = record plain { data_walked = walked } }
access_found core ws access address at walked (Some frame) = record {
  core = record core {
    context = (at (physical_in frame address)).context;
    tables = record core.tables { cache = accessed core.tables.cache (line_of (physical_in frame address)) (is_store access) };
  };
  words = (at (physical_in frame address)).words;
  used = record plain { data_walked = walked; cache = access_use core.tables.cache (line_of (physical_in frame address)) };
}

-- alignment is tested first, then the page is looked up, then the cache is asked
unfoldable pub data_access : Core → List ℕ → Access → ℕ → ℕ → (PhysicalAddress → Outcome) → Step
data_access core ws access bytes address at =
    cond (is_aligned bytes address)
    (access_found (after_lookup core ws address access) ws access address at (looked_up core ws address access).walked (looked_up core ws address access).frame)
    (leads_to core ws (stopped core.context (misaligned_cause access)))

-- the predictor learns how a branch went, and may have been wrong; of a branch that stops it is not asked
abbrev pub predictor_after : Core → Bool → ℕ → Predictor
predictor_after core taken target = cond (misses_target taken target) core.tables.predictor (learned core.tables.predictor core.context.pc taken)

abbrev pub was_wrong : Core → Bool → ℕ → Bool
was_wrong core taken target = cond (misses_target taken target) false (mispredicts core.tables.predictor core.context.pc taken)

abbrev pub branched : Core → Bool → ℕ → Core
branched core taken target =
    record core { context = branch_context core.context taken target; tables = record core.tables { predictor = predictor_after core taken target } }

-- what an instruction asks for, done
unfoldable pub executed : Core → List ℕ → Effect → Step
executed core ws (sets rd value) = leads_to core ws (register_set core.context rd value)
executed core ws (jumps rd target) = leads_to core ws (jumped core.context rd target)
executed core ws (branches taken target) =
    record { core = branched core taken target; words = ws; used = record plain { mispredicted = was_wrong core taken target } }
executed core ws (loads width rd address) = data_access core ws Load (load_bytes width) address (load_at core.context ws width rd address)
executed core ws (stores width address value) = data_access core ws Store (store_bytes width) address (store_at core.context ws width address value)

-- the word of a fetch is decoded, and then executed
abbrev pub instruction_step : Core → List ℕ → Option Instruction → Step
instruction_step core ws None = leads_to core ws (stopped core.context IllegalInstruction)
instruction_step core ws (Some i) = executed core ws (effect_of i core.context.registers core.context.pc core.clock)

unfoldable pub word_step : Core → List ℕ → ℕ → Step
word_step core ws w = instruction_step core ws (decoded w)

-- a fetch uses the TLB and not the cache
abbrev pub with_fetch : Bool → Step → Step
with_fetch walked s = record s { used = record s.used { fetch_walked = walked } }

abbrev pub fetch_found : Core → List ℕ → Bool → Option ℕ → Step
fetch_found core ws walked None = with_fetch walked (leads_to core ws (stopped core.context (fault_cause Fetch)))
fetch_found core ws walked (Some frame) = with_fetch walked (word_step core ws (word ws frame (core.context.pc % 4096 / 4)))

-- a ready program: the fetch, and then its word
unfoldable pub fetch_step : Core → List ℕ → Step
fetch_step core ws =
    fetch_found (after_lookup core ws core.context.pc Fetch) ws (looked_up core ws core.context.pc Fetch).walked (looked_up core ws core.context.pc Fetch).frame

-- a stopped program uses nothing, and stays as it is
abbrev pub program_step : State → Core → List ℕ → Step
program_step Ready core ws = fetch_step core ws
program_step (Stopped cause pc) core ws = leads_to core ws core.context

-- the clock, which has 64 bits, moves on by the cycles of what was used
abbrev pub on_time : Step → Step
on_time s = record s { core = record s.core { clock = (s.core.clock + cycles s.used) % 2 ^ 64 } }

-- one step
unfoldable pub stepped : Core → List ℕ → Step
stepped core ws = on_time (program_step core.context.state core ws)
