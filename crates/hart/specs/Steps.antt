-- What every step keeps, whatever the tables hold.
use Rattle.std.specs.Prelude.{◌≡◌, ℕ, ◌+◌, ◌/◌, ◌%◌, ◌^◌, ◌≤◌, Bool, true, false, ◌⊎◌, List, length, ℤ, Some, None, Option, unwrap_or}
use Rattle.costs.specs.Costs.{instruction, worst_branch, worst_instruction}
use Rattle.costs.specs.Cycles.{cycles, plain, walk_cycles}
use Rattle.words.specs.Frames.{word}
use Rattle.isa.specs.declared.register.Register.{Register}
use Rattle.isa.specs.declared.register.Registers.{Registers}
use Rattle.isa.specs.declared.instruction.Condition.{Condition}
use Rattle.isa.specs.declared.instruction.Instruction.{Instruction}
use Rattle.isa.specs.declared.instruction.Instruction.TheVariants.{Branch, Load, Store}
use Rattle.isa.specs.Decoding.{decoded}
use Rattle.isa.specs.Registers.{written}
use Rattle.paging.specs.declared.access.Access.TheVariants.{Fetch}
use Rattle.tables.specs.declared.Tables.{Tables}
use Rattle.tables.specs.First.{first_tables}
use Rattle.tables.specs.Laws.{InRange}
use Rattle.tables.specs.Rows.{Whole}
use Rattle.hart.specs.declared.cause.Cause.{Cause}
use Rattle.hart.specs.declared.context.State.TheVariants.{Ready, Stopped}
use Rattle.hart.specs.declared.step.Core.{Core}
use Rattle.hart.specs.Execution.{stopped}
use Rattle.hart.specs.Core.{Step, looked_up, stepped}

-- a program stops where it is: registers, counter, words, cache and predictor are as they were, and it cost the instruction and at most two walks
pub record Stops (core : Core) (ws : List ℕ) (s : Step) : Type 0 where
  pub cause : Cause
  pub context : s.core.context ≡ stopped core.context cause
  pub words : s.words ≡ ws
  pub cache : s.core.tables.cache ≡ core.tables.cache
  pub predictor : s.core.tables.predictor ≡ core.tables.predictor
  pub cost : cycles s.used ≡ instruction + walk_cycles s.used.fetch_walked + walk_cycles s.used.data_walked

-- one register is set
pub record SetOne (before after : Registers) : Type 0 where
  pub register : Register
  pub value : ℕ
  pub set : after ≡ written before register value

-- the word that the program counter is at; one of frame 0 where the fetch faults
abbrev pub fetched : Core → List ℕ → ℕ
fetched core ws = word ws (unwrap_or (looked_up core ws core.context.pc Fetch).frame 0) (core.context.pc % 4096 / 4)

pub record StepKeeps (core : Core) (ws : List ℕ) : Type 0 where
  pub as_many : length (stepped core ws).words ≡ length ws
  pub root : (stepped core ws).core.root ≡ core.root
  pub clock : (stepped core ws).core.clock ≡ (core.clock + cycles (stepped core ws).used) % 2 ^ 64
  pub least : instruction ≤ cycles (stepped core ws).used
  pub most : cycles (stepped core ws).used ≤ worst_instruction
  pub branch : (condition : Condition) (left right : Register) (offset : ℤ) → decoded (fetched core ws) ≡ Some (Branch condition left right offset) →
      cycles (stepped core ws).used ≤ worst_branch
  -- at most one register is set, and a counter that is a multiple of 4 stays one
  pub one_register : ((stepped core ws).core.context.registers ≡ core.context.registers) ⊎ SetOne core.context.registers (stepped core ws).core.context.registers
  pub aligned : core.context.pc % 4 ≡ 0 → (stepped core ws).core.context.pc % 4 ≡ 0
  -- a ready program goes on or stops, and one that is stopped stays as it is
  pub ready : core.context.state ≡ Ready → ((stepped core ws).core.context.state ≡ Ready) ⊎ Stops core ws (stepped core ws)
  pub rests : (cause : Cause) (pc : ℕ) → core.context.state ≡ Stopped cause pc →
      stepped core ws ≡ record { core = record core { clock = (core.clock + instruction) % 2 ^ 64 }; words = ws; used = plain }

abbrev pub Steps : Type 0
Steps = (core : Core) (ws : List ℕ) → StepKeeps core ws

-- only a load or a store uses the cache, and only a branch the predictor
abbrev pub uses_cache : Option Instruction → Bool
uses_cache None = false
uses_cache (Some (Load width rd base offset)) = true
uses_cache (Some (Store width base source offset)) = true
uses_cache (Some other) = false

abbrev pub uses_predictor : Option Instruction → Bool
uses_predictor None = false
uses_predictor (Some (Branch condition left right offset)) = true
uses_predictor (Some other) = false

-- every other instruction leaves them as they are, and one that uses neither costs 1 and what the look-up of its own page did
pub record Uses (core : Core) (ws : List ℕ) : Type 0 where
  pub cache : uses_cache (decoded (fetched core ws)) ≡ false → (stepped core ws).core.tables.cache ≡ core.tables.cache
  pub predictor : uses_predictor (decoded (fetched core ws)) ≡ false → (stepped core ws).core.tables.predictor ≡ core.tables.predictor
  pub plain : core.context.state ≡ Ready → uses_cache (decoded (fetched core ws)) ≡ false → uses_predictor (decoded (fetched core ws)) ≡ false →
      cycles (stepped core ws).used ≡ instruction + walk_cycles (looked_up core ws core.context.pc Fetch).walked

abbrev pub UsesTables : Type 0
UsesTables = (core : Core) (ws : List ℕ) → Uses core ws

-- 64 lines, 16 entries, 64 counters from 0 to 3
pub record WholeTables (t : Tables) : Type 0 where
  pub cache : Whole t.cache
  pub tlb : length t.tlb.entries ≡ 16
  pub predictor : InRange t.predictor

-- the tables have their size at first and after every step
pub record StayWhole : Type 0 where
  pub first : WholeTables first_tables
  pub next : (core : Core) (ws : List ℕ) → WholeTables core.tables → WholeTables (stepped core ws).core.tables
