-- What is promised of every slot of an accepted plan, with any programs.
use Rattle.std.specs.Prelude.{◌≡◌, ℕ, ◌+◌, ◌/◌, ◌^◌, ◌<◌, ◌≤◌, true, false, ◌≢◌, List, Contains}
use Rattle.costs.specs.Costs.{worst_instruction}
use Rattle.costs.specs.Cycles.{cycles}
use Rattle.words.specs.Frames.{word}
use Rattle.paging.specs.declared.leaf.Leaf.{Leaf}
use Rattle.paging.specs.Mapping.{Maps}
use Rattle.paging.specs.Tables.{References, Owns}
use Rattle.tables.specs.First.{first_tables}
use Rattle.tables.specs.Coherent.{Coherent}
use Rattle.hart.specs.declared.context.State.TheVariants.{Ready}
use Rattle.hart.specs.Architecture.{architecture}
use Rattle.hart.specs.Core.{stepped}
use Rattle.hart.specs.Execution.{begun, is_ready}
use Rattle.hart.specs.Moments.{Moment}
use Rattle.plan.specs.Places.{channel}
use Rattle.plan.specs.Switch.{Copy, copies}
use Rattle.checker.specs.declared.Accepted.{Accepted}
use Rattle.checker.specs.Found.{FrameOf}
use Rattle.checker.specs.Lawful.{root}
use Rattle.kernel.specs.Inside.{Inside}
use Rattle.kernel.specs.Machine.{System, after_slot, coming, context_of, ended, inside_after, slot_end, who_runs}
use Rattle.kernel.specs.Switch.{frames_of, switch_work}
use Rattle.separation.specs.Running.{Running}

-- the partition whose slot is to come
abbrev pub runs : Accepted → System → ℕ
runs a s = who_runs a.plan s.machine

-- the slot goes on to its end, and its last step ends there or less than the worst case past it. The tables after the switch are in their first state, and
-- its work, write-backs and copies included, ends before the next slot begins: so when the next slot begins hides how many lines were dirty
pub record Switches (a : Accepted) (s t : System) : Type 0 where
  pub reached : slot_end a.plan s.machine ≤ (ended a.plan s).now.core.clock
  pub past : (ended a.plan s).now.core.clock < slot_end a.plan s.machine + worst_instruction
  pub cleared : t.machine.tables ≡ first_tables
  pub fits : (ended a.plan s).now.core.clock + switch_work a.plan (runs a s) (ended a.plan s).now.core.tables ≤ slot_end a.plan s.machine + a.plan.budget
  pub next : t.machine.clock ≡ slot_end a.plan s.machine + a.plan.budget

-- at the slot's end the frames that a channel joins are those behind its pages. For each channel out of the partition whose slot it was, the receiver's frame then
-- equals the sender's as it stood at the slot's end, and no word changes but in a frame that one of the switch's copies goes to
pub record Messages (a : Accepted) (s t : System) : Type 0 where
  pub sender_page : (k : ℕ) → k < a.plan.counts.channels → FrameOf (ended a.plan s).now.words a.plan (channel a.plan k).sender (frames_of a k).sender
  pub receiver_page : (k : ℕ) → k < a.plan.counts.channels → FrameOf (ended a.plan s).now.words a.plan (channel a.plan k).receiver (frames_of a k).receiver
  pub arrives : (k j : ℕ) → k < a.plan.counts.channels → (channel a.plan k).sender.partition ≡ runs a s → j < 1024 →
      word t.words (frames_of a k).receiver j ≡ word (ended a.plan s).now.words (frames_of a k).sender j
  pub others : (f j : ℕ) → j < 1024 →
      ((c : Copy) → Contains (copies a.plan (runs a s)) c → f ≢ (frames_of a c.channel).receiver) →
      word t.words f j ≡ word (ended a.plan s).now.words f j

-- of a partition that does not run, registers, counter and state stay, and every word of its frames, unless one of the switch's copies to it comes into that very frame
pub record Confined (a : Accepted) (s t : System) (q : ℕ) : Type 0 where
  pub context : context_of t.machine q ≡ context_of s.machine q
  pub words : (f j : ℕ) → j < 1024 → Owns s.words (root a.plan q) f →
      ((c : Copy) → Contains (copies a.plan (runs a s)) c → c.to.partition ≡ q → FrameOf s.words a.plan c.to f → ⊥) →
      word t.words f j ≡ word s.words f j

-- a partition that runs after no step of the slot
abbrev pub Rests : Accepted → System → ℕ → Type 0
Rests a s q = (n : ℕ) → q ≢ (inside_after a.plan s n).who

-- an instruction does to registers, counter, state and words what the architecture does, which knows no tables. It leaves the tables that the core leaves and takes
-- the core's cycles, one at least and the worst case at most, and it is counted
pub record OneInstruction (x y : Moment) : Type 0 where
  pub context : y.core.context ≡ (architecture x.core x.words).context
  pub words : y.words ≡ (architecture x.core x.words).words
  pub tables : y.core.tables ≡ (stepped x.core x.words).core.tables
  pub clock : y.core.clock ≡ x.core.clock + cycles (stepped x.core x.words).used
  pub under : y.core.root ≡ x.core.root
  pub least : x.core.clock < y.core.clock
  pub most : y.core.clock ≤ x.core.clock + worst_instruction
  pub counted : y.instructions ≡ x.instructions + 1

-- one step: before the slot's end a program that is ready begins an instruction, and a stopped one waits for a cycle; from the end on nothing happens
pub record GoesOn (stop : ℕ) (x y : Inside) : Type 0 where
  pub who : y.who ≡ x.who
  pub executes : x.now.core.clock < stop → is_ready x.now.core.context.state ≡ true → OneInstruction x.now y.now
  pub waits : x.now.core.clock < stop → is_ready x.now.core.context.state ≡ false → y.now ≡ record x.now { core = record x.now.core { clock = x.now.core.clock + 1 } }
  pub ends : stop ≤ x.now.core.clock → y ≡ x

-- the program whose slot it is begins under its root, with the registers, the counter and the state that it had, with the words and the clock as they are and with
-- the tables in their first state. It goes on step by step, and what it has at the slot's end it keeps
pub record Executes (a : Accepted) (s t : System) : Type 0 where
  pub resumes : inside_after a.plan s 0 ≡ record {
    who = runs a s;
    now = record {
      core = record { context = begun (context_of s.machine (runs a s)); tables = first_tables; root = root a.plan (runs a s); clock = s.machine.clock };
      words = s.words;
      instructions = 0;
    };
  }
  pub goes_on : (n : ℕ) → GoesOn (slot_end a.plan s.machine) (inside_after a.plan s n) (inside_after a.plan s (n + 1))
  pub keeps : context_of t.machine (ended a.plan s).who ≡ (ended a.plan s).now.core.context

-- after so many steps of the slot its partition runs, under its root: every entry of the TLB is what a walk would answer, every page leads to a frame that the tables
-- under the root referenced when the slot began, and no word has changed but in such frames
pub record Translates (a : Accepted) (s : System) (x : Inside) : Type 0 where
  pub who : x.who ≡ runs a s
  pub under : x.now.core.root ≡ root a.plan x.who
  pub coherent : Coherent x.now.core.tables.tlb x.now.words x.now.core.root
  pub reaches : (page : ℕ) (leaf : Leaf) → Maps x.now.words x.now.core.root page leaf → References s.words x.now.core.root leaf.frame
  pub own : (f j : ℕ) → j < 1024 → (References s.words x.now.core.root f → ⊥) → word x.now.words f j ≡ word s.words f j

abbrev pub TranslatesThroughout : Accepted → System → Type 0
TranslatesThroughout a s = (n : ℕ) → Translates a s (inside_after a.plan s n)

-- a program that is still ready at the slot's end began at least as many instructions as the worst case fits into the slot
abbrev pub Progress : Accepted → System → Type 0
Progress a s = (ended a.plan s).now.core.context.state ≡ Ready → (coming a.plan s.machine).length / worst_instruction ≤ (ended a.plan s).now.instructions

-- all of it, of one slot: `s` is the system before it, and `t` the one after its switch
pub record SlotPromises (bytes : List ℕ) (a : Accepted) (s t : System) : Type 0 where
  -- the next slot begins at the clock that the plan alone gives, the plan is accepted as it was, and the promises hold again
  pub again : Running bytes a t
  pub turn : t.machine.turn ≡ s.machine.turn + 1
  pub switch : Switches a s t
  pub messages : Messages a s t
  pub confined : (q : ℕ) → q < a.plan.counts.partitions → Rests a s q → Confined a s t q
  pub execution : Executes a s t
  pub translation : TranslatesThroughout a s
  pub progress : Progress a s

-- for every slot whose number has a successor that can be held
abbrev pub KeepsPromises : Type 0
KeepsPromises = (bytes : List ℕ) (a : Accepted) (s : System) → Running bytes a s → s.machine.turn + 1 < 2 ^ 32 → SlotPromises bytes a s (after_slot a s)
