-- What a run of words leaves on the machine of the vectors.
use Rattle.std.specs.Prelude.{◌≡◌, ℕ, List, cond, Option, Some, None, is_some}
use Rattle.paging.specs.Small.{mapped_in, with_page}
use Rattle.rv32ui.specs.Memory.{put_at}
use Rattle.isa.specs.Registers.{held, register, written}
use Rattle.hart.specs.declared.context.State.{State}
use Rattle.hart.specs.declared.context.State.TheVariants.{Ready, Stopped}
use Rattle.hart.specs.Causes.{cause_number}
use Rattle.hart.specs.Core.{first_core}
use Rattle.hart.specs.Execution.{is_ready}
use Rattle.hart.specs.Moments.{Moment, after, begin}
use Rattle.conformance.specs.declared.machine.Machine.{Machine}

-- of a machine all but what its stepper remembers, which makes no difference to a step
abbrev pub moment_of : Machine → Moment
moment_of m = begin m.stepper.core m.words

-- a machine has come to a moment, whose instructions it does not count
pub record IsAt (moment : Moment) (m : Machine) : Type 0 where
  pub core : m.stepper.core ≡ moment.core
  pub words : m.words ≡ moment.words

-- a fresh program over five frames, with the page tables and nothing else in them: page 18 is frame 4 with R and W, page 19 the code once more
abbrev pub at_first : Moment
at_first = begin (first_core 0 0x10000) (with_page (with_page (mapped_in 5120) 18 0x10D7) 19 0x8DB)

-- registers, counter, tables and clock as at first, and the words as they are
abbrev pub restarted : Moment → Moment
restarted m = record m { core = first_core 0 0x10000 }

abbrev pub with_register : ℕ → ℕ → Moment → Moment
with_register r value m =
    let x = m.core.context in record m { core = record m.core { context = record x { registers = written x.registers (register r) value } } }

-- the counter elsewhere
abbrev pub at_counter : ℕ → Moment → Moment
at_counter pc m = record m { core = record m.core { context = record m.core.context { pc = pc } } }

-- the words in the frame of the code, from its start on
abbrev pub with_code : List ℕ → Moment → Moment
with_code code m = record m { words = put_at m.words 2 0 code }

-- words in the frame of page 17, from a place on
abbrev pub with_data : ℕ → List ℕ → Moment → Moment
with_data at values m = record m { words = put_at m.words 3 at values }

-- why a program stopped, if it did
abbrev pub cause_of : State → Option ℕ
cause_of Ready = None
cause_of (Stopped cause pc) = Some (cause_number cause)

-- what a register holds, where the program is ready
abbrev pub value_in : ℕ → Moment → Option ℕ
value_in r m = cond (is_ready m.core.context.state) (Some (held m.core.context.registers (register r))) None

-- so many instructions from there, and an answer if and only if the program is then ready
pub record RunsWords (code : List ℕ) (instructions : ℕ) (before now : Machine) (answer : Option Unit) : Type 0 where
  pub moment : IsAt (after instructions (with_code code (moment_of before))) now
  pub ready : is_some answer ≡ is_ready now.stepper.core.context.state
