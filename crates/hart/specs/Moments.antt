-- A core with the memory that it is lent, step by step.
use Rattle.std.specs.Prelude.{ℕ, zero, suc, ◌+◌, ◌-◌, ◌^◌, cond, min, List, nat_lt}
use Rattle.costs.specs.Costs.{worst_instruction}
use Rattle.hart.specs.declared.step.Core.{Core}
use Rattle.hart.specs.Core.{stepped}
use Rattle.hart.specs.Execution.{is_ready}

-- inside a run: and how many instructions were begun
pub record Moment : Type 0 where
  pub core : Core
  pub words : List ℕ
  pub instructions : ℕ

-- a core with the lent words, after so many instructions
abbrev pub moment : Core → List ℕ → ℕ → Moment
moment core ws instructions = record { core = core; words = ws; instructions = instructions }

abbrev pub begin : Core → List ℕ → Moment
begin core ws = moment core ws 0

-- one step; a stopped program uses up a cycle, which is no instruction
abbrev pub next : Moment → Moment
next m = record {
  core = (stepped m.core m.words).core;
  words = (stepped m.core m.words).words;
  instructions = m.instructions + cond (is_ready m.core.context.state) 1 0;
}

-- so many steps
unfoldable pub after : ℕ → Moment → Moment
after zero m = m
after (suc n) m = next (after n m)

-- at most n steps, and none that begins when the clock has come to `stop`
unfoldable pub until : ℕ → ℕ → Moment → Moment
until stop zero m = m
until stop (suc n) m = cond (nat_lt m.core.clock stop) (until stop n (next m)) m

-- no instruction begins so late that it could take the clock past its 64 bits
abbrev pub latest : ℕ
latest = 2 ^ 64 - worst_instruction

-- a run until the clock has come to `stop`: every step takes a cycle at least, so that as many steps as there are cycles are enough
abbrev pub run_until : ℕ → Core → List ℕ → Moment
run_until stop core ws = until (min stop latest) (min stop latest - core.clock) (begin core ws)
