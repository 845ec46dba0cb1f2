-- A system that runs an accepted plan, at the beginning of a slot.
use Rattle.std.specs.Prelude.{◌≡◌, ℕ, List, length, Ok}
use Rattle.tables.specs.First.{first_tables}
use Rattle.plan.specs.Timetable.{begins}
use Rattle.checker.specs.declared.Accepted.{Accepted}
use Rattle.checker.specs.Checked.{checked}
use Rattle.kernel.specs.Machine.{System}

-- the checker accepts the plan in the words as they are now, and the tables are in their first state; the clock and the slot to come may be any
pub record BeforeSlot (bytes : List ℕ) (a : Accepted) (s : System) : Type 0 where
  pub accepts : checked bytes s.words ≡ Ok a
  pub tables : s.machine.tables ≡ first_tables
  pub contexts : length s.machine.contexts ≡ 8

-- and the clock is where the plan says
pub record Running (bytes : List ℕ) (a : Accepted) (s : System) : Type 0 where
  pub before : BeforeSlot bytes a s
  pub clock : s.machine.clock ≡ begins a.plan s.machine.turn
