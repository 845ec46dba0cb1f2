-- The machine: how it starts, and what a slot makes of it.
use Rattle.std.specs.Prelude.{ℕ, zero, suc, ◌+◌, ◌^◌, max, Bool, cond, ◌&&◌, List, nat_lt, slice_index_or, slice_set}
use Rattle.tables.specs.First.{first_tables, flushed}
use Rattle.hart.specs.declared.context.Context.{Context}
use Rattle.hart.specs.declared.step.Core.{Core}
use Rattle.hart.specs.Execution.{begun, fresh}
use Rattle.hart.specs.Moments.{begin}
use Rattle.plan.specs.declared.model.Plan.{Plan}
use Rattle.plan.specs.declared.model.Slot.{Slot}
use Rattle.plan.specs.Format.{rows}
use Rattle.plan.specs.Places.{partition}
use Rattle.plan.specs.Switch.{copies}
use Rattle.plan.specs.Timetable.{slot_of}
use Rattle.checker.specs.declared.Accepted.{Accepted}
use Rattle.checker.specs.Lawful.{root}
use Rattle.kernel.specs.declared.machine.Machine.{Machine}
use Rattle.kernel.specs.Inside.{Inside, onward}
use Rattle.kernel.specs.Switch.{delivered, switch_work}

abbrev pub fresh_at : Plan → ℕ → Context
fresh_at p k = fresh (partition p k).start

-- the machine before the first slot
abbrev pub loaded : Plan → Machine
loaded p = record { contexts = rows (fresh_at p) (fresh 0) 8 8; tables = first_tables; clock = 0; turn = 0 }

-- a machine and the words that it runs in
pub record System : Type 0 where
  pub machine : Machine
  pub words : List ℕ

abbrev pub system : Machine → List ℕ → System
system m words = record { machine = m; words = words }

-- the slot to come, and its partition
abbrev pub coming : Plan → Machine → Slot
coming p m = slot_of p m.turn

abbrev pub who_runs : Plan → Machine → ℕ
who_runs p m = (coming p m).partition

abbrev pub context_of : Machine → ℕ → Context
context_of m k = slice_index_or m.contexts k (fresh 0)

-- where the slot's instructions end: none begins from here on
abbrev pub slot_end : Plan → Machine → ℕ
slot_end p m = m.clock + (coming p m).length

-- the core as a partition's program finds it
abbrev pub core_for : Plan → Machine → ℕ → Core
core_for p m who = record { context = begun (context_of m who); tables = m.tables; root = root p who; clock = m.clock }

-- the start of a slot: its partition runs
abbrev pub entered : Plan → System → Inside
entered p s = record { who = who_runs p s.machine; now = begin (core_for p s.machine (who_runs p s.machine)) s.words }

-- the slot after n of its steps; every step takes a cycle at least, so its length suffices
unfoldable pub inside_after : Plan → System → ℕ → Inside
inside_after p s n = onward (slot_end p s.machine) n (entered p s)

-- the end of a slot, before the switch
abbrev pub ended : Plan → System → Inside
ended p s = inside_after p s (coming p s.machine).length

-- a slot can be run: its partition is one of the eight, and the slot's number and the clock have room to grow
abbrev pub can_run : Plan → Machine → Bool
can_run p m = nat_lt (who_runs p m) 8 && (nat_lt (m.turn + 1) (2 ^ 32) && nat_lt m.clock (2 ^ 63))

-- a machine whose slot has ended at a reading of the clock, after the switch: dirty lines are written back, the tables are flushed,
-- the copies are made, and the kernel waits for the moment at which the next slot begins
abbrev pub switched : Plan → Machine → ℕ → Machine
switched p m now = record m {
  tables = flushed m.tables;
  clock = max (now + switch_work p (who_runs p m) m.tables) (slot_end p m + p.budget);
  turn = m.turn + 1;
}

-- the machine with what the program that runs has made of its context and of the tables
abbrev pub with_program : Machine → Inside → Machine
with_program m x = record m { contexts = slice_set m.contexts x.who x.now.core.context; tables = x.now.core.tables }

-- one slot with its switch
unfoldable pub slot_ran : Accepted → System → System
slot_ran a s = record {
  machine = switched a.plan (with_program s.machine (ended a.plan s)) (ended a.plan s).now.core.clock;
  words = delivered a (copies a.plan (who_runs a.plan s.machine)) (ended a.plan s).now.words;
}

-- where it cannot be run, nothing changes
unfoldable pub after_slot : Accepted → System → System
after_slot a s = cond (can_run a.plan s.machine) (slot_ran a s) s

-- n slots, one after the other
unfoldable pub after_slots : Accepted → ℕ → System → System
after_slots a zero s = s
after_slots a (suc n) s = after_slot a (after_slots a n s)
