-- What is told of a slot.
use Rattle.std.specs.Prelude.{cond, Some, None, Option}
use Rattle.plan.specs.declared.model.Plan.{Plan}
use Rattle.kernel.specs.declared.report.Report.{Report}
use Rattle.kernel.specs.Inside.{Inside}
use Rattle.kernel.specs.declared.machine.Machine.{Machine}
use Rattle.kernel.specs.Machine.{System, can_run, ended}

-- of a slot that has come so far
abbrev pub report_of : Machine → Inside → Report
report_of m x = record {
  slot = m.turn;
  partition = x.who;
  begin = m.clock;
  end = x.now.core.clock;
  instructions = x.now.instructions;
  pc = x.now.core.context.pc;
  state = x.now.core.context.state;
}

-- the report of a slot, or none where it cannot be run
unfoldable pub slot_report : Plan → System → Option Report
slot_report p s = cond (can_run p s.machine) (Some (report_of s.machine (ended p s))) None
