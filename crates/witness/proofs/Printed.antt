-- The lines of the first slots, computed.
use Rattle.std.proofs.Common.{refl}
use Rattle.std.specs.Fmt.{digits}
use Rattle.ranges.specs.Questions.{any, count, first, most}
use Rattle.paging.specs.Entries.{flag}
use Rattle.paging.specs.Walks.{walked}
use Rattle.tables.specs.Tlb.{found, filled}
use Rattle.plan.specs.Format.{plan_of, rows}
use Rattle.plan.specs.Switch.{messages}
use Rattle.checker.specs.Pages.{channel_frames, end_frame, frames_or_none, looked_up}
use Rattle.hart.specs.Core.{data_access, executed, fetch_step, stepped, word_step}
use Rattle.hart.specs.Moments.{until}
use Rattle.kernel.specs.Machine.{after_slot, after_slots, inside_after, slot_ran}
use Rattle.kernel.specs.Reports.{slot_report}
use Rattle.sample.specs.Memory.{memory}
use Rattle.witness.specs.Lines.{Lines}

pub lines : Lines
unfolding digits any count first most flag walked found filled plan_of rows channel_frames end_frame frames_or_none looked_up data_access executed fetch_step stepped word_step until after_slot after_slots inside_after slot_ran slot_report messages memory
lines = record { first = refl; second = refl; third = refl; stopped = refl }
