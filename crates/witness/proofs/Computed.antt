-- The first slots, computed.
use Rattle.std.proofs.Common.{◌≡◌, refl}
use Rattle.ranges.specs.Questions.{any, count, first, most}
use Rattle.paging.specs.Entries.{flag}
use Rattle.paging.specs.Walks.{walked}
use Rattle.tables.specs.Tlb.{found, filled}
use Rattle.plan.specs.Format.{plan_of, rows}
use Rattle.plan.specs.Switch.{messages}
use Rattle.checker.specs.Pages.{channel_frames, end_frame, frames_or_none, looked_up}
use Rattle.hart.specs.declared.cause.Cause.TheVariants.{IllegalInstruction}
use Rattle.hart.specs.declared.context.State.TheVariants.{Ready, Stopped}
use Rattle.hart.specs.Core.{data_access, executed, fetch_step, stepped, word_step}
use Rattle.hart.specs.Moments.{until}
use Rattle.kernel.specs.Machine.{after_slot, after_slots, context_of, inside_after, slot_ran}
use Rattle.sample.specs.Memory.{memory}
use Rattle.witness.specs.Pair.{Pair}
use Rattle.witness.specs.Programs.{FirstSlots, OtherProgram, after, broken, codes, other_after}
use Rattle.witness.proofs.Paired.{pairs}

pub first_slots : FirstSlots
unfolding any count first most flag walked found filled plan_of rows channel_frames end_frame frames_or_none looked_up data_access executed fetch_step stepped word_step until after_slot after_slots inside_after slot_ran messages memory
first_slots = record { early = refl; late = refl; next_begins = refl; sent = refl; received = refl; reads_on = refl; then_begins = refl; keeps_early = refl; keeps_late = refl; fourth_begins = refl }

-- the two memories have the same first program, and no data
same : Pair codes broken
same = pairs codes broken (λ k. refl) (λ k. refl)

goes_on : (context_of (after 2).machine 1).state ≡ Ready
unfolding any count first most flag walked found filled plan_of rows channel_frames end_frame frames_or_none looked_up data_access executed fetch_step stepped word_step until after_slot after_slots inside_after slot_ran messages memory
goes_on = refl

stops : (context_of (other_after 2).machine 1).state ≡ Stopped IllegalInstruction 0x10000
unfolding any count first most flag walked found filled plan_of rows channel_frames end_frame frames_or_none looked_up data_access executed fetch_step stepped word_step until after_slot after_slots inside_after slot_ran messages memory
stops = refl

pub other_program : OtherProgram
other_program = record { goes_on = goes_on; stops = stops; agree = same.unseen.slots 2 }
