-- The example plan, worked out.
use Rattle.std.proofs.Common.{ℕ, ◌<◌, [], ◌∷◌, get_or, refl, arith}
use Rattle.ranges.specs.Questions.{first, most}
use Rattle.plan.specs.Format.{no_partition, no_slot, plan_of, rows}
use Rattle.plan.specs.Switch.{messages}
use Rattle.plan.specs.Timetable.{begins}
use Rattle.plan.specs.Example.{Example, example}
use Rattle.plan.specs.Written.{PartitionWritable, SlotWritable, a_partition, a_slot}
use Rattle.plan.proofs.Decides.{kept_lawful}

partitions_fit : (k : ℕ) → k < 2 → PartitionWritable (get_or (a_partition 0 0x10000 ∷ a_partition 1 0x10000 ∷ []) k no_partition)
partitions_fit k l = grind arith

slots_fit : (k : ℕ) → k < 2 → SlotWritable (get_or (a_slot 0 200 ∷ a_slot 1 128 ∷ []) k no_slot)
slots_fit k l = grind arith

pub worked : Example
unfolding first most messages plan_of rows begins
worked = record {
  written_so = refl;
  writable = record {
    cycles = omega arith;
    few_partitions = omega arith;
    few_slots = omega arith;
    few_channels = omega arith;
    each_partition = partitions_fit;
    each_slot = slots_fit;
    each_channel = λ k l. absurd (omega arith);
  };
  accepted = kept_lawful example refl refl refl refl refl refl refl;
  first = refl;
  second = refl;
  third = refl;
  fourth = refl;
  needs = refl;
  needs_each_way = refl;
  needs_both_out = refl;
}
