-- What stands at a place of a plan.
use Rattle.std.specs.Prelude.{ℕ, Bool, ◌==◌, slice_index_or}
use Rattle.ranges.specs.Questions.{count}
use Rattle.plan.specs.declared.model.Partition.{Partition}
use Rattle.plan.specs.declared.model.Slot.{Slot}
use Rattle.plan.specs.declared.model.Channel.{Channel}
use Rattle.plan.specs.declared.model.Plan.{Plan}
use Rattle.plan.specs.Format.{no_partition, no_slot, no_channel}

abbrev pub partition : Plan → ℕ → Partition
partition p k = slice_index_or p.partitions k no_partition

abbrev pub slot : Plan → ℕ → Slot
slot p k = slice_index_or p.slots k no_slot

abbrev pub channel : Plan → ℕ → Channel
channel p k = slice_index_or p.channels k no_channel

-- whether a channel leads out of a partition
abbrev pub leaves : Plan → ℕ → ℕ → Bool
leaves p who k = (channel p k).sender.partition == who

-- how many channels lead out of a partition
abbrev pub channels_out : Plan → ℕ → ℕ
channels_out p who = count (leaves p who) p.counts.channels
