-- The plan's bytes: three counts of one byte, the budget in four, then the parts, rows of one size each. Numbers are low byte first.
use Rattle.std.specs.Prelude.{ℕ, ◌+◌, ◌*◌, cond, List, [], ◌∷◌, map, take, nat_lt}
use Rattle.std.specs.List.{range_with_len}
use Rattle.words.specs.Bytes.{byte, number}
use Rattle.plan.specs.declared.model.Counts.{Counts}
use Rattle.plan.specs.declared.model.Partition.{Partition}
use Rattle.plan.specs.declared.model.Slot.{Slot}
use Rattle.plan.specs.declared.model.Channel.{Channel}
use Rattle.plan.specs.declared.model.Plan.{Plan}

abbrev pub counts_of : List ℕ → Counts
counts_of bytes = record { partitions = byte bytes 0; slots = byte bytes 1; channels = byte bytes 2 }

-- a part of a plan: how many rows it has, how many bytes a row has, and for how many rows there is room
pub record Part : Type 0 where
  pub many : ℕ
  pub size : ℕ
  pub room : ℕ

abbrev pub partitions_part : Counts → Part
partitions_part c = record { many = c.partitions; size = 6; room = 8 }

abbrev pub slots_part : Counts → Part
slots_part c = record { many = c.slots; size = 5; room = 64 }

abbrev pub channels_part : Counts → Part
channels_part c = record { many = c.channels; size = 10; room = 16 }

-- the parts that follow the header, in their order
abbrev pub parts : Counts → List Part
parts c = partitions_part c ∷ slots_part c ∷ channels_part c ∷ []

-- where parts end that begin at a place
abbrev pub end_of : ℕ → List Part → ℕ
end_of start [] = start
end_of start (part ∷ more) = end_of (start + part.size * part.many) more

abbrev pub header : ℕ
header = 7

-- where a part begins, by how many stand before it
abbrev pub part_from : Counts → ℕ → ℕ
part_from c before = end_of header (take before (parts c))

abbrev pub partitions_from : Counts → ℕ
partitions_from c = part_from c 0

abbrev pub slots_from : Counts → ℕ
slots_from c = part_from c 1

abbrev pub channels_from : Counts → ℕ
channels_from c = part_from c 2

-- where the plan ends
abbrev pub plan_size : Counts → ℕ
plan_size c = end_of header (parts c)

-- the largest counts that their bytes hold
abbrev pub fullest : Counts
fullest = record { partitions = 255; slots = 255; channels = 255 }

-- the bytes of the longest plan that counts can ask for, and one more
abbrev pub longest : ℕ
longest = plan_size fullest + 1

-- root frame in two bytes, start address in four
abbrev pub partition_at : List ℕ → ℕ → Partition
partition_at bytes at = record { root = number bytes at 2; start = number bytes (at + 2) 4 }

-- partition in one byte, length in four
abbrev pub slot_at : List ℕ → ℕ → Slot
slot_at bytes at = record { partition = byte bytes at; length = number bytes (at + 1) 4 }

-- sender and receiver in one byte each, their virtual pages in four each
abbrev pub channel_at : List ℕ → ℕ → Channel
channel_at bytes at = record {
  sender = record { partition = byte bytes at; page = number bytes (at + 2) 4 };
  receiver = record { partition = byte bytes (at + 1); page = number bytes (at + 6) 4 };
}

-- what stands past a count
abbrev pub no_partition : Partition
no_partition = record { root = 0; start = 0 }

abbrev pub no_slot : Slot
no_slot = record { partition = 0; length = 0 }

abbrev pub no_channel : Channel
no_channel = record { sender = record { partition = 0; page = 0 }; receiver = record { partition = 0; page = 0 } }

-- `room` places, of which those below `many` are filled
unfoldable pub rows : {X : Type 0} → (ℕ → X) → X → ℕ → ℕ → List X
rows at blank room many = map (λ k. cond (nat_lt k many) (at k) blank) (range_with_len 0 room)

-- the rows of a part that begins at a place
abbrev pub part_in : {X : Type 0} → (List ℕ → ℕ → X) → X → List ℕ → ℕ → Part → List X
part_in row blank bytes start part = rows (λ k. row bytes (start + part.size * k)) blank part.room part.many

-- the plan that the bytes say
unfoldable pub plan_of : List ℕ → Plan
plan_of bytes = let c = counts_of bytes in record {
  counts = c;
  budget = number bytes 3 4;
  partitions = part_in partition_at no_partition bytes (partitions_from c) (partitions_part c);
  slots = part_in slot_at no_slot bytes (slots_from c) (slots_part c);
  channels = part_in channel_at no_channel bytes (channels_from c) (channels_part c);
}
