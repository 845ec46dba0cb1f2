-- The bytes of a plan, written from its budget and its rows.
use Rattle.std.specs.Prelude.{◌≡◌, ℕ, zero, suc, ◌/◌, ◌%◌, ◌^◌, ◌<◌, ◌≤◌, List, [], ◌∷◌, ◌++◌, length, slice_index_or}
use Rattle.plan.specs.declared.model.Partition.{Partition}
use Rattle.plan.specs.declared.model.Slot.{Slot}
use Rattle.plan.specs.declared.model.Channel.{Channel}
use Rattle.plan.specs.declared.model.Plan.{Plan}
use Rattle.plan.specs.Format.{no_channel, no_partition, no_slot, plan_of}
use Rattle.plan.specs.Rules.{channel, partition, slot}

-- a number in so many bytes, low byte first
abbrev pub in_bytes : ℕ → ℕ → List ℕ
in_bytes zero value = []
in_bytes (suc count) value = value % 256 ∷ in_bytes count (value / 256)

abbrev pub partition_bytes : Partition → List ℕ
partition_bytes p = in_bytes 2 p.root ++ in_bytes 4 p.start

abbrev pub slot_bytes : Slot → List ℕ
slot_bytes s = in_bytes 1 s.partition ++ in_bytes 4 s.length

abbrev pub channel_bytes : Channel → List ℕ
channel_bytes c =
    in_bytes 1 c.sender.partition ++ (in_bytes 1 c.receiver.partition ++ (in_bytes 4 c.sender.page ++ in_bytes 4 c.receiver.page))

-- the bytes of rows, one after the other
abbrev pub row_bytes : {X : Type 0} → (X → List ℕ) → List X → List ℕ
row_bytes bytes [] = []
row_bytes bytes (x ∷ xs) = bytes x ++ row_bytes bytes xs

-- the bytes of a plan
abbrev pub written : ℕ → List Partition → List Slot → List Channel → List ℕ
written budget partitions slots channels =
    length partitions ∷ length slots ∷ length channels ∷ (in_bytes 4 budget
    ++ (row_bytes partition_bytes partitions ++ (row_bytes slot_bytes slots ++ row_bytes channel_bytes channels)))

-- one row of each kind: root frame and start address; partition and length; sender, its page, receiver, its page
abbrev pub a_partition : ℕ → ℕ → Partition
a_partition root start = record { root = root; start = start }

abbrev pub a_slot : ℕ → ℕ → Slot
a_slot partition length = record { partition = partition; length = length }

abbrev pub a_channel : ℕ → ℕ → ℕ → ℕ → Channel
a_channel sender page receiver receiver_page =
    record { sender = record { partition = sender; page = page }; receiver = record { partition = receiver; page = receiver_page } }

-- rows whose numbers fit into their bytes
abbrev pub PartitionWritable : Partition → Type 0
PartitionWritable p = (p.root < 2 ^ 16) × (p.start < 2 ^ 32)

abbrev pub SlotWritable : Slot → Type 0
SlotWritable s = (s.partition < 2 ^ 8) × (s.length < 2 ^ 32)

abbrev pub ChannelWritable : Channel → Type 0
ChannelWritable c = (c.sender.partition < 2 ^ 8) × (c.receiver.partition < 2 ^ 8) × (c.sender.page < 2 ^ 32) × (c.receiver.page < 2 ^ 32)

-- a plan whose numbers fit into their bytes, and its rows into their rooms
pub record Writable (budget : ℕ) (partitions : List Partition) (slots : List Slot) (channels : List Channel) : Type 0 where
  pub cycles : budget < 2 ^ 32
  pub few_partitions : length partitions ≤ 8
  pub few_slots : length slots ≤ 64
  pub few_channels : length channels ≤ 16
  pub each_partition : (k : ℕ) → k < length partitions → PartitionWritable (slice_index_or partitions k no_partition)
  pub each_slot : (k : ℕ) → k < length slots → SlotWritable (slice_index_or slots k no_slot)
  pub each_channel : (k : ℕ) → k < length channels → ChannelWritable (slice_index_or channels k no_channel)

-- a plan that has these
pub record Reads (budget : ℕ) (partitions : List Partition) (slots : List Slot) (channels : List Channel) (p : Plan) : Type 0 where
  pub counts : p.counts ≡ record { partitions = length partitions; slots = length slots; channels = length channels }
  pub cycles : p.budget ≡ budget
  pub each_partition : (k : ℕ) → k < length partitions → partition p k ≡ slice_index_or partitions k no_partition
  pub each_slot : (k : ℕ) → k < length slots → slot p k ≡ slice_index_or slots k no_slot
  pub each_channel : (k : ℕ) → k < length channels → channel p k ≡ slice_index_or channels k no_channel

-- so what is written reads back
abbrev pub ReadsBack : Type 0
ReadsBack = (budget : ℕ) (partitions : List Partition) (slots : List Slot) (channels : List Channel) → Writable budget partitions slots channels →
    Reads budget partitions slots channels (plan_of (written budget partitions slots channels))
