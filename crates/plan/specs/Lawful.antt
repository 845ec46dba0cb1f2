-- The rules of a plan that need no memory, each a sentence of its own. No order stands in them; the one thing that is
-- counted is how many channels lead out of a partition.
use Rattle.std.specs.Prelude.{◌≡◌, ℕ, ◌+◌, ◌*◌, ◌%◌, ◌<◌, ◌≤◌, ◌≢◌, List, length}
use Rattle.costs.specs.Costs.{copied_word, worst_switch}
use Rattle.plan.specs.declared.model.Plan.{Plan}
use Rattle.plan.specs.declared.refusal.Count.{Count}
use Rattle.plan.specs.declared.refusal.Count.TheVariants.{Partitions, Slots, Channels}
use Rattle.plan.specs.Format.{plan_of, plan_size}
use Rattle.plan.specs.Rules.{partition, slot, channel, channels_out}

-- 1 to 8 partitions, 1 to 64 slots, at most 16 channels
abbrev pub CountFits : Plan → Count → Type 0
CountFits p Partitions = (1 ≤ p.counts.partitions) × (p.counts.partitions ≤ 8)
CountFits p Slots = (1 ≤ p.counts.slots) × (p.counts.slots ≤ 64)
CountFits p Channels = p.counts.channels ≤ 16

-- a slot is a partition's, and lasts 128 to 1,000,000 cycles
abbrev pub SlotFits : Plan → ℕ → Type 0
SlotFits p k = ((slot p k).partition < p.counts.partitions) × (128 ≤ (slot p k).length) × ((slot p k).length ≤ 1000000)

-- a channel leads from one partition to another
abbrev pub ChannelFits : Plan → ℕ → Type 0
ChannelFits p k =
    ((channel p k).sender.partition < p.counts.partitions) × ((channel p k).receiver.partition < p.counts.partitions)
    × ((channel p k).sender.partition ≢ (channel p k).receiver.partition)

-- an instruction's address is a multiple of 4
abbrev pub StartFits : Plan → ℕ → Type 0
StartFits p k = (partition p k).start % 4 ≡ 0

-- the budget is 64 to 100,000 cycles, and covers a switch without messages and that after a slot of any partition, with the messages of all
-- channels out of it
abbrev pub BudgetFits : Plan → Type 0
BudgetFits p =
    (64 ≤ p.budget) × (p.budget ≤ 100000) × (worst_switch ≤ p.budget)
    × ((who : ℕ) → who < p.counts.partitions → worst_switch + 1024 * copied_word * channels_out p who ≤ p.budget)

-- bytes that keep every rule
pub record PlanLawful (bytes : List ℕ) : Type 0 where
  pub whole : plan_size (plan_of bytes).counts ≤ length bytes
  pub counts : (c : Count) → CountFits (plan_of bytes) c
  pub slots : (k : ℕ) → k < (plan_of bytes).counts.slots → SlotFits (plan_of bytes) k
  pub channels : (k : ℕ) → k < (plan_of bytes).counts.channels → ChannelFits (plan_of bytes) k
  pub starts : (k : ℕ) → k < (plan_of bytes).counts.partitions → StartFits (plan_of bytes) k
  pub budget : BudgetFits (plan_of bytes)
  pub no_surplus : length bytes ≤ plan_size (plan_of bytes).counts
