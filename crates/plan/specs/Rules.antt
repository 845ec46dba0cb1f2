-- The rules of a plan that need no memory as tests, each with its refusal.
use Rattle.std.specs.Prelude.{◌≡◌, ℕ, ◌%◌, ◌<◌, ◌≤◌, Bool, cond, not, ◌&&◌, List, length, take, Some, None, Option, ◌==◌, nat_le, nat_lt}
use Rattle.words.specs.Bytes.{byte}
use Rattle.plan.specs.declared.model.Counts.{Counts}
use Rattle.plan.specs.declared.model.Plan.{Plan}
use Rattle.plan.specs.declared.refusal.Count.{Count}
use Rattle.plan.specs.declared.refusal.Count.TheVariants.{Partitions, Slots, Channels}
use Rattle.plan.specs.declared.refusal.Refusal.{Refusal}
use Rattle.plan.specs.declared.refusal.Refusal.TheVariants.{Truncated, CountRange, SlotRule, ChannelRule, StartMisaligned, BudgetRule, Surplus}
use Rattle.plan.specs.Refused.{count_at}
use Rattle.plan.specs.Format.{longest, plan_of, plan_size}
pub use Rattle.plan.specs.Places.{partition, slot, channel, leaves, channels_out}
use Rattle.plan.specs.Switch.{required_budget}

abbrev pub broken_unless : Bool → Refusal → Option Refusal
broken_unless kept e = cond kept None (Some e)

abbrev pub count_kept : Counts → Count → Bool
count_kept c Partitions = nat_le 1 c.partitions && nat_le c.partitions 8
count_kept c Slots = nat_le 1 c.slots && nat_le c.slots 64
count_kept c Channels = nat_le c.channels 16

abbrev pub count_fault : Counts → ℕ → Option Refusal
count_fault c k = broken_unless (count_kept c (count_at k)) (CountRange (count_at k))

abbrev pub slot_kept : Plan → ℕ → Bool
slot_kept p k = nat_lt (slot p k).partition p.counts.partitions && (nat_le 128 (slot p k).length && nat_le (slot p k).length 1000000)

abbrev pub slot_fault : Plan → ℕ → Option Refusal
slot_fault p k = broken_unless (slot_kept p k) (SlotRule k)

abbrev pub channel_kept : Plan → ℕ → Bool
channel_kept p k =
    nat_lt (channel p k).sender.partition p.counts.partitions
    && (nat_lt (channel p k).receiver.partition p.counts.partitions && not ((channel p k).sender.partition == (channel p k).receiver.partition))

abbrev pub channel_fault : Plan → ℕ → Option Refusal
channel_fault p k = broken_unless (channel_kept p k) (ChannelRule k)

abbrev pub start_kept : Plan → ℕ → Bool
start_kept p k = (partition p k).start % 4 == 0

abbrev pub start_fault : Plan → ℕ → Option Refusal
start_fault p k = broken_unless (start_kept p k) (StartMisaligned k)

abbrev pub budget_kept : Plan → Bool
budget_kept p = nat_le 64 p.budget && (nat_le p.budget 100000 && nat_le (required_budget p) p.budget)

abbrev pub budget_fault : Plan → Option Refusal
budget_fault p = broken_unless (budget_kept p) BudgetRule

abbrev pub truncated : List ℕ → Plan → Option Refusal
truncated bytes p = broken_unless (nat_le (plan_size p.counts) (length bytes)) (Truncated (length bytes))

abbrev pub surplus : List ℕ → Plan → Option Refusal
surplus bytes p = broken_unless (nat_le (length bytes) (plan_size p.counts)) (Surplus (plan_size p.counts))

-- the plan that a file says, and whether its bytes end too early or too late, is told by so many of its bytes
pub record FrontTells (bytes : List ℕ) (n : ℕ) : Type 0 where
  pub plan : plan_of (take n bytes) ≡ plan_of bytes
  pub early : truncated (take n bytes) (plan_of bytes) ≡ truncated bytes (plan_of bytes)
  pub late : surplus (take n bytes) (plan_of bytes) ≡ surplus bytes (plan_of bytes)

abbrev pub FrontTellsAll : Type 0
FrontTellsAll = (bytes : List ℕ) (n : ℕ) → ((i : ℕ) → byte bytes i < 256) → longest ≤ n → FrontTells bytes n
