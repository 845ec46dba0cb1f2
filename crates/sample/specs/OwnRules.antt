-- What the checker says of plans that break a rule of their own, in a memory with which every rule on frames is kept.
use Rattle.std.specs.Prelude.{◌≡◌, ℕ, List, [], ◌∷◌, ◌++◌, replicate, Ok, Err, Result}
use Rattle.plan.specs.declared.model.Channel.{Channel}
use Rattle.plan.specs.declared.refusal.Count.TheVariants.{Partitions}
use Rattle.plan.specs.declared.refusal.Refusal.{Refusal}
use Rattle.plan.specs.declared.refusal.Refusal.TheVariants.{Truncated, CountRange, SlotRule, ChannelRule, StartMisaligned, BudgetRule, Surplus}
use Rattle.plan.specs.Format.{plan_of}
use Rattle.plan.specs.Written.{a_channel}
use Rattle.checker.specs.Checked.{accepted, checked}
use Rattle.sample.specs.Memory.{laid, memory, with_channels}
use Rattle.sample.specs.Verdicts.{here}

-- the sample's plan with a budget and channels
abbrev pub plan_with : ℕ → List Channel → List ℕ
plan_with budget channels = with_channels budget 3 channels

-- page 17 of the first to page 17 of the second, and page 16 of the second to page 16 of the first
abbrev pub each_way : List Channel
each_way = a_channel 0 17 1 17 ∷ a_channel 1 16 0 16 ∷ []

-- pages 17 and 16 of the first to pages 17 and 16 of the second
abbrev pub both_out : List Channel
both_out = a_channel 0 17 1 17 ∷ a_channel 0 16 1 16 ∷ []

-- accepted, and refused, with the memory of the sample, whatever its programs and their data are
abbrev pub Passes : List ℕ → Type 0
Passes bytes = (content : ℕ → ℕ → ℕ) → checked bytes (memory here content) ≡ Ok (accepted (memory here content) (plan_of bytes))

abbrev pub Fails : List ℕ → Refusal → Type 0
Fails bytes e = (content : ℕ → ℕ → ℕ) → checked bytes (memory here content) ≡ Err e

pub record OwnRules : Type 0 where
  -- without channels a budget of 730 is enough, and one of 729 is not; with one each way it is 1,754, and with two out of one partition 2,778
  pub enough : Passes (plan_with 730 [])
  pub not_enough : Fails (plan_with 729 []) BudgetRule
  pub enough_each_way : Passes (plan_with 1754 each_way)
  pub not_enough_each_way : Fails (plan_with 1753 each_way) BudgetRule
  pub enough_both_out : Passes (plan_with 2778 both_out)
  pub not_enough_both_out : Fails (plan_with 2777 both_out) BudgetRule
  -- no bytes, no partitions, a slot of 127 cycles, a channel from a partition to itself, a start address that is odd, and a byte after the end
  pub too_short : Fails [] (Truncated 0)
  pub no_partitions : Fails (replicate 7 0) (CountRange Partitions)
  pub short_slot : Fails (laid 800 3 0x10000 127 []) (SlotRule 0)
  pub own_channel : Fails (plan_with 800 (a_channel 0 0 0 0 ∷ [])) (ChannelRule 0)
  pub odd_start : Fails (laid 800 3 0x10001 200 []) (StartMisaligned 0)
  pub too_long : Fails (plan_with 800 [] ++ 0 ∷ []) (Surplus 29)
