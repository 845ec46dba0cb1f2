-- One plan, byte by byte: it keeps its own rules, its slots begin when they should, and what budgets it and two like it require.
use Rattle.std.specs.Prelude.{◌≡◌, ℕ, List, [], ◌∷◌}
use Rattle.plan.specs.declared.model.Channel.{Channel}
use Rattle.plan.specs.Format.{plan_of}
use Rattle.plan.specs.Lawful.{PlanLawful}
use Rattle.plan.specs.Switch.{required_budget}
use Rattle.plan.specs.Timetable.{begins}
use Rattle.plan.specs.Written.{Writable, a_channel, a_partition, a_slot, written}

-- two partitions with roots 0 and 1 that start at 00010000, slots of 200 and 128 cycles; left open are the budget and the channels
abbrev pub like : ℕ → List Channel → List ℕ
like budget channels = written budget (a_partition 0 0x10000 ∷ a_partition 1 0x10000 ∷ []) (a_slot 0 200 ∷ a_slot 1 128 ∷ []) channels

-- the example has a budget of 800, and no channels
abbrev pub example : List ℕ
example = like 800 []

-- the same bytes
abbrev pub example_bytes : List ℕ
example_bytes =
    2 ∷ 2 ∷ 0 ∷ 0x20 ∷ 3 ∷ 0 ∷ 0
    ∷ 0 ∷ 0 ∷ 0 ∷ 0 ∷ 1 ∷ 0
    ∷ 1 ∷ 0 ∷ 0 ∷ 0 ∷ 1 ∷ 0
    ∷ 0 ∷ 200 ∷ 0 ∷ 0 ∷ 0
    ∷ 1 ∷ 128 ∷ 0 ∷ 0 ∷ 0
    ∷ []

-- channels between pages 0: one each way, or two out of one partition
abbrev pub each_way : List Channel
each_way = a_channel 0 0 1 0 ∷ a_channel 1 0 0 0 ∷ []

abbrev pub both_out : List Channel
both_out = a_channel 0 0 1 0 ∷ a_channel 0 0 1 0 ∷ []

-- that the checker accepts such plans with the budget that they require and refuses them with less, and each rule one like them, is said of
-- whole verdicts, by the crate `sample`
pub record Example : Type 0 where
  pub written_so : example ≡ example_bytes
  pub writable : Writable 800 (a_partition 0 0x10000 ∷ a_partition 1 0x10000 ∷ []) (a_slot 0 200 ∷ a_slot 1 128 ∷ []) []
  pub accepted : PlanLawful example
  -- 730 cycles are required, with a channel each way 1,754, and with two out of one partition 2,778
  pub needs : required_budget (plan_of example) ≡ 730
  pub needs_each_way : required_budget (plan_of (like 800 each_way)) ≡ 1754
  pub needs_both_out : required_budget (plan_of (like 800 both_out)) ≡ 2778
  -- when its slots begin
  pub first : begins (plan_of example) 0 ≡ 0
  pub second : begins (plan_of example) 1 ≡ 1000
  pub third : begins (plan_of example) 2 ≡ 1928
  pub fourth : begins (plan_of example) 3 ≡ 2928
