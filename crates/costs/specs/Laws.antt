-- What the definitions of this crate come to.
use Rattle.std.specs.Prelude.{◌≡◌, ◌≤◌, true, false}
use Rattle.costs.specs.declared.used.CacheUse.TheVariants.{Unused, DirtyMiss}
use Rattle.costs.specs.declared.used.Used.{Used}
use Rattle.costs.specs.Costs.{cache_lines, copied_word, instruction, worst_branch, worst_instruction, worst_switch}
use Rattle.costs.specs.Cycles.{cycles, plain}

-- an instruction takes at least its own cycle. One that the predictor did not get wrong takes no more than the worst case, and a branch,
-- which uses no data, no more than a branch's; and each of the two is met
pub record Bounds : Type 0 where
  pub least : (u : Used) → instruction ≤ cycles u
  pub most : (u : Used) → u.mispredicted ≡ false → cycles u ≤ worst_instruction
  pub branch : (u : Used) → u.data_walked ≡ false → u.cache ≡ Unused → cycles u ≤ worst_branch
  pub met : cycles (record { fetch_walked = true; data_walked = true; cache = DirtyMiss; mispredicted = false }) ≡ worst_instruction
  pub branch_met : cycles (record { fetch_walked = true; data_walked = false; cache = Unused; mispredicted = true }) ≡ worst_branch
  pub plain_is_one : cycles plain ≡ 1

-- and in numbers
pub record Numbers : Type 0 where
  pub is_91 : worst_instruction ≡ 91
  pub is_34 : worst_branch ≡ 34
  pub is_730 : worst_switch ≡ 730
  pub a_word : copied_word ≡ 1
  pub lines : cache_lines ≡ 64
