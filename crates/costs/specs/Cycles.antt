-- From what an instruction used to cycles, here and nowhere else.
use Rattle.std.specs.Prelude.{ℕ, ◌+◌, Bool, false, cond}
use Rattle.costs.specs.declared.used.CacheUse.{CacheUse}
use Rattle.costs.specs.declared.used.CacheUse.TheVariants.{Unused, Hit, Miss, DirtyMiss}
use Rattle.costs.specs.declared.used.Used.{Used}
use Rattle.costs.specs.Costs.{instruction, miss, misprediction, page_walk, write_back}

-- a look-up that walked the page table, or did not
abbrev pub walk_cycles : Bool → ℕ
walk_cycles walked = cond walked page_walk 0

-- what the cache did: a hit costs nothing, and a dirty line that goes is written back
abbrev pub cache_cycles : CacheUse → ℕ
cache_cycles Unused = 0
cache_cycles Hit = 0
cache_cycles Miss = miss
cache_cycles DirtyMiss = miss + write_back

-- a prediction that was wrong, or was not
abbrev pub branch_cycles : Bool → ℕ
branch_cycles mispredicted = cond mispredicted misprediction 0

-- one instruction
abbrev pub cycles : Used → ℕ
cycles used = instruction + walk_cycles used.fetch_walked + walk_cycles used.data_walked + cache_cycles used.cache + branch_cycles used.mispredicted

-- nothing but the instruction itself
abbrev pub plain : Used
plain = record { fetch_walked = false; data_walked = false; cache = Unused; mispredicted = false }
