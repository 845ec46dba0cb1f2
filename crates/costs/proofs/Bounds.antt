-- The bounds of what an instruction takes.
use Rattle.std.proofs.Common.{◌≤◌, Bool, true, false, refl, arith}
use Rattle.costs.specs.declared.used.CacheUse.{CacheUse}
use Rattle.costs.specs.declared.used.CacheUse.TheVariants.{Unused, Hit, Miss, DirtyMiss}
use Rattle.costs.specs.Cycles.{branch_cycles, cache_cycles, walk_cycles}
use Rattle.costs.specs.Laws.{Bounds}

pub walk_most : (b : Bool) → walk_cycles b ≤ 30
walk_most true = omega arith
walk_most false = omega arith

pub branch_most : (b : Bool) → branch_cycles b ≤ 3
branch_most true = omega arith
branch_most false = omega arith

pub cache_most : (c : CacheUse) → cache_cycles c ≤ 30
cache_most Unused = omega arith
cache_most Hit = omega arith
cache_most Miss = omega arith
cache_most DirtyMiss = omega arith

pub bounds : Bounds
bounds = record {
  least = λ u. omega arith;
  most = λ u e. rw e (omega (arith, walk_most u.fetch_walked, walk_most u.data_walked, cache_most u.cache));
  branch = λ u e f. rw (e, f) (omega (arith, walk_most u.fetch_walked, branch_most u.mispredicted));
  met = refl;
  branch_met = refl;
  plain_is_one = refl;
}
