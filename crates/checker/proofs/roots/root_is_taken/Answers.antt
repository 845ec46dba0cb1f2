-- What is left to show of `root_is_taken`.
use Rattle.std.proofs.Common.{refl, rules}
use Rattle.ranges.proofs.Chains.{any_over_range}
use Rattle.checker.specs.Roots.{same_root}
use Rattle.checker.proofs.roots.root_is_taken.Goals as goal

pub returns : goal.returns
returns c = any_over_range (same_root c.args.plan.now c.args.k) c.args.k refl c.any.ensures.ran (λ j b q z. search rules)
