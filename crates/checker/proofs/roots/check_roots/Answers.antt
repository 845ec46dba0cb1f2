-- What is left to show of `check_roots`.
use Rattle.std.proofs.Common.{refl, rules}
use Rattle.ranges.proofs.Chains.{first_over_range}
use Rattle.checker.specs.Roots.{root_refusal}
use Rattle.checker.proofs.roots.check_roots.Goals as goal

pub returns : goal.returns
returns c = first_over_range (root_refusal c.args.words.now c.args.plan.now) c.args.plan.now.counts.partitions refl c.try_for_each.ensures.ran (λ k v q z. search rules)
