-- What is left to show of `Plan::check_starts`.
use Rattle.std.proofs.Common.{rules, refl}
use Rattle.ranges.proofs.Chains.{first_over_range}
use Rattle.plan.proofs.model.Plan.check_starts.Goals as goal

pub returns : goal.returns
returns c = first_over_range _ _ refl c.try_for_each.ensures.ran (λ k v q z. search rules)
