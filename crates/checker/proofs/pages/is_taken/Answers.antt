-- What is left to show of `is_taken`.
use Rattle.std.proofs.Common.{refl, rules}
use Rattle.ranges.proofs.Chains.{any_over_range}
use Rattle.checker.specs.Pages.{meets}
use Rattle.checker.proofs.pages.is_taken.Goals as goal

pub returns : goal.returns
returns c = any_over_range (meets c.args.words.now c.args.plan.now c.args.ours) c.args.k refl c.any.ensures.ran (λ j b q z. search rules)
