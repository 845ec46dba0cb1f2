-- What is left to show of `check_pages`.
use Rattle.std.proofs.Common.{refl, rules}
use Rattle.ranges.proofs.Chains.{first_over_range}
use Rattle.checker.specs.Pages.{pages_refusal}
use Rattle.checker.proofs.pages.check_pages.Goals as goal

pub returns : goal.returns
returns c = first_over_range (pages_refusal c.args.words.now c.args.plan.now) c.args.plan.now.counts.channels refl c.try_for_each.ensures.ran (λ k v q z. search rules)
