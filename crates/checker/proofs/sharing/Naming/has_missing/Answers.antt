-- What is left to show of `has_missing`.
use Rattle.std.proofs.Common.{refl, rules}
use Rattle.ranges.proofs.Chains.{any_over_range}
use Rattle.checker.proofs.sharing.Naming.has_missing.Goals as goal
use Rattle.checker.specs.Scaffold.{missing_mark}

pub returns : goal.returns
returns c = any_over_range (missing_mark c.args.words.now c.args.self.now.referenced) 256 refl c.any.ensures.ran (λ f b q z. search rules)
