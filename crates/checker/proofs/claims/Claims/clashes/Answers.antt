-- What is left to show of `clashes`.
use Rattle.std.proofs.Common.{refl, rules}
use Rattle.ranges.proofs.Chains.{any_over_range}
use Rattle.checker.proofs.claims.Claims.clashes.Goals as goal
use Rattle.checker.specs.Scaffold.{clash_claims}

pub returns : goal.returns
returns c = any_over_range (clash_claims c.args.self.now c.args.earlier.now) 256 refl c.any.ensures.ran (λ f b q z. search rules)
