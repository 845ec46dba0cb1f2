-- What is left to show of `Plan::channels_out`.
use Rattle.std.proofs.Common.{rules}
use borrow.Author.Tests.{tests}
use Rattle.ranges.proofs.Chains.{count_over_range}
use Rattle.plan.specs.Places.{leaves}
use Rattle.plan.proofs.model.Plan.channels_out.Goals as goal

pub returns : goal.returns
returns c = count_over_range (leaves c.args.self.now c.args.who) c.args.self.now.counts.channels c.filter.ensures.source c.filter.ensures.closure c.count.ensures.ran (λ k b q z. search (rules, tests))
