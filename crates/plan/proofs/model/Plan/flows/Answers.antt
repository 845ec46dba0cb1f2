-- What is left to show of `Plan::flows`.
use Rattle.std.proofs.Common.{refl, rules}
use Rattle.ranges.proofs.Chains.{any_over_range}
use Rattle.plan.specs.Flows.{leads}
use Rattle.plan.proofs.Reaching.{flows_decided}
use Rattle.plan.proofs.model.Plan.flows.Goals as goal

pub returns : goal.returns
returns c =
    let p = c.args.self.now in
    let e = any_over_range (leads p c.args.from c.args.to) p.counts.channels refl c.any.ensures.ran (λ k b q z. search rules) in
    rw e (flows_decided p c.args.from c.args.to)
