-- What is left to show of `Plan::required_budget`.
use Rattle.std.proofs.Common.{ℕ, ◌+◌, ap, ◌∙◌, max, rules}
use Rattle.costs.specs.Costs.{worst_switch}
use Rattle.ranges.proofs.Chains.{most_over_range}
use Rattle.plan.specs.Switch.{copies, copy_cycles}
use Rattle.plan.proofs.Copying.{longest}
use Rattle.plan.proofs.model.Plan.required_budget.Goals as goal

pub returns : goal.returns
returns c =
    let p = c.args.self.now in
    let e = most_over_range (λ (who : ℕ). worst_switch + copy_cycles (copies p who)) p.counts.partitions _ c.map.ensures.source c.map.ensures.closure c.max.ensures.ran (λ k b q z. search rules) in
    rw (c.max-2.ensures, c.unwrap_or.ensures) (ap (λ n. max n worst_switch) e ∙ longest (λ (who : ℕ). copy_cycles (copies p who)) p.counts.partitions)
