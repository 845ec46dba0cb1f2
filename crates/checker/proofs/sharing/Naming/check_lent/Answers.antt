-- What is left to show of `check_lent`.
use Rattle.std.proofs.Common.{true, false, sym, ap, ◌∙◌}
use Rattle.ranges.specs.Questions.{unless}
use Rattle.checker.proofs.Shares.{missing_here}
use Rattle.checker.proofs.sharing.Naming.check_lent.Goals as goal

pub returns-then-has_missing : goal.returns-then-has_missing
returns-then-has_missing c = ap (λ o. unless o tt) (sym (missing_here c.args.words.now c.args.plan.now c.args.self.now.referenced true c.requires (sym c.if-has_missing.true ∙ c.has_missing.ensures)))

pub returns : goal.returns
returns c = ap (λ o. unless o tt) (sym (missing_here c.args.words.now c.args.plan.now c.args.self.now.referenced false c.requires (sym c.if-has_missing.false ∙ c.has_missing.ensures)))
