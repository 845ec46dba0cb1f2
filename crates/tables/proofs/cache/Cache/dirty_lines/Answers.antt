-- What is left to show of `dirty_lines`: the loop ends after the last line.
use Rattle.std.proofs.Common.{ap, ◌∙◌, arith}
use Rattle.ranges.specs.Questions.{count}
use Rattle.tables.specs.Cache.{dirty_at}
use Rattle.tables.proofs.cache.Cache.dirty_lines.Goals as goal

pub returns-clause-value : goal.returns-clause-value
returns-clause-value c = c.loop-line.invariant.so_far ∙ ap (λ n. count (dirty_at c.args.self.now) n) (omega (arith, c.loop-line-test.false, c.loop-line.auto.line-index-end))
