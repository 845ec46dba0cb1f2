-- What is left to show of `rows_in`.
use Rattle.std.proofs.Common.{◌+◌, ◌*◌, cond, ltb, rules}
use Rattle.ranges.proofs.Chains.{array_from_calls}
use Rattle.plan.specs.Format.{rows}
use Rattle.plan.proofs.format.rows_in.Goals as goal

pub returns : goal.returns
unfolding rows
returns g c = let blank = g.met.T.Row.blank_is_default in array_from_calls (λ k. cond (ltb k c.args.many) (g.T.Row.row_at c.args.bytes.now (c.args.start + g.T.Row.SIZE * k)) g.T.Row.blank) c.from_fn.ensures.items (λ k l v q z. search rules)
