-- What is left to show of the closure of `rows_in`.
use Rattle.std.proofs.Common.{ℕ, ◌+◌, ◌*◌, ◌≤◌, ◌<◌, arith}
use Rattle.std.proofs.Math.Nat.{mul-le-mul}
use Rattle.plan.proofs.format.fn.rows_in.from_fn.Goals as goal

place : (start size k : ℕ) → start < 65536 → size < 256 → k < 256 → start + size * k < 4294967296
place start size k a b c = let p : size * k ≤ 255 * 255 = mul-le-mul {n₂ = 255} {m₂ = 255} (omega arith) (omega arith) in omega arith

pub overflow_add-start : goal.overflow_add-start
overflow_add-start g c = let p = place c.captures.start c.SIZE.result c.args.k (omega arith) (omega (arith, g.met.T.Row.short)) (omega arith) in omega arith

pub read-requires : goal.read-requires
read-requires g c = place c.captures.start c.SIZE.result c.args.k (omega arith) (omega (arith, g.met.T.Row.short)) (omega arith)
