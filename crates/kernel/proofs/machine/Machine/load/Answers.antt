-- What is left to show of `load`.
use Rattle.std.proofs.Common.{◌≡◌, ℕ, ◌<◌, get_or, cond, ltb, sym, ◌∙◌, rules}
use Rattle.std.proofs.lemmas.Bool.{cond-true, lt-ltb}
use Rattle.std.proofs.lemmas.List.FromFn.{fill_by_all}
use Rattle.plan.specs.Format.{no_partition, rows}
use Rattle.hart.specs.Execution.{fresh}
use Rattle.kernel.specs.Machine.{fresh_at}
use Rattle.kernel.proofs.machine.Machine.load.Goals as goal

pub returns : goal.returns
unfolding rows
returns c =
    let p = c.args.plan.now in
    let h = c.map.ensures.items in
    let each : (k : ℕ) → k < 8 → get_or c.map.result k (fresh 0) ≡ fresh_at p k = λ k l. (let w = h.at k no_partition (fresh 0) l in search rules) in
    let all : c.map.result ≡ rows (fresh_at p) (fresh 0) 8 8 =
    fill_by_all (λ k. cond (ltb k 8) (fresh_at p k) (fresh 0)) c.map.result 8 (fresh 0) h.long (λ k l. each k l ∙ sym (cond-true (ltb k 8) _ _ (lt-ltb k 8 l))) in
    rw all (search rules)
