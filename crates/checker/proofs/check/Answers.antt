-- What is left to show of `check`.
use Rattle.checker.proofs.Judged.{judged}
use Rattle.checker.proofs.check.Goals as goal

pub returns : goal.returns
returns c = record { value = c.first_refusal.ensures; verdict = rw c.first_refusal.ensures (judged c.args.bytes.now c.args.words.now) }
