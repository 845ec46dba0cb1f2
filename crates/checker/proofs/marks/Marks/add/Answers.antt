-- What is left to show of `add`.
use Rattle.std.proofs.Common.{false, ◌||◌, arith, rules}
use Rattle.std.proofs.lemmas.List.FromFn.{get_or-map-range_with_len}
use Rattle.ranges.proofs.Chains.{array_from_calls}
use Rattle.checker.proofs.marks.Marks.add.Goals as goal
use Rattle.checker.specs.Scaffold.{marked}

pub returns : goal.returns
returns c = λ f l.
    let each = λ (k : _). marked c.args.self.now k || marked c.args.more.now k in
    rw (array_from_calls each c.from_fn-self.ensures.items (λ k b v q z. search rules)) (get_or-map-range_with_len each 0 256 f f false l (omega arith))
