-- What is left to show of `remember`.
use Rattle.std.proofs.Common.{arith}
use Rattle.isa.proofs.Recalling.{takes}
use Rattle.isa.proofs.decoder.Decoder.remember.Goals as goal

pub returns-then-self-at-clause-after : goal.returns-then-self-at-clause-after
returns-then-self-at-clause-after c =
    takes c.args.self.now c.args.word c.args.at c.index-self-at.result c.new.result (omega arith) c.if-self-at.true c.new.ensures
