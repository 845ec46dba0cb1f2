-- What is left to show of `registers`.
use Rattle.isa.proofs.Holding.{zero_holds, starts, writes}
use Rattle.isa.proofs.laws.registers.Goals as goal

pub returns : goal.returns
returns c = record { zero = zero_holds; starts = starts; writes = writes }
