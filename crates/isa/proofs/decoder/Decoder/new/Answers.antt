-- What is left to show of `new`.
use Rattle.isa.proofs.decoder.Decoder.new.Goals as goal

pub returns : goal.returns
returns c = rw c.new.ensures
