-- What is left to show of `decoding`.
use Rattle.std.proofs.Common.{refl}
use Rattle.isa.proofs.Exactly.{exact, encodes, injective, illegal}
use Rattle.isa.proofs.laws.decoding.Goals as goal

pub returns : goal.returns
returns c = record { exact = exact; encodes = encodes; injective = injective; illegal = illegal; worked = refl }
