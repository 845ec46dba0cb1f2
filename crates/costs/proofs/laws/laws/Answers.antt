-- What is left to show of `laws`.
use Rattle.std.proofs.Common.{refl}
use Rattle.costs.proofs.Bounds.{bounds}
use Rattle.costs.proofs.laws.laws.Goals as goal

pub returns : goal.returns
returns c = record { bounds = bounds; numbers = record { is_91 = refl; is_34 = refl; is_730 = refl; a_word = refl; lines = refl } }
