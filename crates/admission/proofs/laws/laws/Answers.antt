-- What is left to show of `laws`.
use Rattle.admission.proofs.Blank.{worked}
use Rattle.admission.proofs.Front.{tells_all}
use Rattle.admission.proofs.laws.laws.Goals as goal

pub returns : goal.returns
returns c = record { tells_all = tells_all; example = worked }
