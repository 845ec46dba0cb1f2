-- What is left to show of `laws`.
use Rattle.checker.proofs.Front.{tells_all}
use Rattle.checker.proofs.Alike.{one_first}
use Rattle.checker.proofs.Judged.{accepted_separate, accepted_unshared, judged}
use Rattle.checker.proofs.Leading.{leads_maps}
use Rattle.checker.proofs.laws.Goals as goal

pub returns : goal.returns
returns c = record { judges = judged; one_first = one_first; leads = leads_maps; separate = accepted_separate; unshared = accepted_unshared; tells_all = tells_all }
