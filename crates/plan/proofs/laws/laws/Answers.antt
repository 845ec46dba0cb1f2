-- What is left to show of `laws`.
use Rattle.plan.proofs.Copying.{copies_are_messages}
use Rattle.plan.proofs.Decides.{all_ranked, refusal_named, rank_tells}
use Rattle.plan.proofs.Front.{front_tells_all}
use Rattle.plan.proofs.ReadBack.{reads_back}
use Rattle.plan.proofs.Times.{bounded, rounds}
use Rattle.plan.proofs.Worked.{worked}
use Rattle.plan.proofs.laws.laws.Goals as goal

pub returns : goal.returns
returns c = record { named = refusal_named; ranked = all_ranked; rank_tells = rank_tells; rounds = rounds; bounded = bounded; front_tells_all = front_tells_all; reads_back = reads_back; copies = copies_are_messages; example = worked }
