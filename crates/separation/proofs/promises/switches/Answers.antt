-- What is left to show of `switches`.
use Rattle.separation.proofs.Each.{switches_fit}
use Rattle.separation.proofs.promises.switches.Goals as goal

pub returns : goal.returns
returns c = switches_fit
