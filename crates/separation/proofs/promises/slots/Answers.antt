-- What is left to show of `slots`.
use Rattle.separation.proofs.Slots.{keeps_promises}
use Rattle.separation.proofs.promises.slots.Goals as goal

pub returns : goal.returns
returns c = keeps_promises
