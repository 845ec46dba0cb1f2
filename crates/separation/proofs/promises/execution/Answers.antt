-- What is left to show of `execution`.
use Rattle.separation.proofs.Each.{execution}
use Rattle.separation.proofs.promises.execution.Goals as goal

pub returns : goal.returns
returns c = execution
