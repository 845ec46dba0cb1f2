-- What is left to show of `confinement`.
use Rattle.separation.proofs.Each.{confinement, others_rest}
use Rattle.separation.proofs.promises.confinement.Goals as goal

pub returns : goal.returns
returns c = record { others = others_rest; rests = confinement }
