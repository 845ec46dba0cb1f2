-- What is left to show of `noninterference`.
use Rattle.separation.proofs.Calling.{loads_alike}
use Rattle.separation.proofs.Unseen.{noninterference, not_reached}
use Rattle.separation.proofs.promises.noninterference.Goals as goal

pub returns : goal.returns
returns c = record { sets = noninterference; pairs = not_reached; loading = loads_alike }
