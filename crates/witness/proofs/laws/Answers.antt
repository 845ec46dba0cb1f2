-- What is left to show of `laws`.
use Rattle.witness.proofs.Computed.{first_slots, other_program}
use Rattle.witness.proofs.Paired.{pairs}
use Rattle.witness.proofs.Printed.{lines}
use Rattle.witness.proofs.laws.Goals as goal

pub returns : goal.returns
returns c = record { pairs = pairs; slots = first_slots; other = other_program; lines = lines }
