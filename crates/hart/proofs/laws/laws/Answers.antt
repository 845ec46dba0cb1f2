-- What is left to show of `laws`.
use Rattle.hart.proofs.Agreeing.{agreement}
use Rattle.hart.proofs.Bytes.{loads_bytes, stores_bytes}
use Rattle.hart.proofs.Halves.{clock_halves}
use Rattle.hart.proofs.Coherence.{keeps_coherent, stays_coherent}
use Rattle.hart.proofs.Instance.{example}
use Rattle.hart.proofs.Meaning.{meant}
use Rattle.hart.proofs.Own.{sees_own}
use Rattle.hart.proofs.Staying.{stays_own}
use Rattle.hart.proofs.Stepping.{stay_whole, steps}
use Rattle.hart.proofs.Using.{uses_tables}
use Rattle.hart.proofs.Worked.{worked}
use Rattle.hart.proofs.Writing.{writes_own}
use Rattle.hart.proofs.laws.laws.Goals as goal

pub returns : goal.returns
returns c = record { agreement = agreement; clocked = worked; example = example; keeps = keeps_coherent; coherent = stays_coherent; own = sees_own; writes = writes_own; stays = stays_own; steps = steps; whole = stay_whole; uses = uses_tables; meant = meant; loads = loads_bytes; stores = stores_bytes; halves = clock_halves }
