-- A TLB that answers as a walk would keeps doing so.
use Rattle.paging.proofs.Agree.{tables_decide}
use Rattle.tables.proofs.Truth.{coherence}
use Rattle.hart.specs.Core.{stepped}
use Rattle.hart.specs.Laws.{KeepsCoherent, StaysCoherent}
use Rattle.hart.proofs.Staying.{lent_step, same_tables}
use Rattle.hart.proofs.Stepping.{step_coherent}

-- after a step every entry is what a walk was before it, and so what one is then
pub keeps_coherent : KeepsCoherent
keeps_coherent core ws same h =
    let after = (stepped core ws).words in
    coherence.moves (stepped core ws).core.tables.tlb ws after core.root
    ((tables_decide ws after core.root same).walks (λ frame _. lent_step core ws frame)) (step_coherent core ws h)

pub stays_coherent : StaysCoherent
stays_coherent core ws apart h = keeps_coherent core ws (same_tables core ws apart h) h
