-- The store and the two loads, worked out.
use Rattle.std.proofs.Common.{refl}
use Rattle.paging.specs.Entries.{flag}
use Rattle.paging.specs.Walks.{walked}
use Rattle.tables.specs.Example.{Example}
use Rattle.tables.specs.Tlb.{filled, found}

pub worked : Example
unfolding filled flag found walked
worked = record { store = refl; load = refl; load_is = refl; again = refl; neighbour = refl; next_line = refl }
