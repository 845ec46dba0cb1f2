-- The example memory, worked out.
use Rattle.std.proofs.Common.{refl}
use Rattle.paging.specs.Entries.{flag}
use Rattle.paging.specs.Walks.{translated, walked}
use Rattle.paging.specs.Example.{Example}

pub worked : Example
unfolding flag translated walked
worked = record { runs = refl; stores = refl; not_mapped = refl; not_lent = refl; fetched = refl; loaded = refl; not_stored = refl }
