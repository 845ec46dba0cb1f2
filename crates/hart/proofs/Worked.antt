-- The programs of Clocked, worked out.
use Rattle.std.proofs.Common.{refl}
use Rattle.paging.specs.Entries.{flag}
use Rattle.paging.specs.Walks.{walked}
use Rattle.tables.specs.Tlb.{found, filled}
use Rattle.hart.specs.Core.{data_access, executed, fetch_step, stepped, word_step}
use Rattle.hart.specs.Clocked.{Clocked}
use Rattle.hart.specs.Moments.{after}

pub worked : Clocked
unfolding flag walked found filled data_access executed fetch_step word_step stepped after
worked = record {
  first_read = refl;
  load_ends = refl;
  same_line = refl;
  next_line = refl;
  taken = refl;
  goes_to = refl;
  not_taken = refl;
  falls_through = refl;
  rounds = refl;
  stores = refl;
  evicts = refl;
  again = refl;
  evicted_in_all = refl;
  most = refl;
  in_all = refl;
}
