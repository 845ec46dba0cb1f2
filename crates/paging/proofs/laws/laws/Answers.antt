-- What is left to show of `laws`.
use Rattle.paging.proofs.Agree.{leaves_named, local, one_leaf, pages_end, tables_decide, walks_find, writes_apart}
use Rattle.paging.proofs.Reached.{translations_reach}
use Rattle.paging.proofs.Sum.{entries_add_up}
use Rattle.paging.proofs.Worked.{worked}
use Rattle.paging.proofs.laws.laws.Goals as goal

pub returns : goal.returns
returns c = record {
  entries = entries_add_up;
  walks = walks_find;
  translations = translations_reach;
  unique = one_leaf;
  pages = pages_end;
  reads = local;
  tables = tables_decide;
  writes = writes_apart;
  referenced = leaves_named;
  example = worked;
}
