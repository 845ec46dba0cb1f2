-- Page tables that a step leaves as they are.
use Rattle.std.proofs.Common.{◌≡◌, ℕ, ◌/◌, ltb, List, sym, ap, ◌∙◌}
use Rattle.words.specs.Frames.{lent}
use Rattle.paging.specs.declared.leaf.Leaf.{Leaf}
use Rattle.paging.specs.Mapping.{Maps}
use Rattle.paging.specs.Tables.{SameTables}
use Rattle.paging.proofs.Agree.{kernel_there, names_there, owns_there, tables_back, tables_decide}
use Rattle.paging.proofs.Found.{maps_walk, walk_maps}
use Rattle.tables.specs.Coherent.{Coherent}
use Rattle.hart.specs.declared.step.Core.{Core}
use Rattle.hart.specs.Core.{stepped}
use Rattle.hart.specs.Laws.{OwnAgain, SameOwn, StaysOwn, TablesApart}
use Rattle.hart.proofs.Own.{sees_own}
use Rattle.hart.proofs.Stepping.{steps}
use Rattle.hart.proofs.Writing.{writes_own}

-- what is lent is told by the number of words
pub lent_step : (core : Core) (ws : List ℕ) (frame : ℕ) → lent (stepped core ws).words frame ≡ lent ws frame
lent_step core ws frame = ap (λ n. ltb frame (n / 1024)) (steps core ws).as_many

module _ (core : Core) (ws : List ℕ) (apart : TablesApart ws core.root) (h : Coherent core.tables.tlb ws core.root) where
  abbrev after : List ℕ
  after = (stepped core ws).words

  pub same_tables : SameTables ws after core.root
  same_tables frame k kernel l = (writes_own core ws h).others frame k (λ references. apart frame references kernel) l

  back : SameTables after ws core.root
  back = tables_back ws after core.root same_tables

  -- what a page maps to after the step it mapped to before
  maps_back : (page : ℕ) (leaf : Leaf) → Maps after core.root page leaf → Maps ws core.root page leaf
  maps_back page leaf m =
      walk_maps ws core.root page leaf (sym ((tables_decide ws after core.root same_tables).walks (λ frame _. lent_step core ws frame) page) ∙ maps_walk after core.root page leaf m)

  own_again : (vs : List ℕ) → SameOwn ws vs core.root → SameOwn after (stepped core vs).words core.root
  own_again vs own =
      let step = sees_own core ws vs h own in
      record {
        tables = λ frame k kernel l. step.words frame k (own.tables frame k (kernel_there after ws core.root back frame kernel) l);
        lent = λ frame c. lent_step core vs frame ∙ own.lent frame (owns_there after ws core.root back frame c) ∙ sym (lent_step core ws frame);
        mapped = λ page k leaf m l. step.words leaf.frame k (own.mapped page k leaf (maps_back page leaf m) l);
      }

  stays : OwnAgain core ws
  stays = record {
    tables = same_tables;
    apart = λ frame references kernel. apart frame (names_there after ws core.root back frame references) (kernel_there after ws core.root back frame kernel);
    own = own_again;
  }

pub stays_own : StaysOwn
stays_own core ws apart h = stays core ws apart h
