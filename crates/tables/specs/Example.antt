-- A store and two loads, worked by the tables alone: what the look-up and the access of an instruction add up to. The whole step of a program is the core's.
use Rattle.std.specs.Prelude.{◌≡◌, ℕ, ◌+◌, ◌/◌, List, unwrap_or}
use Rattle.costs.specs.Costs.{instruction, miss, page_walk, write_back}
use Rattle.costs.specs.Cycles.{cycles, plain}
use Rattle.paging.specs.declared.access.Access.{Access}
use Rattle.paging.specs.declared.access.Access.TheVariants.{Load, Store}
use Rattle.paging.specs.Accesses.{physical_in}
use Rattle.paging.specs.Small.{mapped, with_page}
use Rattle.paging.specs.Walks.{walked}
use Rattle.tables.specs.declared.Tables.{Tables}
use Rattle.tables.specs.declared.tlb.Lookup.{Lookup}
use Rattle.tables.specs.Cache.{access_use, accessed, is_store, line_of}
use Rattle.tables.specs.First.{first_tables}
use Rattle.tables.specs.Tlb.{filled, found}

-- pages 17 and 18 are frames with R and W
abbrev pub small : List ℕ
small = with_page mapped 18 0x8D7

abbrev pub lookup : Tables → Access → ℕ → Lookup
lookup tables access address = found tables.tlb (address / 4096) access (walked small 0 (address / 4096))

abbrev pub line_at : Lookup → ℕ → ℕ
line_at answer address = line_of (physical_in (unwrap_or answer.frame 0) address)

-- the cycles of a load or store whose code page is known, and the tables after it
abbrev pub cost : Tables → Access → ℕ → ℕ
cost tables access address =
    let answer = lookup tables access address in
    cycles (record plain { data_walked = answer.walked; cache = access_use tables.cache (line_at answer address) })

abbrev pub after_use : Tables → Access → ℕ → Tables
after_use tables access address = record tables {
  cache = accessed tables.cache (line_at (lookup tables access address) address) (is_store access);
  tlb = filled tables.tlb (address / 4096) access (walked small 0 (address / 4096));
}

abbrev pub stored : Tables
stored = after_use first_tables Store 0x11A44

abbrev pub loaded : Tables
loaded = after_use stored Load 0x12A44

-- a store to page 17, and two loads from 4,096 bytes further on
pub record Example : Type 0 where
  pub store : cost first_tables Store 0x11A44 ≡ instruction + page_walk + miss
  pub load : cost stored Load 0x12A44 ≡ instruction + page_walk + miss + write_back
  pub load_is : cost stored Load 0x12A44 ≡ 61
  pub again : cost loaded Load 0x12A44 ≡ instruction
  pub neighbour : cost loaded Load 0x12A7C ≡ instruction
  pub next_line : cost loaded Load 0x12A80 ≡ instruction + miss
