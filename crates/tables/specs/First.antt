-- The first state of the three tables: empty, empty, and all counters 1; and what a switch makes of them.
use Rattle.std.specs.Prelude.{◌≡◌}
use Rattle.tables.specs.declared.Tables.{Tables}
use Rattle.tables.specs.Cache.{empty_cache}
use Rattle.tables.specs.Predictor.{first_predictor}
use Rattle.tables.specs.Tlb.{empty_tlb}

abbrev pub first_tables : Tables
first_tables = record { cache = empty_cache; tlb = empty_tlb; predictor = first_predictor }

-- the tables after a switch: nothing is kept of what a program left in them
abbrev pub flushed : Tables → Tables
flushed tables = first_tables

-- the traces of other programs are the same in two systems: all of the tables are
abbrev pub SameTraces : Tables → Tables → Type 0
SameTraces t u = t ≡ u
