-- The entries of the sample's tables, whatever frames they name.
use Rattle.std.proofs.Common.{◌≡◌, ℕ, true, false, arith}
use Rattle.std.proofs.lemmas.Bool.Decides.{nat_tests}
use Rattle.paging.specs.declared.leaf.Leaf.{Leaf}
use Rattle.paging.specs.Entries.{flag, is_leaf}
use Rattle.paging.specs.Mapping.{LeafEntry, Pointer}
use Rattle.sample.specs.Memory.{points_at, reads, runs, writes}

-- leaves of a frame: to run, to write, to read only
abbrev pub to_run : ℕ → Leaf
to_run f = record { frame = f; readable = true; writable = false; executable = true }

abbrev pub to_write : ℕ → Leaf
to_write f = record { frame = f; readable = true; writable = true; executable = false }

abbrev pub to_read : ℕ → Leaf
to_read f = record { frame = f; readable = true; writable = false; executable = false }

pub pointer : (t : ℕ) → Pointer (points_at t) t
unfolding flag
pointer t = grind arith

pub runs_leaf : (f : ℕ) → LeafEntry (runs f) (to_run f)
unfolding flag
runs_leaf f = grind (arith, nat_tests)

pub writes_leaf : (f : ℕ) → LeafEntry (writes f) (to_write f)
unfolding flag
writes_leaf f = grind (arith, nat_tests)

pub reads_leaf : (f : ℕ) → LeafEntry (reads f) (to_read f)
unfolding flag
reads_leaf f = grind (arith, nat_tests)

pub leaf_form : (e : ℕ) (leaf : Leaf) → LeafEntry e leaf → is_leaf e ≡ true
leaf_form e leaf is = grind arith
