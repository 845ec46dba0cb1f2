-- The TLB: 16 entries, each with the number of a page and its leaf.
use Rattle.std.specs.Prelude.{ℕ, ◌%◌, Bool, true, false, cond, replicate, Some, None, Option, option_map, ◌==◌, slice_index_or, slice_set}
use Rattle.paging.specs.declared.access.Access.{Access}
use Rattle.paging.specs.declared.leaf.Leaf.{Leaf}
use Rattle.paging.specs.Accesses.{permitted}
use Rattle.tables.specs.declared.tlb.Lookup.{Lookup}
use Rattle.tables.specs.declared.tlb.Tlb.{Tlb}
use Rattle.tables.specs.declared.tlb.TlbEntry.{TlbEntry}

abbrev pub entry_of : ℕ → ℕ
entry_of page = page % 16

-- the leaf of a page, where an entry is for that page
abbrev pub leaf_for : ℕ → Option TlbEntry → Option Leaf
leaf_for page None = None
leaf_for page (Some entry) = cond (entry.page == page) (Some entry.leaf) None

-- what the TLB knows of a page
abbrev pub known : Tlb → ℕ → Option Leaf
known tlb page = leaf_for page (slice_index_or tlb.entries (entry_of page) None)

-- a leaf, if it permits the access
abbrev pub granted : Access → Option Leaf → Option Leaf
granted access None = None
granted access (Some leaf) = cond (permitted leaf access) (Some leaf) None

-- the answer to an access, with a walk or without one: a frame, or a fault
abbrev pub reply : Bool → Option Leaf → Lookup
reply walked leaf = record { frame = option_map (λ l. l.frame) leaf; walked = walked }

-- the answer where a page is known and permits the access
abbrev pub hit : ℕ → Lookup
hit frame = record { frame = Some frame; walked = false }

-- a page that is known needs no walk, and faults without one if it does not permit the access
abbrev pub found_by : Access → Option Leaf → Option Leaf → Lookup
found_by access (Some leaf) walk = reply false (granted access (Some leaf))
found_by access None walk = reply true (granted access walk)

-- the TLB with a page's leaf
abbrev pub put : Tlb → ℕ → Option Leaf → Tlb
put tlb page None = tlb
put tlb page (Some leaf) = record { entries = slice_set tlb.entries (entry_of page) (Some (record { page = page; leaf = leaf })) }

-- a walk that ends in a leaf with the permission fills the page's entry; one that ends in a fault fills none
abbrev pub filled_by : Tlb → ℕ → Access → Option Leaf → Option Leaf → Tlb
filled_by tlb page access (Some leaf) walk = tlb
filled_by tlb page access None walk = put tlb page (granted access walk)

-- the answer to an access to a page, and the TLB after it. Memory enters only by what the walk of the page answers
unfoldable pub found : Tlb → ℕ → Access → Option Leaf → Lookup
found tlb page access walk = found_by access (known tlb page) walk

unfoldable pub filled : Tlb → ℕ → Access → Option Leaf → Tlb
filled tlb page access walk = filled_by tlb page access (known tlb page) walk

abbrev pub empty_tlb : Tlb
empty_tlb = record { entries = replicate 16 None }
