-- The walk as the manual's steps, over the lent words.
use Rattle.std.specs.Prelude.{ℕ, ◌/◌, ◌%◌, Bool, cond, ◌&&◌, List, Some, None, Err, Option, Result, nat_lt}
use Rattle.words.specs.Frames.{lent, word}
use Rattle.paging.specs.declared.access.Access.{Access}
use Rattle.paging.specs.declared.leaf.Leaf.{Leaf}
use Rattle.paging.specs.declared.physical.PhysicalAddress.{PhysicalAddress}
use Rattle.paging.specs.Accesses.{PageFault, page_fault, physical_through}
use Rattle.paging.specs.Entries.{frame_of, is_pointer, leaf_of}

-- whether a walk may go to a frame: below 256, and lent
abbrev pub has_frame : List ℕ → ℕ → Bool
has_frame words frame = nat_lt frame 256 && lent words frame

-- the table that entry `high` of the root points to, if it points to one
abbrev pub table_at : List ℕ → ℕ → ℕ → Option ℕ
table_at words root high =
    let entry = word words root high in
    cond (nat_lt high 1024 && has_frame words root) (cond (is_pointer entry && has_frame words (frame_of entry)) (Some (frame_of entry)) None) None

-- a leaf counts where its frame is one that a walk may go to
abbrev pub if_there : List ℕ → Option Leaf → Option Leaf
if_there words None = None
if_there words (Some leaf) = cond (has_frame words leaf.frame) (Some leaf) None

-- the leaf that entry `low` of a table is, if it is one
abbrev pub leaf_at : List ℕ → ℕ → ℕ → Option Leaf
leaf_at words table low = if_there words (leaf_of (word words table low))

abbrev pub then_leaf : List ℕ → ℕ → Option ℕ → Option Leaf
then_leaf words low None = None
then_leaf words low (Some table) = leaf_at words table low

-- the high part of a page's number is its entry in the root, and the low ten bits are its entry in the table
unfoldable pub walked : List ℕ → ℕ → ℕ → Option Leaf
walked words root page = then_leaf words (page % 1024) (table_at words root (page / 1024))

abbrev pub then_physical : ℕ → Access → Option Leaf → Result PhysicalAddress PageFault
then_physical address access None = Err (page_fault access)
then_physical address access (Some leaf) = physical_through leaf address access

-- the place that an access to an address reaches, or its fault
unfoldable pub translated : List ℕ → ℕ → ℕ → Access → Result PhysicalAddress PageFault
translated words root address access = then_physical address access (walked words root (address / 4096))
