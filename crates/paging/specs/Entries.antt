-- A page-table entry: from bit 0 on the flags V, R, W, X, U, G, A and D, two bits for software, and from bit 10 on the number of a frame.
use Rattle.std.specs.Prelude.{ℕ, ◌/◌, ◌^◌, Bool, cond, not, ◌&&◌, ◌||◌, Some, None, Option, ◌==◌}
use Rattle.words.specs.Bits.{field}
use Rattle.paging.specs.declared.leaf.Leaf.{Leaf}

unfoldable pub flag : ℕ → ℕ → Bool
flag entry at = field entry at 1 == 1

abbrev pub is_valid : ℕ → Bool
is_valid entry = flag entry 0

abbrev pub is_readable : ℕ → Bool
is_readable entry = flag entry 1

abbrev pub is_writable : ℕ → Bool
is_writable entry = flag entry 2

abbrev pub is_executable : ℕ → Bool
is_executable entry = flag entry 3

-- programs may use the page
abbrev pub is_user : ℕ → Bool
is_user entry = flag entry 4

-- the page was read or run, and written: the walk never sets these
abbrev pub is_accessed : ℕ → Bool
is_accessed entry = flag entry 6

abbrev pub is_dirty : ℕ → Bool
is_dirty entry = flag entry 7

-- the frame that an entry references
abbrev pub frame_of : ℕ → ℕ
frame_of entry = entry / 2 ^ 10

-- one of R, W, X is set
abbrev pub grants : ℕ → Bool
grants entry = is_readable entry || (is_writable entry || is_executable entry)

-- an entry that points to a table of the next level: V, and none of R, W, X
abbrev pub is_pointer : ℕ → Bool
is_pointer entry = is_valid entry && not (grants entry)

-- an entry in the form of a leaf: V, one of R, W, X, and U, A, D
abbrev pub is_leaf : ℕ → Bool
is_leaf entry = is_valid entry && (grants entry && (is_user entry && (is_accessed entry && is_dirty entry)))

-- the frame that an entry references, with its R, W and X
abbrev pub fields : ℕ → Leaf
fields entry = record { frame = frame_of entry; readable = is_readable entry; writable = is_writable entry; executable = is_executable entry }

-- the leaf that an entry is; W without R is reserved
abbrev pub leaf_of : ℕ → Option Leaf
leaf_of entry = cond (is_leaf entry && (is_readable entry || not (is_writable entry))) (Some (fields entry)) None
