-- What a page maps to, as a relation between entries. No order of steps stands in it.
use Rattle.std.specs.Prelude.{◌≡◌, ℕ, ◌+◌, ◌*◌, ◌<◌, ◌≤◌, true, false, ◌⊎◌, List, length, Some, Ok, Err, Option, Result}
use Rattle.words.specs.Frames.{word}
use Rattle.paging.specs.declared.access.Access.{Access}
use Rattle.paging.specs.declared.access.Access.TheVariants.{Fetch, Load, Store}
use Rattle.paging.specs.declared.leaf.Leaf.{Leaf}
use Rattle.paging.specs.declared.physical.PhysicalAddress.{PhysicalAddress}
use Rattle.paging.specs.Accesses.{PageFault}
use Rattle.paging.specs.Entries.{frame_of, is_accessed, is_dirty, is_executable, is_readable, is_user, is_valid, is_writable}

-- one of the 256 frames, and all of its words are lent
pub record InMemory (words : List ℕ) (frame : ℕ) : Type 0 where
  pub below : frame < 256
  pub lent : frame * 1024 + 1024 ≤ length words

-- an entry that points to a table
pub record Pointer (entry table : ℕ) : Type 0 where
  pub valid : is_valid entry ≡ true
  pub not_readable : is_readable entry ≡ false
  pub not_writable : is_writable entry ≡ false
  pub not_executable : is_executable entry ≡ false
  pub frame : frame_of entry ≡ table

-- an entry that is a leaf
pub record LeafEntry (entry : ℕ) (leaf : Leaf) : Type 0 where
  pub valid : is_valid entry ≡ true
  pub user : is_user entry ≡ true
  pub accessed : is_accessed entry ≡ true
  pub dirty : is_dirty entry ≡ true
  pub readable : is_readable entry ≡ leaf.readable
  pub writable : is_writable entry ≡ leaf.writable
  pub executable : is_executable entry ≡ leaf.executable
  pub frame : frame_of entry ≡ leaf.frame
  pub not_nothing : (leaf.readable ≡ true) ⊎ ((leaf.writable ≡ true) ⊎ (leaf.executable ≡ true))
  pub not_write_only : leaf.writable ≡ true → leaf.readable ≡ true

-- under a root frame the page maps to the leaf: an entry of the root points to a table, an entry of the table is the leaf,
-- and the two places make up the page number
pub record Maps (words : List ℕ) (root page : ℕ) (leaf : Leaf) : Type 0 where
  pub high : ℕ
  pub low : ℕ
  pub table : ℕ
  pub high_below : high < 1024
  pub low_below : low < 1024
  pub number : page ≡ high * 1024 + low
  pub points : Pointer (word words root high) table
  pub leads : LeafEntry (word words table low) leaf
  pub root_there : InMemory words root
  pub table_there : InMemory words table
  pub frame_there : InMemory words leaf.frame

-- what the answer of a walk has to be
pub record Finds (words : List ℕ) (root page : ℕ) (answer : Option Leaf) : Type 0 where
  pub maps : (leaf : Leaf) → answer ≡ Some leaf → Maps words root page leaf
  pub found : (leaf : Leaf) → Maps words root page leaf → answer ≡ Some leaf

-- a fetch needs X, a load R, a store R and W
abbrev pub Allows : Leaf → Access → Type 0
Allows leaf Fetch = leaf.executable ≡ true
Allows leaf Load = leaf.readable ≡ true
Allows leaf Store = (leaf.readable ≡ true) × (leaf.writable ≡ true)

-- an access to an address reaches a place: the address lies in a page that maps to the place's frame and allows the access
pub record Reaches (words : List ℕ) (root address : ℕ) (access : Access) (physical : PhysicalAddress) : Type 0 where
  pub page : ℕ
  pub leaf : Leaf
  pub maps : Maps words root page leaf
  pub allows : Allows leaf access
  pub frame : physical.frame ≡ leaf.frame
  pub inside : physical.offset < 4096
  pub number : address ≡ page * 4096 + physical.offset

-- what the answer of a translation has to be
pub record Translates (words : List ℕ) (root address : ℕ) (access : Access) (answer : Result PhysicalAddress PageFault) : Type 0 where
  pub reaches : (physical : PhysicalAddress) → answer ≡ Ok physical → Reaches words root address access physical
  pub placed : (physical : PhysicalAddress) → Reaches words root address access physical → answer ≡ Ok physical
  pub faults : (fault : PageFault) → answer ≡ Err fault → fault.access ≡ access
