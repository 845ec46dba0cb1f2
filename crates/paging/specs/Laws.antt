-- What the definitions of this crate come to.
use Rattle.std.specs.Prelude.{◌≡◌, ℕ, ◌+◌, ◌*◌, ◌^◌, ◌<◌, ◌≤◌, List, None}
use Rattle.words.specs.Bits.{field}
use Rattle.ranges.specs.Questions.{weight}
use Rattle.words.specs.Frames.{lent, word, written}
use Rattle.paging.specs.declared.access.Access.{Access}
use Rattle.paging.specs.declared.leaf.Leaf.{Leaf}
use Rattle.paging.specs.Entries.{flag, frame_of, is_accessed, is_dirty, is_executable, is_readable, is_user, is_valid, is_writable}
use Rattle.paging.specs.Mapping.{Finds, LeafEntry, Maps, Pointer, Translates}
use Rattle.paging.specs.Tables.{Alike, PageTableFrame, References, SameTables}
use Rattle.paging.specs.Walks.{translated, walked}

-- an entry is the sum of its fields: V, R, W, X, U, G, A and D from bit 0 on, two bits for software, and the frame
abbrev pub EntriesAddUp : Type 0
EntriesAddUp =
    (entry : ℕ) → entry ≡
    weight (is_valid entry) 1 + weight (is_readable entry) 2 + weight (is_writable entry) 4 + weight (is_executable entry) 8
    + weight (is_user entry) 16 + weight (flag entry 5) 32 + weight (is_accessed entry) 64 + weight (is_dirty entry) 128
    + 256 * field entry 8 2 + 1024 * frame_of entry

-- a walk answers a leaf if and only if the page maps to it
abbrev pub WalksFind : Type 0
WalksFind = (words : List ℕ) (root page : ℕ) → Finds words root page (walked words root page)

-- an access to an address comes to a place if and only if it reaches it
abbrev pub TranslationsReach : Type 0
TranslationsReach = (words : List ℕ) (root address : ℕ) (access : Access) → Translates words root address access (translated words root address access)

-- a page maps to one leaf at most
abbrev pub OneLeaf : Type 0
OneLeaf = (words : List ℕ) (root page : ℕ) (a b : Leaf) → Maps words root page a → Maps words root page b → a ≡ b

-- there are 2 ^ 20 pages
abbrev pub PagesEnd : Type 0
PagesEnd = (words : List ℕ) (root page : ℕ) → 2 ^ 20 ≤ page → walked words root page ≡ None

-- two memories agree on what the walk of a page looks at: one entry of the root, one entry of the table that it points to,
-- and whether the frames on the way are lent
pub record SameWay (ws vs : List ℕ) (root high low : ℕ) : Type 0 where
  pub root_entry : word vs root high ≡ word ws root high
  pub table_entry : (table : ℕ) → Pointer (word ws root high) table → word vs table low ≡ word ws table low
  pub root_lent : lent vs root ≡ lent ws root
  pub table_lent : (table : ℕ) → Pointer (word ws root high) table → lent vs table ≡ lent ws table
  pub leaf_lent : (table : ℕ) (leaf : Leaf) → Pointer (word ws root high) table → LeafEntry (word ws table low) leaf → lent vs leaf.frame ≡ lent ws leaf.frame

-- a walk depends on nothing else; every page is high * 1024 + low with a low below 1,024
abbrev pub Local : Type 0
Local =
    (ws vs : List ℕ) (root high low : ℕ) → low < 1024 → SameWay ws vs root high low →
    walked vs root (high * 1024 + low) ≡ walked ws root (high * 1024 + low)

-- the tables of a root decide all of its walks
abbrev pub TablesDecide : Type 0
TablesDecide = (ws vs : List ℕ) (root : ℕ) → SameTables ws vs root → Alike ws vs root

-- a write to any other frame changes no walk
abbrev pub WritesApart : Type 0
WritesApart =
    (words : List ℕ) (root frame offset value : ℕ) → offset < 1024 → (PageTableFrame words root frame → ⊥) →
    (page : ℕ) → walked (written words frame offset value) root page ≡ walked words root page

-- the frame that a page maps to is one that the root references
abbrev pub LeavesReferenced : Type 0
LeavesReferenced = (words : List ℕ) (root page : ℕ) (leaf : Leaf) → Maps words root page leaf → References words root leaf.frame
