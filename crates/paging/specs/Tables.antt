-- Which frames the page tables of a root are made of, which frames they reference, and when two memories hold the same tables.
use Rattle.std.specs.Prelude.{◌≡◌, ℕ, ◌<◌, true, ◌⊎◌, List}
use Rattle.words.specs.Frames.{lent, word}
use Rattle.paging.specs.Entries.{frame_of, is_valid}
use Rattle.paging.specs.Mapping.{Pointer}
use Rattle.paging.specs.Walks.{walked}

-- an entry of the root points to the table
pub record PointsTo (words : List ℕ) (root table : ℕ) : Type 0 where
  pub at : ℕ
  pub within : at < 1024
  pub points : Pointer (word words root at) table

-- a valid entry of a table of the root references the frame, be the entry a leaf or not
pub record References (words : List ℕ) (root frame : ℕ) : Type 0 where
  pub table : ℕ
  pub by : PointsTo words root table
  pub at : ℕ
  pub within : at < 1024
  pub valid : is_valid (word words table at) ≡ true
  pub references : frame_of (word words table at) ≡ frame

-- the root itself, or a table that it points to
abbrev pub PageTableFrame : List ℕ → ℕ → ℕ → Type 0
PageTableFrame words root frame = (frame ≡ root) ⊎ PointsTo words root frame

-- the frames of a root: itself, its tables, and the frames that they reference
abbrev pub Owns : List ℕ → ℕ → ℕ → Type 0
Owns words root frame = PageTableFrame words root frame ⊎ References words root frame

-- two memories hold the same words in the root and in every table that it points to
abbrev pub SameTables : List ℕ → List ℕ → ℕ → Type 0
SameTables ws vs root = (frame k : ℕ) → PageTableFrame ws root frame → k < 1024 → word vs frame k ≡ word ws frame k

-- of the root, its tables and the frames that they reference, two memories lend the same; they may lend different numbers of frames
abbrev pub SameLent : List ℕ → List ℕ → ℕ → Type 0
SameLent ws vs root = (frame : ℕ) → Owns ws root frame → lent vs frame ≡ lent ws frame

-- what two memories with the same tables have in common
pub record Alike (ws vs : List ℕ) (root : ℕ) : Type 0 where
  pub back : SameTables vs ws root
  pub points_to : (table : ℕ) → PointsTo ws root table → PointsTo vs root table
  pub references : (frame : ℕ) → References ws root frame → References vs root frame
  pub walks : SameLent ws vs root → (page : ℕ) → walked vs root page ≡ walked ws root page
