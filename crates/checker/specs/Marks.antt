-- Which frames are page-table frames of a root, and which its tables reference, as tests.
use Rattle.std.specs.Prelude.{ℕ, Bool, ◌&&◌, ◌||◌, List, ◌==◌}
use Rattle.ranges.specs.Questions.{any}
use Rattle.words.specs.Frames.{word}
use Rattle.paging.specs.Entries.{frame_of, is_pointer, is_valid}

-- entry k of a table passes a test and has the frame
abbrev pub passes : (ℕ → Bool) → List ℕ → ℕ → ℕ → ℕ → Bool
passes test words table frame k = test (word words table k) && frame_of (word words table k) == frame

-- entry k of a root points to the frame
abbrev pub points : List ℕ → ℕ → ℕ → ℕ → Bool
points words root = passes is_pointer words root

-- the frame is a table of the root
unfoldable pub pointed : List ℕ → ℕ → ℕ → Bool
pointed words root frame = any (points words root frame) 1024

-- entry k of a table references the frame
abbrev pub referencing_entry : List ℕ → ℕ → ℕ → ℕ → Bool
referencing_entry words table = passes is_valid words table

unfoldable pub references_in : List ℕ → ℕ → ℕ → Bool
references_in words table frame = any (referencing_entry words table frame) 1024

abbrev pub referenced_by : List ℕ → ℕ → ℕ → ℕ → Bool
referenced_by words root frame table = pointed words root table && references_in words table frame

-- a table of the root, among the 256 frames, references the frame
unfoldable pub references : List ℕ → ℕ → ℕ → Bool
references words root frame = any (referenced_by words root frame) 256

-- the root itself, or a table that it points to
unfoldable pub is_page_table_frame : List ℕ → ℕ → ℕ → Bool
is_page_table_frame words root frame = pointed words root frame || root == frame
