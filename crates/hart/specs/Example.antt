-- Memories to which the laws of a step apply, and what makes no difference in them.
use Rattle.std.specs.Prelude.{ℕ, List}
use Rattle.words.specs.Frames.{written}
use Rattle.paging.specs.Tables.{References}
use Rattle.hart.specs.Laws.{SameOwn, TablesApart}
use Rattle.paging.specs.Small.{mapped_in, with_page}

-- in five frames page 18 references frame 4 with W and without R, so that no access reaches it
abbrev pub five_frames : ℕ → List ℕ
five_frames content = written (with_page (mapped_in 5120) 18 0x10D5) 4 0 content

-- the tables reference none of themselves; and whatever a frame holds that they reference and no page maps to, the programs of the root see the same
pub record Example : Type 0 where
  pub apart : (content : ℕ) → TablesApart (five_frames content) 0
  pub referenced : (content : ℕ) → References (five_frames content) 0 4
  pub same : (here there : ℕ) → SameOwn (five_frames here) (five_frames there) 0
