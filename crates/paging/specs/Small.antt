-- The one small memory in which the examples run.
use Rattle.std.specs.Prelude.{ℕ, List, replicate}
use Rattle.words.specs.Frames.{written}

-- frame 1 is the table: the entry of one more page
abbrev pub with_page : List ℕ → ℕ → ℕ → List ℕ
with_page words page entry = written words 1 page entry

-- frame 0 is the root and points to frame 1; page 16 is frame 2 with R and X, page 17 is frame 3 with R and W
abbrev pub laid_out : List ℕ → List ℕ
laid_out words = with_page (with_page (written words 0 0 0x401) 16 0x8DB) 17 0xCD7

-- so many words, all others 0
abbrev pub mapped_in : ℕ → List ℕ
mapped_in count = laid_out (replicate count 0)

abbrev pub mapped : List ℕ
mapped = mapped_in 4096
