-- A frame is a part of 1,024 of the lent words.
use Rattle.std.specs.Prelude.{ℕ, ◌+◌, ◌*◌, ◌/◌, Bool, cond, ◌&&◌, List, length, nat_lt, slice_index, slice_set}
use Rattle.std.specs.List.{between}
use Rattle.std.proofs.Math.Seq.{paste}

-- whether all words of a frame are lent
abbrev pub lent : List ℕ → ℕ → Bool
lent words frame = nat_lt frame (length words / 1024)

-- the word that stands `offset` words after the first of a frame, 0 where none is lent
abbrev pub word : List ℕ → ℕ → ℕ → ℕ
word words frame offset = slice_index words (frame * 1024 + offset)

-- the words after a write there; nothing is written where none is lent
abbrev pub written : List ℕ → ℕ → ℕ → ℕ → List ℕ
written words frame offset value = slice_set words (frame * 1024 + offset) value

-- the words of a frame
abbrev pub contents : List ℕ → ℕ → List ℕ
contents words frame = between (frame * 1024) (frame * 1024 + 1024) words

-- the words after so many of one frame are copied over those of another; nothing is copied where one of the frames is not lent
abbrev pub copied_words : List ℕ → ℕ → ℕ → ℕ → List ℕ
copied_words words from to count = cond (lent words from && lent words to) (paste words (to * 1024) (contents words from) count) words

-- and after all of them are
abbrev pub copied : List ℕ → ℕ → ℕ → List ℕ
copied words from to = copied_words words from to 1024
