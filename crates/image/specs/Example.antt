-- An image of one frame that holds two words besides zeros.
use Rattle.std.specs.Prelude.{◌≡◌, ℕ, ◌+◌, ◌*◌, List, [], ◌∷◌, ◌++◌, replicate}
use Rattle.words.specs.Frames.{word}
use Rattle.image.specs.Frames.{Whole, image_words, lent_frames}

-- a count of one frame; its first word, an entry that points to frame 1; zeros; its last word
unfoldable pub example : List ℕ
example = (1 ∷ 0 ∷ 0x01 ∷ 0x04 ∷ 0 ∷ 0 ∷ []) ++ (replicate 4088 0 ++ (0x78 ∷ 0x56 ∷ 0x34 ∷ 0x12 ∷ []))

-- the frame is lent, and its words are the bytes, low byte first
pub record Example : Type 0 where
  pub whole : Whole example
  pub lent : lent_frames example ≡ 1
  pub first : word (image_words example) 0 0 ≡ 1 * 1024 + 0x01
  pub second : word (image_words example) 0 1 ≡ 0
  pub last : word (image_words example) 0 1023 ≡ 0x12345678
