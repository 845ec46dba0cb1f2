-- An image of memory: a count of frames in two bytes, low byte first, then the frames, each 1,024 words of four bytes.
use Rattle.std.specs.Prelude.{◌≡◌, ℕ, ◌+◌, ◌-◌, ◌*◌, ◌/◌, ◌<◌, ◌≤◌, min, cond, ◌⊎◌, List, map, length, take, Some, None, Option, nat_lt}
use Rattle.std.specs.List.{range_with_len}
use Rattle.words.specs.Bytes.{number}
use Rattle.words.specs.Frames.{word}
use Rattle.plan.specs.declared.refusal.Refusal.{Refusal}
use Rattle.plan.specs.declared.refusal.Refusal.TheVariants.{FramesMissing, Surplus}

-- the frames that it counts
abbrev pub counted : List ℕ → ℕ
counted image = number image 0 2

-- the bytes that an image of so many frames has
abbrev pub image_size : ℕ → ℕ
image_size frames = 2 + 4096 * frames

-- the frames that it lends: the whole ones that it has, at most as many as it counts
abbrev pub lent_frames : List ℕ → ℕ
lent_frames image = min ((length image - 2) / 4096) (counted image)

abbrev pub image_word : List ℕ → ℕ → ℕ
image_word image k = number image (2 + 4 * k) 4

unfoldable pub image_words : List ℕ → List ℕ
image_words image = map (image_word image) (range_with_len 0 (lent_frames image * 1024))

-- as many words are lent as the lent frames have, and word k of frame f is the number that the four bytes at its place write
pub record FrameWords (image : List ℕ) : Type 0 where
  pub long : length (image_words image) ≡ 1024 * lent_frames image
  pub words : (f k : ℕ) → f < lent_frames image → k < 1024 → word (image_words image) f k ≡ number image (2 + 4096 * f + 4 * k) 4

abbrev pub WordsAreBytes : Type 0
WordsAreBytes = (image : List ℕ) → FrameWords image

-- too short for its count, or bytes after its last frame
abbrev pub image_fault : List ℕ → Option Refusal
image_fault image =
    cond (nat_lt (length image) (image_size (counted image))) (Some FramesMissing)
    (cond (nat_lt (image_size (counted image)) (length image)) (Some (Surplus (image_size (counted image)))) None)

-- the bytes of an image are its count and that many frames, no fewer and no more
abbrev pub Whole : List ℕ → Type 0
Whole image = length image ≡ image_size (counted image)

-- what the image's own rules refuse: it is too short, or bytes follow its last frame
abbrev pub ImageBroken : List ℕ → Refusal → Type 0
ImageBroken image e =
    ((length image < image_size (counted image)) × (e ≡ FramesMissing))
    ⊎ ((image_size (counted image) < length image) × (e ≡ Surplus (image_size (counted image))))

-- the front part of a file that tells all: the bytes that its count asks for, and one more
abbrev pub front_size : List ℕ → ℕ
front_size image = image_size (counted image) + 1

-- no count asks for a longer one: the image of 65,535 frames, and a byte more
abbrev pub longest : ℕ
longest = image_size 65535 + 1

-- the verdict on a file, and the words that it lends, are those of so many of its bytes
pub record FrontTells (image : List ℕ) (n : ℕ) : Type 0 where
  pub fault : image_fault (take n image) ≡ image_fault image
  pub words : image_words (take n image) ≡ image_words image

abbrev pub TellsAll : Type 0
TellsAll = (image : List ℕ) (n : ℕ) → front_size image ≤ n → FrontTells image n

-- how long the front part is, is told by the count, with which it begins
abbrev pub CountTells : Type 0
CountTells = (image : List ℕ) (n : ℕ) → 2 ≤ n → front_size (take n image) ≡ front_size image
