-- The verdict on an image, and its words, are those of its front part, whose length its count tells.
use Rattle.std.proofs.Common.{◌≡◌, ℕ, ◌+◌, ◌*◌, ◌<◌, ◌≤◌, List, map, length, take, refl, ap, ◌∙◌, inl, inr, arith}
use Rattle.std.specs.List.{range_with_len}
use Rattle.std.proofs.lemmas.List.FromFn.{fill_by_all, get_or-map-range_with_len, length-map-range_with_len}
use Rattle.std.proofs.lemmas.List.{length-take-le, take_all}
use Rattle.std.proofs.lemmas.Bool.{cases_lt, lt-ltb, le-ltb}
use Rattle.words.proofs.Numbers.{number_take}
use Rattle.image.specs.Frames.{CountTells, TellsAll, counted, front_size, image_fault, image_size, image_word, image_words, lent_frames}

counting_same : (f g : ℕ → ℕ) (m : ℕ) → ((k : ℕ) → k < m → f k ≡ g k) → map f (range_with_len 0 m) ≡ map g (range_with_len 0 m)
counting_same f g m h = fill_by_all g (map f (range_with_len 0 m)) m 0 (length-map-range_with_len f 0 m) (λ k l. get_or-map-range_with_len f 0 m k k 0 l (omega arith) ∙ h k l)

pub count_tells : CountTells
count_tells image n enough = ap (λ count. image_size count + 1) (number_take image n 0 2 (omega arith))

module _ (image : List ℕ) (n : ℕ) (enough : front_size image ≤ n) (more : n < length image) where
  long : length (take n image) ≡ n
  long = length-take-le n image (omega arith)

  same_count : counted (take n image) ≡ counted image
  same_count = number_take image n 0 2 (omega arith)

  fault : image_fault (take n image) ≡ image_fault image
  fault =
      let size = image_size (counted image) in
      rw (
        same_count,
        long,
        le-ltb n size (omega arith),
        le-ltb (length image) size (omega arith),
        lt-ltb size n (omega arith),
        lt-ltb size (length image) (omega arith),
      ) refl

  same_lent : lent_frames (take n image) ≡ lent_frames image
  same_lent = rw (same_count, long) (omega arith)

  words : image_words (take n image) ≡ image_words image
  unfolding image_words
  words =
      ap (λ m. map (image_word (take n image)) (range_with_len 0 (m * 1024))) same_lent
      ∙ counting_same (image_word (take n image)) (image_word image) (lent_frames image * 1024) (λ k l. number_take image n (2 + 4 * k) 4 (omega arith))

pub tells_all : TellsAll
tells_all image n enough = elim (cases_lt n (length image)) [
  | inl l ↦ record { fault = fault image n enough l; words = words image n enough l }
  | inr l ↦ record { fault = ap image_fault (take_all n image l); words = ap image_words (take_all n image l) }
]
