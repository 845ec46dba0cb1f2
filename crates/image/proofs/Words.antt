-- The words that an image lends, frame by frame, and those of the example.
use Rattle.std.proofs.Common.{◌≡◌, ℕ, ◌+◌, ◌*◌, ◌<◌, List, length, refl, ap, ◌∙◌, arith}
use Rattle.std.proofs.lemmas.List.FromFn.{get_or-map-range_with_len, length-map-range_with_len}
use Rattle.words.specs.Bytes.{number}
use Rattle.words.specs.Frames.{word}
use Rattle.image.specs.Example.{Example, example}
use Rattle.image.specs.Frames.{Whole, WordsAreBytes, image_word, image_words, lent_frames}

module _ (image : List ℕ) where
  pub long : length (image_words image) ≡ 1024 * lent_frames image
  unfolding image_words
  long = length-map-range_with_len (image_word image) 0 (lent_frames image * 1024) ∙ omega arith

  word_is : (f k : ℕ) → f < lent_frames image → k < 1024 → word (image_words image) f k ≡ number image (2 + 4096 * f + 4 * k) 4
  unfolding image_words
  word_is f k lf lk =
      let i = f * 1024 + k in
      let at : 2 + 4 * i ≡ 2 + 4096 * f + 4 * k = omega arith in
      get_or-map-range_with_len (image_word image) 0 (lent_frames image * 1024) i i 0 (omega arith) (omega arith) ∙ ap (λ at. number image at 4) at

pub words_are_bytes : WordsAreBytes
words_are_bytes image = record { long = long image; words = word_is image }

lends_one : lent_frames example ≡ 1
unfolding example
lends_one = refl

whole : Whole example
unfolding example
whole = refl

first_bytes : number example 2 4 ≡ 0x0401
unfolding example
first_bytes = refl

second_bytes : number example 6 4 ≡ 0
unfolding example
second_bytes = refl

last_bytes : number example 4094 4 ≡ 0x12345678
unfolding example
last_bytes = refl

pub worked : Example
worked = record {
  whole = whole;
  lent = lends_one;
  first = word_is example 0 0 (omega (arith, lends_one)) (omega arith) ∙ first_bytes;
  second = word_is example 0 1 (omega (arith, lends_one)) (omega arith) ∙ second_bytes;
  last = word_is example 0 1023 (omega (arith, lends_one)) (omega arith) ∙ last_bytes;
}
