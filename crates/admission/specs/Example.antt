-- A plan that is admitted with an image of two frames of zeros, in which the page tables of both partitions are empty.
use Rattle.std.specs.Prelude.{◌≡◌, ℕ, List, [], ◌∷◌, ◌++◌, replicate, Ok, Err}
use Rattle.plan.specs.declared.refusal.Refusal.TheVariants.{FramesMissing, Surplus}
use Rattle.plan.specs.Example.{example}
use Rattle.plan.specs.Format.{plan_of}
use Rattle.checker.specs.Checked.{accepted}
use Rattle.checker.specs.Found.{Lawful}
use Rattle.image.specs.Frames.{Whole, image_words}
use Rattle.admission.specs.Admitted.{admitted}

-- a count of frames, and so many zeros
abbrev pub zeros : ℕ → ℕ → List ℕ
zeros count n = (count ∷ 0 ∷ []) ++ replicate n 0

unfoldable pub blank : List ℕ
blank = zeros 2 8192

-- two frames where three are counted, and a byte more than two frames
unfoldable pub short : List ℕ
short = zeros 3 8192

unfoldable pub longer : List ℕ
longer = zeros 2 8193

pub record Example : Type 0 where
  pub lawful : Lawful example (image_words blank)
  pub whole : Whole blank
  pub admits : admitted example (image_words blank) blank ≡ Ok (accepted (image_words blank) (plan_of example))
  -- the plan may have the frames of these too, and only the image's own rules are broken
  pub lawful_short : Lawful example (image_words short)
  pub lawful_longer : Lawful example (image_words longer)
  pub frame_less : admitted example (image_words short) short ≡ Err FramesMissing
  pub byte_more : admitted example (image_words longer) longer ≡ Err (Surplus 8194)
