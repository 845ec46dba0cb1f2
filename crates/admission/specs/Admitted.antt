-- The verdict on a plan, the words lent to it, and the image that they were loaded from.
use Rattle.std.specs.Prelude.{◌≡◌, ℕ, ◌<◌, ◌≤◌, ◌⊎◌, List, take, Ok, Err, Option, Result, MatchResult}
use Rattle.words.specs.Bytes.{byte}
use Rattle.ranges.specs.Questions.{unless}
use Rattle.plan.specs.declared.refusal.Refusal.{Refusal}
use Rattle.plan.specs.Format.{longest, plan_of}
use Rattle.checker.specs.declared.Accepted.{Accepted}
use Rattle.checker.specs.Checked.{accepted, checked}
use Rattle.checker.specs.Found.{FirstFound, Lawful, Sound}
use Rattle.image.specs.Frames.{ImageBroken, Whole, front_size, image_fault, image_words}
use Rattle.admission.specs.declared.Opened.{Opened}

-- an answer, unless a later rule is broken
abbrev pub followed_by : {X E : Type 0} → Result X E → Option E → Result X E
followed_by (Ok x) o = unless o x
followed_by (Err e) o = Err e

-- a plan with the words lent to it and their image: the checker's verdict first
unfoldable pub admitted : List ℕ → List ℕ → List ℕ → Result Accepted Refusal
admitted bytes words image = followed_by (checked bytes words) (image_fault image)

-- what a verdict on them has to be
pub record Admits (bytes words image : List ℕ) (r : Result Accepted Refusal) : Type 0 where
  pub accepts : Lawful bytes words → Whole image → r ≡ Ok (accepted words (plan_of bytes))
  pub cases : MatchResult r
      (λ a. Sound bytes words a × Whole image)
      (λ e. FirstFound bytes words e ⊎ (Lawful bytes words × ImageBroken image e))

-- the verdict on two files is that on their front parts: of the plan as many bytes as the longest has and one more, and of the image those
-- that its count asks for and one more
abbrev pub TellsAll : Type 0
TellsAll =
    (bytes image : List ℕ) (n m : ℕ) → ((i : ℕ) → byte bytes i < 256) → longest ≤ n → front_size image ≤ m →
    admitted (take n bytes) (image_words (take m image)) (take m image) ≡ admitted bytes (image_words image) image

-- what an opened plan has: the words that are lent to it, with which the checker accepts the plan
pub record OpenedSo (bytes lent image : List ℕ) (opened : Opened) : Type 0 where
  pub admits : Admits bytes lent image (Ok opened.accepted)
  pub words : opened.words.items ≡ lent
  pub judged : checked bytes opened.words.items ≡ Ok opened.accepted

-- what opening a plan with words and their image gives: the verdict on the plan with these words
abbrev pub OpensWith : List ℕ → List ℕ → List ℕ → Result Opened Refusal → Type 0
OpensWith bytes words image (Ok opened) = OpenedSo bytes words image opened
OpensWith bytes words image (Err e) = Admits bytes words image (Err e)

-- what opening a plan with its image gives: the same with the words that the image lends
abbrev pub Opens : List ℕ → List ℕ → Result Opened Refusal → Type 0
Opens bytes image r = OpensWith bytes (image_words image) image r
