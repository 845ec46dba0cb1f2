-- What a whole run from the bytes of two files, or from words that were loaded, promises, with no premise.
use Rattle.std.specs.Prelude.{◌≡◌, ℕ, List, Ok, Err, Result}
use Rattle.plan.specs.declared.refusal.Refusal.{Refusal}
use Rattle.checker.specs.Checked.{checked}
use Rattle.kernel.specs.Machine.{after_slots}
use Rattle.image.specs.Frames.{image_words}
use Rattle.admission.specs.Admitted.{Admits}
use Rattle.separation.specs.Calls.{RanWhole, finished, first}
use Rattle.whole_run.specs.declared.Whole.{Whole}

-- the plan is accepted with its image, the machine and the words are those of so many slots, and every promise of a whole run holds of them
pub record RanWith (bytes lent image : List ℕ) (n : ℕ) (w : Whole) : Type 0 where
  pub judged : checked bytes lent ≡ Ok w.finished.session.accepted
  pub admitted : Admits bytes lent image (Ok w.finished.session.accepted)
  pub machine : w.finished ≡ finished w.finished.session.accepted lent n
  pub words : w.words.items ≡ (after_slots w.finished.session.accepted n (first w.finished.session.accepted lent)).words
  pub promises : RanWhole bytes lent n w.finished.session.accepted w.words.items w.finished

-- or it is refused, as the rules say
abbrev pub RunsWith : List ℕ → List ℕ → List ℕ → ℕ → Result Whole Refusal → Type 0
RunsWith bytes words image n (Ok w) = RanWith bytes words image n w
RunsWith bytes words image n (Err e) = Admits bytes words image (Err e)

-- from two files: the words are those that the image lends
abbrev pub RunsFiles : List ℕ → List ℕ → ℕ → Result Whole Refusal → Type 0
RunsFiles bytes image n r = RunsWith bytes (image_words image) image n r
