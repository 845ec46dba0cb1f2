-- The answer on a plan, its words and their image is the verdict that the rules ask for.
use Rattle.std.proofs.Common.{◌≡◌, ℕ, List, Some, None, Ok, Err, IfOk, Option, Result, refl, inl, inr, arith}
use Rattle.plan.specs.declared.refusal.Refusal.{Refusal}
use Rattle.checker.specs.declared.Accepted.{Accepted}
use Rattle.checker.specs.Checked.{checked}
use Rattle.checker.specs.Found.{Judges}
use Rattle.checker.proofs.Judged.{judged}
use Rattle.image.specs.Frames.{image_fault}
use Rattle.image.proofs.Verdict.{image_cases, not_whole}
use Rattle.admission.specs.Admitted.{Admits, admitted, followed_by}

module _ (bytes words image : List ℕ) where
  at_plan : (r : Result Accepted Refusal) → checked bytes words ≡ r → Judges bytes words r → Admits bytes words image (followed_by r (image_fault image))
  at_plan (Err e) h j = record {
    accepts = λ l w. absurd (let q = j.accepts l in cc);
    cases = inl j.cases;
  }
  at_plan (Ok p) h j = elim (image_cases image) [
    | inl k ↦ rw k.0 (record { accepts = λ l w. j.accepts l; cases = (j.cases, k.1) })
    | inr k ↦ rw k.1 (record { accepts = λ l w. absurd (not_whole image k.0 k.2 w); cases = inr (j.cases.lawful, k.2) })
  ]

  pub verdict : Admits bytes words image (admitted bytes words image)
  unfolding admitted
  verdict = at_plan (checked bytes words) refl (judged bytes words)

pub verdict_as : (bytes words image : List ℕ) (r : Result Accepted Refusal) → r ≡ admitted bytes words image → Admits bytes words image r
verdict_as bytes words image r e = rw e (verdict bytes words image)

judged_at : (r : Result Accepted Refusal) (o : Option Refusal) → IfOk (followed_by r o) (λ a. r ≡ Ok a)
judged_at r o = grind arith

-- what is admitted, the checker accepts
pub judged_as : (bytes words image : List ℕ) (r : Result Accepted Refusal) → r ≡ admitted bytes words image → IfOk r (λ a. checked bytes words ≡ Ok a)
unfolding admitted
judged_as bytes words image r e = rw e (judged_at (checked bytes words) (image_fault image))
