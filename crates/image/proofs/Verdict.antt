-- What an image's fault says of its length.
use Rattle.std.proofs.Common.{◌≡◌, ◌⊎◌, List, ℕ, length, Some, None, Result, MatchResult, refl, inl, inr, arith}
use Rattle.std.proofs.lemmas.Bool.{cases_lt, lt-ltb, le-ltb}
use Rattle.ranges.specs.Questions.{unless}
use Rattle.plan.specs.declared.refusal.Refusal.{Refusal}
use Rattle.plan.specs.declared.refusal.Refusal.TheVariants.{FramesMissing, Surplus}
use Rattle.image.specs.Frames.{ImageBroken, Whole, counted, image_fault, image_size}

-- what the image's fault says
pub image_cases : (image : List ℕ) →
    ((image_fault image ≡ None) × Whole image) ⊎ ((e : Refusal) × (image_fault image ≡ Some e) × ImageBroken image e)
image_cases image = elim (cases_lt (length image) (image_size (counted image))) [
  | inl l ↦ inr (FramesMissing, rw (lt-ltb _ _ l) refl, inl (l, refl))
  | inr l ↦ elim (cases_lt (image_size (counted image)) (length image)) [
    | inl h ↦ inr (Surplus (image_size (counted image)), rw (le-ltb _ _ l) (rw (lt-ltb _ _ h) refl), inr (h, refl))
    | inr h ↦ inl (rw (le-ltb _ _ l) (rw (le-ltb _ _ h) refl), omega arith)
  ]
]

-- a broken image is not whole
pub not_whole : (image : List ℕ) (e : Refusal) → ImageBroken image e → Whole image → ⊥
not_whole image e (inl b) w = omega (arith, b.0, w)
not_whole image e (inr b) w = omega (arith, b.0, w)

-- what answers as the fault asks tells of the length
pub told_as : (image : List ℕ) (r : Result Unit Refusal) → r ≡ unless (image_fault image) tt → MatchResult r (λ _. Whole image) (ImageBroken image)
told_as image r e = elim (image_cases image) [
  | inl k ↦ rw e (rw k.0 k.1)
  | inr k ↦ rw e (rw k.1 k.2)
]
