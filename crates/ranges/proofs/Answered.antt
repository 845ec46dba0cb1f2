-- The laws of the questions.
use Rattle.std.proofs.Common.{◌≡◌, ℕ, zero, suc, ◌<◌, false, ◌⊎◌, refl, ◌∙◌, inl, inr, arith}
use Rattle.std.proofs.lemmas.Bool.{cases_lt}
use Rattle.ranges.specs.Questions.{count, most}
use Rattle.ranges.specs.Laws.{Anys, Counts, Firsts, Mosts}
use Rattle.ranges.proofs.Questions.{any_here, any_where, below_none, count_change, count_same, first_is, most_bound, none_below}

pub firsts : Firsts
firsts f n = record { found = first_is f n; none = none_below f n; nowhere = below_none f n }

pub anys : Anys
anys f n = (any_where f n, λ h. any_here f n h.0 h.1 h.2)

none_counted : (n : ℕ) → count (λ (k : ℕ). false) n ≡ 0
unfolding count
none_counted zero = refl
none_counted (suc n) = rw (none_counted n) refl

pub counts : Counts
counts f g n = record {
  none = λ h. count_same f (λ (k : ℕ). false) n h ∙ none_counted n;
  one = λ at l same. count_change f g at n l (λ k ne. same k ne);
}

met : (f : ℕ → ℕ) (n : ℕ) → (most f n ≡ 0) ⊎ ((k : ℕ) × (k < n) × (f k ≡ most f n))
unfolding most
met f zero = inl refl
met f (suc n) = elim (cases_lt (most f n) (f n)) [
  | inl l ↦ inr (n, omega arith, omega (arith, l))
  | inr e ↦ elim (met f n) [
    | inl z ↦ inl (omega (arith, z, e))
    | inr h ↦ inr (h.0, omega (arith, h.1), omega (arith, h.2, e))
  ]
]

pub mosts : Mosts
mosts f n = record { above = most_bound f n; met = met f n }
