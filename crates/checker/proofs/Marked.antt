-- Marks that a loop adds to: what was marked, or is by one of the places so far.
use Rattle.std.proofs.Common.{◌≡◌, ℕ, ◌+◌, ◌<◌, Bool, true, false, ◌||◌, eqb, List, get_or, replicate, sym, refl, ◌∙◌, subst, inl, inr, arith}
use Rattle.std.proofs.lemmas.Bool.{and_from, and_parts, eq-eqb, eqb-true, or_cases, or_left, or_right, true≢false}
use Rattle.std.proofs.lemmas.List.{get_or-replicate}
use Rattle.ranges.specs.Questions.{any}
use Rattle.ranges.proofs.Questions.{all_not, any_here, any_none, any_step, any_where}
use Rattle.checker.specs.declared.marks.Marks.{Marks}
use Rattle.checker.specs.Marks.{references_in}
use Rattle.checker.specs.Scaffold.{Shows, marked, referenced_through}

pub marks_more : (was now gone : Bool) (f : ℕ → Bool) (n : ℕ) → now ≡ (was || any f n) → gone ≡ (now || f n) → gone ≡ (was || any f (n + 1))
marks_more was now gone f n a b = let z = any_step f n in grind arith

pub marks_none : (was : Bool) (f : ℕ → Bool) → was ≡ (was || any f 0)
marks_none was f = let z = any_none f in grind arith

same : (a b : Bool) → (a ≡ true → b ≡ true) → (b ≡ true → a ≡ true) → a ≡ b
same a b h k = grind arith

-- what marked tables name, none of them and one more
module _ (ws : List ℕ) (f : ℕ) where
  pub named_none : any (referenced_through ws (record { marks = replicate 256 false }) f) 256 ≡ false
  named_none = all_not (referenced_through ws (record { marks = replicate 256 false }) f) 256 (λ t l e.
      true≢false (sym (and_parts (get_or (replicate 256 false) t false) (references_in ws t f) e).0 ∙ get_or-replicate 256 t false false l))

  pub named_more : (was now : Marks) (t : ℕ) → t < 256 → Shows now (λ g. marked was g || eqb t g) → any (referenced_through ws now f) 256 ≡ (any (referenced_through ws was f) 256 || references_in ws t f)
  named_more was now t l h =
      let before = any (referenced_through ws was f) 256 in
      same _ _
      (λ e.
      let x = any_where (referenced_through ws now f) 256 e in
      let y = and_parts (marked now x.0) (references_in ws x.0 f) x.2 in
      elim (or_cases (marked was x.0) (eqb t x.0) (sym (h x.0 x.1) ∙ y.0)) [
        | inl m ↦ or_left before (references_in ws t f) (any_here (referenced_through ws was f) 256 x.0 x.1 (and_from (marked was x.0) (references_in ws x.0 f) m y.1))
        | inr s ↦ or_right before (references_in ws t f) (subst (λ q. references_in ws q f ≡ true) (sym (eqb-true t x.0 s)) y.1)
      ])
      (λ e. elim (or_cases before (references_in ws t f) e) [
        | inl x ↦ (let z = any_where (referenced_through ws was f) 256 x in
            let y = and_parts (marked was z.0) (references_in ws z.0 f) z.2 in
            any_here (referenced_through ws now f) 256 z.0 z.1 (and_from (marked now z.0) (references_in ws z.0 f) (h z.0 z.1 ∙ or_left (marked was z.0) (eqb t z.0) y.0) y.1))
        | inr x ↦ any_here (referenced_through ws now f) 256 t l (and_from (marked now t) (references_in ws t f) (h t l ∙ or_right (marked was t) (eqb t t) (eq-eqb t t refl)) x)
      ])
