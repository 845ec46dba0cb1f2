-- What a row leaves true: that something wanted came, and nothing since that ended it.
use Rattle.std.proofs.Common.{◌≡◌, ℕ, Bool, true, false, ◌⊎◌, List, [], ◌∷◌, ◌++◌, Decides, sym, refl, ap, ◌∙◌, subst, inl, inr, arith}
use Rattle.std.proofs.lemmas.Bool.{both_ways}
use Rattle.std.specs.List.{AllByRecursion as All}
use Rattle.tables.specs.History.{Since}

module _ {U : Type 0} (Wanted Leaves : U → Type 0) where
  -- the wanted is the first of the row, or among the others
  split : (u : U) (row before : List U) (this : U) (later : List U) → u ∷ row ≡ before ++ (this ∷ later) → Wanted this → All Leaves later →
      (Wanted u × All Leaves row) ⊎ Since Wanted Leaves row
  split u row [] this later e wanted quiet =
      let head : this ≡ u = cc in
      let tail : later ≡ row = cc in
      inl (subst Wanted head wanted, subst (All Leaves) tail quiet)
  split u row (b ∷ before) this later e wanted quiet = inr (record { before = before; this = this; later = later; parts = cc; is_wanted = wanted; undisturbed = quiet })

  nothing : (before : List U) (this : U) (later : List U) → [] ≡ before ++ (this ∷ later) → ⊥
  nothing [] this later e = let z : ◌≡◌ {A = ℕ} 0 1 = cc in omega arith
  nothing (b ∷ before) this later e = let z : ◌≡◌ {A = ℕ} 0 1 = cc in omega arith

  -- a state that a row changes step by step, and something that is so of it
  module _ (S : Type 0) (Whole : S → Type 0) (step : S → U → S) (run : S → List U → S) (so : S → Bool)
      (whole : (s : S) (u : U) → Whole s → Whole (step s u))
      (done : (s : S) → run s [] ≡ s) (more : (s : S) (u : U) (row : List U) → run s (u ∷ row) ≡ run (step s u) row)
      (each : (s : S) (u : U) → Whole s → Decides (so (step s u)) (Wanted u ⊎ ((so s ≡ true) × Leaves u))) where
    -- the row has it, or it was so before the row and all of the row left it
    abbrev Told : S → List U → Type 0
    Told s row = Since Wanted Leaves row ⊎ ((so s ≡ true) × All Leaves row)

    to : (row : List U) (s : S) → Whole s → so (run s row) ≡ true → Told s row
    to [] s w h = inr (ap so (sym (done s)) ∙ h, tt)
    to (u ∷ row) s w h = elim (to row (step s u) (whole s u w) (ap so (sym (more s u row)) ∙ h)) [
      | inl t ↦ inl (record { before = u ∷ t.before; this = t.this; later = t.later; parts = ap (λ us. u ∷ us) t.parts; is_wanted = t.is_wanted; undisturbed = t.undisturbed })
      | inr p ↦ elim ((each s u w).0 p.0) [
        | inl r ↦ inl (record { before = []; this = u; later = row; parts = refl; is_wanted = r; undisturbed = p.1 })
        | inr q ↦ inr (q.0, (q.1, p.1))
      ]
    ]

    from : (row : List U) (s : S) → Whole s → Told s row → so (run s row) ≡ true
    from [] s w (inl t) = absurd (nothing t.before t.this t.later t.parts)
    from [] s w (inr p) = ap so (done s) ∙ p.0
    from (u ∷ row) s w (inl t) =
        ap so (more s u row) ∙ elim (split u row t.before t.this t.later t.parts t.is_wanted t.undisturbed) [
          | inl p ↦ from row (step s u) (whole s u w) (inr ((each s u w).1 (inl p.0), p.1))
          | inr k ↦ from row (step s u) (whole s u w) (inl k)
        ]
    from (u ∷ row) s w (inr p) = ap so (more s u row) ∙ from row (step s u) (whole s u w) (inr ((each s u w).1 (inr (p.0, p.1.0)), p.1.1))

    pub told : (s : S) → Whole s → so s ≡ false → (row : List U) → Decides (so (run s row)) (Since Wanted Leaves row)
    told s w false_first row = (
      (λ h. elim (to row s w h) [ inl t ↦ t | inr p ↦ absurd (both_ways (so s) false_first p.0) ]),
      λ t. from row s w (inl t),
    )
