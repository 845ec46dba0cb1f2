-- Two memories of the sample agree on the first partition, and may differ in the second.
use Rattle.std.proofs.Common.{◌≡◌, ℕ, ◌<◌, ◌⊎◌, sym, refl, ◌∙◌, subst, inl, inr, arith}
use Rattle.std.proofs.lemmas.Bool.{ne_eqb}
use Rattle.words.specs.Frames.{word}
use Rattle.paging.specs.Tables.{PageTableFrame, References}
use Rattle.sample.specs.Memory.{Layout, memory, word_in}
use Rattle.sample.specs.Verdicts.{Agrees, Differs, Fits, here, there}
use Rattle.sample.proofs.Laid.{mapped_0, word_at}
use Rattle.sample.proofs.Tables.{its_frames, its_kernel}
use Rattle.sample.proofs.Verdicts.{here_fits, there_fits}

module _ (l m : Layout) (h : Fits l) (g : Fits m) (content other : ℕ → ℕ → ℕ) (code : (k : ℕ) → other 2 k ≡ content 2 k) («data» : (k : ℕ) → other 6 k ≡ content 6 k) where
  -- the words of a frame of the first partition
  Same : ℕ → Type 0
  Same f = (k : ℕ) → k < 1024 → word (memory m other) f k ≡ word (memory l content) f k

  both : (f : ℕ) → f < 7 → ((k : ℕ) → word_in m other f k ≡ word_in l content f k) → Same f
  unfolding Same
  both f small same k b = word_at m other f k (omega (arith, g.enough)) b ∙ same k ∙ sym (word_at l content f k (omega (arith, h.enough)) b)

  code_same : (k : ℕ) → word_in m other 2 k ≡ word_in l content 2 k
  code_same k = rw (ne_eqb 2 m.table (λ e. omega (arith, g.table.0)), ne_eqb 2 l.table (λ e. omega (arith, h.table.0))) (code k)

  data_same : (k : ℕ) → word_in m other 6 k ≡ word_in l content 6 k
  data_same k = rw (ne_eqb 6 m.table (λ e. g.table.1 (sym e)), ne_eqb 6 l.table (λ e. h.table.1 (sym e))) («data» k)

  agree : (f : ℕ) → PageTableFrame (memory l content) 0 f ⊎ References (memory l content) 0 f → Same f
  agree f (inl kernel) = elim (its_kernel (mapped_0 l content h.enough) f kernel) [
    | inl e ↦ subst Same (sym e) (both 0 (omega arith) (λ k. refl))
    | inr e ↦ subst Same (sym e) (both 1 (omega arith) (λ k. refl))
  ]
  agree f (inr referenced) = elim (its_frames (mapped_0 l content h.enough) f referenced) [
    | inl e ↦ subst Same (sym e) (both 2 (omega arith) code_same)
    | inr e ↦ subst Same (sym e) (both 6 (omega arith) data_same)
  ]

  same_word : (f k : ℕ) → PageTableFrame (memory l content) 0 f ⊎ References (memory l content) 0 f → k < 1024 → word (memory m other) f k ≡ word (memory l content) f k
  unfolding Same
  same_word f k own b = agree f own k b

pub agrees : Agrees
agrees l m h g content other code «data» f k own b = same_word l m h g content other code «data» f k own b

pub differs : Differs
differs content other e =
    let a = word_at here content 3 0 (omega (arith, here_fits.enough)) (omega arith) in
    let b = word_at there other 3 0 (omega (arith, there_fits.enough)) (omega arith) in
    let z : ◌≡◌ {A = ℕ} 4097 5121 = sym a ∙ e ∙ b in
    omega arith
