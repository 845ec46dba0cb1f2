-- One partition of the sample: its root has one table, and its table has pages 16 and 17.
use Rattle.std.proofs.Common.{◌≡◌, ℕ, ◌<◌, true, ◌⊎◌, List, sym, refl, ◌∙◌, subst, inl, inr, arith}
use Rattle.std.proofs.lemmas.Bool.{cases_eq, ne_eqb, true≢false}
use Rattle.words.specs.Frames.{word}
use Rattle.paging.specs.declared.leaf.Leaf.{Leaf}
use Rattle.paging.specs.Entries.{flag, frame_of, is_valid}
use Rattle.paging.specs.Mapping.{InMemory, LeafEntry, Pointer}
use Rattle.paging.specs.Tables.{PageTableFrame, References, PointsTo}
use Rattle.checker.specs.Lawful.{Formed, Leads, TableFormed}
use Rattle.sample.specs.Memory.{points_at, root_entry, table_entry}
use Rattle.sample.proofs.Entries.{leaf_form, pointer}

pub not_valid : is_valid 0 ≡ true → ⊥
unfolding flag
not_valid e = true≢false (sym e)

pub record Mapped (ws : List ℕ) (r t : ℕ) (a b : Leaf) : Type 0 where
  pub entry_16 : ℕ
  pub entry_17 : ℕ
  pub leaf_16 : LeafEntry entry_16 a
  pub leaf_17 : LeafEntry entry_17 b
  pub root_words : (k : ℕ) → k < 1024 → word ws r k ≡ root_entry t k
  pub table_words : (k : ℕ) → k < 1024 → word ws t k ≡ table_entry entry_16 entry_17 k
  pub root_there : InMemory ws r
  pub table_there : InMemory ws t

module _ {ws : List ℕ} {r t : ℕ} {a b : Leaf} (m : Mapped ws r t a b) where
  -- the valid entries
  root_at : (k : ℕ) → k < 1024 → is_valid (word ws r k) ≡ true → word ws r k ≡ points_at t
  root_at k l v = elim (cases_eq k 0) [
    | inl e ↦ m.root_words k l ∙ (rw e refl)
    | inr ne ↦ absurd (not_valid (rw (m.root_words k l, ne_eqb k 0 ne) at v))
  ]

  table_at : (k : ℕ) → k < 1024 → is_valid (word ws t k) ≡ true → LeafEntry (word ws t k) a ⊎ LeafEntry (word ws t k) b
  table_at k l v = elim (cases_eq k 16) [
    | inl e ↦ inl (rw (m.table_words k l, e) m.leaf_16)
    | inr ne ↦ elim (cases_eq k 17) [
      | inl e ↦ inr (rw (m.table_words k l, e) m.leaf_17)
      | inr nf ↦ absurd (not_valid (rw (m.table_words k l, ne_eqb k 16 ne, ne_eqb k 17 nf) at v))
    ]
  ]

  its_pointer : Pointer (word ws r 0) t
  its_pointer = rw (m.root_words 0 (omega arith)) (pointer t)

  its_16 : LeafEntry (word ws t 16) a
  its_16 = rw (m.table_words 16 (omega arith)) m.leaf_16

  its_17 : LeafEntry (word ws t 17) b
  its_17 = rw (m.table_words 17 (omega arith)) m.leaf_17

  its_table : (f : ℕ) → PointsTo ws r f → f ≡ t
  its_table f p = let e = root_at p.at p.within p.points.valid in let z = p.points.frame in omega arith

  pub its_frames : (f : ℕ) → References ws r f → (f ≡ a.frame) ⊎ (f ≡ b.frame)
  its_frames f n =
      let tb : n.table ≡ t = its_table n.table n.by in
      let referenced : frame_of (word ws t n.at) ≡ f = subst (λ x. frame_of (word ws x n.at) ≡ f) tb n.references in
      elim (table_at n.at n.within (subst (λ x. is_valid (word ws x n.at) ≡ true) tb n.valid)) [ inl x ↦ inl (sym referenced ∙ x.frame) | inr x ↦ inr (sym referenced ∙ x.frame) ]

  pub its_kernel : (f : ℕ) → PageTableFrame ws r f → (f ≡ r) ⊎ (f ≡ t)
  its_kernel f (inl e) = inl e
  its_kernel f (inr p) = inr (its_table f p)

  pub names_16 : References ws r a.frame
  names_16 = record {
    table = t;
    by = record { at = 0; within = omega arith; points = its_pointer };
    at = 16;
    within = omega arith;
    valid = its_16.valid;
    references = its_16.frame;
  }

  table_formed : a.frame < 256 → b.frame < 256 → TableFormed ws t
  table_formed below_a below_b k l v = elim (table_at k l v) [
    | inl x ↦ (leaf_form _ a x, rw x.frame below_a)
    | inr x ↦ (leaf_form _ b x, rw x.frame below_b)
  ]

  pub its_form : a.frame < 256 → b.frame < 256 → Formed ws r
  its_form below_a below_b = record {
    there = m.root_there.lent;
    entries = λ k l. record {
      points = λ v. rw (root_at k l v, (pointer t).frame) (pointer t);
      there = λ v. rw (root_at k l v, (pointer t).frame) m.table_there;
      formed = λ v. rw (root_at k l v, (pointer t).frame) (table_formed below_a below_b);
    };
  }

  leads_at : (low : ℕ) (leaf : Leaf) → low < 1024 → LeafEntry (word ws t low) leaf → leaf.frame < 256 → Leads ws r low leaf
  leads_at low leaf small is below = record {
    high = 0;
    low = low;
    table = t;
    high_below = omega arith;
    low_below = small;
    number = omega arith;
    points = its_pointer;
    leads = is;
    root_there = m.root_there;
    table_there = m.table_there;
    frame_below = below;
  }

  pub leads_16 : a.frame < 256 → Leads ws r 16 a
  leads_16 = leads_at 16 a (omega arith) its_16

  pub leads_17 : b.frame < 256 → Leads ws r 17 b
  leads_17 = leads_at 17 b (omega arith) its_17
