-- The memories of the example meet the premises of the laws.
use Rattle.std.proofs.Common.{◌≡◌, ℕ, ◌+◌, ◌*◌, ◌/◌, ◌<◌, ◌≤◌, true, ltb, ◌≢◌, ◌⊎◌, List, get_or, length, sym, refl, ap, ◌∙◌, subst, inl, inr, arith}
use Rattle.std.proofs.lemmas.List.{get_or-replicate, get_or-set_other, length-set}
use Rattle.std.proofs.lemmas.Bool.{cases_eq, true≢false}
use Rattle.words.specs.Frames.{word}
use Rattle.paging.specs.declared.leaf.Leaf.{Leaf}
use Rattle.paging.specs.Entries.{flag, frame_of, is_valid}
use Rattle.paging.specs.Mapping.{LeafEntry, Maps, Pointer}
use Rattle.paging.specs.Tables.{PageTableFrame, References, PointsTo}
use Rattle.hart.specs.Laws.{SameOwn, TablesApart}
use Rattle.paging.specs.Small.{mapped_in, with_page}
use Rattle.hart.specs.Example.{Example, five_frames}

not_valid : is_valid 0 ≡ true → ⊥
unfolding flag
not_valid e = true≢false (sym e)

-- an entry with W and without R is no leaf
no_leaf : (leaf : Leaf) → LeafEntry 0x10D5 leaf → ⊥
unfolding flag
no_leaf leaf l = true≢false (sym (l.not_write_only (sym l.writable)) ∙ sym l.readable)

abbrev four_words : List ℕ
four_words = with_page (mapped_in 5120) 18 0x10D5

module _ (c : ℕ) where
  -- the words that are not named above are 0
  blank : (i : ℕ) → i < 4096 → i ≢ 0 → i ≢ 1040 → i ≢ 1041 → i ≢ 1042 → get_or (five_frames c) i 0 ≡ 0
  blank i l a b d e =
      let f : i ≢ 4096 = omega arith in
      let inside : i < 5120 = omega arith in
      simp (get_or-set_other, get_or-replicate)

  root_blank : (k : ℕ) → k < 1024 → k ≢ 0 → word (five_frames c) 0 k ≡ 0
  root_blank k l ne = let n : k ≡ 0 → ⊥ = ne in blank (0 * 1024 + k) (omega arith) (omega arith) (omega arith) (omega arith) (omega arith)

  table_blank : (k : ℕ) → k < 1024 → k ≢ 16 → k ≢ 17 → k ≢ 18 → word (five_frames c) 1 k ≡ 0
  table_blank k l a b d =
      let e : k ≡ 16 → ⊥ = a in
      let f : k ≡ 17 → ⊥ = b in
      let g : k ≡ 18 → ⊥ = d in
      blank (1 * 1024 + k) (omega arith) (omega arith) (omega arith) (omega arith) (omega arith)

  table_only : (at table : ℕ) → at < 1024 → Pointer (word (five_frames c) 0 at) table → table ≡ 1
  table_only at table l p = elim (cases_eq at 0) [
    | inl e ↦ sym (subst (λ k. frame_of (word (five_frames c) 0 k) ≡ table) e p.frame)
    | inr ne ↦ absurd (not_valid (subst (λ w. is_valid w ≡ true) (root_blank at l ne) p.valid))
  ]

  kernel_only : (frame : ℕ) → PageTableFrame (five_frames c) 0 frame → frame ≤ 1
  kernel_only frame (inl e) = omega arith
  kernel_only frame (inr p) = let e = table_only p.at frame p.within p.points in omega arith

  -- which entries of the table are valid
  valid_at : (k : ℕ) → k < 1024 → is_valid (word (five_frames c) 1 k) ≡ true → (k ≡ 16) ⊎ ((k ≡ 17) ⊎ (k ≡ 18))
  valid_at k l v = elim (cases_eq k 16) [
    | inl e ↦ inl e
    | inr a ↦ elim (cases_eq k 17) [
      | inl e ↦ inr (inl e)
      | inr b ↦ elim (cases_eq k 18) [
        | inl e ↦ inr (inr e)
        | inr d ↦ absurd (not_valid (subst (λ w. is_valid w ≡ true) (table_blank k l a b d) v))
      ]
    ]
  ]

  frame_from : (k frame : ℕ) → (k ≡ 16) ⊎ ((k ≡ 17) ⊎ (k ≡ 18)) → frame_of (word (five_frames c) 1 k) ≡ frame → 2 ≤ frame
  frame_from k frame (inl e) n = let z : 2 ≡ frame = subst (λ i. frame_of (word (five_frames c) 1 i) ≡ frame) e n in omega arith
  frame_from k frame (inr (inl e)) n = let z : 3 ≡ frame = subst (λ i. frame_of (word (five_frames c) 1 i) ≡ frame) e n in omega arith
  frame_from k frame (inr (inr e)) n = let z : 4 ≡ frame = subst (λ i. frame_of (word (five_frames c) 1 i) ≡ frame) e n in omega arith

  named_from : (frame : ℕ) → References (five_frames c) 0 frame → 2 ≤ frame
  named_from frame n =
      let t = table_only n.by.at n.table n.by.within n.by.points in
      frame_from n.at frame (valid_at n.at n.within (subst (λ x. is_valid (word (five_frames c) x n.at) ≡ true) t n.valid))
      (subst (λ x. frame_of (word (five_frames c) x n.at) ≡ frame) t n.references)

  leaf_below : (k : ℕ) (leaf : Leaf) → (k ≡ 16) ⊎ ((k ≡ 17) ⊎ (k ≡ 18)) → LeafEntry (word (five_frames c) 1 k) leaf → leaf.frame ≤ 3
  leaf_below k leaf (inl e) m = let z : 2 ≡ leaf.frame = (subst (λ i. LeafEntry (word (five_frames c) 1 i) leaf) e m).frame in omega arith
  leaf_below k leaf (inr (inl e)) m = let z : 3 ≡ leaf.frame = (subst (λ i. LeafEntry (word (five_frames c) 1 i) leaf) e m).frame in omega arith
  leaf_below k leaf (inr (inr e)) m = absurd (no_leaf leaf (subst (λ i. LeafEntry (word (five_frames c) 1 i) leaf) e m))

  mapped_below : (page : ℕ) (leaf : Leaf) → Maps (five_frames c) 0 page leaf → leaf.frame ≤ 3
  mapped_below page leaf m =
      let t = table_only m.high m.table m.high_below m.points in
      let leads = subst (λ x. LeafEntry (word (five_frames c) x m.low) leaf) t m.leads in
      leaf_below m.low leaf (valid_at m.low m.low_below leads.valid) leads

  tables_apart : TablesApart (five_frames c) 0
  tables_apart frame references kernel = let a = named_from frame references in let b = kernel_only frame kernel in omega arith

  points : PointsTo (five_frames c) 0 1
  unfolding flag
  points = record {
    at = 0;
    within = omega arith;
    points = record { valid = refl; not_readable = refl; not_writable = refl; not_executable = refl; frame = refl };
  }

  names_fourth : References (five_frames c) 0 4
  unfolding flag
  names_fourth = record { table = 1; by = points; at = 18; within = omega arith; valid = refl; references = refl }

module _ (here there : ℕ) where
  -- the memories differ in one word of frame 4
  below : (frame k : ℕ) → frame ≤ 3 → k < 1024 → word (five_frames there) frame k ≡ word (five_frames here) frame k
  below frame k low l =
      get_or-set_other four_words 4096 (frame * 1024 + k) there 0 (omega arith) ∙ sym (get_or-set_other four_words 4096 (frame * 1024 + k) here 0 (omega arith))

  as_long : length (five_frames there) ≡ length (five_frames here)
  as_long = length-set four_words 4096 there ∙ sym (length-set four_words 4096 here)

  same_own : SameOwn (five_frames here) (five_frames there) 0
  same_own = record {
    tables = λ frame k kernel l. (let low = kernel_only here frame kernel in below frame k (omega arith) l);
    lent = λ frame _. ap (λ n. ltb frame (n / 1024)) as_long;
    mapped = λ page k leaf m l. below leaf.frame k (mapped_below here page leaf m) l;
  }

pub example : Example
example = record { apart = tables_apart; referenced = names_fourth; same = same_own }
