-- The marks of partitions tell their conflicts.
use Rattle.std.proofs.Common.{◌≡◌, ℕ, ◌<◌, ◌≤◌, Bool, true, not, eqb, ◌⊎◌, List, Decides, sym, refl, ap, ◌∙◌, subst, inl, inr, arith}
use Rattle.std.proofs.lemmas.Bool.{and_from, and_parts, cases_Bool, cases_lt, eq-eqb, eqb-true, or_cases, or_left, or_right, true≢false, not-true}
use Rattle.ranges.specs.Questions.{any}
use Rattle.words.specs.Frames.{lent, word}
use Rattle.ranges.proofs.Questions.{all_not, any_here, any_where}
use Rattle.paging.specs.Entries.{frame_of, is_pointer, is_valid}
use Rattle.paging.specs.Mapping.{Pointer}
use Rattle.paging.specs.Tables.{PageTableFrame, References, PointsTo}
use Rattle.paging.proofs.Tell.{pointer_tells}
use Rattle.plan.specs.declared.model.Plan.{Plan}
use Rattle.checker.specs.Marks.{is_page_table_frame, references, referenced_by, referencing_entry, references_in, pointed, points}
use Rattle.checker.specs.Sharing.{apart_kept, clash, clash_at, page_tables_at, lent_kept, missing_at, referenced_at}
use Rattle.checker.specs.Lawful.{AllLent, Apart, Conflict, Formed, root}
use Rattle.checker.proofs.Forms.{lent_tells}

module _ (ws : List ℕ) (r : ℕ) where
  pointed_to : (t : ℕ) → pointed ws r t ≡ true → PointsTo ws r t
  unfolding pointed
  pointed_to t e =
      let z = any_where (points ws r t) 1024 e in
      let entry = word ws r z.0 in
      let y = and_parts (is_pointer entry) (eqb (frame_of entry) t) z.2 in
      record { at = z.0; within = z.1; points = subst (Pointer entry) (eqb-true (frame_of entry) t y.1) ((pointer_tells entry).0 y.0) }

  to_pointed : (t : ℕ) → PointsTo ws r t → pointed ws r t ≡ true
  unfolding pointed
  to_pointed t h =
      let entry = word ws r h.at in
      any_here (points ws r t) 1024 h.at h.within
      (and_from (is_pointer entry) (eqb (frame_of entry) t) ((pointer_tells entry).1 (subst (Pointer entry) (sym h.points.frame) h.points)) (eq-eqb (frame_of entry) t h.points.frame))

  names_true : (f : ℕ) → references ws r f ≡ true → References ws r f
  unfolding references references_in
  names_true f e =
      let x = any_where (referenced_by ws r f) 256 e in
      let t = x.0 in
      let y = and_parts (pointed ws r t) (references_in ws t f) x.2 in
      let z = any_where (referencing_entry ws t f) 1024 y.1 in
      let v = and_parts (is_valid (word ws t z.0)) (eqb (frame_of (word ws t z.0)) f) z.2 in
      record { table = t; by = pointed_to t y.0; at = z.0; within = z.1; valid = v.0; references = eqb-true (frame_of (word ws t z.0)) f v.1 }

  kernel_true : (f : ℕ) → is_page_table_frame ws r f ≡ true → PageTableFrame ws r f
  unfolding is_page_table_frame
  kernel_true f e = elim (or_cases (pointed ws r f) (eqb r f) e) [ inl h ↦ inr (pointed_to f h) | inr h ↦ inl (sym (eqb-true r f h)) ]

  true_kernel : (f : ℕ) → PageTableFrame ws r f → is_page_table_frame ws r f ≡ true
  unfolding is_page_table_frame
  true_kernel f k = elim k [ inl e ↦ or_right (pointed ws r f) (eqb r f) (eq-eqb r f (sym e)) | inr h ↦ or_left (pointed ws r f) (eqb r f) (to_pointed f h) ]

  module _ (ok : Formed ws r) where
    table_below : (t : ℕ) → PointsTo ws r t → t < 256
    table_below t h = subst (λ x. x < 256) h.points.frame ((ok.entries h.at h.within).there h.points.valid).below

    -- a frame that is referenced is one of the 256
    pub named_below : (f : ℕ) → References ws r f → f < 256
    named_below f n =
        let by = n.by in
        let entry = word ws r by.at in
        let formed = (ok.entries by.at by.within).formed by.points.valid in
        let leaf = subst (λ t. (k : ℕ) → k < 1024 → is_valid (word ws t k) ≡ true → frame_of (word ws t k) < 256) by.points.frame (λ k l v. (formed k l v).1) n.at n.within n.valid in
        subst (λ x. x < 256) n.references leaf

    true_names : (f : ℕ) → References ws r f → references ws r f ≡ true
    unfolding references references_in
    true_names f n =
        let t = n.table in
        any_here (referenced_by ws r f) 256 t (table_below t n.by)
        (and_from (pointed ws r t) (any (referencing_entry ws t f) 1024) (to_pointed t n.by)
        (any_here (referencing_entry ws t f) 1024 n.at n.within (and_from (is_valid (word ws t n.at)) (eqb (frame_of (word ws t n.at)) f) n.valid (eq-eqb (frame_of (word ws t n.at)) f n.references))))

data Ways (a b c d : Bool) : Type 0 where
  both : a ≡ true → c ≡ true → Ways a b c d
  table : a ≡ true → d ≡ true → Ways a b c d
  own : a ≡ true → b ≡ true → Ways a b c d
  later : b ≡ true → c ≡ true → Ways a b c d

ways : (a b c d : Bool) → clash a b c d ≡ true → Ways a b c d
unfolding clash
ways a b c d e = grind arith

clashes : (a b c d : Bool) → Ways a b c d → clash a b c d ≡ true
unfolding clash
clashes a b c d (both x y) = grind arith
clashes a b c d (table x y) = grind arith
clashes a b c d (own x y) = grind arith
clashes a b c d (later x y) = grind arith

-- a conflict of partition k with one no later, over a frame
Here : List ℕ → Plan → ℕ → ℕ → Type 0
Here ws p k f =
    (j : ℕ) × (j ≤ k)
    × ((References ws (root p k) f × (((k ≡ j → ⊥) × References ws (root p j) f) ⊎ PageTableFrame ws (root p j) f)) ⊎ (References ws (root p j) f × PageTableFrame ws (root p k) f))

module _ (ws : List ℕ) (p : Plan) (f : ℕ) where
  module _ (k : ℕ) where
    clash_here : clash_at ws p k f ≡ true → Here ws p k f
    unfolding clash_at Here referenced_at page_tables_at
    clash_here e = elim (ways _ _ _ _ e) [
      | both a c ↦ (let z = any_where (referenced_at ws p f) k c in (z.0, omega (arith, z.1), inl (names_true ws (root p k) f a, inl ((λ s. absurd (omega (arith, z.1))), names_true ws (root p z.0) f z.2))))
      | table a d ↦ (let z = any_where (page_tables_at ws p f) k d in (z.0, omega (arith, z.1), inl (names_true ws (root p k) f a, inr (kernel_true ws (root p z.0) f z.2))))
      | own a b ↦ (k, omega arith, inl (names_true ws (root p k) f a, inr (kernel_true ws (root p k) f b)))
      | later b c ↦ (let z = any_where (referenced_at ws p f) k c in (z.0, omega (arith, z.1), inr (names_true ws (root p z.0) f z.2, kernel_true ws (root p k) f b)))
    ]

    here_clash : ((q : ℕ) → q ≤ k → Formed ws (root p q)) → Here ws p k f → clash_at ws p k f ≡ true
    unfolding clash_at Here referenced_at page_tables_at
    here_clash ok h =
        let mine : References ws (root p k) f → referenced_at ws p f k ≡ true = true_names ws (root p k) (ok k (omega arith)) f in
        let theirs : References ws (root p h.0) f → referenced_at ws p f h.0 ≡ true = true_names ws (root p h.0) (ok h.0 h.1) f in
        clashes _ _ _ _ (elim (cases_lt h.0 k) [
          | inl l ↦ elim h.2 [
            | inl x ↦ elim x.1 [
              | inl y ↦ both (mine x.0) (any_here (referenced_at ws p f) k h.0 l (theirs y.1))
              | inr y ↦ table (mine x.0) (any_here (page_tables_at ws p f) k h.0 l (true_kernel ws (root p h.0) f y))
            ]
            | inr x ↦ later (true_kernel ws (root p k) f x.1) (any_here (referenced_at ws p f) k h.0 l (theirs x.0))
          ]
          | inr l ↦ (let s : h.0 ≡ k = omega (arith, h.1) in elim h.2 [
            | inl x ↦ elim x.1 [
              | inl y ↦ absurd (y.0 (sym s))
              | inr y ↦ own (mine x.0) (subst (λ (q : ℕ). page_tables_at ws p f q ≡ true) s (true_kernel ws (root p h.0) f y))
            ]
            | inr x ↦ own (subst (λ (q : ℕ). referenced_at ws p f q ≡ true) s (theirs x.0)) (true_kernel ws (root p k) f x.1)
          ])
        ])

module _ (ws : List ℕ) (p : Plan) where
  conflict_here : (k j : ℕ) → j ≤ k → Conflict ws p k j ⊎ Conflict ws p j k → (f : ℕ) × Here ws p k f
  unfolding Here
  conflict_here k j l (inl c) = (c.0, (j, l, inl (c.1, c.2)))
  conflict_here k j l (inr c) = (c.0, (j, l, elim c.2 [ inl y ↦ inl (y.1, inl ((λ s. y.0 (sym s)), c.1)) | inr y ↦ inr (c.1, y) ]))

  here_below : (k f : ℕ) → ((q : ℕ) → q ≤ k → Formed ws (root p q)) → Here ws p k f → f < 256
  unfolding Here
  here_below k f ok h = elim h.2 [ inl x ↦ named_below ws (root p k) (ok k (omega arith)) f x.0 | inr x ↦ named_below ws (root p h.0) (ok h.0 h.1) f x.0 ]

  here_conflict : (k f : ℕ) (h : Here ws p k f) → Apart ws p k → ⊥
  unfolding Here
  here_conflict k f h apart = apart h.0 h.1 (elim h.2 [ inl x ↦ inl (f, x.0, x.1) | inr x ↦ inr (f, x.0, inr x.1) ])

  pub apart_decides : (k : ℕ) → ((q : ℕ) → q ≤ k → Formed ws (root p q)) → Decides (apart_kept ws p k) (Apart ws p k)
  unfolding apart_kept
  apart_decides k ok = (
    (λ e j l c.
        let h = conflict_here k j l c in
        let some = any_here (clash_at ws p k) 256 h.0 (here_below k h.0 ok h.1) (here_clash ws p h.0 k ok h.1) in
        true≢false (sym some ∙ not-true (any (clash_at ws p k) 256) e)),
    λ apart. rw (all_not (clash_at ws p k) 256 (λ f l e. here_conflict k f (clash_here ws p f k e) apart)) refl,
  )

  pub lent_decides : ((q : ℕ) → q < p.counts.partitions → Formed ws (root p q)) → Decides (lent_kept ws p) (AllLent ws p)
  unfolding lent_kept missing_at referenced_at
  lent_decides ok = (
    (λ e k f l n. elim (cases_Bool (lent ws f)) [
      | inl y ↦ (lent_tells ws f).0 y
      | inr y ↦ absurd (
          let some = any_here (referenced_at ws p f) p.counts.partitions k l (true_names ws (root p k) (ok k l) f n) in
          let here = any_here (missing_at ws p) 256 f (named_below ws (root p k) (ok k l) f n) (and_from (any (referenced_at ws p f) p.counts.partitions) (not (lent ws f)) some (ap not y)) in
          true≢false (sym here ∙ not-true (any (missing_at ws p) 256) e))
    ]),
    λ h. rw (all_not (missing_at ws p) 256 (λ f l e.
        let x = and_parts (any (referenced_at ws p f) p.counts.partitions) (not (lent ws f)) e in
        let z = any_where (referenced_at ws p f) p.counts.partitions x.0 in
        let y : lent ws f ≡ true = (lent_tells ws f).1 (h z.0 f z.1 (names_true ws (root p z.0) f z.2)) in
        true≢false (sym x.1 ∙ ap not y))) refl,
  )
