-- The tests on page tables tell whether they are well formed, or cannot be read.
use Rattle.std.proofs.Common.{◌≡◌, ℕ, ◌<◌, Bool, true, false, cond, not, ◌&&◌, ltb, ◌⊎◌, List, Some, None, Decides, Option, sym, refl, ◌∙◌, subst, inl, inr, arith}
use Rattle.std.proofs.lemmas.Bool.{cases_Bool, lt-ltb, ltb-true, true≢false}
use Rattle.std.proofs.lemmas.Bool.Decides.{nat_tests}
use Rattle.std.specs.Option.{option_or}
use Rattle.ranges.specs.Questions.{first}
use Rattle.words.specs.Frames.{lent, word}
use Rattle.ranges.proofs.Questions.{all_not, below_none, first_is, first_stays, none_below, not_any}
use Rattle.paging.specs.Entries.{frame_of, is_leaf, is_pointer, is_valid}
use Rattle.paging.specs.Mapping.{InMemory, Pointer}
use Rattle.paging.proofs.Tell.{pointer_tells}
use Rattle.checker.specs.declared.fault.Fault.{Fault}
use Rattle.checker.specs.declared.fault.Fault.TheVariants.{Broken, NotLent}
use Rattle.checker.specs.Faults.{frame_fault}
use Rattle.checker.specs.Tables.{bad_leaf_at, bad_table, entry_fault, entry_fault_at, root_fault, table_fault}
use Rattle.checker.specs.Lawful.{EntryFits, Formed, Lent, TableFormed, TablesUnread}

pub lent_tells : (ws : List ℕ) (f : ℕ) → Decides (lent ws f) (Lent ws f)
lent_tells ws f = ((λ e. grind (arith, nat_tests)), λ h. grind (arith, nat_tests))

-- valid entries that are not both
bad_not : (v l b : Bool) → (v && not (l && b)) ≡ false → v ≡ true → (l ≡ true) × (b ≡ true)
bad_not v l b h e = grind arith

not_bad : (v l b : Bool) → (v ≡ true → (l ≡ true) × (b ≡ true)) → (v && not (l && b)) ≡ true → ⊥
not_bad v l b h e = grind arith

table_good : (ws : List ℕ) (t : ℕ) → bad_table ws t ≡ false → TableFormed ws t
unfolding bad_table
table_good ws t e k l v =
    let entry = word ws t k in
    let z = bad_not (is_valid entry) (is_leaf entry) (ltb (frame_of entry) 256) (not_any (bad_leaf_at ws t) 1024 e k l) v in
    (z.0, ltb-true (frame_of entry) 256 z.1)

good_table : (ws : List ℕ) (t : ℕ) → TableFormed ws t → bad_table ws t ≡ false
unfolding bad_table
good_table ws t h = all_not (bad_leaf_at ws t) 1024 (λ k l e.
    not_bad (is_valid (word ws t k)) (is_leaf (word ws t k)) (ltb (frame_of (word ws t k)) 256) (λ v. ((h k l v).0, lt-ltb (frame_of (word ws t k)) 256 (h k l v).1)) e)

-- what a frame's fault says of its tests: below 256, lent
frame_none : (a b : Bool) → cond a (cond b None (Some NotLent)) (Some Broken) ≡ None → (a ≡ true) × (b ≡ true)
frame_none a b e = grind arith

frame_unlent : (a b : Bool) → cond a (cond b None (Some NotLent)) (Some Broken) ≡ Some NotLent → (a ≡ true) × (b ≡ false)
frame_unlent a b e = grind arith

module _ (ws : List ℕ) (f : ℕ) where
  pub none_there : frame_fault ws f ≡ None → InMemory ws f
  none_there e = let z = frame_none (ltb f 256) (lent ws f) e in record { below = ltb-true f 256 z.0; lent = (lent_tells ws f).0 z.1 }

  pub there_none : InMemory ws f → frame_fault ws f ≡ None
  there_none m = rw (lt-ltb f 256 m.below, (lent_tells ws f).1 m.lent) refl

  not_lent : (Lent ws f → ⊥) → lent ws f ≡ false
  not_lent no_frame = elim (cases_Bool (lent ws f)) [ inl e ↦ absurd (no_frame ((lent_tells ws f).0 e)) | inr e ↦ e ]

  pub unlent_missing : frame_fault ws f ≡ Some NotLent → (f < 256) × (Lent ws f → ⊥)
  unlent_missing e = let z = frame_unlent (ltb f 256) (lent ws f) e in (ltb-true f 256 z.0, λ h. true≢false (sym ((lent_tells ws f).1 h) ∙ z.1))

  pub missing_unlent : f < 256 → (Lent ws f → ⊥) → frame_fault ws f ≡ Some NotLent
  missing_unlent l missing = rw (lt-ltb f 256 l, not_lent missing) refl

-- what the fault of a table says: of its frame, and then a test that passes
fault_parts : (o : Option Fault) (b : Bool) → option_or o (cond b (Some Broken) None) ≡ None → (o ≡ None) × (b ≡ false)
fault_parts o b e = grind arith

unlent_part : (o : Option Fault) (b : Bool) → option_or o (cond b (Some Broken) None) ≡ Some NotLent → o ≡ Some NotLent
unlent_part o b e = grind arith

-- what a fault of an entry says: valid, a pointer, the fault of its table
module _ where
  entered : Bool → Bool → Option Fault → Option Fault
  entered v q o = cond v (cond q o (Some Broken)) None

  entered_none : (v q : Bool) (o : Option Fault) → entered v q o ≡ None → v ≡ true → (q ≡ true) × (o ≡ None)
  unfolding entered
  entered_none v q o e h = grind arith

  none_entered : (v q : Bool) (o : Option Fault) → (v ≡ true → (q ≡ true) × (o ≡ None)) → entered v q o ≡ None
  unfolding entered
  none_entered v q o h = grind arith

  entered_unlent : (v q : Bool) (o : Option Fault) → entered v q o ≡ Some NotLent → (v ≡ true) × (q ≡ true) × (o ≡ Some NotLent)
  unfolding entered
  entered_unlent v q o e = grind arith

module _ (ws : List ℕ) where
  pub fault_none : (t : ℕ) → table_fault ws t ≡ None → InMemory ws t × TableFormed ws t
  unfolding table_fault
  fault_none t e = let z = fault_parts (frame_fault ws t) (bad_table ws t) e in (none_there ws t z.0, table_good ws t z.1)

  none_fault : (t : ℕ) → InMemory ws t → TableFormed ws t → table_fault ws t ≡ None
  unfolding table_fault
  none_fault t m f = rw (there_none ws t m, good_table ws t f) refl

  fault_unlent : (t : ℕ) → table_fault ws t ≡ Some NotLent → (t < 256) × (Lent ws t → ⊥)
  unfolding table_fault
  fault_unlent t e = unlent_missing ws t (unlent_part (frame_fault ws t) (bad_table ws t) e)

  unlent_fault : (t : ℕ) → t < 256 → (Lent ws t → ⊥) → table_fault ws t ≡ Some NotLent
  unfolding table_fault
  unlent_fault t l missing = rw (missing_unlent ws t l missing) refl

  entry_good : (e : ℕ) → entry_fault ws e ≡ None → EntryFits ws e
  unfolding entry_fault entered
  entry_good e h =
      let z : is_valid e ≡ true → (is_pointer e ≡ true) × (table_fault ws (frame_of e) ≡ None) = entered_none (is_valid e) (is_pointer e) (table_fault ws (frame_of e)) h in
      record {
        points = λ v. (pointer_tells e).0 (z v).0;
        there = λ v. (fault_none (frame_of e) (z v).1).0;
        formed = λ v. (fault_none (frame_of e) (z v).1).1;
      }

  good_entry : (e : ℕ) → EntryFits ws e → entry_fault ws e ≡ None
  unfolding entry_fault entered
  good_entry e h = none_entered (is_valid e) (is_pointer e) (table_fault ws (frame_of e)) (λ v. ((pointer_tells e).1 (h.points v), none_fault (frame_of e) (h.there v) (h.formed v)))

  module _ (root : ℕ) where
    formed_split : (b : Bool) (o : Option Fault) → cond b o (Some NotLent) ≡ None → (b ≡ true) × (o ≡ None)
    formed_split b o e = grind arith

    pub none_formed : root_fault ws root ≡ None → Formed ws root
    unfolding root_fault
    none_formed e =
        let z = formed_split (lent ws root) (first (entry_fault_at ws root) 1024) e in
        record {
          there = (lent_tells ws root).0 z.0;
          entries = λ k l. entry_good (word ws root k) (none_below (entry_fault_at ws root) 1024 z.1 k l);
        }

    pub formed_none : Formed ws root → root_fault ws root ≡ None
    unfolding root_fault
    formed_none h = rw ((lent_tells ws root).1 h.there) (below_none (entry_fault_at ws root) 1024 (λ k l. good_entry (word ws root k) (h.entries k l)))

    unread_split : (b : Bool) (o : Option Fault) → cond b o (Some NotLent) ≡ Some NotLent → (b ≡ false) ⊎ (o ≡ Some NotLent)
    unread_split b o e = grind arith

    at_entry : (k : ℕ) → k < 1024 → entry_fault_at ws root k ≡ Some NotLent → ((j : ℕ) → j < k → entry_fault_at ws root j ≡ None) → TablesUnread ws root
    unfolding entry_fault entered
    at_entry k l e before =
        let entry = word ws root k in
        let z = entered_unlent (is_valid entry) (is_pointer entry) (table_fault ws (frame_of entry)) e in
        let y = fault_unlent (frame_of entry) z.2 in
        TablesUnread.no_table k (frame_of entry) l ((pointer_tells entry).0 z.1) y.0 y.1 (λ j h. entry_good (word ws root j) (before j h))

    pub unlent_unread : root_fault ws root ≡ Some NotLent → TablesUnread ws root
    unfolding root_fault
    unlent_unread e = elim (unread_split (lent ws root) (first (entry_fault_at ws root) 1024) e) [
      | inl h ↦ TablesUnread.no_root (λ g. true≢false (sym ((lent_tells ws root).1 g) ∙ h))
      | inr h ↦ let z = first_is (entry_fault_at ws root) 1024 NotLent h in at_entry z.0 z.1 z.2 z.3
    ]

    at_table : (k t : ℕ) → Pointer (word ws root k) t → t < 256 → (Lent ws t → ⊥) → entry_fault_at ws root k ≡ Some NotLent
    unfolding entry_fault entered
    at_table k t p l missing =
        let entry = word ws root k in
        let pointer : is_pointer entry ≡ true = (pointer_tells entry).1 (subst (Pointer entry) (sym p.frame) p) in
        rw (pointer, p.valid, p.frame) (unlent_fault t l missing)

    pub unread_unlent : TablesUnread ws root → root_fault ws root ≡ Some NotLent
    unfolding root_fault
    unread_unlent (TablesUnread.no_root missing) = rw (not_lent ws root missing) refl
    unread_unlent (TablesUnread.no_table k t l p b missing before) = elim (cases_Bool (lent ws root)) [
      | inl e ↦ rw e (first_stays (entry_fault_at ws root) k 1024 NotLent l (below_none (entry_fault_at ws root) k (λ j h. good_entry (word ws root j) (before j h))) (at_table k t p b missing))
      | inr e ↦ rw e refl
    ]
