-- The look-up of a channel's pages tells the frames that it joins.
use Rattle.std.proofs.Common.{◌≡◌, ℕ, ◌+◌, ◌*◌, ◌/◌, ◌%◌, ◌<◌, Bool, true, false, cond, not, ◌&&◌, ltb, ◌⊎◌, List, Some, None, Ok, Err, Option, Result, sym, refl, ap, subst, inl, inr, arith}
use Rattle.std.proofs.lemmas.Nat.{mod_below}
use Rattle.std.proofs.lemmas.Bool.Decides.{nat_tests}
use Rattle.std.proofs.lemmas.Bool.{lt-ltb, ltb-true}
use Rattle.words.specs.Frames.{word}
use Rattle.paging.specs.declared.leaf.Leaf.{Leaf}
use Rattle.paging.specs.Entries.{frame_of, is_pointer, leaf_of}
use Rattle.paging.specs.Mapping.{InMemory, LeafEntry, Pointer}
use Rattle.paging.proofs.Tell.{leaf_tells, leaf_told, pointer_tells}
use Rattle.plan.specs.declared.model.Endpoint.{Endpoint}
use Rattle.plan.specs.declared.model.Plan.{Plan}
use Rattle.checker.specs.declared.fault.Fault.{Fault}
use Rattle.checker.specs.declared.fault.Fault.TheVariants.{Broken, NotLent}
use Rattle.checker.specs.Faults.{frame_fault}
use Rattle.checker.specs.Pages.{end_frame, if_read, leaf_below, looked_up, through, usable}
use Rattle.checker.specs.Lawful.{EndUnread, Leads, Lent, PageUnread, Usable, root}
use Rattle.checker.proofs.Forms.{missing_unlent, none_there, there_none, unlent_missing}

-- a step of the look-up: a test, a frame that can be read, and what follows
module _ {X : Type 0} where
  step : Bool → Option Fault → Result X Fault → Result X Fault
  step c o r = cond c (if_read o r) (Err Broken)

  step_ok : (c : Bool) (o : Option Fault) (r : Result X Fault) (x : X) → step c o r ≡ Ok x → (c ≡ true) × (o ≡ None) × (r ≡ Ok x)
  unfolding step
  step_ok c o r x e = grind arith

  step_unlent : (c : Bool) (o : Option Fault) (r : Result X Fault) → step c o r ≡ Err NotLent → (c ≡ true) × ((o ≡ Some NotLent) ⊎ ((o ≡ None) × (r ≡ Err NotLent)))
  unfolding step
  step_unlent c o r e = grind arith

  step_goes : (c : Bool) (o : Option Fault) (r s : Result X Fault) → c ≡ true → o ≡ None → r ≡ s → step c o r ≡ s
  unfolding step
  step_goes c o r s a b e = rw (a, b) e

  step_stops : (c : Bool) (o : Option Fault) (r : Result X Fault) → c ≡ true → o ≡ Some NotLent → step c o r ≡ Err NotLent
  unfolding step
  step_stops c o r a b = rw (a, b) refl

leaf_ok : (o : Option Leaf) (leaf : Leaf) → leaf_below o ≡ Ok leaf → (o ≡ Some leaf) × (leaf.frame < 256)
leaf_ok o leaf e = grind (arith, nat_tests)

leaf_lent : (o : Option Leaf) → leaf_below o ≡ Err NotLent → ⊥
leaf_lent o e = grind arith

module _ (ws : List ℕ) (r page : ℕ) where
  looked_leads : (leaf : Leaf) → looked_up ws r page ≡ Ok leaf → Leads ws r page leaf
  unfolding looked_up step
  looked_leads leaf e =
      let high = page / 1024 in
      let low = page % 1024 in
      let entry = word ws r high in
      let x = step_ok (ltb high 1024) (frame_fault ws r) (through ws entry low) leaf e in
      let y = step_ok (is_pointer entry) (frame_fault ws (frame_of entry)) (leaf_below (leaf_of (word ws (frame_of entry) low))) leaf x.2 in
      let z = leaf_ok (leaf_of (word ws (frame_of entry) low)) leaf y.2 in
      record {
        high = high;
        low = low;
        table = frame_of entry;
        high_below = ltb-true high 1024 x.0;
        low_below = mod_below page 1024 (omega arith);
        number = omega arith;
        points = (pointer_tells entry).0 y.0;
        leads = leaf_tells (word ws (frame_of entry) low) leaf z.0;
        root_there = none_there ws r x.1;
        table_there = none_there ws (frame_of entry) y.1;
        frame_below = z.1;
      }

  -- the second step, where the root's entry points to a table
  module _ (high low table : ℕ) (high_below : high < 1024) (low_below : low < 1024) (number : page ≡ high * 1024 + low)
      (there : InMemory ws r) (points : Pointer (word ws r high) table) where
    second : (s : Result Leaf Fault) → step (is_pointer (word ws r high)) (frame_fault ws (frame_of (word ws r high))) (leaf_below (leaf_of (word ws (frame_of (word ws r high)) low))) ≡ s → looked_up ws r page ≡ s
    unfolding looked_up step
    second s e =
        let h : page / 1024 ≡ high = omega (arith, number, low_below) in
        let l : page % 1024 ≡ low = omega (arith, number, low_below) in
        rw (h, l) (step_goes (ltb high 1024) (frame_fault ws r) (through ws (word ws r high) low) s (lt-ltb high 1024 high_below) (there_none ws r there) e)

    pointer : is_pointer (word ws r high) ≡ true
    pointer = (pointer_tells (word ws r high)).1 (subst (Pointer (word ws r high)) (sym points.frame) points)

    to_leaf : (leaf : Leaf) → InMemory ws table → LeafEntry (word ws table low) leaf → leaf.frame < 256 → looked_up ws r page ≡ Ok leaf
    to_leaf leaf m l b =
        let told : leaf_below (leaf_of (word ws table low)) ≡ Ok leaf = rw (leaf_told (word ws table low) leaf l, lt-ltb leaf.frame 256 b) refl in
        second (Ok leaf) (step_goes (is_pointer (word ws r high)) _ _ (Ok leaf) pointer
        (subst (λ t. frame_fault ws t ≡ None) (sym points.frame) (there_none ws table m))
        (subst (λ t. leaf_below (leaf_of (word ws t low)) ≡ Ok leaf) (sym points.frame) told))

    to_unlent : table < 256 → (Lent ws table → ⊥) → looked_up ws r page ≡ Err NotLent
    to_unlent b missing = second (Err NotLent) (step_stops (is_pointer (word ws r high)) _ _ pointer
        (subst (λ t. frame_fault ws t ≡ Some NotLent) (sym points.frame) (missing_unlent ws table b missing)))

  pub leads_looked : (leaf : Leaf) → Leads ws r page leaf → looked_up ws r page ≡ Ok leaf
  leads_looked leaf h = to_leaf h.high h.low h.table h.high_below h.low_below h.number h.root_there h.points leaf h.table_there h.leads h.frame_below

  unlent_unread : looked_up ws r page ≡ Err NotLent → PageUnread ws r page
  unfolding looked_up step
  unlent_unread e =
      let high = page / 1024 in
      let low = page % 1024 in
      let entry = word ws r high in
      let x = step_unlent (ltb high 1024) (frame_fault ws r) (through ws entry low) e in
      let high_below = ltb-true high 1024 x.0 in
      elim x.1 [
        | inl h ↦ let z = unlent_missing ws r h in PageUnread.no_root (omega arith) z.0 z.1
        | inr h ↦ let y = step_unlent (is_pointer entry) (frame_fault ws (frame_of entry)) (leaf_below (leaf_of (word ws (frame_of entry) low))) h.1 in
            elim y.1 [
              | inl g ↦ let z = unlent_missing ws (frame_of entry) g in
                  PageUnread.no_table high low (frame_of entry) high_below (mod_below page 1024 (omega arith)) (omega arith) (none_there ws r h.0) ((pointer_tells entry).0 y.0) z.0 z.1
              | inr g ↦ absurd (leaf_lent (leaf_of (word ws (frame_of entry) low)) g.1)
            ]
      ]

  unread_unlent : PageUnread ws r page → looked_up ws r page ≡ Err NotLent
  unfolding looked_up step
  unread_unlent (PageUnread.no_root l b missing) =
      step_stops (ltb (page / 1024) 1024) (frame_fault ws r) (through ws (word ws r (page / 1024)) (page % 1024)) (lt-ltb (page / 1024) 1024 (omega arith)) (missing_unlent ws r b missing)
  unread_unlent (PageUnread.no_table high low table h l n m p b missing) = to_unlent high low table h l n m p b missing

-- what is said of an end
allowed : (receives readable writable : Bool) → readable ≡ true → (receives ≡ true → writable ≡ false) → (readable && not (receives && writable)) ≡ true
allowed receives readable writable r w = grind arith

usable_ok : (receives : Bool) (r : Result Leaf Fault) (f : ℕ) → usable receives r ≡ Ok f →
    (leaf : Leaf) × (r ≡ Ok leaf) × (leaf.readable ≡ true) × (receives ≡ true → leaf.writable ≡ false) × (leaf.frame ≡ f)
usable_ok receives r f e = grind arith

usable_unlent : (receives : Bool) (r : Result Leaf Fault) → usable receives r ≡ Err NotLent → r ≡ Err NotLent
usable_unlent receives r e = grind arith

module _ (ws : List ℕ) (p : Plan) (end : Endpoint) (receives : Bool) where
  pub end_usable : (f : ℕ) → end_frame ws p end receives ≡ Ok f → Usable ws p end receives f
  unfolding end_frame
  end_usable f e =
      let z = usable_ok receives (looked_up ws (root p end.partition) end.page) f e in
      record { leaf = z.0; leads = looked_leads ws (root p end.partition) end.page z.0 z.1; readable = z.2; not_writable = z.3; frame_is = z.4 }

  pub usable_end : (f : ℕ) → Usable ws p end receives f → end_frame ws p end receives ≡ Ok f
  unfolding end_frame
  usable_end f u =
      let leaf = u.leaf in
      rw (leads_looked ws (root p end.partition) end.page leaf u.leads) (rw (allowed receives leaf.readable leaf.writable u.readable u.not_writable) (ap Ok u.frame_is))

  pub end_unread : end_frame ws p end receives ≡ Err NotLent → EndUnread ws p end
  unfolding end_frame
  end_unread e = unlent_unread ws (root p end.partition) end.page (usable_unlent receives (looked_up ws (root p end.partition) end.page) e)

  pub unread_end : EndUnread ws p end → end_frame ws p end receives ≡ Err NotLent
  unfolding end_frame
  unread_end u = rw (unread_unlent ws (root p end.partition) end.page u) refl
