-- Memories that agree on a walk's way, and what follows for whole tables.
use Rattle.std.proofs.Common.{◌≡◌, ℕ, ◌+◌, ◌*◌, ◌<◌, List, Some, None, Option, sym, refl, ◌∙◌, subst, inl, inr, arith}
use Rattle.words.specs.Frames.{lent, word, written}
use Rattle.words.proofs.Frame.{lends, reads_back}
use Rattle.paging.specs.declared.leaf.Leaf.{Leaf}
use Rattle.paging.specs.Walks.{walked}
use Rattle.paging.specs.Mapping.{InMemory, Pointer, Maps}
use Rattle.paging.specs.Tables.{PageTableFrame, References, Owns, PointsTo, SameLent, SameTables}
use Rattle.paging.specs.Laws.{LeavesReferenced, Local, OneLeaf, PagesEnd, SameWay, TablesDecide, WalksFind, WritesApart}
use Rattle.std.proofs.lemmas.Option.{same_Some}
use Rattle.paging.proofs.Found.{finds, maps_walk, walk_maps}

pub walks_find : WalksFind
walks_find ws root page = finds ws root page (walked ws root page) refl

pub one_leaf : OneLeaf
one_leaf ws root page a b m n = same_Some a b (sym (maps_walk ws root page a m) ∙ maps_walk ws root page b n)

-- an answer that cannot be is none
never : {X : Type 0} (o : Option X) → ((x : X) → o ≡ Some x → ⊥) → o ≡ None
never None h = refl
never (Some x) h = absurd (h x refl)

pub pages_end : PagesEnd
pages_end ws root page l = never (walked ws root page) (λ leaf e.
    let m = walk_maps ws root page leaf e in omega (arith, m.number, m.high_below, m.low_below))

-- two answers are the same where each has what the other has
same_answers : {X : Type 0} (a b : Option X) → ((x : X) → a ≡ Some x → b ≡ Some x) → ((x : X) → b ≡ Some x → a ≡ Some x) → a ≡ b
same_answers (Some x) b there back = sym (there x refl)
same_answers None (Some y) there back = back y refl
same_answers None None there back = refl

carried : (ws vs : List ℕ) (frame : ℕ) → lent vs frame ≡ lent ws frame → InMemory ws frame → InMemory vs frame
carried ws vs frame same m = record { below = m.below; lent = (lends vs frame).0 (same ∙ (lends ws frame).1 m.lent) }

-- what maps in one memory maps in another that agrees on its way
maps_there : (ws vs : List ℕ) (root page : ℕ) (leaf : Leaf) (m : Maps ws root page leaf) → SameWay ws vs root m.high m.low → Maps vs root page leaf
maps_there ws vs root page leaf m s = record {
  high = m.high;
  low = m.low;
  table = m.table;
  high_below = m.high_below;
  low_below = m.low_below;
  number = m.number;
  points = rw s.root_entry m.points;
  leads = rw (s.table_entry m.table m.points) m.leads;
  root_there = carried ws vs root s.root_lent m.root_there;
  table_there = carried ws vs m.table (s.table_lent m.table m.points) m.table_there;
  frame_there = carried ws vs leaf.frame (s.leaf_lent m.table leaf m.points m.leads) m.frame_there;
}

module _ (ws vs : List ℕ) (root : ℕ) where
  -- equal walks, from agreement on the ways that lead to a leaf in either memory
  same_walk : (page : ℕ) →
      ((leaf : Leaf) (m : Maps ws root page leaf) → SameWay ws vs root m.high m.low) →
      ((leaf : Leaf) (m : Maps vs root page leaf) → SameWay vs ws root m.high m.low) → walked vs root page ≡ walked ws root page
  same_walk page there back = same_answers (walked vs root page) (walked ws root page)
      (λ leaf e. (let m = walk_maps vs root page leaf e in maps_walk ws root page leaf (maps_there vs ws root page leaf m (back leaf m))))
      (λ leaf e. (let m = walk_maps ws root page leaf e in maps_walk vs root page leaf (maps_there ws vs root page leaf m (there leaf m))))

  way_back : (high low : ℕ) → SameWay ws vs root high low → SameWay vs ws root high low
  way_back high low s =
      let here : (table : ℕ) → Pointer (word vs root high) table → Pointer (word ws root high) table = λ table p. rw s.root_entry at p in
      record {
        root_entry = sym s.root_entry;
        table_entry = λ table p. sym (s.table_entry table (here table p));
        root_lent = sym s.root_lent;
        table_lent = λ table p. sym (s.table_lent table (here table p));
        leaf_lent = λ table leaf p l. sym (s.leaf_lent table leaf (here table p) (rw (s.table_entry table (here table p)) at l));
      }

  -- the way of a mapped page is told by its number
  this_way : (us ts : List ℕ) (high low : ℕ) (leaf : Leaf) → low < 1024 → SameWay us ts root high low →
      (m : Maps us root (high * 1024 + low) leaf) → SameWay us ts root m.high m.low
  this_way us ts high low leaf l s m =
      let h : high ≡ m.high = omega (arith, m.number, m.low_below) in
      let k : low ≡ m.low = omega (arith, m.number, m.low_below) in
      subst (λ x. SameWay us ts root m.high x) k (subst (λ x. SameWay us ts root x low) h s)

  local_walk : (high low : ℕ) → low < 1024 → SameWay ws vs root high low → walked vs root (high * 1024 + low) ≡ walked ws root (high * 1024 + low)
  local_walk high low l s = same_walk (high * 1024 + low)
      (λ leaf. this_way ws vs high low leaf l s)
      (λ leaf. this_way vs ws high low leaf l (way_back high low s))

pub local : Local
local = local_walk

pub leaves_named : LeavesReferenced
leaves_named ws root page leaf m = record {
  table = m.table;
  by = record { at = m.high; within = m.high_below; points = m.points };
  at = m.low;
  within = m.low_below;
  valid = m.leads.valid;
  references = m.leads.frame;
}

module _ (ws vs : List ℕ) (root : ℕ) (same : SameTables ws vs root) where
  points_to_there : (table : ℕ) → PointsTo ws root table → PointsTo vs root table
  points_to_there table p = record { at = p.at; within = p.within; points = rw (same root p.at (inl refl) p.within) p.points }

  points_to_back : (table : ℕ) → PointsTo vs root table → PointsTo ws root table
  points_to_back table p = record { at = p.at; within = p.within; points = rw (same root p.at (inl refl) p.within) at p.points }

  pub kernel_there : (frame : ℕ) → PageTableFrame ws root frame → PageTableFrame vs root frame
  kernel_there frame (inl e) = inl e
  kernel_there frame (inr p) = inr (points_to_there frame p)

  pub kernel_back : (frame : ℕ) → PageTableFrame vs root frame → PageTableFrame ws root frame
  kernel_back frame (inl e) = inl e
  kernel_back frame (inr p) = inr (points_to_back frame p)

  pub tables_back : SameTables vs ws root
  tables_back frame k kernel l = sym (same frame k (kernel_back frame kernel) l)

  pub names_there : (frame : ℕ) → References ws root frame → References vs root frame
  names_there frame n =
      let e = same n.table n.at (inr n.by) n.within in
      record {
        table = n.table;
        by = points_to_there n.table n.by;
        at = n.at;
        within = n.within;
        valid = rw e n.valid;
        references = rw e n.references;
      }

  pub owns_there : (frame : ℕ) → Owns ws root frame → Owns vs root frame
  owns_there frame (inl kernel) = inl (kernel_there frame kernel)
  owns_there frame (inr references) = inr (names_there frame references)

  -- the way of a page leads through the tables alone
  pub tables_way : SameLent ws vs root → (high low : ℕ) → high < 1024 → low < 1024 → SameWay ws vs root high low
  tables_way lents high low high_below low_below =
      let by : (table : ℕ) → Pointer (word ws root high) table → PointsTo ws root table = λ table p. record { at = high; within = high_below; points = p } in
      record {
        root_entry = same root high (inl refl) high_below;
        table_entry = λ table p. same table low (inr (by table p)) low_below;
        root_lent = lents root (inl (inl refl));
        table_lent = λ table p. lents table (inl (inr (by table p)));
        leaf_lent = λ table l p e. lents l.frame (inr (record { table = table; by = by table p; at = low; within = low_below; valid = e.valid; references = e.frame }));
      }

-- two memories with the same tables have the same frames of the root
module _ (ws vs : List ℕ) (root : ℕ) (same : SameTables ws vs root) where
  pub names_back : (frame : ℕ) → References vs root frame → References ws root frame
  names_back = names_there vs ws root (tables_back ws vs root same)

  pub owns_back : (frame : ℕ) → Owns vs root frame → Owns ws root frame
  owns_back = owns_there vs ws root (tables_back ws vs root same)

pub tables_decide : TablesDecide
tables_decide ws vs root same =
    let back = tables_back ws vs root same in
    let lent_back : SameLent ws vs root → SameLent vs ws root = λ lents frame owned. sym (lents frame (owns_back ws vs root same frame owned)) in
    record {
      back = back;
      points_to = points_to_there ws vs root same;
      references = names_there ws vs root same;
      walks = λ lents page. same_walk ws vs root page
          (λ leaf m. tables_way ws vs root same lents m.high m.low m.high_below m.low_below)
          (λ leaf m. tables_way vs ws root back (lent_back lents) m.high m.low m.high_below m.low_below);
    }

pub writes_apart : WritesApart
writes_apart ws root frame offset value l apart =
    let writes = reads_back ws frame offset value in
    let same : SameTables ws (written ws frame offset value) root =
    λ f k kernel b. writes.others (f * 1024 + k) (λ e. apart (let s : f ≡ frame = omega arith in subst (PageTableFrame ws root) s kernel)) in
    let lents : SameLent ws (written ws frame offset value) root = λ f _. rw writes.as_many refl in
    (tables_decide ws (written ws frame offset value) root same).walks lents
