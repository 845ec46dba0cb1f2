-- A walk answers what the page maps to, and a translation what the access reaches.
use Rattle.std.proofs.Common.{◌≡◌, ℕ, ◌/◌, ◌%◌, ◌<◌, true, cond, ◌&&◌, ltb, List, Some, None, Option, sym, refl, ap, subst, arith}
use Rattle.std.proofs.lemmas.Nat.{mod_below}
use Rattle.std.proofs.lemmas.Option.{cond_some, none-some}
use Rattle.std.proofs.lemmas.Bool.{and_parts, and_from, lt-ltb, ltb-true}
use Rattle.words.specs.Frames.{word}
use Rattle.paging.specs.declared.leaf.Leaf.{Leaf}
use Rattle.paging.specs.Entries.{frame_of, is_pointer, leaf_of}
use Rattle.paging.specs.Walks.{has_frame, if_there, leaf_at, table_at, then_leaf, walked}
use Rattle.paging.specs.Mapping.{InMemory, Pointer, LeafEntry, Maps, Finds}
use Rattle.paging.proofs.Tell.{guarded, frame_tells, pointer_tells, leaf_tells, leaf_told}

-- what the first level tells
record FirstLevel (ws : List ℕ) (root high table : ℕ) : Type 0 where
  high_below : high < 1024
  root_there : InMemory ws root
  points : Pointer (word ws root high) table
  table_there : InMemory ws table

module _ (ws : List ℕ) where
  first_level : (root high table : ℕ) → table_at ws root high ≡ Some table → FirstLevel ws root high table
  first_level root high table e =
      let entry = word ws root high in
      let outer = guarded (ltb high 1024 && has_frame ws root) (cond (is_pointer entry && has_frame ws (frame_of entry)) (Some (frame_of entry)) None) table e in
      let inner = cond_some (is_pointer entry && has_frame ws (frame_of entry)) (frame_of entry) table outer.1 in
      let root_good = and_parts (ltb high 1024) (has_frame ws root) outer.0 in
      let entry_good = and_parts (is_pointer entry) (has_frame ws (frame_of entry)) inner.0 in
      subst (FirstLevel ws root high) inner.1 (record {
        high_below = ltb-true high 1024 root_good.0;
        root_there = (frame_tells ws root).0 root_good.1;
        points = (pointer_tells entry).0 entry_good.0;
        table_there = (frame_tells ws (frame_of entry)).0 entry_good.1;
      })

  to_table : (root high table : ℕ) → FirstLevel ws root high table → table_at ws root high ≡ Some table
  to_table root high table f =
      let entry = word ws root high in
      let is : frame_of entry ≡ table = f.points.frame in
      let root_good : (ltb high 1024 && has_frame ws root) ≡ true =
      and_from (ltb high 1024) (has_frame ws root) (lt-ltb high 1024 f.high_below) ((frame_tells ws root).1 f.root_there) in
      let entry_good : (is_pointer entry && has_frame ws (frame_of entry)) ≡ true =
      and_from (is_pointer entry) (has_frame ws (frame_of entry)) ((pointer_tells entry).1 (subst (Pointer entry) (sym is) f.points)) ((frame_tells ws (frame_of entry)).1 (subst (InMemory ws) (sym is) f.table_there)) in
      rw (root_good, entry_good) (ap Some is)

  there : (o : Option Leaf) (leaf : Leaf) → if_there ws o ≡ Some leaf → (o ≡ Some leaf) × InMemory ws leaf.frame
  there None leaf e = absurd (none-some leaf e)
  there (Some found) leaf e =
      let g = cond_some (has_frame ws found.frame) found leaf e in
      (ap Some g.1, subst (λ l. InMemory ws l.frame) g.1 ((frame_tells ws found.frame).0 g.0))

  second_level : (low table : ℕ) (leaf : Leaf) → leaf_at ws table low ≡ Some leaf → LeafEntry (word ws table low) leaf × InMemory ws leaf.frame
  second_level low table leaf e =
      let g = there (leaf_of (word ws table low)) leaf e in
      (leaf_tells (word ws table low) leaf g.0, g.1)

  to_leaf : (low table : ℕ) (leaf : Leaf) → LeafEntry (word ws table low) leaf → InMemory ws leaf.frame → leaf_at ws table low ≡ Some leaf
  to_leaf low table leaf l m = rw (leaf_told (word ws table low) leaf l, (frame_tells ws leaf.frame).1 m)

  through : (low : ℕ) (o : Option ℕ) (leaf : Leaf) → then_leaf ws low o ≡ Some leaf → (table : ℕ) × (o ≡ Some table) × (leaf_at ws table low ≡ Some leaf)
  through low None leaf e = absurd (none-some leaf e)
  through low (Some table) leaf e = (table, refl, e)

  pub walk_maps : (root page : ℕ) (leaf : Leaf) → walked ws root page ≡ Some leaf → Maps ws root page leaf
  unfolding walked
  walk_maps root page leaf e =
      let t = through (page % 1024) (table_at ws root (page / 1024)) leaf e in
      let one = first_level root (page / 1024) t.0 t.1 in
      let two = second_level (page % 1024) t.0 leaf t.2 in
      record {
        high = page / 1024;
        low = page % 1024;
        table = t.0;
        high_below = one.high_below;
        low_below = mod_below page 1024 (omega arith);
        number = omega arith;
        points = one.points;
        leads = two.0;
        root_there = one.root_there;
        table_there = one.table_there;
        frame_there = two.1;
      }

  pub maps_walk : (root page : ℕ) (leaf : Leaf) → Maps ws root page leaf → walked ws root page ≡ Some leaf
  unfolding walked
  maps_walk root page leaf m =
      let high : page / 1024 ≡ m.high = omega (arith, m.number, m.low_below) in
      let low : page % 1024 ≡ m.low = omega (arith, m.number, m.low_below) in
      let one : FirstLevel ws root m.high m.table =
      record { high_below = m.high_below; root_there = m.root_there; points = m.points; table_there = m.table_there } in
      rw (high, low, to_table root m.high m.table one) (to_leaf m.low m.table leaf m.leads m.frame_there)

  pub finds : (root page : ℕ) (answer : Option Leaf) → answer ≡ walked ws root page → Finds ws root page answer
  finds root page answer is = rw is (record { maps = walk_maps root page; found = maps_walk root page })
