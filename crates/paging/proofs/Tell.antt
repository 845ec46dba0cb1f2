-- What the tests on frames and entries tell.
use Rattle.std.proofs.Common.{◌≡◌, ℕ, Bool, true, false, cond, not, ◌&&◌, ◌||◌, List, Some, None, Decides, Option, refl, ap, subst, arith}
use Rattle.std.proofs.lemmas.Bool.Decides.{nat_tests}
use Rattle.std.proofs.lemmas.Option.{cond_some, none-some}
use Rattle.paging.specs.declared.leaf.Leaf.{Leaf}
use Rattle.paging.specs.Entries.{fields, frame_of, is_pointer, is_leaf, leaf_of, is_readable, is_writable}
use Rattle.paging.specs.Walks.{has_frame}
use Rattle.paging.specs.Mapping.{InMemory, Pointer, LeafEntry}

pub frame_tells : (ws : List ℕ) (frame : ℕ) → Decides (has_frame ws frame) (InMemory ws frame)
frame_tells ws frame = ((λ e. record { below = grind (arith, nat_tests); lent = grind (arith, nat_tests) }), λ m. grind (arith, nat_tests))

pub pointer_tells : (entry : ℕ) → Decides (is_pointer entry) (Pointer entry (frame_of entry))
pointer_tells entry = (
  (λ e. record { valid = grind (arith, nat_tests); not_readable = grind (arith, nat_tests); not_writable = grind (arith, nat_tests); not_executable = grind (arith, nat_tests); frame = refl }),
  λ p. grind (arith, nat_tests),
)

-- an answer that a test guards
pub guarded : {X : Type 0} (test : Bool) (o : Option X) (x : X) → cond test o None ≡ Some x → (test ≡ true) × (o ≡ Some x)
guarded true o x e = (refl, e)
guarded false o x e = absurd (none-some x e)

-- the test of a leaf, for the flags of an entry
module _ (entry : ℕ) (e : (is_leaf entry && (is_readable entry || not (is_writable entry))) ≡ true) where
  told : LeafEntry entry (fields entry)
  told = record {
    valid = grind (arith, nat_tests);
    user = grind (arith, nat_tests);
    accessed = grind (arith, nat_tests);
    dirty = grind (arith, nat_tests);
    readable = refl;
    writable = refl;
    executable = refl;
    frame = refl;
    not_nothing = grind (arith, nat_tests);
    not_write_only = λ w. grind (arith, nat_tests);
  }

-- an entry answers a leaf if and only if it is that leaf
pub leaf_tells : (entry : ℕ) (leaf : Leaf) → leaf_of entry ≡ Some leaf → LeafEntry entry leaf
leaf_tells entry leaf e =
    let g = cond_some (is_leaf entry && (is_readable entry || not (is_writable entry))) (fields entry) leaf e in
    subst (LeafEntry entry) g.1 (told entry g.0)

pub leaf_told : (entry : ℕ) (leaf : Leaf) → LeafEntry entry leaf → leaf_of entry ≡ Some leaf
leaf_told entry leaf l =
    let same : fields entry ≡ leaf = rw (l.readable, l.writable, l.executable, l.frame) refl in
    let test : (is_leaf entry && (is_readable entry || not (is_writable entry))) ≡ true = grind (arith, nat_tests) in
    rw test (ap Some same)
