-- A translation answers the place that the access reaches.
use Rattle.std.proofs.Common.{rules, ◌≡◌, ℕ, ◌/◌, ◌%◌, Bool, true, cond, List, Some, None, Ok, Err, Decides, Option, Result, sym, refl, ap, subst, arith}
use Rattle.std.proofs.lemmas.Nat.{mod_below}
use Rattle.paging.specs.declared.access.Access.{Access}
use Rattle.paging.specs.declared.leaf.Leaf.{Leaf}
use Rattle.paging.specs.declared.physical.PhysicalAddress.{PhysicalAddress}
use Rattle.paging.specs.Accesses.{PageFault, page_fault, permitted, physical_in}
use Rattle.paging.specs.Walks.{then_physical, translated, walked}
use Rattle.paging.specs.Mapping.{Allows, Reaches, Translates}
use Rattle.paging.specs.Laws.{TranslationsReach}
use Rattle.paging.proofs.Found.{maps_walk, walk_maps}

pub permitted_tells : (leaf : Leaf) (access : Access) → Decides (permitted leaf access) (Allows leaf access)
permitted_tells leaf access = search rules

-- an answer or a fault, as a test tells
module _ {X E : Type 0} (x : X) (e : E) where
  tested_ok : (test : Bool) (y : X) → cond test (Ok x) (Err e) ≡ Ok y → (test ≡ true) × (x ≡ y)
  tested_ok test y h = search rules

  tested_err : (test : Bool) (d : E) → cond test (Ok x) (Err e) ≡ Err d → e ≡ d
  tested_err test d h = search rules

module _ (address : ℕ) (access : Access) where
  placed_through : (o : Option Leaf) (physical : PhysicalAddress) → then_physical address access o ≡ Ok physical → (leaf : Leaf) × (o ≡ Some leaf) × Allows leaf access × (physical_in leaf.frame address ≡ physical)
  placed_through None physical e = absurd (cc)
  placed_through (Some leaf) physical e =
      let t = tested_ok (physical_in leaf.frame address) (page_fault access) (permitted leaf access) physical e in
      (leaf, refl, (permitted_tells leaf access).0 t.0, t.1)

  faulted : (o : Option Leaf) (d : PageFault) → then_physical address access o ≡ Err d → d.access ≡ access
  faulted None d e = cc
  faulted (Some leaf) d e = ap (λ f. f.access) (sym (tested_err (physical_in leaf.frame address) (page_fault access) (permitted leaf access) d e))

module _ (ws : List ℕ) (root address : ℕ) (access : Access) where
  reaches : (physical : PhysicalAddress) → translated ws root address access ≡ Ok physical → Reaches ws root address access physical
  unfolding translated
  reaches physical e =
      let t = placed_through address access (walked ws root (address / 4096)) physical e in
      subst (Reaches ws root address access) t.3 (record {
        page = address / 4096;
        leaf = t.0;
        maps = walk_maps ws root (address / 4096) t.0 t.1;
        allows = t.2;
        frame = refl;
        inside = mod_below address 4096 (omega arith);
        number = omega arith;
      })

  placed : (physical : PhysicalAddress) → Reaches ws root address access physical → translated ws root address access ≡ Ok physical
  unfolding translated
  placed physical r =
      let page : address / 4096 ≡ r.page = omega (arith, r.number, r.inside) in
      let offset : address % 4096 ≡ physical.offset = omega (arith, r.number, r.inside) in
      rw (page, maps_walk ws root r.page r.leaf r.maps, (permitted_tells r.leaf access).1 r.allows, offset, sym r.frame) refl

  faults : (d : PageFault) → translated ws root address access ≡ Err d → d.access ≡ access
  unfolding translated
  faults = faulted address access (walked ws root (address / 4096))

  pub translates : (answer : Result PhysicalAddress PageFault) → answer ≡ translated ws root address access → Translates ws root address access answer
  translates answer is = rw is (record { reaches = reaches; placed = placed; faults = faults })

pub translations_reach : TranslationsReach
translations_reach ws root address access = translates ws root address access (translated ws root address access) refl
