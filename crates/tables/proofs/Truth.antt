-- What a look-up gives, and a coherent TLB.
use Rattle.std.proofs.Common.{◌≡◌, ℕ, zero, suc, ◌<◌, Bool, true, false, cond, eqb, List, length, get_or, replicate, is_some, Some, None, Option, sym, refl, ap, ◌∙◌, inl, inr, arith}
use Rattle.std.proofs.lemmas.Nat.{mod_below}
use Rattle.std.proofs.ByRecursion.{All-get_or, All-set, All-weaker}
use Rattle.std.proofs.lemmas.List.{get_or_past, get_or-set_same}
use Rattle.std.proofs.lemmas.Bool.{cases_Bool, cases_lt, eq-eqb, eqb-true, false≢true, true≢false}
use Rattle.std.proofs.lemmas.Option.{cond_some, none-some}
use Rattle.std.specs.List.{AllByRecursion as All}
use Rattle.costs.specs.Costs.{page_walk}
use Rattle.costs.specs.Cycles.{walk_cycles}
use Rattle.paging.specs.declared.access.Access.{Access}
use Rattle.paging.specs.declared.leaf.Leaf.{Leaf}
use Rattle.paging.specs.Accesses.{permitted}
use Rattle.paging.specs.Walks.{then_physical, translated, walked}
use Rattle.tables.specs.declared.tlb.Lookup.{Lookup}
use Rattle.tables.specs.declared.tlb.Tlb.{Tlb}
use Rattle.tables.specs.declared.tlb.TlbEntry.{TlbEntry}
use Rattle.tables.specs.Tlb.{entry_of, filled, filled_by, found, found_by, granted, hit, known, leaf_for, put, reply}
use Rattle.tables.specs.Coherent.{Coherent, TrueEntry, Truthful, reached}
use Rattle.tables.specs.Laws.{Coherence, LookUps}

module _ (access : Access) where
  found_cost : (o walk : Option Leaf) → walk_cycles (found_by access o walk).walked ≡ cond (is_some o) 0 page_walk
  found_cost None walk = refl
  found_cost (Some leaf) walk = refl

  -- a fault has no leaf to fill in
  faulted : (walked : Bool) (o : Option Leaf) → (reply walked o).frame ≡ None → o ≡ None
  faulted walked None e = refl
  faulted walked (Some leaf) e = cc

  allowed : (walked : Bool) (o : Option Leaf) → is_some (reply walked o).frame ≡ true → (leaf : Leaf) × (o ≡ Some leaf)
  allowed walked None e = absurd (false≢true e)
  allowed walked (Some leaf) e = (leaf, refl)

  module _ (tlb : Tlb) (page : ℕ) where
    faulted_fills : (o walk : Option Leaf) → (found_by access o walk).frame ≡ None → filled_by tlb page access o walk ≡ tlb
    faulted_fills None walk e = ap (put tlb page) (faulted true (granted access walk) e)
    faulted_fills (Some leaf) walk e = refl

    pub known_put : (leaf : Leaf) → length tlb.entries ≡ 16 → known (put tlb page (Some leaf)) page ≡ Some leaf
    known_put leaf e =
        let entry : Option TlbEntry = Some (record { page = page; leaf = leaf }) in
        let room : entry_of page < length tlb.entries = omega (arith, mod_below page 16 (omega arith)) in
        ap (leaf_for page) (get_or-set_same tlb.entries (entry_of page) entry None room) ∙ rw (eq-eqb page page refl) refl

    allowed_fills : (o walk : Option Leaf) → known tlb page ≡ o → length tlb.entries ≡ 16 → is_some (found_by access o walk).frame ≡ true →
        is_some (known (filled_by tlb page access o walk) page) ≡ true
    allowed_fills None walk is e ok =
        let a = allowed true (granted access walk) ok in
        ap (λ o. is_some (known (put tlb page o) page)) a.1 ∙ ap is_some (known_put a.0 e)
    allowed_fills (Some leaf) walk is e ok = ap is_some is

pub look_ups : LookUps
unfolding found filled
look_ups tlb page access walk = record {
  cost = found_cost access (known tlb page) walk;
  fault = faulted_fills access tlb page (known tlb page) walk;
  fills = allowed_fills access tlb page (known tlb page) walk refl;
}

-- a leaf that permits an access leads to the place that translation gives, any other to its fault
through : (walked : Bool) (address : ℕ) (access : Access) (o : Option Leaf) → reached (reply walked (granted access o)) address access ≡ then_physical address access o
through walked address access None = refl
through walked address access (Some leaf) = elim (cases_Bool (permitted leaf access)) [ inl e ↦ rw e refl | inr e ↦ rw e refl ]

granted_leaf : (access : Access) (o : Option Leaf) (leaf : Leaf) → granted access o ≡ Some leaf → o ≡ Some leaf
granted_leaf access None leaf e = e
granted_leaf access (Some found) leaf e = ap Some (cond_some (permitted found access) found leaf e).1

module _ (words : List ℕ) (root page : ℕ) where
  true_leaf : (o : Option TlbEntry) (leaf : Leaf) → TrueEntry words root o → leaf_for page o ≡ Some leaf → walked words root page ≡ Some leaf
  true_leaf None leaf t e = absurd (none-some leaf e)
  true_leaf (Some entry) leaf t e =
      let g = cond_some (eqb entry.page page) entry.leaf leaf e in
      ap (walked words root) (sym (eqb-true entry.page page g.0)) ∙ t ∙ ap Some g.1

  module _ (tlb : Tlb) (coherent : Coherent tlb words root) where
    true_known : (leaf : Leaf) → known tlb page ≡ Some leaf → walked words root page ≡ Some leaf
    true_known leaf e = elim (cases_lt (entry_of page) (length tlb.entries)) [
      | inl l ↦ true_leaf (get_or tlb.entries (entry_of page) None) leaf (All-get_or (TrueEntry words root) tlb.entries (entry_of page) None l coherent) e
      | inr l ↦ true_leaf None leaf tt (sym (ap (leaf_for page) (get_or_past tlb.entries (entry_of page) None l)) ∙ e)
    ]

    module _ (access : Access) where
      true_found : (o : Option Leaf) → known tlb page ≡ o → (address : ℕ) →
          reached (found_by access o (walked words root page)) address access ≡ then_physical address access (walked words root page)
      true_found None is address = through true address access (walked words root page)
      true_found (Some leaf) is address = through false address access (Some leaf) ∙ ap (then_physical address access) (sym (true_known leaf is))

      true_put : (o : Option Leaf) → granted access (walked words root page) ≡ o → Coherent (put tlb page o) words root
      true_put None is = coherent
      true_put (Some leaf) is =
          All-set (TrueEntry words root) tlb.entries (entry_of page) (Some (record { page = page; leaf = leaf })) (granted_leaf access (walked words root page) leaf is) coherent

      true_filled : (o : Option Leaf) → Coherent (filled_by tlb page access o (walked words root page)) words root
      true_filled None = true_put (granted access (walked words root page)) refl
      true_filled (Some leaf) = coherent

      pub truthful : Truthful (filled tlb page access (walked words root page)) words root page access (found tlb page access (walked words root page))
      unfolding filled found translated
      truthful = record {
        still = true_filled (known tlb page);
        translates = λ address e. rw e (true_found (known tlb page) refl address);
      }

all_none : (words : List ℕ) (root n : ℕ) → All (TrueEntry words root) (replicate n None)
all_none words root zero = tt
all_none words root (suc n) = (tt, all_none words root n)

moved : (words others : List ℕ) (root : ℕ) → ((page : ℕ) → walked others root page ≡ walked words root page) → (o : Option TlbEntry) → TrueEntry words root o → TrueEntry others root o
moved words others root same None t = t
moved words others root same (Some entry) t = same entry.page ∙ t

pub coherence : Coherence
coherence = record {
  first = λ words root. all_none words root 16;
  find = λ tlb words root page access coherent. truthful words root page tlb coherent access;
  moves = λ tlb words others root same coherent. All-weaker (TrueEntry words root) (TrueEntry others root) (moved words others root same) tlb.entries coherent;
}

-- for what a look-up answers and leaves
pub carried : (tlb after : Tlb) (words : List ℕ) (root page : ℕ) (access : Access) (lookup : Lookup) →
    lookup ≡ found tlb page access (walked words root page) → after ≡ filled tlb page access (walked words root page) →
    Coherent tlb words root → Truthful after words root page access lookup
carried tlb after words root page access lookup e f coherent = rw (e, f) (truthful words root page tlb coherent access)

-- a look-up that walks nothing fills nothing
unwalked_by : (tlb : Tlb) (page : ℕ) (access : Access) (o walk : Option Leaf) → (found_by access o walk).walked ≡ false → filled_by tlb page access o walk ≡ tlb
unwalked_by tlb page access None walk e = absurd (true≢false e)
unwalked_by tlb page access (Some leaf) walk e = refl

pub unwalked_look : (tlb : Tlb) (page : ℕ) (access : Access) (walk : Option Leaf) → (found tlb page access walk).walked ≡ false → filled tlb page access walk ≡ tlb
unfolding found filled
unwalked_look tlb page access walk = unwalked_by tlb page access (known tlb page) walk

-- a page that is known needs no walk: whatever one would answer, the frame is the same and nothing is filled
hit_by : (tlb : Tlb) (page : ℕ) (access : Access) (frame : ℕ) (o walk : Option Leaf) → found_by access o None ≡ hit frame →
    (found_by access o walk ≡ hit frame) × (filled_by tlb page access o walk ≡ tlb)
hit_by tlb page access frame None walk e = absurd (none-some frame (ap (λ l. l.frame) e))
hit_by tlb page access frame (Some leaf) walk e = (e, refl)

pub known_hit : (tlb : Tlb) (page : ℕ) (access : Access) (frame : ℕ) (walk : Option Leaf) → found tlb page access None ≡ hit frame →
    (found tlb page access walk ≡ hit frame) × (filled tlb page access walk ≡ tlb)
unfolding found filled
known_hit tlb page access frame walk = hit_by tlb page access frame (known tlb page) walk
