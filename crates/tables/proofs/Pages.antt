-- What a row of look-ups tells of the TLB after it.
use Rattle.std.proofs.Common.{◌≡◌, ℕ, Bool, true, false, eqb, ◌⊎◌, List, length, get_or, is_some, Some, None, Decides, Option, sym, refl, ap, ◌∙◌, subst, inl, inr, arith}
use Rattle.std.proofs.lemmas.Nat.{mod_below}
use Rattle.std.proofs.lemmas.Bool.{both_ways, cases_Bool, cases_eq, cond-true, cond-false, eqb-true, false_from_ne_true, ne_eqb}
use Rattle.std.proofs.lemmas.List.{get_or-replicate, get_or-set_other, length-replicate, length-set}
use Rattle.costs.specs.Costs.{page_walk}
use Rattle.paging.specs.declared.access.Access.{Access}
use Rattle.paging.specs.declared.leaf.Leaf.{Leaf}
use Rattle.paging.specs.Accesses.{permitted}
use Rattle.tables.specs.declared.tlb.Tlb.{Tlb}
use Rattle.tables.specs.declared.tlb.TlbEntry.{TlbEntry}
use Rattle.tables.specs.Tlb.{empty_tlb, entry_of, filled, filled_by, granted, known, leaf_for, put}
use Rattle.tables.specs.Pages.{Granted, GrantedTo, Kept, LeavesPage, PageUse, page_used, tlb_after}
use Rattle.tables.specs.Laws.{RemembersPages}
use Rattle.tables.proofs.Rows.{told}
use Rattle.tables.proofs.Truth.{known_put, look_ups}

abbrev WholeTlb : Tlb → Type 0
WholeTlb tlb = length tlb.entries ≡ 16

abbrev is_known : ℕ → Tlb → Bool
is_known page tlb = is_some (known tlb page)

-- an entry is for one page at most
one_page : (o : Option TlbEntry) (a b : ℕ) → is_some (leaf_for a o) ≡ true → (a ≡ b → ⊥) → is_some (leaf_for b o) ≡ false
one_page None a b h ne = refl
one_page (Some entry) a b h ne = elim (cases_Bool (eqb entry.page a)) [
  | inl e ↦ let other : eqb entry.page b ≡ false = ne_eqb entry.page b (λ t. ne (sym (eqb-true entry.page a e) ∙ t)) in rw other refl
  | inr e ↦ absurd (both_ways (is_some (leaf_for a (Some entry))) (rw e refl) h)
]

-- a walk is granted, or nothing is
grants : (u : PageUse) → Granted u ⊎ (granted u.access u.walk ≡ None)
grants u = by_walk u.walk refl where
  by_walk : (walk : Option Leaf) → u.walk ≡ walk → Granted u ⊎ (granted u.access u.walk ≡ None)
  by_walk None e = inr (rw e refl)
  by_walk (Some leaf) e = elim (cases_Bool (permitted leaf u.access)) [ inl p ↦ inl (leaf, e, p) | inr p ↦ inr (rw (e, p) refl) ]

granted_walk : (u : PageUse) (g : Granted u) → granted u.access u.walk ≡ Some g.0
granted_walk u g = let is = g.1 in let may = g.2 in rw (is, may) refl

module _ (tlb : Tlb) (page : ℕ) (access : Access) where
  whole_put : (o : Option Leaf) → WholeTlb tlb → WholeTlb (put tlb page o)
  whole_put None whole = whole
  whole_put (Some leaf) whole = length-set tlb.entries (entry_of page) (Some (record { page = page; leaf = leaf })) ∙ whole

  whole_filled : (o walk : Option Leaf) → WholeTlb tlb → WholeTlb (filled_by tlb page access o walk)
  whole_filled None walk whole = whole_put (granted access walk) whole
  whole_filled (Some leaf) walk whole = whole

  -- nothing granted, nothing filled
  refused : (o walk : Option Leaf) → granted access walk ≡ None → filled_by tlb page access o walk ≡ tlb
  refused None walk e = ap (put tlb page) e
  refused (Some leaf) walk e = refl

  -- a look-up that is granted leaves its page known
  known_filled : (o walk : Option Leaf) (leaf : Leaf) → known tlb page ≡ o → granted access walk ≡ Some leaf → WholeTlb tlb → is_known page (filled_by tlb page access o walk) ≡ true
  known_filled None walk leaf is e whole = ap (λ o. is_known page (put tlb page o)) e ∙ ap is_some (known_put access tlb page leaf whole)
  known_filled (Some found) walk leaf is e whole = ap is_some is

  -- a page that has another entry stays as it was
  put_away : (o : Option Leaf) (other : ℕ) → (entry_of other ≡ entry_of page → ⊥) → known (put tlb page o) other ≡ known tlb other
  put_away None other away = refl
  put_away (Some leaf) other away =
      ap (leaf_for other) (get_or-set_other tlb.entries (entry_of page) (entry_of other) (Some (record { page = page; leaf = leaf })) None away)

  filled_away : (o walk : Option Leaf) (other : ℕ) → (entry_of other ≡ entry_of page → ⊥) → known (filled_by tlb page access o walk) other ≡ known tlb other
  filled_away None walk other away = put_away (granted access walk) other away
  filled_away (Some leaf) walk other away = refl

module _ (page : ℕ) where
  -- one look-up
  each : (tlb : Tlb) (u : PageUse) → WholeTlb tlb → Decides (is_known page (page_used tlb u)) (GrantedTo page u ⊎ ((is_known page tlb ≡ true) × LeavesPage page u))
  unfolding filled
  each tlb u whole = elim (grants u) [
    | inr none ↦
        let same : page_used tlb u ≡ tlb = refused tlb u.page u.access (known tlb u.page) u.walk none in
        let not_granted : Granted u → ⊥ = λ g. absurd (both_ways (is_some (granted u.access u.walk)) (ap is_some none) (ap is_some (granted_walk u g))) in (
          (λ h. inr (sym (ap (is_known page) same) ∙ h, λ k g. not_granted g)),
          λ t. elim t [ inl g ↦ absurd (not_granted g.1) | inr p ↦ ap (is_known page) same ∙ p.0 ],
        )
    | inl g ↦
        let there : is_known u.page (page_used tlb u) ≡ true = known_filled tlb u.page u.access (known tlb u.page) u.walk g.0 refl (granted_walk u g) whole in
        elim (cases_eq u.page page) [
          | inl e ↦ ((λ h. inl (e, g)), λ t. subst (λ (p : ℕ). is_known p (page_used tlb u) ≡ true) e there)
          | inr ne ↦ elim (cases_eq (entry_of page) (entry_of u.page)) [
            | inl physical ↦
                let gone : is_known page (page_used tlb u) ≡ false =
                ap (λ at. is_some (leaf_for page (get_or (page_used tlb u).entries at None))) physical
                ∙ one_page (get_or (page_used tlb u).entries (entry_of u.page) None) u.page page there ne in (
                  (λ h. absurd (both_ways (is_known page (page_used tlb u)) gone h)),
                  λ t. absurd (elim t [ inl o ↦ ne o.0 | inr p ↦ p.1 (sym physical, ne) g ]),
                )
            | inr away ↦
                let now : is_known page (page_used tlb u) ≡ is_known page tlb = ap is_some (filled_away tlb u.page u.access (known tlb u.page) u.walk page away) in (
                  (λ h. inr (sym now ∙ h, λ k. absurd (away (sym k.0)))),
                  λ t. elim t [ inl o ↦ absurd (ne o.0) | inr p ↦ now ∙ p.0 ],
                )
          ]
        ]
  ]

  nothing_known : is_known page empty_tlb ≡ false
  nothing_known = let none : Option TlbEntry = None in ap (λ o. is_some (leaf_for page o)) (get_or-replicate 16 (entry_of page) none none (mod_below page 16 (omega arith)))

  pub whole_used : (tlb : Tlb) (u : PageUse) → WholeTlb tlb → WholeTlb (page_used tlb u)
  unfolding filled
  whole_used tlb u = whole_filled tlb u.page u.access (known tlb u.page) u.walk

  kept : (row : List PageUse) → Decides (is_known page (tlb_after empty_tlb row)) (Kept page row)
  unfolding tlb_after
  kept = told (GrantedTo page) (LeavesPage page) Tlb WholeTlb page_used tlb_after (is_known page)
      whole_used (λ tlb. refl) (λ tlb u row. refl) each empty_tlb (let none : Option TlbEntry = None in length-replicate 16 none) nothing_known

pub remembers_pages : RemembersPages
remembers_pages row =
    let tlb = tlb_after empty_tlb row in
    record {
      is_known = λ page. kept page row;
      no_walk = λ u k. (look_ups tlb u.page u.access u.walk).cost ∙ cond-true (is_known u.page tlb) 0 page_walk ((kept u.page row).1 k);
      a_walk = λ u out. (look_ups tlb u.page u.access u.walk).cost
          ∙ cond-false (is_known u.page tlb) 0 page_walk (false_from_ne_true (is_known u.page tlb) (λ h. out ((kept u.page row).0 h)));
    }
