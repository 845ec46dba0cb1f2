-- Rules that are asked one after the other answer with the first finding.
-- A finding has a rule and a place, and says with which refusal the plan is refused.
use Rattle.std.proofs.Common.{◌≡◌, ℕ, suc, ◌<◌, ◌≤◌, Bool, true, false, List, [], ◌∷◌, length, Some, None, Decides, Option, sym, refl, ◌∙◌, subst, inl, inr, arith}
use Rattle.std.proofs.lemmas.Bool.{both_ways, cases_eq, cases_lt, eq-eqb, ne_eqb}
use Rattle.std.specs.Option.{option_or}
use Rattle.ranges.specs.Questions.{first}
use Rattle.ranges.proofs.Questions.{first_is, none_below, or_none, or_some}
use Rattle.plan.specs.declared.refusal.Refusal.{Refusal}
use Rattle.plan.specs.Refused.{index_in}
use Rattle.plan.specs.Rules.{broken_unless}
use Rattle.plan.proofs.Decides.{failed, passed}
use Rattle.checker.specs.Found.{Earlier}

place_here : (ns : List ℕ) (n m : ℕ) → n ≡ m → index_in (n ∷ ns) m ≡ 0
unfolding index_in
place_here ns n m e = rw (eq-eqb n m e) refl

place_later : (ns : List ℕ) (n m : ℕ) → (n ≡ m → ⊥) → index_in (n ∷ ns) m ≡ suc (index_in ns m)
unfolding index_in
place_later ns n m e = rw (ne_eqb n m e) refl

or_nothing : {X : Type 0} (o : Option X) → option_or o None ≡ o
or_nothing o = grind arith

module _ {F : Type 0} (rule place : F → ℕ) (says : F → Refusal) (Found : F → Type 0) where
  -- the answer of one rule, whose number is n
  pub record Stage (s : Option Refusal) (n : ℕ) : Type 0 where
    pub kept : s ≡ None → (d : F) → rule d ≡ n → Found d → ⊥
    pub broken : (e : Refusal) → s ≡ Some e → (f : F) × (says f ≡ e) × Found f × (rule f ≡ n) × ((d : F) → rule d ≡ n → Found d → place f ≤ place d)

  -- the answer of the rules with these numbers, asked in this order
  pub record Asked (s : Option Refusal) (ns : List ℕ) : Type 0 where
    pub kept : s ≡ None → (d : F) → index_in ns (rule d) < length ns → Found d → ⊥
    pub broken : (e : Refusal) → s ≡ Some e →
        (f : F) × (says f ≡ e) × Found f × ((d : F) → index_in ns (rule d) < length ns → Found d → Earlier (λ x. index_in ns (rule x)) place f d)

  nothing : Asked None []
  nothing = record { kept = λ e d l b. omega (arith, l); broken = λ e h. absurd (cc) }

  -- a rule before others, which may count on it
  pub chain : (s r : Option Refusal) (n : ℕ) (ns : List ℕ) → Stage s n → (s ≡ None → Asked r ns) → Asked (option_or s r) (n ∷ ns)
  chain s r n ns here rest = record {
    kept = λ e d h b. let z = or_none s r e in elim (cases_eq n (rule d)) [
      | inl same ↦ here.kept z.0 d (sym same) b
      | inr ne ↦ (rest z.0).kept z.1 d (omega (arith, h, place_later ns n (rule d) ne)) b
    ];
    broken = λ e h. elim (or_some s r e h) [
      | inl g ↦ let q = here.broken e g in (
        q.0,
        q.1,
        q.2,
        λ d l b. elim (cases_eq n (rule d)) [
          | inl same ↦ inr (place_here ns n (rule q.0) (sym q.3) ∙ sym (place_here ns n (rule d) same), q.4 d (sym same) b)
          | inr ne ↦ inl (omega (arith, place_here ns n (rule q.0) (sym q.3), place_later ns n (rule d) ne))
        ],
      )
      | inr g ↦ let q = (rest g.0).broken e g.1 in
          let at = place_later ns n (rule q.0) (λ same. here.kept g.0 q.0 (sym same) q.2) in (
            q.0,
            q.1,
            q.2,
            λ d l b. elim (cases_eq n (rule d)) [
              | inl same ↦ absurd (here.kept g.0 d (sym same) b)
              | inr ne ↦ let there = place_later ns n (rule d) ne in
                  elim (q.3 d (omega (arith, l, there)) b) [
                    | inl before ↦ inl (omega (arith, at, there, before))
                    | inr same ↦ inr (omega (arith, at, there, same.0), same.1)
                  ]
            ],
          )
    ];
  }

  -- the last rule
  pub last : (s : Option Refusal) (n : ℕ) → Stage s n → Asked s (n ∷ [])
  last s n here = subst (λ x. Asked x (n ∷ [])) (or_nothing s) (chain s None n [] here (λ _. nothing))

  -- a rule with one place
  pub single : (n : ℕ) (kept : Bool) (f : F) → rule f ≡ n → ((d : F) → rule d ≡ n → Found d → d ≡ f) →
      (kept ≡ true → Found f → ⊥) → (kept ≡ false → Found f) → Stage (broken_unless kept (says f)) n
  single n kept f num only no_fault faulty = record {
    kept = λ h d k b. no_fault (passed kept (says f) h) (subst Found (only d k b) b);
    broken = λ e h. let z = failed kept (says f) e h in (
      f,
      sym z.1,
      faulty z.0,
      num,
      λ c k b. subst (λ x. place f ≤ place x) (sym (only c k b)) (omega arith),
    );
  }

  -- a rule with many places, each with an answer of its own
  pub places : (n many : ℕ) (a : ℕ → Option Refusal) →
      ((k : ℕ) → k < many → a k ≡ None → (d : F) → rule d ≡ n → place d ≡ k → Found d → ⊥) →
      ((k : ℕ) (e : Refusal) → k < many → a k ≡ Some e → (f : F) × (says f ≡ e) × Found f × (rule f ≡ n) × (place f ≡ k)) →
      ((d : F) → rule d ≡ n → Found d → place d < many) → Stage (first a many) n
  places n many a none some within = record {
    kept = λ h d k b. none (place d) (within d k b) (none_below a many h (place d) (within d k b)) d k refl b;
    broken = λ e h.
        let z = first_is a many e h in
        let q = some z.0 e z.1 z.2 in (
          q.0,
          q.1,
          q.2,
          q.3,
          λ d k b. elim (cases_lt (place d) z.0) [
            | inl l ↦ absurd (none (place d) (within d k b) (z.3 (place d) l) d k refl b)
            | inr l ↦ omega (arith, q.4)
          ],
        );
  }

  -- a rule with many places, each decided by a test
  pub each : (n many : ℕ) (E : ℕ → F) (test : ℕ → Bool) (Fits : ℕ → Type 0) →
      ((k : ℕ) → rule (E k) ≡ n) → ((k : ℕ) → k < many → place (E k) ≡ k) →
      ((k : ℕ) → k < many → Decides (test k) (Fits k)) →
      ((k : ℕ) → k < many → (Fits k → ⊥) → Found (E k)) →
      ((d : F) → rule d ≡ n → Found d → (place d < many) × (Fits (place d) → ⊥)) → Stage (first (λ k. broken_unless (test k) (says (E k))) many) n
  each n many E test Fits num at decides faulty fault_of = places n many (λ k. broken_unless (test k) (says (E k)))
      (λ k l h d r p b. (fault_of d r b).1 (subst Fits (sym p) ((decides k l).0 (passed (test k) (says (E k)) h))))
      (λ k e l h. (let f = failed (test k) (says (E k)) e h in
      (E k, sym f.1, faulty k l (λ g. both_ways (test k) f.0 ((decides k l).1 g)), num k, at k l)))
      (λ d r b. (fault_of d r b).0)
