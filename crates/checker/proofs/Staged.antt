-- Each rule is a stage of the chain of rules.
use Rattle.std.proofs.Common.{◌≡◌, ℕ, ◌<◌, Bool, true, false, ◌⊎◌, List, length, Some, None, Decides, Option, sym, refl, ap, ◌∙◌, subst, inl, inr, arith}
use Rattle.std.proofs.lemmas.Bool.{and_from, and_parts, both_ways, eq-eqb, eqb-true, leb-true, le-leb, lt-ltb, ltb-true, not-true, true≢false}
use Rattle.std.proofs.lemmas.Bool.Decides.{nat_tests}
use Rattle.ranges.specs.Questions.{any, first}
use Rattle.ranges.proofs.Questions.{all_not, any_here, none_below}
use Rattle.plan.specs.declared.model.Plan.{Plan}
use Rattle.plan.specs.declared.refusal.Refusal.{Refusal}
use Rattle.plan.specs.declared.refusal.Refusal.TheVariants.{Truncated, ChannelPage, TableMalformed, BudgetRule, FramesMissing, Surplus}
use Rattle.plan.specs.Format.{plan_of, plan_size}
use Rattle.plan.specs.Lawful.{ChannelFits, CountFits, SlotFits, StartFits}
use Rattle.plan.specs.Refused.{count_at, number_of, place_of, refusal}
use Rattle.plan.specs.Rules.{broken_unless, budget_fault, budget_kept, channel_fault, channel_kept, count_fault, count_kept, slot_fault, slot_kept, start_fault, start_kept, surplus, truncated}
use Rattle.plan.proofs.Decides.{at_number, budget_decides, channel_decides, count_decides, count_place_at, count_place_below, slot_decides, start_decides}
use Rattle.checker.specs.declared.fault.Fault.{Fault}
use Rattle.checker.specs.declared.fault.Fault.TheVariants.{Broken as RuleBroken, NotLent}
use Rattle.checker.specs.Faults.{refused_by}
use Rattle.checker.specs.Pages.{pages_fault, pages_refusal}
use Rattle.checker.specs.Roots.{root_kept, root_refusal, same_root}
use Rattle.checker.specs.Sharing.{apart_kept, lent_kept, lent_refusal, share_refusal}
use Rattle.checker.specs.Tables.{root_fault, table_refusal}
use Rattle.checker.specs.Lawful.{Apart, Formed, PagesFit, PagesUnread, RootFits, TablesUnread, root}
use Rattle.checker.specs.Found.{Finding, Found, found_at, refusal_of, rule_of}
use Rattle.checker.specs.Found.Finding.{broken, pages_unread, tables_unread}
use Rattle.checker.proofs.Chain.{Stage, each, places, single}
use Rattle.checker.proofs.Conflicts.{apart_decides, lent_decides}
use Rattle.checker.proofs.Forms.{formed_none, none_formed}
use Rattle.checker.proofs.Forms as forms
use Rattle.checker.proofs.Joined as joined

-- the findings of a rule
one_kind : (n : ℕ) → (n ≡ 5 → ⊥) → (n ≡ 7 → ⊥) → (d : Finding) → rule_of d ≡ n → d ≡ broken (refusal n (found_at d))
one_kind n not_5 not_7 d r = grind (arith, at_number)

kinds_5 : (d : Finding) → rule_of d ≡ 5 → (d ≡ broken (ChannelPage (found_at d))) ⊎ (d ≡ pages_unread (found_at d))
kinds_5 d r = grind (arith, at_number)

kinds_7 : (d : Finding) → rule_of d ≡ 7 → (d ≡ broken (TableMalformed (found_at d))) ⊎ (d ≡ tables_unread (found_at d))
kinds_7 d r = grind (arith, at_number)

pub refused_none : (e : Refusal) (o : Option Fault) → refused_by e o ≡ None → o ≡ None
refused_none e o h = grind arith

refused_some : (e d : Refusal) (o : Option Fault) → refused_by e o ≡ Some d → ((o ≡ Some RuleBroken) × (e ≡ d)) ⊎ ((o ≡ Some NotLent) × (FramesMissing ≡ d))
refused_some e d o h = grind arith

pub root_decides : (words : List ℕ) (p : Plan) (k : ℕ) → Decides (root_kept words p k) (RootFits words p k)
root_decides words p k = (
  (λ e.
      let x = and_parts _ _ e in
      let y = and_parts _ _ x.1 in
      record {
        few = leb-true _ 256 x.0;
        below = ltb-true (root p k) 256 y.0;
        own = λ j l s. true≢false (sym (any_here (same_root p k) k j l (eq-eqb (root p j) (root p k) s)) ∙ not-true (any (same_root p k) k) y.1);
      }),
  λ f. and_from _ _ (le-leb _ 256 f.few) (and_from _ _ (lt-ltb (root p k) 256 f.below)
      (rw (all_not (same_root p k) k (λ j l e. f.own j l (eqb-true (root p j) (root p k) e))) refl)),
)

module _ (bytes words : List ℕ) where
  abbrev pub Staged : Option Refusal → ℕ → Type 0
  Staged s n = Stage rule_of found_at refusal_of (Found bytes words) s n

  -- a rule that is broken or not, as a whole
  module _ (n : ℕ) (not_5 : n ≡ 5 → ⊥) (not_7 : n ≡ 7 → ⊥) where
    whole : (kept : Bool) (e : Refusal) → number_of e ≡ n →
        ((at : ℕ) → Found bytes words (broken (refusal n at)) → refusal n at ≡ e) →
        (kept ≡ true → Found bytes words (broken e) → ⊥) → (kept ≡ false → Found bytes words (broken e)) → Staged (broken_unless kept e) n
    whole kept e num only no_fault faulty = single rule_of found_at refusal_of (Found bytes words) n kept (broken e) num
        (λ d r b. let is = one_kind n not_5 not_7 d r in is ∙ ap broken (only (found_at d) (subst (Found bytes words) is b)))
        no_fault faulty

    -- or at each of many places
    at_each : (many : ℕ) (test : ℕ → Bool) (Fits : ℕ → Type 0) →
        ((k : ℕ) → number_of (refusal n k) ≡ n) → ((k : ℕ) → k < many → place_of (refusal n k) ≡ k) →
        ((k : ℕ) → k < many → Decides (test k) (Fits k)) →
        ((k : ℕ) → k < many → (Fits k → ⊥) → Found bytes words (broken (refusal n k))) →
        ((k : ℕ) → Found bytes words (broken (refusal n k)) → (place_of (refusal n k) < many) × (Fits k → ⊥)) →
        Staged (first (λ k. broken_unless (test k) (refusal n k)) many) n
    at_each many test Fits num at decides faulty fault_of = each rule_of found_at refusal_of (Found bytes words) n many (λ k. broken (refusal n k)) test Fits
        num at decides faulty
        (λ d r b. let is = one_kind n not_5 not_7 d r in
        let z = fault_of (found_at d) (subst (Found bytes words) is b) in
        (subst (λ x. x < many) (sym (ap found_at is)) z.0, z.1))

  pub truncated_stage : Staged (truncated bytes (plan_of bytes)) 1
  unfolding Found
  truncated_stage = whole 1 (λ e. omega arith) (λ e. omega arith) _ (Truncated (length bytes)) refl
      (λ at b. ap Truncated b.1) (λ e b. grind (arith, nat_tests)) (λ e. (grind (arith, nat_tests), refl))

  pub counts_stage : Staged (first (count_fault (plan_of bytes).counts) 3) 2
  unfolding Found
  counts_stage = at_each 2 (λ e. omega arith) (λ e. omega arith) 3 (λ k. count_kept (plan_of bytes).counts (count_at k)) (λ k. CountFits (plan_of bytes) (count_at k))
      (λ k. refl) count_place_at (λ k l. count_decides (plan_of bytes) (count_at k)) (λ k l f. f) (λ k b. (count_place_below (count_at k), b))

  pub slots_stage : Staged (first (slot_fault (plan_of bytes)) (plan_of bytes).counts.slots) 3
  unfolding Found
  slots_stage = at_each 3 (λ e. omega arith) (λ e. omega arith) (plan_of bytes).counts.slots (slot_kept (plan_of bytes)) (SlotFits (plan_of bytes))
      (λ k. refl) (λ k l. refl) (λ k l. slot_decides (plan_of bytes) k) (λ k l f. (l, f)) (λ k b. b)

  pub channels_stage : Staged (first (channel_fault (plan_of bytes)) (plan_of bytes).counts.channels) 4
  unfolding Found
  channels_stage = at_each 4 (λ e. omega arith) (λ e. omega arith) (plan_of bytes).counts.channels (channel_kept (plan_of bytes)) (ChannelFits (plan_of bytes))
      (λ k. refl) (λ k l. refl) (λ k l. channel_decides (plan_of bytes) k) (λ k l f. (l, f)) (λ k b. b)

  pub roots_stage : Staged (first (root_refusal words (plan_of bytes)) (plan_of bytes).counts.partitions) 6
  unfolding Found
  roots_stage = at_each 6 (λ e. omega arith) (λ e. omega arith) (plan_of bytes).counts.partitions (root_kept words (plan_of bytes)) (RootFits words (plan_of bytes))
      (λ k. refl) (λ k l. refl) (λ k l. root_decides words (plan_of bytes) k) (λ k l f. (l, f)) (λ k b. b)

  pub starts_stage : Staged (first (start_fault (plan_of bytes)) (plan_of bytes).counts.partitions) 9
  unfolding Found
  starts_stage = at_each 9 (λ e. omega arith) (λ e. omega arith) (plan_of bytes).counts.partitions (start_kept (plan_of bytes)) (StartFits (plan_of bytes))
      (λ k. refl) (λ k l. refl) (λ k l. start_decides (plan_of bytes) k) (λ k l f. (l, f)) (λ k b. b)

  pub budget_stage : Staged (budget_fault (plan_of bytes)) 10
  unfolding Found
  budget_stage = whole 10 (λ e. omega arith) (λ e. omega arith) (budget_kept (plan_of bytes)) BudgetRule refl (λ at b. refl)
      (λ e b. b ((budget_decides (plan_of bytes)).0 e))
      (λ e f. both_ways (budget_kept (plan_of bytes)) e ((budget_decides (plan_of bytes)).1 f))

  pub surplus_stage : Staged (surplus bytes (plan_of bytes)) 12
  unfolding Found
  surplus_stage = whole 12 (λ e. omega arith) (λ e. omega arith) _ (Surplus (plan_size (plan_of bytes).counts)) refl
      (λ at b. ap Surplus b.1) (λ e b. grind (arith, nat_tests)) (λ e. (grind (arith, nat_tests), refl))

  -- a rule whose check at a place may need a frame that is not lent
  module _ (n many : ℕ) (fault : ℕ → Option Fault) (E : ℕ → Refusal) (U : ℕ → Finding) (Fit Unread : ℕ → Type 0)
      (kinds : (d : Finding) → rule_of d ≡ n → (d ≡ broken (E (found_at d))) ⊎ (d ≡ U (found_at d)))
      (e_rule : (k : ℕ) → number_of (E k) ≡ n) (e_place : (k : ℕ) → place_of (E k) ≡ k)
      (u_rule : (k : ℕ) → rule_of (U k) ≡ n) (u_place : (k : ℕ) → found_at (U k) ≡ k) (u_says : (k : ℕ) → refusal_of (U k) ≡ FramesMissing)
      (found_e : (k : ℕ) → k < many → (Unread k → ⊥) → (Fit k → ⊥) → Found bytes words (broken (E k)))
      (e_found : (k : ℕ) → Found bytes words (broken (E k)) → (k < many) × (Unread k → ⊥) × (Fit k → ⊥))
      (found_u : (k : ℕ) → k < many → Unread k → Found bytes words (U k))
      (u_found : (k : ℕ) → Found bytes words (U k) → (k < many) × Unread k)
      (none_fit : (k : ℕ) → fault k ≡ None → Fit k) (fit_none : (k : ℕ) → Fit k → fault k ≡ None)
      (unlent_unread : (k : ℕ) → fault k ≡ Some NotLent → Unread k) (unread_unlent : (k : ℕ) → Unread k → fault k ≡ Some NotLent) where
    at_none : (k : ℕ) → fault k ≡ None → (d : Finding) → rule_of d ≡ n → found_at d ≡ k → Found bytes words d → ⊥
    at_none k h d r s b = elim (kinds d r) [
      | inl is ↦ (e_found (found_at d) (subst (Found bytes words) is b)).2 (subst Fit (sym s) (none_fit k h))
      | inr is ↦ absurd (let u = unread_unlent k (subst Unread s (u_found (found_at d) (subst (Found bytes words) is b)).1) in
          cc)
    ]

    at_some : (k : ℕ) (e : Refusal) → k < many → refused_by (E k) (fault k) ≡ Some e → (f : Finding) × (refusal_of f ≡ e) × Found bytes words f × (rule_of f ≡ n) × (found_at f ≡ k)
    at_some k e l h = elim (refused_some (E k) e (fault k) h) [
      | inl g ↦ (
        broken (E k),
        g.1,
        found_e k l (λ u. absurd (let v = unread_unlent k u in let w = g.0 in cc))
            (λ t. absurd (let v = fit_none k t in let w = g.0 in cc)),
        e_rule k,
        e_place k,
      )
      | inr g ↦ (U k, u_says k ∙ g.1, found_u k l (unlent_unread k g.0), u_rule k, u_place k)
    ]

    faults : Staged (first (λ k. refused_by (E k) (fault k)) many) n
    faults = places rule_of found_at refusal_of (Found bytes words) n many (λ k. refused_by (E k) (fault k))
        (λ k l h d r s b. at_none k (refused_none (E k) (fault k) h) d r s b)
        at_some
        (λ d r b. elim (kinds d r) [
          | inl is ↦ (e_found (found_at d) (subst (Found bytes words) is b)).0
          | inr is ↦ (u_found (found_at d) (subst (Found bytes words) is b)).0
        ])

  pub pages_stage : Staged (first (pages_refusal words (plan_of bytes)) (plan_of bytes).counts.channels) 5
  unfolding Found
  pages_stage = faults 5 (plan_of bytes).counts.channels (pages_fault words (plan_of bytes)) ChannelPage pages_unread (PagesFit words (plan_of bytes)) (PagesUnread words (plan_of bytes))
      kinds_5 (λ k. refl) (λ k. refl) (λ k. refl) (λ k. refl) (λ k. refl)
      (λ k l u f. (l, u, f)) (λ k b. b) (λ k l u. (l, u)) (λ k b. b)
      (joined.none_fit words (plan_of bytes)) (joined.fit_none words (plan_of bytes)) (joined.unlent_unread words (plan_of bytes)) (joined.unread_unlent words (plan_of bytes))

  pub tables_stage : Staged (first (table_refusal words (plan_of bytes)) (plan_of bytes).counts.partitions) 7
  unfolding Found
  tables_stage = faults 7 (plan_of bytes).counts.partitions (λ k. root_fault words (root (plan_of bytes) k)) TableMalformed tables_unread
      (λ k. Formed words (root (plan_of bytes) k)) (λ k. TablesUnread words (root (plan_of bytes) k))
      kinds_7 (λ k. refl) (λ k. refl) (λ k. refl) (λ k. refl) (λ k. refl)
      (λ k l u f. (l, u, f)) (λ k b. b) (λ k l u. (l, u)) (λ k b. b)
      (λ k. none_formed words (root (plan_of bytes) k)) (λ k. formed_none words (root (plan_of bytes) k))
      (λ k. forms.unlent_unread words (root (plan_of bytes) k)) (λ k. forms.unread_unlent words (root (plan_of bytes) k))

  pub all_formed : first (table_refusal words (plan_of bytes)) (plan_of bytes).counts.partitions ≡ None → (k : ℕ) → k < (plan_of bytes).counts.partitions → Formed words (root (plan_of bytes) k)
  all_formed e k l =
      none_formed words (root (plan_of bytes) k)
      (refused_none (TableMalformed k) (root_fault words (root (plan_of bytes) k)) (none_below (table_refusal words (plan_of bytes)) (plan_of bytes).counts.partitions e k l))

  module _ (ok : (k : ℕ) → k < (plan_of bytes).counts.partitions → Formed words (root (plan_of bytes) k)) where
    pub sharing_stage : Staged (first (share_refusal words (plan_of bytes)) (plan_of bytes).counts.partitions) 8
    unfolding Found
    sharing_stage = at_each 8 (λ e. omega arith) (λ e. omega arith) (plan_of bytes).counts.partitions (apart_kept words (plan_of bytes)) (Apart words (plan_of bytes))
        (λ k. refl) (λ k l. refl) (λ k l. apart_decides words (plan_of bytes) k (λ q h. ok q (omega arith))) (λ k l f. (l, f)) (λ k b. b)

    pub lent_stage : Staged (lent_refusal words (plan_of bytes)) 11
    unfolding Found
    lent_stage =
        let decides = lent_decides words (plan_of bytes) ok in
        whole 11 (λ e. omega arith) (λ e. omega arith) (lent_kept words (plan_of bytes)) FramesMissing refl (λ at b. refl)
        (λ e b. b (decides.0 e))
        (λ e f. both_ways (lent_kept words (plan_of bytes)) e (decides.1 f))
