-- What number and turn say of a refusal, and what the tests of the plan's own rules say of the plan.
use Rattle.std.proofs.Common.{◌≡◌, ℕ, zero, suc, ◌+◌, ◌<◌, ◌≤◌, Bool, true, false, List, get_or, None, Some, Decides, sym, ap, ◌∙◌, subst, arith}
use Rattle.std.proofs.lemmas.Bool.{leb-true}
use Rattle.std.proofs.lemmas.Bool.Decides.{nat_tests}
use Rattle.costs.specs.Costs.{worst_switch}
use Rattle.ranges.specs.Questions.{first, most}
use Rattle.ranges.proofs.Questions.{most_bound, none_below}
use Rattle.plan.specs.declared.model.Plan.{Plan}
use Rattle.plan.specs.declared.refusal.Count.{Count}
use Rattle.plan.specs.declared.refusal.Count.TheVariants.{Partitions, Slots, Channels}
use Rattle.plan.specs.declared.refusal.Refusal.{Refusal}
use Rattle.plan.specs.declared.refusal.Refusal.TheVariants.{CountRange}
use Rattle.plan.specs.Format.{plan_of}
use Rattle.plan.specs.Refused.{AllRanked, Named, RankTells, Ranked, count_at, count_place, number_of, index_in, place_of, rank, refusal, turns}
use Rattle.plan.specs.Rules.{broken_unless, budget_fault, budget_kept, channel_fault, channel_kept, count_fault, count_kept, slot_fault, slot_kept, start_fault, start_kept, surplus, truncated}
use Rattle.plan.specs.Switch.{copies, copy_cycles, required_budget}
use Rattle.plan.proofs.Copying.{cycles_of}
use Rattle.plan.specs.Lawful.{BudgetFits, ChannelFits, CountFits, PlanLawful, SlotFits, StartFits}

pub passed : (kept : Bool) (e : Refusal) → broken_unless kept e ≡ None → kept ≡ true
passed kept e h = grind arith

pub failed : (kept : Bool) (e d : Refusal) → broken_unless kept e ≡ Some d → (kept ≡ false) × (d ≡ e)
failed kept e d h = grind arith

pub refusal_named : Named
refusal_named e = grind arith

pub all_ranked : AllRanked
unfolding index_in
all_ranked e = record { some = grind arith; asked = grind arith }

pub same_number : (m n : ℕ) → Ranked m → Ranked n → rank m ≡ rank n → m ≡ n
same_number m n a b same = sym a.asked ∙ ap (λ turn. get_or turns turn 0) same ∙ b.asked

pub rank_tells : RankTells
rank_tells e d = same_number (number_of e) (number_of d) (all_ranked e) (all_ranked d)

-- the refusal of a number, at its place
pub at_number : (d : Refusal) (n : ℕ) → number_of d ≡ n → d ≡ refusal n (place_of d)
at_number d n h = refusal_named d ∙ ap (λ m. refusal m (place_of d)) h

pub count_decides : (p : Plan) (c : Count) → Decides (count_kept p.counts c) (CountFits p c)
count_decides p Partitions = ((λ e. (grind (arith, nat_tests), grind (arith, nat_tests))), λ f. grind (arith, nat_tests))
count_decides p Slots = ((λ e. (grind (arith, nat_tests), grind (arith, nat_tests))), λ f. grind (arith, nat_tests))
count_decides p Channels = ((λ e. grind (arith, nat_tests)), λ f. grind (arith, nat_tests))

pub slot_decides : (p : Plan) (k : ℕ) → Decides (slot_kept p k) (SlotFits p k)
slot_decides p k = ((λ e. (grind (arith, nat_tests), grind (arith, nat_tests), grind (arith, nat_tests))), λ f. grind (arith, nat_tests))

pub channel_decides : (p : Plan) (k : ℕ) → Decides (channel_kept p k) (ChannelFits p k)
channel_decides p k = ((λ e. (grind (arith, nat_tests), grind (arith, nat_tests), λ s. grind (arith, nat_tests))), λ f. grind (arith, nat_tests))

pub start_decides : (p : Plan) (k : ℕ) → Decides (start_kept p k) (StartFits p k)
start_decides p k = ((λ e. grind (arith, nat_tests)), λ f. grind (arith, nat_tests))

-- a budget that covers the switch after every partition's slot covers the longest
longest_covered : (work : ℕ → ℕ) (n budget : ℕ) → worst_switch ≤ budget → ((who : ℕ) → who < n → worst_switch + work who ≤ budget) → worst_switch + most work n ≤ budget
unfolding most
longest_covered work zero budget alone each = omega (arith, alone)
longest_covered work (suc n) budget alone each = omega (arith, longest_covered work n budget alone (λ who l. each who (omega arith)), each n (omega arith))

pub budget_covers : (p : Plan) → BudgetFits p → required_budget p ≤ p.budget
budget_covers p f = longest_covered (λ who. copy_cycles (copies p who)) p.counts.partitions p.budget f.2 (λ who l. omega (arith, cycles_of p who, f.3 who l))

budget_parts : (p : Plan) → budget_kept p ≡ true → (64 ≤ p.budget) × (p.budget ≤ 100000) × (required_budget p ≤ p.budget)
budget_parts p e = (grind (arith, nat_tests), grind (arith, nat_tests), grind (arith, nat_tests))

parts_budget : (p : Plan) → 64 ≤ p.budget → p.budget ≤ 100000 → required_budget p ≤ p.budget → budget_kept p ≡ true
parts_budget p least most enough = grind (arith, nat_tests)

pub budget_decides : (p : Plan) → Decides (budget_kept p) (BudgetFits p)
budget_decides p = (
  (λ e. (let z = budget_parts p e in
      (z.0, z.1, omega (arith, z.2), λ who l. omega (arith, z.2, cycles_of p who, most_bound (λ who. copy_cycles (copies p who)) p.counts.partitions who l)))),
  λ f. parts_budget p f.0 f.1 (budget_covers p f),
)

pub count_place_at : (k : ℕ) → k < 3 → place_of (CountRange (count_at k)) ≡ k
count_place_at k l = grind (arith, nat_tests)

count_is : (c : Count) → count_at (count_place c) ≡ c
count_is c = grind arith

pub count_place_below : (c : Count) → count_place c < 3
count_place_below c = grind arith

-- bytes whose every rule answers that it is kept
pub kept_lawful : (bytes : List ℕ) → truncated bytes (plan_of bytes) ≡ None → first (count_fault (plan_of bytes).counts) 3 ≡ None →
    first (slot_fault (plan_of bytes)) (plan_of bytes).counts.slots ≡ None → first (channel_fault (plan_of bytes)) (plan_of bytes).counts.channels ≡ None →
    first (start_fault (plan_of bytes)) (plan_of bytes).counts.partitions ≡ None → budget_fault (plan_of bytes) ≡ None → surplus bytes (plan_of bytes) ≡ None → PlanLawful bytes
kept_lawful bytes whole counts slots channels starts budget ends =
    let p = plan_of bytes in
    record {
      whole = leb-true _ _ (passed _ _ whole);
      counts = λ c. (count_decides p c).0 (subst (λ d. count_kept p.counts d ≡ true) (count_is c) (passed _ _ (none_below (count_fault p.counts) 3 counts (count_place c) (count_place_below c))));
      slots = λ k l. (slot_decides p k).0 (passed _ _ (none_below (slot_fault p) p.counts.slots slots k l));
      channels = λ k l. (channel_decides p k).0 (passed _ _ (none_below (channel_fault p) p.counts.channels channels k l));
      starts = λ k l. (start_decides p k).0 (passed _ _ (none_below (start_fault p) p.counts.partitions starts k l));
      budget = (budget_decides p).0 (passed _ _ budget);
      no_surplus = leb-true _ _ (passed _ _ ends);
    }
