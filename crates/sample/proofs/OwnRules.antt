-- Plans whose rules on frames are kept: their own rules decide.
use Rattle.std.proofs.Common.{◌≡◌, ℕ, List, [], ◌∷◌, ◌++◌, Some, None, Ok, Err, refl, arith}
use Rattle.ranges.specs.Questions.{first, most}
use Rattle.plan.specs.declared.model.Channel.{Channel}
use Rattle.plan.specs.declared.refusal.Refusal.{Refusal}
use Rattle.plan.specs.declared.refusal.Refusal.TheVariants.{BudgetRule, StartMisaligned, Surplus}
use Rattle.plan.specs.Format.{plan_of, rows}
use Rattle.plan.specs.Switch.{messages}
use Rattle.checker.specs.Checked.{accepted, checked, first_refusal}
use Rattle.checker.specs.Lawful.{Joins}
use Rattle.checker.specs.Pages.{pages_refusal}
use Rattle.sample.specs.Memory.{laid, memory}
use Rattle.sample.specs.OwnRules.{OwnRules, both_out, each_way, plan_with}
use Rattle.sample.specs.Verdicts.{here}
use Rattle.sample.proofs.Asked.{frames_kept, own_refusal, two_apart}
use Rattle.sample.proofs.Laid.{Rooted, formed, mapped_0, mapped_1, receives, roots, sends}
use Rattle.sample.proofs.Refused.{here_tabled}
use Rattle.sample.proofs.Tables.{leads_16, leads_17}
use Rattle.sample.proofs.Verdicts.{all_apart, all_lent, here_fits, spread}

module _ (content : ℕ → ℕ → ℕ) (bytes : List ℕ) (is : Rooted (plan_of bytes) 3)
    (pages : first (pages_refusal (memory here content) (plan_of bytes)) (plan_of bytes).counts.channels ≡ None) where
  own_decides : first_refusal bytes (memory here content) (plan_of bytes) ≡ own_refusal bytes (plan_of bytes)
  own_decides =
      let ws = memory here content in
      frames_kept bytes ws (plan_of bytes) pages (roots here content is (omega arith) (omega arith) (omega arith)) (formed here content here_tabled is (omega arith))
      (all_apart here content is (spread here here_fits)) (all_lent here content is here_fits)

  passes : own_refusal bytes (plan_of bytes) ≡ None → checked bytes (memory here content) ≡ Ok (accepted (memory here content) (plan_of bytes))
  unfolding checked
  passes e = rw (own_decides, e) refl

  fails : (e : Refusal) → own_refusal bytes (plan_of bytes) ≡ Some e → checked bytes (memory here content) ≡ Err e
  unfolding checked
  fails e h = rw (own_decides, h) refl

laid_rooted : (budget start length : ℕ) (channels : List Channel) → Rooted (plan_of (laid budget 3 start length channels)) 3
unfolding plan_of rows
laid_rooted budget start length channels = record { both = refl; first = refl; second = refl }

longer_rooted : Rooted (plan_of (plan_with 800 [] ++ 0 ∷ [])) 3
unfolding plan_of rows
longer_rooted = record { both = refl; first = refl; second = refl }

module _ (content : ℕ → ℕ → ℕ) (budget : ℕ) where
  each_way_pages : first (pages_refusal (memory here content) (plan_of (plan_with budget each_way))) (plan_of (plan_with budget each_way)).counts.channels ≡ None
  unfolding plan_of rows
  each_way_pages =
      let ws = memory here content in
      let p = plan_of (plan_with budget each_way) in
      let m = mapped_0 here content (omega arith) in
      let n = mapped_1 here content here_tabled in
      let one : Joins ws p 0 (record { sender = 6; receiver = 7 }) = record { sender = sends (leads_17 m (omega arith)) refl; receiver = receives (leads_17 n (omega arith)) refl refl } in
      let other : Joins ws p 1 (record { sender = 5; receiver = 2 }) = record { sender = sends (leads_16 n (omega arith)) refl; receiver = receives (leads_16 m (omega arith)) refl refl } in
      two_apart ws p refl one other refl

  both_out_pages : first (pages_refusal (memory here content) (plan_of (plan_with budget both_out))) (plan_of (plan_with budget both_out)).counts.channels ≡ None
  unfolding plan_of rows
  both_out_pages =
      let ws = memory here content in
      let p = plan_of (plan_with budget both_out) in
      let m = mapped_0 here content (omega arith) in
      let n = mapped_1 here content here_tabled in
      let one : Joins ws p 0 (record { sender = 6; receiver = 7 }) = record { sender = sends (leads_17 m (omega arith)) refl; receiver = receives (leads_17 n (omega arith)) refl refl } in
      let other : Joins ws p 1 (record { sender = 2; receiver = 5 }) = record { sender = sends (leads_16 m (omega arith)) refl; receiver = receives (leads_16 n (omega arith)) refl refl } in
      two_apart ws p refl one other refl

pub own_rules : OwnRules
unfolding first most messages plan_of rows own_refusal checked first_refusal
own_rules = record {
  enough = λ content. passes content (plan_with 730 []) (laid_rooted 730 0x10000 200 []) refl refl;
  not_enough = λ content. fails content (plan_with 729 []) (laid_rooted 729 0x10000 200 []) refl BudgetRule refl;
  enough_each_way = λ content. passes content (plan_with 1754 each_way) (laid_rooted 1754 0x10000 200 each_way) (each_way_pages content 1754) refl;
  not_enough_each_way = λ content. fails content (plan_with 1753 each_way) (laid_rooted 1753 0x10000 200 each_way) (each_way_pages content 1753) BudgetRule refl;
  enough_both_out = λ content. passes content (plan_with 2778 both_out) (laid_rooted 2778 0x10000 200 both_out) (both_out_pages content 2778) refl;
  not_enough_both_out = λ content. fails content (plan_with 2777 both_out) (laid_rooted 2777 0x10000 200 both_out) (both_out_pages content 2777) BudgetRule refl;
  too_short = λ content. refl;
  no_partitions = λ content. refl;
  short_slot = λ content. refl;
  own_channel = λ content. refl;
  odd_start = λ content. fails content (laid 800 3 0x10001 200 []) (laid_rooted 800 0x10001 200 []) refl (StartMisaligned 0) refl;
  too_long = λ content. fails content (plan_with 800 [] ++ 0 ∷ []) longer_rooted refl (Surplus 29) refl;
}
