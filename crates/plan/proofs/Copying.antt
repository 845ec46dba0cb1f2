-- The copies of a switch are the messages of the channels out of a partition, and take as long as these.
use Rattle.std.proofs.Common.{◌≡◌, ℕ, zero, suc, ◌+◌, ◌*◌, ◌<◌, ◌≤◌, max, true, refl, Contains, subst, inl, inr, arith}
use Rattle.std.proofs.lemmas.Bool.{cases_Bool, cases_lt, eq-eqb, eqb-true}
use Rattle.std.proofs.lemmas.List.Elements.{Contains-append_left, Contains-push, Contains-push_cases}
use Rattle.std.proofs.lemmas.List.Sums.{sum_by_push}
use Rattle.costs.specs.Costs.{copied_word, worst_switch}
use Rattle.ranges.specs.Questions.{count, most}
use Rattle.plan.specs.declared.model.Plan.{Plan}
use Rattle.plan.specs.Places.{channel, channels_out, leaves}
use Rattle.plan.specs.Switch.{CopiesAreMessages, Copy, IsMessage, copies, copy_cycles, message, messages}

module _ (p : Plan) (who : ℕ) where
  cycles : (n : ℕ) → copy_cycles (messages p who n) ≡ 1024 * copied_word * count (leaves p who) n
  unfolding messages count
  cycles zero = refl
  cycles (suc n) = elim (cases_Bool (leaves p who n)) [
    | inl e ↦ rw e (omega (arith, sum_by_push (λ (c : Copy). copied_word * c.words) (messages p who n) (message p n), cycles n))
    | inr e ↦ rw e (omega (arith, cycles n))
  ]

  pub cycles_of : copy_cycles (copies p who) ≡ 1024 * copied_word * channels_out p who
  cycles_of = cycles p.counts.channels

  has : (n k : ℕ) → k < n → leaves p who k ≡ true → Contains (messages p who n) (message p k)
  unfolding messages
  has zero k l goes = absurd (omega arith)
  has (suc n) k l goes = elim (cases_lt k n) [
    | inl below ↦ elim (cases_Bool (leaves p who n)) [
      | inl e ↦ rw e (Contains-append_left (messages p who n) _ (message p k) (has n k below goes))
      | inr e ↦ rw e (has n k below goes)
    ]
    | inr past ↦ let here : k ≡ n = omega arith in rw here (rw (rw here at goes) (Contains-push (messages p who n) (message p n)))
  ]

  pub has_message : (k : ℕ) → k < p.counts.channels → leaves p who k ≡ true → Contains (copies p who) (message p k)
  has_message k l goes = has p.counts.channels k l goes

  is : (n : ℕ) → n ≤ p.counts.channels → (c : Copy) → Contains (messages p who n) c → IsMessage p who c
  unfolding messages
  is zero l c h = absurd (omega (arith, h.1))
  is (suc n) l c h = elim (cases_Bool (leaves p who n)) [
    | inl e ↦ elim (Contains-push_cases (messages p who n) (message p n) c (rw e at h)) [
      | inl before ↦ is n (omega arith) c before
      | inr same ↦ subst (IsMessage p who) same (record { exists = omega arith; sends = eqb-true (channel p n).sender.partition who e; from = refl; to = refl; words = refl })
    ]
    | inr e ↦ is n (omega arith) c (rw e at h)
  ]

  back : (c : Copy) → IsMessage p who c → Contains (copies p who) c
  back c m =
      let same : message p c.channel ≡ c = rw (m.from, m.to, m.words) refl in
      subst (Contains (copies p who)) same (has_message c.channel m.exists (eq-eqb (channel p c.channel).sender.partition who (rw m.from at m.sends)))

pub copies_are_messages : CopiesAreMessages
copies_are_messages p who c = (is p who p.counts.channels (omega arith) c, back p who c)

-- the longest switch is that with the most copies
pub longest : (work : ℕ → ℕ) (n : ℕ) → max (most (λ who. worst_switch + work who) n) worst_switch ≡ worst_switch + most work n
unfolding most
longest work zero = refl
longest work (suc n) = omega (arith, longest work n)
