-- How long the steps until a reading of the clock take.
use Rattle.std.proofs.Common.{◌≡◌, ℕ, zero, suc, ◌+◌, ◌<◌, ◌≤◌, inl, inr, arith}
use Rattle.std.proofs.lemmas.Bool.{cases_lt, le-ltb, lt-ltb}
use Rattle.costs.specs.Costs.{worst_instruction}
use Rattle.costs.specs.Cycles.{cycles}
use Rattle.hart.specs.Core.{stepped}
use Rattle.hart.specs.Moments.{Moment, latest, next, until}
use Rattle.hart.proofs.Running.{moves_on}
use Rattle.hart.proofs.Stepping.{steps}

-- while the clock has room for the dearest step
pub record Moves (m : Moment) : Type 0 where
  pub by : (next m).core.clock ≡ m.core.clock + cycles (stepped m.core m.words).used
  pub least : m.core.clock < (next m).core.clock
  pub most : (next m).core.clock ≤ m.core.clock + worst_instruction

pub moves : (m : Moment) → m.core.clock < latest → Moves m
moves m l =
    let s = steps m.core m.words in
    let by = moves_on m.core m.words l in
    record { by = by; least = omega (arith, by, s.least); most = omega (arith, by, s.most) }

module _ (stop : ℕ) (early : stop ≤ latest) where
  -- the last instruction may begin in the last cycle
  pub until_most : (n : ℕ) (m : Moment) → m.core.clock < stop + worst_instruction → (until stop n m).core.clock < stop + worst_instruction
  unfolding until
  until_most zero m l = l
  until_most (suc n) m l = elim (cases_lt m.core.clock stop) [
    | inl b ↦ rw (lt-ltb m.core.clock stop b) (until_most n (next m) (let g = (moves m (omega arith)).most in omega arith))
    | inr b ↦ rw (le-ltb m.core.clock stop b) l
  ]

  -- enough steps lead to the end
  pub until_least : (n : ℕ) (m : Moment) → stop ≤ m.core.clock + n → stop ≤ (until stop n m).core.clock
  unfolding until
  until_least zero m l = omega arith
  until_least (suc n) m l = elim (cases_lt m.core.clock stop) [
    | inl b ↦ rw (lt-ltb m.core.clock stop b) (until_least n (next m) (let g = (moves m (omega arith)).least in omega arith))
    | inr b ↦ rw (le-ltb m.core.clock stop b) b
  ]
