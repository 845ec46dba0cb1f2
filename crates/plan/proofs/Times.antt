-- Laws of the timetable.
use Rattle.std.proofs.Common.{ℕ, zero, suc, ◌%◌, ◌≤◌, List, add-zero, add-suc, arith}
use native.Mathlib.Nat.{add-mod_left}
use Rattle.std.proofs.lemmas.Nat.{mod_below}
use Rattle.plan.specs.declared.refusal.Count.TheVariants.{Slots}
use Rattle.plan.specs.Format.{plan_of}
use Rattle.plan.specs.Lawful.{PlanLawful}
use Rattle.plan.specs.Timetable.{Bounded, Rounds, begins, slot_of}

turn_length : (bytes : List ℕ) → PlanLawful bytes → (n : ℕ) → (slot_of (plan_of bytes) n).length ≤ 1000000
turn_length bytes h n = let slots = (plan_of bytes).counts.slots in (h.slots (n % slots) (mod_below n slots (omega (arith, h.counts Slots)))).2

pub bounded : Bounded
unfolding begins
bounded bytes h zero = omega arith
bounded bytes h (suc n) = omega (arith, bounded bytes h n, turn_length bytes h n, h.budget.1)

pub rounds : Rounds
unfolding begins
rounds p zero h = rw add-zero (omega arith)
rounds p (suc n) h = rw (add-suc, add-mod_left) (omega (arith, rounds p n h))
