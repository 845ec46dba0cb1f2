-- The clock at which each slot begins: the plan alone fixes it.
use Rattle.std.specs.Prelude.{◌≡◌, ℕ, zero, suc, ◌+◌, ◌*◌, ◌%◌, ◌<◌, ◌≤◌, List}
use Rattle.plan.specs.declared.model.Plan.{Plan}
use Rattle.plan.specs.declared.model.Slot.{Slot}
use Rattle.plan.specs.Format.{plan_of}
use Rattle.plan.specs.Lawful.{PlanLawful}
use Rattle.plan.specs.Rules.{slot}

-- the plan's slots go round: turn n of a run is a slot of the plan
abbrev pub slot_of : Plan → ℕ → Slot
slot_of p n = slot p (n % p.counts.slots)

-- a slot begins where the one before it began, plus its length, plus the budget
unfoldable pub begins : Plan → ℕ → ℕ
begins p zero = 0
begins p (suc n) = begins p n + (slot_of p n).length + p.budget

-- a round later, every slot begins a round's time later
abbrev pub Rounds : Type 0
Rounds = (p : Plan) (n : ℕ) → 0 < p.counts.slots → begins p (p.counts.slots + n) ≡ begins p p.counts.slots + begins p n

-- no slot of a plan that keeps its own rules begins later than 1,100,000 cycles for each one before it
abbrev pub Bounded : Type 0
Bounded = (bytes : List ℕ) → PlanLawful bytes → (n : ℕ) → begins (plan_of bytes) n ≤ n * 1100000
