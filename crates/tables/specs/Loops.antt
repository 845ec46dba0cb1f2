-- Rows of branches, and what they cost.
use Rattle.std.specs.Prelude.{◌≡◌, ℕ, ◌+◌, Bool, true, false, cond, List, [], ◌∷◌, ◌++◌, replicate, ◌==◌}
use Rattle.tables.specs.declared.predictor.Predictor.{Predictor}
use Rattle.tables.specs.Predictor.{branch_cost, counter_of, learned}

pub record Branch : Type 0 where
  pub address : ℕ
  pub taken : Bool

-- a branch with the counter of an address is taken
abbrev pub Taken : ℕ → Branch → Type 0
Taken address b = counter_of b.address ≡ counter_of address → b.taken ≡ true

-- the cycles that a row's branches with the counter of an address cost
unfoldable pub loop_cost : ℕ → Predictor → List Branch → ℕ
loop_cost address predictor [] = 0
loop_cost address predictor (b ∷ row) =
    cond (counter_of b.address == counter_of address) (branch_cost predictor b.address b.taken) 0
    + loop_cost address (learned predictor b.address b.taken) row

-- the cycles that each branch of a row costs
unfoldable pub branch_costs : Predictor → List Branch → List ℕ
branch_costs predictor [] = []
branch_costs predictor (b ∷ row) = branch_cost predictor b.address b.taken ∷ branch_costs (learned predictor b.address b.taken) row

-- the branch at an address, taken or not
abbrev pub taken_at : ℕ → Branch
taken_at address = record { address = address; taken = true }

abbrev pub not_taken_at : ℕ → Branch
not_taken_at address = record { address = address; taken = false }

-- the branch of a loop: taken at each turn, not taken at the exit, and taken again when the loop is entered the next time
abbrev pub loop_and_again : ℕ → ℕ → List Branch
loop_and_again address turns = replicate turns (taken_at address) ++ (not_taken_at address ∷ (taken_at address ∷ []))
