-- The branch predictor: 64 counters from 0 to 3. A branch that is taken counts up, one that is not counts down.
use Rattle.std.specs.Prelude.{ℕ, ◌+◌, ◌-◌, ◌/◌, ◌%◌, min, Bool, true, false, not, replicate, nat_le, slice_index, slice_set}
use Rattle.costs.specs.Cycles.{branch_cycles}
use Rattle.tables.specs.declared.predictor.Predictor.{Predictor}

-- which counter a branch at an address has
abbrev pub counter_of : ℕ → ℕ
counter_of address = address / 4 % 64

abbrev pub counter : Predictor → ℕ → ℕ
counter predictor address = slice_index predictor.counters (counter_of address)

-- a counter of 2 or 3 predicts that the branch is taken
abbrev pub predicts : Predictor → ℕ → Bool
predicts predictor address = nat_le 2 (counter predictor address)

abbrev pub counted : Bool → ℕ → ℕ
counted true n = min (n + 1) 3
counted false n = n - 1

-- a branch that is taken, or is not, was predicted wrongly
abbrev pub mispredicts : Predictor → ℕ → Bool → Bool
mispredicts predictor address true = not (predicts predictor address)
mispredicts predictor address false = predicts predictor address

-- and the cycles of that
abbrev pub branch_cost : Predictor → ℕ → Bool → ℕ
branch_cost predictor address taken = branch_cycles (mispredicts predictor address taken)

abbrev pub learned : Predictor → ℕ → Bool → Predictor
learned predictor address taken = record {
  counters = slice_set predictor.counters (counter_of address) (counted taken (counter predictor address));
}

abbrev pub first_predictor : Predictor
first_predictor = record { counters = replicate 64 1 }
