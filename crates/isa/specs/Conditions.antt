-- The conditions of branches: their numbers, and when each holds of two words.
use Rattle.std.specs.Prelude.{ℕ, Bool, not, List, [], ◌∷◌, ◌==◌, int_lt, nat_lt}
use Rattle.words.specs.Bits.{signed}
use Rattle.isa.specs.declared.instruction.Condition.{Condition}
use Rattle.isa.specs.declared.instruction.Condition.TheVariants.{Equal, NotEqual, Less, GreaterEqual, LessUnsigned, GreaterEqualUnsigned}

pub record ConditionRow : Type 0 where
  pub funct3 : ℕ
  pub meaning : ℕ → ℕ → Bool

abbrev pub condition_row : Condition → ConditionRow
condition_row Equal = record { funct3 = 0; meaning = λ a b. a == b }
condition_row NotEqual = record { funct3 = 1; meaning = λ a b. not (a == b) }
condition_row Less = record { funct3 = 4; meaning = λ a b. int_lt (signed 32 a) (signed 32 b) }
condition_row GreaterEqual = record { funct3 = 5; meaning = λ a b. not (int_lt (signed 32 a) (signed 32 b)) }
condition_row LessUnsigned = record { funct3 = 6; meaning = λ a b. nat_lt a b }
condition_row GreaterEqualUnsigned = record { funct3 = 7; meaning = λ a b. not (nat_lt a b) }

abbrev pub conditions : List Condition
conditions = Equal ∷ NotEqual ∷ Less ∷ GreaterEqual ∷ LessUnsigned ∷ GreaterEqualUnsigned ∷ []

abbrev pub holds : Condition → ℕ → ℕ → Bool
holds c = (condition_row c).meaning

abbrev pub condition_number : Condition → ℕ
condition_number c = (condition_row c).funct3
