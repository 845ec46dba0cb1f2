-- Rows of a table, and the numbers that find them.
use Rattle.std.proofs.Common.{◌≡◌, ℕ, ◌<◌, List, [], ◌∷◌, Some, None, Option, rules}
use Rattle.std.proofs.lemmas.Option.{none-some}
use Rattle.std.specs.Option.{option_and_then}
use Rattle.isa.specs.declared.instruction.Operation.{Operation}
use Rattle.isa.specs.Tables.{numbered, Listed}
use Rattle.isa.specs.Operations.{operation_number, operations, funct3_of, funct7_of, constants, shifts}

-- what follows from a row comes from a row
pub and_some : {A B : Type 0} (o : Option A) (f : A → Option B) (b : B) → option_and_then f o ≡ Some b → (a : A) × (o ≡ Some a) × (f a ≡ Some b)
and_some o f b e = search rules

module _ {A : Type 0} (number : A → ℕ) where
  -- a row that is found has its number
  pub found : (rows : List A) (n : ℕ) (a : A) → numbered number rows n ≡ Some a → n ≡ number a
  found [] n a e = absurd (none-some a e)
  found (r ∷ rows) n a e = search (rules, found rows n a)

  -- the same number finds the same
  pub finds : {B : Type 0} (rows : List A) (f : A → Option B) (n m : ℕ) (o : Option A) → n ≡ m → numbered number rows m ≡ o → option_and_then f (numbered number rows n) ≡ option_and_then f o
  finds rows f n m o e l = rw (e, l)

  pub meets : {B : Type 0} (rows : List A) (f : A → Option B) (n : ℕ) (a : A) → n ≡ number a → Listed number rows a → option_and_then f (numbered number rows n) ≡ f a
  meets rows f n a = finds rows f n (number a) (Some a)

-- every condition, width, operation and counter is in its table, with a number that its field can hold
abbrev pub Row : {A : Type 0} → (A → ℕ) → List A → ℕ → A → Type 0
Row number rows bound a = Listed number rows a × (number a < bound)

pub operation_listed : (o : Operation) → Listed operation_number operations o × (funct3_of o < 8) × (funct7_of o < 128)
operation_listed o = search rules

-- the operations with a constant have funct7 0, and no shift has the funct3 of one of them
pub plain : (o : Operation) → Listed funct3_of constants o → funct7_of o ≡ 0
plain o listed = search rules

pub apart : (o : Operation) → Listed operation_number shifts o → numbered funct3_of constants (funct3_of o) ≡ None
apart o listed = search rules
