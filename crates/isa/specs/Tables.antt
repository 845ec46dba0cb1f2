-- How the manual's tables are read. Each number stands once, in the row of what it means: decoding looks it up, encoding writes it.
use Rattle.std.specs.Prelude.{◌≡◌, ℕ, cond, List, [], ◌∷◌, Some, None, Option, Result, ◌==◌}
use Rattle.std.specs.Result.{result_ok}
use Rattle.isa.specs.declared.numbers.Illegal.{Illegal}

-- the row of a table that has a number
abbrev pub numbered : {A : Type 0} → (A → ℕ) → List A → ℕ → Option A
numbered number [] n = None
numbered number (a ∷ rows) n = cond (n == number a) (Some a) (numbered number rows n)

-- what a number of a table is read as: its row, an error where it has none
abbrev pub ReadAs : {A : Type 0} → (A → ℕ) → List A → ℕ → Result A Illegal → Type 0
ReadAs number rows n read = result_ok read ≡ numbered number rows n

-- a row that is found under its own number
abbrev pub Listed : {A : Type 0} → (A → ℕ) → List A → A → Type 0
Listed number rows a = numbered number rows (number a) ≡ Some a
