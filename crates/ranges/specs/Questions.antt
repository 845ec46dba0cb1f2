-- Questions over the places below a number: the first answer, whether one passes, how many pass, and the largest value.
-- Each recurses from the end, so that a loop that counts up has it as its invariant.
use Rattle.std.specs.Prelude.{ℕ, zero, suc, ◌+◌, max, Bool, false, cond, ◌||◌, Some, None, Ok, Err, Option, Result}
use Rattle.std.specs.Option.{option_or}

-- an answer where there is no fault
abbrev pub unless : {X E : Type 0} → Option E → X → Result X E
unless None x = Ok x
unless (Some e) x = Err e

-- the first answer
unfoldable pub first : {X : Type 0} → (ℕ → Option X) → ℕ → Option X
first f zero = None
first f (suc n) = option_or (first f n) (f n)

-- whether one passes
unfoldable pub any : (ℕ → Bool) → ℕ → Bool
any f zero = false
any f (suc n) = any f n || f n

-- a number where a test passes, and 0 where it does not
abbrev pub weight : Bool → ℕ → ℕ
weight passes value = cond passes value 0

-- how many pass
unfoldable pub count : (ℕ → Bool) → ℕ → ℕ
count f zero = 0
count f (suc n) = count f n + weight (f n) 1

-- the largest value, 0 where there is none
unfoldable pub most : (ℕ → ℕ) → ℕ → ℕ
most f zero = 0
most f (suc n) = max (most f n) (f n)
