-- Counts of vectors.
use Rattle.std.specs.Prelude.{ℕ, ◌+◌, ◌-◌, ◌^◌, Bool, false, cond, ◌==◌, min, Option, Some, None}
use Rattle.rv32ui.specs.declared.tally.Tally.{Tally}

-- a count that stops at the largest
abbrev pub more : ℕ → ℕ → ℕ
more count by = min (count + by) (2 ^ 64 - 1)

abbrev pub counted : Tally → ℕ → Tally
counted tally vectors = record tally { run = more tally.run vectors }

-- none is never expected
abbrev pub is_expected : Option ℕ → ℕ → Bool
is_expected None expected = false
is_expected (Some value) expected = value == expected

abbrev pub checked : Tally → Option ℕ → ℕ → Tally
checked tally given expected = record tally { failed = cond (is_expected given expected) tally.failed (more tally.failed 1) }
