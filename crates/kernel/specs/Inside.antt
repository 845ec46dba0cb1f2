-- A slot that goes on: a row of parts, today one. Who runs, and the moment that it is at.
use Rattle.std.specs.Prelude.{ℕ}
use Rattle.hart.specs.Moments.{Moment, until}

pub record Inside : Type 0 where
  pub who : ℕ
  pub now : Moment

-- at most n steps of the program that runs, none of which begins when the clock has come to `stop`
abbrev pub onward : ℕ → ℕ → Inside → Inside
onward stop n x = record x { now = until stop n x.now }
