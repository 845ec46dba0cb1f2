-- The two halves of the clock.
use Rattle.std.proofs.Common.{refl, arith}
use Rattle.hart.specs.Laws.{ClockHalves}

pub clock_halves : ClockHalves
clock_halves = record {
  joined = λ clock. omega arith;
  time = λ clock. refl;
  low = λ clock. omega arith;
  high = λ clock l. omega arith;
}
