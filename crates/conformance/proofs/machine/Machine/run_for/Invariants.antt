-- What the loop of `run_for` keeps.
use Rattle.hart.specs.Moments.{after}
use Rattle.conformance.specs.Running.{IsAt, moment_of}
use Rattle.conformance.proofs.machine.Machine.run_for.Given as goal

abbrev pub invariant-loop-turn : goal.invariant-loop-turn
invariant-loop-turn l = IsAt (after l._turn (moment_of l.initial.self)) l.self
