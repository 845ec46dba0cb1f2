-- What holds whenever the loop comes round: what is left to run leads to where the run does.
use Rattle.std.proofs.Common.{◌≡◌, ◌-◌, ◌≤◌}
use Rattle.hart.specs.Moments.{latest, moment, run_until, until}
use Rattle.hart.proofs.stepper.Stepper.run_until.Given as goal

abbrev pub invariant-loop-self : goal.invariant-loop-self
invariant-loop-self l = record {
  begun : l.instructions ≤ l.self.core.clock;
  early : l.last ≤ latest;
  rest : until l.last (l.last - l.self.core.clock) (moment l.self.core l.words l.instructions) ≡ run_until l.stop l.initial.self.core l.initial.words;
}

abbrev pub decreases-loop-self : goal.decreases-loop-self
decreases-loop-self l = l.last - l.self.core.clock
