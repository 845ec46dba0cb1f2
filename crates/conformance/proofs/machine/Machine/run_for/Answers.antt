-- What is left to show of `run_for`.
use Rattle.std.proofs.Common.{refl, ◌∙◌, add-one}
use Rattle.hart.specs.Moments.{after}
use Rattle.conformance.proofs.machine.Machine.run_for.Goals as goal

pub loop-turn-init : goal.loop-turn-init
unfolding after
loop-turn-init c = record { core = refl; words = refl }

pub loop-turn-preserved : goal.loop-turn-preserved
unfolding after
loop-turn-preserved c =
    let here = c.loop-turn.invariant in
    let there = c.step.ensures.moment in
    rw (add-one c.loop-turn._turn)
    (record { core = there.core ∙ rw (here.core, here.words) refl; words = there.words ∙ rw (here.core, here.words) refl })
