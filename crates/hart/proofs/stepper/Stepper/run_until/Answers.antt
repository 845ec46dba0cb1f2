-- The goals of `run_until`: a turn of the loop is a step, and where it ends the clock has come to the run's end, or the program waits for it.
use Rattle.hart.specs.Moments.{moment}
use Rattle.std.proofs.Common.{◌≡◌, ◌≤◌, false, ◌⊎◌, sym, ◌∙◌, inl, inr, arith}
use Rattle.hart.specs.Execution.{is_ready}
use Rattle.hart.proofs.Running.{done, later, turned}
use Rattle.hart.proofs.stepper.Stepper.run_until.Goals as goal
use Rattle.hart.proofs.stepper.Stepper.run_until.Goals.{then-loop-self-test+else-is_ready, else-loop-self-test}

pub loop-self-smaller : goal.loop-self-smaller
loop-self-smaller c =
    let on = later c.min-last.result c.loop-self.invariant.early c.loop-self.self.core c.instruction.new.self.core c.loop-self.words c.loop-self-test.true (sym c.if-is_ready.ensures) c.instruction.ensures.core in
    omega (arith, on)

pub loop-self-preserved : goal.loop-self-preserved
loop-self-preserved c =
    let before = c.loop-self.invariant in
    let e = c.instruction.ensures in
    let on = later c.min-last.result before.early c.loop-self.self.core c.instruction.new.self.core c.loop-self.words c.loop-self-test.true (sym c.if-is_ready.ensures) e.core in
    record {
      begun = omega (arith, on);
      early = before.early;
      rest = turned c.min-last.result before.early c.loop-self.self.core c.instruction.new.self.core c.loop-self.words c.loop-self-test.true (sym c.if-is_ready.ensures) e.core
          c.instruction.new.words c.loop-self.instructions e.words ∙ before.rest;
    }

pub returns : goal.returns
returns c =
    let core = c.loop-self.self.core in
    let last = c.min-last.result in
    let why : (last ≤ core.clock) ⊎ (is_ready core.context.state ≡ false) =
    elim c.loop-self-test.branch [ then-loop-self-test+else-is_ready w ↦ inr (sym w.if-is_ready.ensures) | else-loop-self-test w ↦ inl w.loop-self-test.false ] in
    rw c.max-self.ensures (sym (done last c.loop-self.invariant.early (moment core c.loop-self.words c.loop-self.instructions) why) ∙ c.loop-self.invariant.rest)
