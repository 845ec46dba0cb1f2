-- The goals of `run_slot`: what the loop leaves is where the slot ends.
use Rattle.std.proofs.Common.{◌≡◌, ℕ, ◌+◌, ◌-◌, ◌^◌, ◌<◌, min, List, refl, ap, ◌∙◌, arith}
use Rattle.hart.specs.declared.step.Core.{Core}
use Rattle.kernel.specs.declared.machine.Machine.{Machine}
use Rattle.kernel.specs.Machine.{core_for, ended, system}
use Rattle.hart.specs.Moments.{Moment, begin, latest, moment, run_until}
use Rattle.kernel.proofs.Running.{until_most}
use Rattle.kernel.proofs.Turning.{can, machine_after, same_end, told, words_after}
use Rattle.kernel.proofs.machine.Machine.run_slot.Goals as goal

-- a run until the end of a slot leaves the clock below what the switch can count on
below : (x : Moment) (m : Machine) (core : Core) (ws : List ℕ) (stop length : ℕ) → m.clock < 2 ^ 63 → length < 2 ^ 32 → core.clock ≡ m.clock → stop ≡ m.clock + length →
    x ≡ run_until stop core ws → x.core.clock < 2 ^ 63 + 2 ^ 33
below x m core ws stop length small short at end e =
    omega (arith, ap (λ (x : Moment). x.core.clock) e, until_most (min stop latest) (omega arith) (min stop latest - core.clock) (begin core ws) (omega arith))

pub switch-requires : goal.switch-requires
switch-requires c =
    let m = c.args.self.now in
    let x = moment c.run_until-instructions.new.self.core c.run_until-instructions.new.words c.run_until-instructions.result in
    let core = core_for c.args.accepted.now.plan m c.slot_of-slot.result.partition in
    let e : x ≡ run_until (m.clock + c.from.result) core c.args.words.now = c.run_until-instructions.ensures ∙ ap (λ (k : Core). run_until (m.clock + c.from.result) k c.args.words.now) c.enter.ensures in
    record { clock = omega arith; turn = omega arith; ended = below x m core c.args.words.now (m.clock + c.from.result) c.slot_of-slot.result.length (omega arith) (omega arith) refl (omega arith) e }

pub returns : goal.returns
returns c =
    let a = c.args.accepted.now in
    let m = c.args.self.now in
    let ws = c.args.words.now in
    let slot = c.slot_of-slot.result in
    let is = c.slot_of-slot.ensures in
    let x = moment c.run_until-instructions.new.self.core c.run_until-instructions.new.words c.run_until-instructions.result in
    let goes = can a.plan m slot is (omega arith) (omega arith) (omega arith) in
    let frames : x ≡ (ended a.plan (system m ws)).now =
    c.run_until-instructions.ensures ∙ ap (λ (k : Core). run_until (m.clock + c.from.result) k ws) c.enter.ensures ∙ same_end a.plan m ws slot (core_for a.plan m slot.partition) (m.clock + c.from.result) is refl (omega arith) (omega arith) in
    record {
      value = told a m ws goes slot is x frames;
      machine = c.switch.ensures ∙ machine_after a m ws goes slot is x frames;
      words = c.deliver.ensures ∙ words_after a m ws goes slot is x frames;
    }
