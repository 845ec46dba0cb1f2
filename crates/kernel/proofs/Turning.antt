-- What the code of a slot answers is the slot as it is defined.
use Rattle.std.proofs.Common.{◌≡◌, ℕ, ◌+◌, ◌-◌, ◌^◌, ◌<◌, ◌≤◌, min, true, ltb, List, set, Some, refl, subst, ap, arith}
use Rattle.std.proofs.lemmas.Bool.{and_from, lt-ltb}
use Rattle.std.proofs.lemmas.Bool.Decides.{nat_tests}
use Rattle.hart.specs.declared.step.Core.{Core}
use Rattle.plan.specs.declared.model.Plan.{Plan}
use Rattle.plan.specs.declared.model.Slot.{Slot}
use Rattle.plan.specs.Switch.{copies}
use Rattle.checker.specs.declared.Accepted.{Accepted}
use Rattle.kernel.specs.declared.machine.Machine.{Machine}
use Rattle.kernel.specs.Inside.{Inside}
use Rattle.kernel.specs.Machine.{after_slot, can_run, coming, core_for, ended, inside_after, slot_ran, switched, system, who_runs}
use Rattle.kernel.specs.Reports.{report_of, slot_report}
use Rattle.hart.specs.Moments.{Moment, latest, run_until}
use Rattle.kernel.specs.Switch.{delivered}

pub can : (p : Plan) (m : Machine) (slot : Slot) → slot ≡ coming p m → slot.partition < 8 → m.turn + 1 < 2 ^ 32 → m.clock < 2 ^ 63 → can_run p m ≡ true
can p m slot e a b c =
    and_from (ltb (who_runs p m) 8) _ (lt-ltb (who_runs p m) 8 (subst (λ (s : Slot). s.partition < 8) e a)) (and_from (ltb (m.turn + 1) (2 ^ 32)) (ltb m.clock (2 ^ 63)) (lt-ltb (m.turn + 1) (2 ^ 32) b) (lt-ltb m.clock (2 ^ 63) c))

pub clock_below : (p : Plan) (m : Machine) → can_run p m ≡ true → m.clock < 2 ^ 63
clock_below p m e = grind (arith, nat_tests, e)

-- the steps of the slot, by the slot and the core that the code has made
pub same_end : (p : Plan) (m : Machine) (ws : List ℕ) (slot : Slot) (core : Core) (stop : ℕ) → slot ≡ coming p m → core ≡ core_for p m slot.partition → stop ≡ m.clock + slot.length → stop ≤ latest →
    run_until stop core ws ≡ (ended p (system m ws)).now
unfolding inside_after
same_end p m ws slot core stop a b c early =
    let n : m.clock + slot.length - m.clock ≡ slot.length = omega arith in
    let least : min stop latest ≡ stop = omega arith in
    rw (least, b, c, n, a) refl

module _ (a : Accepted) (m : Machine) (ws : List ℕ) (goes : can_run a.plan m ≡ true) (slot : Slot) (is : slot ≡ coming a.plan m) (x : Moment) (frames : x ≡ (ended a.plan (system m ws)).now) where
  all : record { who = slot.partition; now = x } ≡ ended a.plan (system m ws)
  unfolding inside_after
  all = rw (is, frames) refl

  pub told : Some (report_of m (record { who = slot.partition; now = x })) ≡ slot_report a.plan (system m ws)
  unfolding slot_report
  told = rw goes (ap (λ (y : Inside). Some (report_of m y)) all)

  pub machine_after : switched a.plan (record m { contexts = set m.contexts slot.partition x.core.context; tables = x.core.tables }) x.core.clock ≡ (after_slot a (system m ws)).machine
  unfolding after_slot slot_ran
  machine_after = rw goes (ap (λ (y : Inside). switched a.plan (record m { contexts = set m.contexts y.who y.now.core.context; tables = y.now.core.tables }) y.now.core.clock) all)

  pub words_after : delivered a (copies a.plan slot.partition) x.words ≡ (after_slot a (system m ws)).words
  unfolding after_slot slot_ran
  words_after = rw (goes, is, frames)
