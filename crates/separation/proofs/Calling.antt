-- What the calls answer is what they promise.
use Rattle.std.proofs.Common.{◌≡◌, ℕ, zero, suc, ◌+◌, ◌^◌, ◌<◌, ◌≤◌, List, None, Ok, Option, sym, refl, ap, ◌∙◌, subst, add-one, arith}
use Rattle.plan.specs.Timetable.{begins}
use Rattle.plan.proofs.Rows.{length_rows}
use Rattle.checker.specs.declared.Accepted.{Accepted}
use Rattle.checker.specs.Checked.{checked}
use Rattle.checker.proofs.Judged.{accepted_sound}
use Rattle.kernel.specs.declared.machine.Machine.{Machine}
use Rattle.kernel.specs.declared.report.Report.{Report}
use Rattle.hart.specs.Execution.{fresh}
use Rattle.kernel.specs.Machine.{System, after_slot, after_slots, context_of, fresh_at, loaded, system}
use Rattle.kernel.specs.Reports.{slot_report}
use Rattle.separation.specs.declared.session.Session.{Session}
use Rattle.separation.specs.Agreement.{Agree, In}
use Rattle.separation.specs.Calls.{Runs, SlotKeeps, SlotUnseen, Starts, WholeRun, finished, first, in_words, last_report, ready}
use Rattle.separation.specs.Each.{LoadsAlike}
use Rattle.separation.specs.Promises.{SlotPromises}
use Rattle.separation.specs.Running.{BeforeSlot, Running}
use Rattle.separation.proofs.Slots.{keeps_promises}
use Rattle.separation.proofs.Unseen.{noninterference}

-- an accepted plan runs from its first state on
pub before_first : (bytes words : List ℕ) (a : Accepted) → checked bytes words ≡ Ok a → BeforeSlot bytes a (first a words)
before_first bytes words a e = record { accepts = e; tables = refl; contexts = length_rows (fresh_at a.plan) (fresh 0) 8 8 }

pub running_first : (bytes words : List ℕ) (a : Accepted) → checked bytes words ≡ Ok a → Running bytes a (first a words)
unfolding begins
running_first bytes words a e = record { before = before_first bytes words a e; clock = refl }

pub starts : (a : Accepted) → Starts a (ready a)
starts a bytes words e = (accepted_sound bytes words a e, running_first bytes words a e)

pub system_is : (m : Machine) (words : List ℕ) (t : System) → m ≡ t.machine → words ≡ t.words → system m words ≡ t
system_is m words t a b = rw (a, b)

-- one slot, by the system that it leads to
module _ (a : Accepted) (s t : System) (e : t ≡ after_slot a s) where
  pub slot_keeps : SlotKeeps a s t
  slot_keeps bytes running room = subst (SlotPromises bytes a s) (sym e) (keeps_promises bytes a s running room)

  pub slot_unseen : SlotUnseen a s t
  unfolding after_slots
  slot_unseen bytes b A u closed rs ru same =
      let z = noninterference bytes a b A s u closed rs ru same in
      (subst (λ v. Agree a.plan (In A) v (after_slot b u)) (sym e) (z.slots 1), z.steps 0, z.reports 0)

-- a loop over slots: its start, its turn and its end
pub slots_none : (a : Accepted) (s : System) → s ≡ after_slots a 0 s
unfolding after_slots
slots_none a s = refl

pub last_none : (a : Accepted) (s : System) → None ≡ last_report a 0 s
unfolding last_report
last_none a s = refl

pub slots_more : (a : Accepted) (n : ℕ) (s now next : System) → now ≡ after_slots a n s → next ≡ after_slot a now → next ≡ after_slots a (n + 1) s
unfolding after_slots
slots_more a n s now next e d = rw (add-one, ← e) d

pub last_more : (a : Accepted) (n : ℕ) (s now : System) (r : Option Report) → now ≡ after_slots a n s → r ≡ slot_report a.plan now → r ≡ last_report a (n + 1) s
unfolding last_report
last_more a n s now r e d = rw (add-one, ← e) d

-- a set's members start alike
pub loads_alike : LoadsAlike
loads_alike bytes words others a b A e d same =
    let plan : b.plan ≡ a.plan = (accepted_sound bytes others b d).plan ∙ sym (accepted_sound bytes words a e).plan in
    record { contexts = λ q l m. ap (λ p. context_of (loaded p) q) plan; words = same; tables = refl; clock = refl; turn = refl }

-- a whole run
module _ (bytes words : List ℕ) (a : Accepted) (e : checked bytes words ≡ Ok a) (n : ℕ) (room : n < 2 ^ 32) where
  pub record At (k : ℕ) (s : System) : Type 0 where
    pub running : Running bytes a s
    pub turn : s.machine.turn ≡ k

  pub at : (k : ℕ) → k ≤ n → At k (after_slots a k (first a words))
  unfolding after_slots
  at zero l = record { running = running_first bytes words a e; turn = refl }
  at (suc k) l =
      let before = at k (omega arith) in
      let kept = keeps_promises bytes a (after_slots a k (first a words)) before.running (omega (arith, before.turn)) in
      record { running = kept.again; turn = kept.turn ∙ ap (λ i. i + 1) before.turn ∙ add-one k }

  pub whole_run : WholeRun bytes words n a
  unfolding after_slots
  whole_run = record {
    on_time = λ k l. (at k l).running.clock ∙ ap (begins a.plan) (at k l).turn;
    in_turn = λ k l. (at k l).turn;
    slots = λ k l. (let z = at k (omega arith) in keeps_promises bytes a (after_slots a k (first a words)) z.running (omega (arith, z.turn)));
    unseen = λ b A others closed d same. noninterference bytes a b A (first a words) (first b others) closed (before_first bytes words a e) (before_first bytes others b d) (loads_alike bytes words others a b A e d same);
  }

-- the end of a whole run
module _ (a : Accepted) (words after : List ℕ) (v : Session) (n i : ℕ) (last : Option Report) (all : i ≡ n) (same : v.accepted ≡ a)
    (system_now : in_words v after ≡ after_slots a i (first a words)) (last_now : last ≡ last_report a i (first a words)) where
  pub system_then : in_words v after ≡ after_slots a n (first a words)
  system_then = system_now ∙ ap (λ j. after_slots a j (first a words)) all

  pub finished_value : record { session = v; last = last } ≡ finished a words n
  finished_value =
      let machine : v.machine ≡ (after_slots a n (first a words)).machine = ap (λ z. z.machine) system_then in
      let last_then : last ≡ last_report a n (first a words) = last_now ∙ ap (λ j. last_report a j (first a words)) all in
      rw (same, machine, last_then) refl

  pub finished_promises : n < 2 ^ 32 → Runs a words n after (record { session = v; last = last })
  finished_promises room bytes e = record { sound = accepted_sound bytes words a e; system = system_then; promises = whole_run bytes words a e n room }
