-- What the calls answer, and what they promise.
use Rattle.std.specs.Prelude.{◌≡◌, ℕ, zero, suc, ◌+◌, ◌^◌, ◌<◌, ◌≤◌, Bool, List, None, Ok, Option}
use Rattle.plan.specs.Flows.{Closed}
use Rattle.plan.specs.Timetable.{begins}
use Rattle.checker.specs.declared.Accepted.{Accepted}
use Rattle.checker.specs.Checked.{checked}
use Rattle.checker.specs.Found.{Sound}
use Rattle.kernel.specs.declared.report.Report.{Report}
use Rattle.kernel.specs.Machine.{System, after_slot, after_slots, loaded, system}
use Rattle.kernel.specs.Reports.{slot_report}
use Rattle.separation.specs.declared.session.Session.{Session}
use Rattle.separation.specs.declared.run.Finished.{Finished}
use Rattle.separation.specs.Agreement.{Agree, In, SameReport, SameWords, StepByStep, Unseen}
use Rattle.separation.specs.Promises.{SlotPromises}
use Rattle.separation.specs.Running.{BeforeSlot, Running}

-- an accepted plan before its first slot
abbrev pub ready : Accepted → Session
ready a = record { accepted = a; machine = loaded a.plan }

-- the system of a session in its words
abbrev pub in_words : Session → List ℕ → System
in_words v words = system v.machine words

-- in words with which the plan was accepted it is ready to run
abbrev pub Starts : Accepted → Session → Type 0
Starts a v = (bytes words : List ℕ) → checked bytes words ≡ Ok a → Sound bytes words a × Running bytes a (in_words v words)

-- one slot keeps every promise
abbrev pub SlotKeeps : Accepted → System → System → Type 0
SlotKeeps a s t = (bytes : List ℕ) → Running bytes a s → s.machine.turn + 1 < 2 ^ 32 → SlotPromises bytes a s t

-- and what happens outside of a closed set is unseen by it: whatever other system agrees with this one on the set agrees with it after the slot,
-- and in each step of a member
abbrev pub SlotUnseen : Accepted → System → System → Type 0
SlotUnseen a s t =
    (bytes : List ℕ) (b : Accepted) (A : ℕ → Bool) (u : System) → Closed a.plan (In A) → BeforeSlot bytes a s → BeforeSlot bytes b u → Agree a.plan (In A) s u →
    Agree a.plan (In A) t (after_slot b u) × StepByStep a.plan (In A) s u × SameReport a.plan (In A) s u

-- the system of an accepted plan before its first slot
abbrev pub first : Accepted → List ℕ → System
first a words = system (loaded a.plan) words

-- the report of the last of n slots
unfoldable pub last_report : Accepted → ℕ → System → Option Report
last_report a zero s = None
last_report a (suc n) s = slot_report a.plan (after_slots a n s)

-- a whole run of n slots
abbrev pub finished : Accepted → List ℕ → ℕ → Finished
finished a words n = record {
  session = record { accepted = a; machine = (after_slots a n (first a words)).machine };
  last = last_report a n (first a words);
}

-- what holds of a whole run of n slots: every slot begins on time and keeps its promises, and no run of the same plan that agrees on a closed set at the start
-- differs from it on that set, after any number of slots and in any step
pub record WholeRun (bytes words : List ℕ) (n : ℕ) (a : Accepted) : Type 0 where
  pub on_time : (k : ℕ) → k ≤ n → (after_slots a k (first a words)).machine.clock ≡ begins a.plan k
  pub in_turn : (k : ℕ) → k ≤ n → (after_slots a k (first a words)).machine.turn ≡ k
  pub slots : (k : ℕ) → k < n → SlotPromises bytes a (after_slots a k (first a words)) (after_slots a (suc k) (first a words))
  pub unseen : (b : Accepted) (A : ℕ → Bool) (others : List ℕ) → Closed a.plan (In A) → checked bytes others ≡ Ok b → SameWords a.plan (In A) words others →
      Unseen a.plan (In A) a b (first a words) (first b others)

-- a whole run: the rules are kept, the system at the end is that of so many slots, and the promises hold
pub record RanWhole (bytes words : List ℕ) (n : ℕ) (a : Accepted) (after : List ℕ) (f : Finished) : Type 0 where
  pub sound : Sound bytes words a
  pub system : in_words f.session after ≡ after_slots a n (first a words)
  pub promises : WholeRun bytes words n a

-- so is every run of a plan in words with which it was accepted
abbrev pub Runs : Accepted → List ℕ → ℕ → List ℕ → Finished → Type 0
Runs a words n after f = (bytes : List ℕ) → checked bytes words ≡ Ok a → RanWhole bytes words n a after f
