-- Two systems that run one plan, agree on its first partition, and differ elsewhere: in the second's page tables, in the frames that they reference, and in how many
-- frames are lent; its program and data may be any. So the promises are about something.
use Rattle.std.specs.Prelude.{◌≡◌, ℕ, ◌<◌, Bool, ◌≢◌, length, ◌==◌}
use Rattle.words.specs.Frames.{word}
use Rattle.paging.specs.Laws.{SameWay}
use Rattle.hart.specs.Laws.{SameOwn, TablesApart}
use Rattle.plan.specs.Flows.{Closed, Flows, Path}
use Rattle.plan.specs.Format.{plan_of}
use Rattle.checker.specs.declared.Accepted.{Accepted}
use Rattle.checker.specs.Checked.{accepted}
use Rattle.checker.specs.Lawful.{root}
use Rattle.kernel.specs.Machine.{System}
use Rattle.separation.specs.Agreement.{Agree, AllBut, In, Unseen}
use Rattle.separation.specs.Calls.{first}
use Rattle.separation.specs.Running.{Running}
use Rattle.sample.specs.Memory.{Layout, memory, two}
use Rattle.sample.specs.Verdicts.{here, there}

abbrev pub plan_in : Layout → (ℕ → ℕ → ℕ) → Accepted
plan_in l content = accepted (memory l content) (plan_of two)

abbrev pub system_in : Layout → (ℕ → ℕ → ℕ) → System
system_in l content = first (plan_in l content) (memory l content)

-- the first partition alone
abbrev pub first_alone : ℕ → Bool
first_alone q = q == 0

-- what the two programs and all data are is left open, but for the code and the data of the first partition
pub record Pair (content other : ℕ → ℕ → ℕ) : Type 0 where
  pub one_runs : Running two (plan_in here content) (system_in here content)
  pub other_runs : Running two (plan_in there other) (system_in there other)
  pub closed : Closed (plan_of two) (In first_alone)
  pub agree : Agree (plan_of two) (In first_alone) (system_in here content) (system_in there other)
  pub tables_differ : word (system_in here content).words 3 0 ≢ word (system_in there other).words 3 0
  pub lent_differ : length (system_in here content).words ≢ length (system_in there other).words
  -- a flow leads from the first partition to the second, and yet nothing of the second is seen by the first
  pub flow : Flows (plan_of two) 0 1
  -- no path of flows leads back, and on all but the second partition the two agree
  pub no_row : Path (plan_of two) 1 0 → ⊥
  pub others_agree : Agree (plan_of two) (AllBut 1) (system_in here content) (system_in there other)
  -- the second references no frame of its own root and table; the two memories are the same in all that the first has, and so on the way of every page's walk
  pub apart : TablesApart (system_in here content).words (root (plan_of two) 1)
  pub same_own : SameOwn (system_in here content).words (system_in there other).words (root (plan_of two) 0)
  pub same_way : (high low : ℕ) → high < 1024 → low < 1024 → SameWay (system_in here content).words (system_in there other).words (root (plan_of two) 0) high low
  pub unseen : Unseen (plan_of two) (In first_alone) (plan_in here content) (plan_in there other) (system_in here content) (system_in there other)

abbrev pub Pairs : Type 0
Pairs = (content other : ℕ → ℕ → ℕ) → ((k : ℕ) → other 2 k ≡ content 2 k) → ((k : ℕ) → other 6 k ≡ content 6 k) → Pair content other
