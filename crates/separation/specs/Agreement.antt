-- Two systems that agree on a set of partitions, and noninterference.
use Rattle.std.specs.Prelude.{◌≡◌, ℕ, ◌<◌, Bool, true, List}
use Rattle.words.specs.Frames.{word}
use Rattle.plan.specs.declared.model.Plan.{Plan}
use Rattle.plan.specs.Flows.{Closed, Path}
use Rattle.checker.specs.declared.Accepted.{Accepted}
use Rattle.checker.specs.Lawful.{root}
use Rattle.kernel.specs.Inside.{Inside}
use Rattle.tables.specs.First.{SameTraces}
use Rattle.kernel.specs.Machine.{System, after_slots, context_of, ended, inside_after}
use Rattle.kernel.specs.Reports.{slot_report}
use Rattle.paging.specs.Tables.{Owns}
use Rattle.separation.specs.Running.{BeforeSlot}

-- the words of every root, table and referenced frame of the members
abbrev pub SameWords : Plan → (ℕ → Type 0) → List ℕ → List ℕ → Type 0
SameWords p A ws vs = (q f k : ℕ) → q < p.counts.partitions → A q → k < 1024 → Owns ws (root p q) f → word vs f k ≡ word ws f k

-- the contexts and the words of the members, the traces in the tables, the clock, and the slot to come. Of the others nothing is said: their programs, registers and words,
-- their page tables, which frames are whose, the frames that channels among them join, and how many frames are lent
pub record Agree (p : Plan) (A : ℕ → Type 0) (s t : System) : Type 0 where
  pub contexts : (q : ℕ) → q < p.counts.partitions → A q → context_of t.machine q ≡ context_of s.machine q
  pub words : SameWords p A s.words t.words
  pub tables : SameTraces t.machine.tables s.machine.tables
  pub clock : t.machine.clock ≡ s.machine.clock
  pub turn : t.machine.turn ≡ s.machine.turn

-- inside a slot: the same partition runs, under the same root, with the same context, traces in the tables, clock and count of instructions, and the
-- words of the members are the same
pub record SameInside (p : Plan) (A : ℕ → Type 0) (x y : Inside) : Type 0 where
  pub who : y.who ≡ x.who
  pub under : y.now.core.root ≡ x.now.core.root
  pub context : y.now.core.context ≡ x.now.core.context
  pub tables : SameTraces y.now.core.tables x.now.core.tables
  pub clock : y.now.core.clock ≡ x.now.core.clock
  pub instructions : y.now.instructions ≡ x.now.instructions
  pub words : SameWords p A x.now.words y.now.words

-- after any number of steps of a slot, if a member runs then
abbrev pub StepByStep : Plan → (ℕ → Type 0) → System → System → Type 0
StepByStep p A s t = (n : ℕ) → A (inside_after p s n).who → SameInside p A (inside_after p s n) (inside_after p t n)

-- what is told of a slot at whose end a member runs is the same
abbrev pub SameReport : Plan → (ℕ → Type 0) → System → System → Type 0
SameReport p A s t = A (ended p s).who → slot_report p t ≡ slot_report p s

-- after any number of slots the two agree on the set, in each slot of a member they go through the same states at the same readings of
-- the clock, and what is told of the slot is the same
pub record Unseen (p : Plan) (A : ℕ → Type 0) (a b : Accepted) (s t : System) : Type 0 where
  pub slots : (n : ℕ) → Agree p A (after_slots a n s) (after_slots b n t)
  pub steps : (n : ℕ) → StepByStep p A (after_slots a n s) (after_slots b n t)
  pub reports : (n : ℕ) → SameReport p A (after_slots a n s) (after_slots b n t)

-- a set by a test, and its members
abbrev pub In : (ℕ → Bool) → ℕ → Type 0
In A q = A q ≡ true

-- NONINTERFERENCE: for every plan, every closed set, and every two systems before a slot of the plan, each accepted on its own, that agree on the set
abbrev pub Noninterference : Type 0
Noninterference =
    (bytes : List ℕ) (a b : Accepted) (A : ℕ → Bool) (s t : System) → Closed a.plan (In A) → BeforeSlot bytes a s → BeforeSlot bytes b t → Agree a.plan (In A) s t →
    Unseen a.plan (In A) a b s t

-- a set with one partition left out
abbrev pub AllBut : ℕ → ℕ → Type 0
AllBut q r = r ≡ q → ⊥

abbrev pub Only : ℕ → ℕ → Type 0
Only q r = r ≡ q

-- if no path of flows leads from q to r, nothing of q is ever seen by r: two systems that differ in q alone agree on r forever
abbrev pub NotReached : Type 0
NotReached =
    (bytes : List ℕ) (a b : Accepted) (q r : ℕ) (s t : System) → (Path a.plan q r → ⊥) → BeforeSlot bytes a s → BeforeSlot bytes b t → Agree a.plan (AllBut q) s t →
    Unseen a.plan (Only r) a b s t
