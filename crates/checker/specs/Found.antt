-- What the checker can find, the order of findings, and what its verdict has to be.
use Rattle.std.specs.Prelude.{◌≡◌, ℕ, ◌<◌, ◌≤◌, true, false, ◌⊎◌, List, length, Ok, Result, MatchResult}
use Rattle.paging.specs.declared.leaf.Leaf.{Leaf}
use Rattle.paging.specs.Mapping.{Maps}
use Rattle.paging.specs.Tables.{PageTableFrame, References}
use Rattle.plan.specs.declared.model.Endpoint.{Endpoint}
use Rattle.plan.specs.declared.model.Plan.{Plan}
use Rattle.plan.specs.declared.refusal.Refusal.{Refusal}
use Rattle.plan.specs.declared.refusal.Refusal.TheVariants.{Truncated, CountRange, SlotRule, ChannelRule, ChannelPage, RootRule, TableMalformed, FrameShared, StartMisaligned, BudgetRule, FramesMissing, Surplus}
use Rattle.plan.specs.Format.{plan_of, plan_size}
use Rattle.plan.specs.Lawful.{BudgetFits, ChannelFits, CountFits, PlanLawful, SlotFits, StartFits}
use Rattle.plan.specs.Refused.{number_of, place_of, rank}
use Rattle.plan.specs.Rules.{channel}
use Rattle.checker.specs.declared.Accepted.{Accepted}
use Rattle.checker.specs.declared.pages.ChannelFrames.{ChannelFrames}
use Rattle.checker.specs.Checked.{accepted, checked}
use Rattle.checker.specs.Pages.{frames_at}
use Rattle.checker.specs.Lawful.{AllLent, Apart, Conflict, Formed, PagesFit, PagesUnread, RootFits, TablesUnread, root}

-- a rule is broken at its place; or, in the turn of the rule on channels' pages or of that on page tables, a frame that is not lent would have to be read
pub data Finding : Type 0 where
  broken : Refusal → Finding
  pages_unread : ℕ → Finding
  tables_unread : ℕ → Finding

-- the number of the rule in whose turn it is found, its turn, and the place
abbrev pub rule_of : Finding → ℕ
rule_of (broken e) = number_of e
rule_of (pages_unread k) = 5
rule_of (tables_unread k) = 7

abbrev pub turn_of : Finding → ℕ
turn_of f = rank (rule_of f)

abbrev pub found_at : Finding → ℕ
found_at (broken e) = place_of e
found_at (pages_unread k) = k
found_at (tables_unread k) = k

-- the refusal that it leads to
abbrev pub refusal_of : Finding → Refusal
refusal_of (broken e) = e
refusal_of (pages_unread k) = FramesMissing
refusal_of (tables_unread k) = FramesMissing

-- the plan and the lent words have what a finding says
unfoldable pub Found : List ℕ → List ℕ → Finding → Type 0
Found bytes words (broken (Truncated at)) = (length bytes < plan_size (plan_of bytes).counts) × (at ≡ length bytes)
Found bytes words (broken (CountRange c)) = CountFits (plan_of bytes) c → ⊥
Found bytes words (broken (SlotRule k)) = (k < (plan_of bytes).counts.slots) × (SlotFits (plan_of bytes) k → ⊥)
Found bytes words (broken (ChannelRule k)) = (k < (plan_of bytes).counts.channels) × (ChannelFits (plan_of bytes) k → ⊥)
Found bytes words (broken (ChannelPage k)) = (k < (plan_of bytes).counts.channels) × (PagesUnread words (plan_of bytes) k → ⊥) × (PagesFit words (plan_of bytes) k → ⊥)
Found bytes words (broken (RootRule k)) = (k < (plan_of bytes).counts.partitions) × (RootFits words (plan_of bytes) k → ⊥)
Found bytes words (broken (TableMalformed k)) =
    (k < (plan_of bytes).counts.partitions) × (TablesUnread words (root (plan_of bytes) k) → ⊥) × (Formed words (root (plan_of bytes) k) → ⊥)
Found bytes words (broken (FrameShared k)) = (k < (plan_of bytes).counts.partitions) × (Apart words (plan_of bytes) k → ⊥)
Found bytes words (broken (StartMisaligned k)) = (k < (plan_of bytes).counts.partitions) × (StartFits (plan_of bytes) k → ⊥)
Found bytes words (broken BudgetRule) = BudgetFits (plan_of bytes) → ⊥
Found bytes words (broken FramesMissing) = AllLent words (plan_of bytes) → ⊥
Found bytes words (broken (Surplus at)) = (plan_size (plan_of bytes).counts < length bytes) × (at ≡ plan_size (plan_of bytes).counts)
Found bytes words (pages_unread k) = (k < (plan_of bytes).counts.channels) × PagesUnread words (plan_of bytes) k
Found bytes words (tables_unread k) = (k < (plan_of bytes).counts.partitions) × TablesUnread words (root (plan_of bytes) k)

-- one finding comes before another: by its turn, and within a turn by its place
abbrev pub Earlier : {F : Type 0} → (F → ℕ) → (F → ℕ) → F → F → Type 0
Earlier turn place e d = (turn e < turn d) ⊎ ((turn e ≡ turn d) × (place e ≤ place d))

-- of all that is found, the first
pub record FirstFound (bytes words : List ℕ) (e : Refusal) : Type 0 where
  pub finding : Finding
  pub leads_to : refusal_of finding ≡ e
  pub found : Found bytes words finding
  pub first : (d : Finding) → Found bytes words d → Earlier turn_of found_at finding d

-- one refusal at most is the first
abbrev pub OneFirst : Type 0
OneFirst = (bytes words : List ℕ) (e d : Refusal) → FirstFound bytes words e → FirstFound bytes words d → e ≡ d

-- a plan and lent words that keep every rule
pub record Lawful (bytes words : List ℕ) : Type 0 where
  pub plan : PlanLawful bytes
  pub pages : (k : ℕ) → k < (plan_of bytes).counts.channels → PagesFit words (plan_of bytes) k
  pub roots : (k : ℕ) → k < (plan_of bytes).counts.partitions → RootFits words (plan_of bytes) k
  pub tables : (k : ℕ) → k < (plan_of bytes).counts.partitions → Formed words (root (plan_of bytes) k)
  pub apart : (a b : ℕ) → a < (plan_of bytes).counts.partitions → b < (plan_of bytes).counts.partitions → Conflict words (plan_of bytes) a b → ⊥
  pub all_lent : AllLent words (plan_of bytes)

-- a page of a partition maps to a leaf of the frame that may be read
pub record FrameOf (words : List ℕ) (p : Plan) (end : Endpoint) (frame : ℕ) : Type 0 where
  pub leaf : Leaf
  pub maps : Maps words (root p end.partition) end.page leaf
  pub readable : leaf.readable ≡ true
  pub frame_is : leaf.frame ≡ frame

-- the frames that an accepted plan comes with are those behind its channels' pages, and the receiver cannot write its own
pub record ChannelJoins (words : List ℕ) (p : Plan) (k : ℕ) (frames : ChannelFrames) : Type 0 where
  pub sender : FrameOf words p (channel p k).sender frames.sender
  pub receiver : FrameOf words p (channel p k).receiver frames.receiver
  pub only_read : receiver.leaf.writable ≡ false

-- what an accepted plan has
pub record Sound (bytes words : List ℕ) (a : Accepted) : Type 0 where
  pub lawful : Lawful bytes words
  pub plan : a.plan ≡ plan_of bytes
  pub joins : (k : ℕ) → k < (plan_of bytes).counts.channels → ChannelJoins words (plan_of bytes) k (frames_at a.frames k)

-- what a verdict has to be
pub record Judges (bytes words : List ℕ) (r : Result Accepted Refusal) : Type 0 where
  pub accepts : Lawful bytes words → r ≡ Ok (accepted words (plan_of bytes))
  pub cases : MatchResult r (Sound bytes words) (FirstFound bytes words)

-- and what `checked` answers is such a verdict
abbrev pub CheckedJudges : Type 0
CheckedJudges = (bytes words : List ℕ) → Judges bytes words (checked bytes words)

-- in an accepted plan no frame is referenced by two partitions, and no root or table by any
pub record Separate (words : List ℕ) (p : Plan) : Type 0 where
  pub alone : (a b f : ℕ) → a < p.counts.partitions → b < p.counts.partitions → References words (root p a) f → References words (root p b) f → a ≡ b
  pub hidden : (a b f : ℕ) → a < p.counts.partitions → b < p.counts.partitions → References words (root p a) f → PageTableFrame words (root p b) f → ⊥

abbrev pub AcceptedSeparate : Type 0
AcceptedSeparate = (bytes words : List ℕ) (a : Accepted) → checked bytes words ≡ Ok a → Separate words a.plan

-- so no page of one partition maps to a frame that a page of another maps to, and none to a root or table
pub record Unshared (words : List ℕ) (p : Plan) : Type 0 where
  pub alone : (a b page other : ℕ) (leaf there : Leaf) → a < p.counts.partitions → b < p.counts.partitions →
      Maps words (root p a) page leaf → Maps words (root p b) other there → leaf.frame ≡ there.frame → a ≡ b
  pub hidden : (a b page : ℕ) (leaf : Leaf) → a < p.counts.partitions → b < p.counts.partitions →
      Maps words (root p a) page leaf → PageTableFrame words (root p b) leaf.frame → ⊥

abbrev pub AcceptedUnshared : Type 0
AcceptedUnshared = (bytes words : List ℕ) (a : Accepted) → checked bytes words ≡ Ok a → Unshared words a.plan
