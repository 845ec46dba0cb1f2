-- What the checker says of the plan and its memory.
use Rattle.std.specs.Prelude.{◌≡◌, ℕ, ◌<◌, ◌≤◌, ◌≢◌, List, [], ◌∷◌, Ok, Err}
use Rattle.words.specs.Frames.{word}
use Rattle.paging.specs.Tables.{Owns}
use Rattle.plan.specs.declared.refusal.Refusal.TheVariants.{ChannelPage, FrameShared, FramesMissing, RootRule, TableMalformed}
use Rattle.plan.specs.Format.{plan_of}
use Rattle.plan.specs.Switch.{required_budget}
use Rattle.plan.specs.Written.{a_channel}
use Rattle.checker.specs.Checked.{accepted, checked}
use Rattle.checker.specs.Pages.{frames_at}
use Rattle.sample.specs.Memory.{Layout, memory, planned, two, with_channels}

-- a lent frame that is none of the first partition's, nor the second's root
abbrev pub Free : Layout → ℕ → Type 0
Free l frame = (3 < frame) × (frame ≢ 6) × (frame < l.frames)

-- the second partition has frames of its own, and its table is neither of its pages
pub record Fits (l : Layout) : Type 0 where
  pub few : l.frames ≤ 256
  pub enough : 6 < l.frames
  pub table : Free l l.table
  pub code : Free l l.code
  pub mailbox : Free l l.mailbox
  pub code_apart : l.code ≢ l.table
  pub mailbox_apart : l.mailbox ≢ l.table

-- the plan is accepted, and its channel joins the first partition's data to the second's mailbox
pub record Stands (l : Layout) (content : ℕ → ℕ → ℕ) : Type 0 where
  pub verdict : checked two (memory l content) ≡ Ok (accepted (memory l content) (plan_of two))
  pub joined : frames_at (accepted (memory l content) (plan_of two)).frames 0 ≡ record { sender = 6; receiver = l.mailbox }

-- it is accepted wherever the second partition keeps its frames, and whatever the programs and their data are
abbrev pub Accepts : Type 0
Accepts = (l : Layout) → Fits l → (content : ℕ → ℕ → ℕ) → Stands l content

-- two layouts, with different tables of the second partition and different numbers of frames
abbrev pub here : Layout
here = record { table = 4; code = 5; mailbox = 7; frames = 8 }

abbrev pub there : Layout
there = record { table = 5; code = 4; mailbox = 8; frames = 9 }

-- and the plan's budget is the least that its switches need
pub record Examples : Type 0 where
  pub budget : required_budget (plan_of two) ≡ 1754
  pub one : (content : ℕ → ℕ → ℕ) → Stands here content
  pub other : (content : ℕ → ℕ → ℕ) → Stands there content

-- two memories whose programs and data of the first partition are the same agree on its root, its table and the frames that it references,
-- wherever the second partition keeps its frames
abbrev pub Agrees : Type 0
Agrees =
    (l m : Layout) → Fits l → Fits m → (content other : ℕ → ℕ → ℕ) → ((k : ℕ) → other 2 k ≡ content 2 k) → ((k : ℕ) → other 6 k ≡ content 6 k) →
    (frame k : ℕ) → Owns (memory l content) 0 frame → k < 1024 →
    word (memory m other) frame k ≡ word (memory l content) frame k

-- and the two layouts differ in the second's page tables
abbrev pub Differs : Type 0
Differs = (content other : ℕ → ℕ → ℕ) → word (memory here content) 3 0 ≢ word (memory there other) 3 0

-- the channel the other way round, to a page that its receiver may write
abbrev pub turned : List ℕ
turned = planned 3 1 0 17

-- the root of the first for both, whose page 16 may be read and not written
abbrev pub one_root : List ℕ
one_root = planned 0 0 1 16

-- one frame more than may be lent
abbrev pub crowded : Layout
crowded = record { table = 4; code = 5; mailbox = 7; frames = 257 }

-- a page of the second in the first frame past the 256
abbrev pub past : Layout
past = record { table = 4; code = 256; mailbox = 7; frames = 8 }

-- page 16 of both partitions in frame 2
abbrev pub shared : Layout
shared = record { table = 4; code = 2; mailbox = 7; frames = 8 }

-- the frame on which the second receives, or the table that leads there, is not lent
abbrev pub short : Layout
short = record { table = 4; code = 5; mailbox = 7; frames = 7 }

abbrev pub tableless : Layout
tableless = record { table = 8; code = 5; mailbox = 7; frames = 8 }

-- page 16 of the second in the frame of its own table
abbrev pub own : Layout
own = record { table = 4; code = 4; mailbox = 7; frames = 8 }

-- the plan without its channel, and with another root of the second
abbrev pub unjoined : ℕ → List ℕ
unjoined root = with_channels 1754 root []

-- the plan with a budget for two messages, and a second channel from page 17 of the first, to page 16 of the second
abbrev pub forked : List ℕ
forked = with_channels 2778 3 (a_channel 0 17 1 17 ∷ a_channel 0 17 1 16 ∷ [])

-- each is refused by its rule, at its place
pub record Refuses : Type 0 where
  pub receiver_writes : (content : ℕ → ℕ → ℕ) → checked turned (memory here content) ≡ Err (ChannelPage 0)
  pub root_twice : (content : ℕ → ℕ → ℕ) → checked one_root (memory here content) ≡ Err (RootRule 1)
  pub too_many : (content : ℕ → ℕ → ℕ) → checked two (memory crowded content) ≡ Err (RootRule 0)
  pub no_frame : (content : ℕ → ℕ → ℕ) → checked two (memory past content) ≡ Err (TableMalformed 1)
  pub both_name : (content : ℕ → ℕ → ℕ) → checked two (memory shared content) ≡ Err (FrameShared 1)
  pub mailbox_missing : (content : ℕ → ℕ → ℕ) → checked two (memory short content) ≡ Err FramesMissing
  pub table_missing : (content : ℕ → ℕ → ℕ) → checked two (memory tableless content) ≡ Err FramesMissing
  -- without a channel the missing table is met in the turn of the rule on page tables
  pub table_unread : (content : ℕ → ℕ → ℕ) → checked (unjoined 3) (memory tableless content) ≡ Err FramesMissing
  -- a partition references its own table, or an earlier one references its root, which is empty
  pub names_own : (content : ℕ → ℕ → ℕ) → checked two (memory own content) ≡ Err (FrameShared 1)
  pub root_named : (content : ℕ → ℕ → ℕ) → ((k : ℕ) → content 2 k ≡ 0) → checked (unjoined 2) (memory here content) ≡ Err (FrameShared 1)
  -- one page for two channels, and a root with a leaf, the first partition's table
  pub sends_twice : (content : ℕ → ℕ → ℕ) → checked forked (memory here content) ≡ Err (ChannelPage 1)
  pub leaf_in_root : (content : ℕ → ℕ → ℕ) → checked (unjoined 1) (memory here content) ≡ Err (TableMalformed 1)
