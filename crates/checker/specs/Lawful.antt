-- The rules on frames, each a sentence of its own. No loop and no mark stands in them. An order of reading stands in `PagesUnread` and
-- `TablesUnread` alone, which say when a frame that is not lent stops a rule.
use Rattle.std.specs.Prelude.{◌≡◌, ℕ, ◌+◌, ◌*◌, ◌/◌, ◌^◌, ◌<◌, ◌≤◌, Bool, true, false, ◌≢◌, ◌⊎◌, List, length}
use Rattle.words.specs.Frames.{word}
use Rattle.paging.specs.declared.leaf.Leaf.{Leaf}
use Rattle.paging.specs.Entries.{frame_of, is_leaf, is_valid}
use Rattle.paging.specs.Mapping.{InMemory, LeafEntry, Maps, Pointer}
use Rattle.paging.specs.Tables.{PageTableFrame, References}
use Rattle.plan.specs.declared.model.Endpoint.{Endpoint}
use Rattle.plan.specs.declared.model.Plan.{Plan}
use Rattle.plan.specs.Rules.{channel, partition}
use Rattle.checker.specs.declared.pages.ChannelFrames.{ChannelFrames}

-- all words of a frame are lent
abbrev pub Lent : List ℕ → ℕ → Type 0
Lent words frame = frame * 1024 + 1024 ≤ length words

abbrev pub root : Plan → ℕ → ℕ
root p k = (partition p k).root

-- at most 256 frames are lent, and the partition's root is one of 256 frames and no earlier partition's
pub record RootFits (words : List ℕ) (p : Plan) (k : ℕ) : Type 0 where
  pub few : length words / 1024 ≤ 256
  pub below : root p k < 256
  pub own : (j : ℕ) → j < k → root p j ≢ root p k

-- every valid entry of a table is a leaf, and references one of the 256 frames
abbrev pub TableFormed : List ℕ → ℕ → Type 0
TableFormed words table = (k : ℕ) → k < 1024 → is_valid (word words table k) ≡ true → (is_leaf (word words table k) ≡ true) × (frame_of (word words table k) < 256)

-- a valid entry of a root points to a well-formed table that is lent
pub record EntryFits (words : List ℕ) (entry : ℕ) : Type 0 where
  pub points : is_valid entry ≡ true → Pointer entry (frame_of entry)
  pub there : is_valid entry ≡ true → InMemory words (frame_of entry)
  pub formed : is_valid entry ≡ true → TableFormed words (frame_of entry)

-- the page tables of a root are well formed
pub record Formed (words : List ℕ) (root : ℕ) : Type 0 where
  pub there : Lent words root
  pub entries : (k : ℕ) → k < 1024 → EntryFits words (word words root k)

-- they cannot be read: the root is not lent, or an entry points to a table that is not, where all entries before it fit
pub data TablesUnread (words : List ℕ) (root : ℕ) : Type 0 where
  no_root : (Lent words root → ⊥) → TablesUnread words root
  no_table : (k table : ℕ) → k < 1024 → Pointer (word words root k) table → table < 256 → (Lent words table → ⊥) →
      ((j : ℕ) → j < k → EntryFits words (word words root j)) → TablesUnread words root

-- a page leads to a leaf of one of the 256 frames; whether that frame is lent is not asked
pub record Leads (words : List ℕ) (root page : ℕ) (leaf : Leaf) : Type 0 where
  pub high : ℕ
  pub low : ℕ
  pub table : ℕ
  pub high_below : high < 1024
  pub low_below : low < 1024
  pub number : page ≡ high * 1024 + low
  pub points : Pointer (word words root high) table
  pub leads : LeafEntry (word words table low) leaf
  pub root_there : InMemory words root
  pub table_there : InMemory words table
  pub frame_below : leaf.frame < 256

-- a page maps to a leaf if and only if it leads to it and the leaf's frame is lent
pub record LeadsAsMapped (words : List ℕ) (root page : ℕ) (leaf : Leaf) : Type 0 where
  pub maps : Leads words root page leaf → Lent words leaf.frame → Maps words root page leaf
  pub leads : Maps words root page leaf → Leads words root page leaf

abbrev pub LeadsMaps : Type 0
LeadsMaps = (words : List ℕ) (root page : ℕ) (leaf : Leaf) → LeadsAsMapped words root page leaf

-- it cannot be looked up: the root, or the table that it leads to, is one of the 256 frames and not lent
pub data PageUnread (words : List ℕ) (root page : ℕ) : Type 0 where
  no_root : page < 2 ^ 20 → root < 256 → (Lent words root → ⊥) → PageUnread words root page
  no_table : (high low table : ℕ) → high < 1024 → low < 1024 → page ≡ high * 1024 + low → InMemory words root →
      Pointer (word words root high) table → table < 256 → (Lent words table → ⊥) → PageUnread words root page

-- an end of a channel has the frame: its page leads to a leaf that may be read, and, where it receives, not written
pub record Usable (words : List ℕ) (p : Plan) (end : Endpoint) (receives : Bool) (frame : ℕ) : Type 0 where
  pub leaf : Leaf
  pub leads : Leads words (root p end.partition) end.page leaf
  pub readable : leaf.readable ≡ true
  pub not_writable : receives ≡ true → leaf.writable ≡ false
  pub frame_is : leaf.frame ≡ frame

-- channel k joins two frames
pub record Joins (words : List ℕ) (p : Plan) (k : ℕ) (frames : ChannelFrames) : Type 0 where
  pub sender : Usable words p (channel p k).sender false frames.sender
  pub receiver : Usable words p (channel p k).receiver true frames.receiver

-- one frame is an end of both
abbrev pub Touch : ChannelFrames → ChannelFrames → Type 0
Touch a b = (a.sender ≡ b.sender) ⊎ ((a.sender ≡ b.receiver) ⊎ ((a.receiver ≡ b.sender) ⊎ (a.receiver ≡ b.receiver)))

-- channel k joins two frames, neither of them an end of an earlier channel
pub record PagesFit (words : List ℕ) (p : Plan) (k : ℕ) : Type 0 where
  pub frames : ChannelFrames
  pub joins : Joins words p k frames
  pub alone : (j : ℕ) → j < k → (others : ChannelFrames) → Joins words p j others → Touch frames others → ⊥

abbrev pub EndUnread : List ℕ → Plan → Endpoint → Type 0
EndUnread words p end = PageUnread words (root p end.partition) end.page

-- its pages cannot be looked up: the sender's, or the receiver's where the sender's end is usable
abbrev pub PagesUnread : List ℕ → Plan → ℕ → Type 0
PagesUnread words p k =
    EndUnread words p (channel p k).sender
    ⊎ (((frame : ℕ) × Usable words p (channel p k).sender false frame) × EndUnread words p (channel p k).receiver)

-- two partitions are in conflict over a frame that the first references: the other references it too, or has it as its root or a table
abbrev pub Conflict : List ℕ → Plan → ℕ → ℕ → Type 0
Conflict words p a b = (f : ℕ) × References words (root p a) f × (((a ≢ b) × References words (root p b) f) ⊎ PageTableFrame words (root p b) f)

-- a partition is in conflict with none that is no later
abbrev pub Apart : List ℕ → Plan → ℕ → Type 0
Apart words p k = (j : ℕ) → j ≤ k → Conflict words p k j ⊎ Conflict words p j k → ⊥

-- every frame that a partition references is lent
abbrev pub AllLent : List ℕ → Plan → Type 0
AllLent words p = (k f : ℕ) → k < p.counts.partitions → References words (root p k) f → Lent words f
