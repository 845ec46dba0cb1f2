-- The rule on the pages of channels, as tests.
use Rattle.std.specs.Prelude.{ℕ, ◌/◌, ◌%◌, Bool, true, false, cond, not, ◌&&◌, ◌||◌, List, Some, None, Ok, Err, Option, Result, ◌==◌, nat_lt, slice_index_or}
use Rattle.ranges.specs.Questions.{any}
use Rattle.words.specs.Frames.{word}
use Rattle.paging.specs.declared.leaf.Leaf.{Leaf}
use Rattle.paging.specs.Entries.{frame_of, is_pointer, leaf_of}
use Rattle.plan.specs.declared.model.Endpoint.{Endpoint}
use Rattle.plan.specs.declared.model.Plan.{Plan}
use Rattle.plan.specs.declared.refusal.Refusal.{Refusal}
use Rattle.plan.specs.declared.refusal.Refusal.TheVariants.{ChannelPage}
use Rattle.plan.specs.Rules.{channel, partition}
use Rattle.checker.specs.declared.fault.Fault.{Fault}
use Rattle.checker.specs.declared.fault.Fault.TheVariants.{Broken}
use Rattle.checker.specs.declared.pages.ChannelFrames.{ChannelFrames}
use Rattle.checker.specs.Faults.{frame_fault, refused_by}

-- an answer where a frame can be read
abbrev pub if_read : {X : Type 0} → Option Fault → Result X Fault → Result X Fault
if_read None r = r
if_read (Some fault) r = Err fault

-- a leaf of one of the 256 frames; it need not be lent
abbrev pub leaf_below : Option Leaf → Result Leaf Fault
leaf_below None = Err Broken
leaf_below (Some leaf) = cond (nat_lt leaf.frame 256) (Ok leaf) (Err Broken)

-- the leaf that an entry of the root leads to
abbrev pub through : List ℕ → ℕ → ℕ → Result Leaf Fault
through words entry low = cond (is_pointer entry) (if_read (frame_fault words (frame_of entry)) (leaf_below (leaf_of (word words (frame_of entry) low)))) (Err Broken)

-- the leaf of a page; a root or table that is not lent cannot be read
unfoldable pub looked_up : List ℕ → ℕ → ℕ → Result Leaf Fault
looked_up words root page =
    cond (nat_lt (page / 1024) 1024) (if_read (frame_fault words root) (through words (word words root (page / 1024)) (page % 1024))) (Err Broken)

abbrev pub usable : Bool → Result Leaf Fault → Result ℕ Fault
usable receives (Ok leaf) = cond (leaf.readable && not (receives && leaf.writable)) (Ok leaf.frame) (Err Broken)
usable receives (Err fault) = Err fault

-- the frame behind a page that may be read, and, where it receives, not written
unfoldable pub end_frame : List ℕ → Plan → Endpoint → Bool → Result ℕ Fault
end_frame words p end receives = usable receives (looked_up words (partition p end.partition).root end.page)

abbrev pub both_frames : Result ℕ Fault → Result ℕ Fault → Result ChannelFrames Fault
both_frames (Ok a) (Ok b) = Ok (record { sender = a; receiver = b })
both_frames (Ok a) (Err fault) = Err fault
both_frames (Err fault) r = Err fault

-- the frames behind the pages of channel k, the sender's first
unfoldable pub channel_frames : List ℕ → Plan → ℕ → Result ChannelFrames Fault
channel_frames words p k = both_frames (end_frame words p (channel p k).sender false) (end_frame words p (channel p k).receiver true)

-- one frame is behind a page of both
abbrev pub touch : ChannelFrames → ChannelFrames → Bool
touch a b = a.sender == b.sender || (a.sender == b.receiver || (a.receiver == b.sender || a.receiver == b.receiver))

abbrev pub touches : ChannelFrames → Result ChannelFrames Fault → Bool
touches a (Ok b) = touch a b
touches a (Err fault) = false

unfoldable pub meets : List ℕ → Plan → ChannelFrames → ℕ → Bool
meets words p a j = touches a (channel_frames words p j)

abbrev pub taken_fault : List ℕ → Plan → ℕ → Result ChannelFrames Fault → Option Fault
taken_fault words p k (Ok a) = cond (any (meets words p a) k) (Some Broken) None
taken_fault words p k (Err fault) = Some fault

unfoldable pub pages_fault : List ℕ → Plan → ℕ → Option Fault
pages_fault words p k = taken_fault words p k (channel_frames words p k)

abbrev pub pages_refusal : List ℕ → Plan → ℕ → Option Refusal
pages_refusal words p k = refused_by (ChannelPage k) (pages_fault words p k)

abbrev pub no_frames : ChannelFrames
no_frames = record { sender = 0; receiver = 0 }

-- the frames of channel k in a row of them
abbrev pub frames_at : List ChannelFrames → ℕ → ChannelFrames
frames_at frames k = slice_index_or frames k no_frames

abbrev pub or_no_frames : Result ChannelFrames Fault → ChannelFrames
or_no_frames (Ok a) = a
or_no_frames (Err fault) = no_frames

unfoldable pub frames_or_none : List ℕ → Plan → ℕ → ChannelFrames
frames_or_none words p k = or_no_frames (channel_frames words p k)
