-- The switch after a slot: its copies, and the cycles of its work.
use Rattle.std.specs.Prelude.{ℕ, ◌+◌, ◌*◌, List, fold}
use Rattle.costs.specs.Costs.{write_back}
use Rattle.words.specs.Frames.{copied_words}
use Rattle.tables.specs.declared.Tables.{Tables}
use Rattle.tables.specs.Cache.{dirty_count}
use Rattle.plan.specs.declared.model.Plan.{Plan}
use Rattle.plan.specs.Switch.{Copy, copies, copy_cycles}
use Rattle.checker.specs.declared.Accepted.{Accepted}
use Rattle.checker.specs.declared.pages.ChannelFrames.{ChannelFrames}
use Rattle.checker.specs.Pages.{frames_at}

-- the frames that a channel joins
abbrev pub frames_of : Accepted → ℕ → ChannelFrames
frames_of a k = frames_at a.frames k

-- the words after a copy between the frames that its channel joins
abbrev pub carried : Accepted → List ℕ → Copy → List ℕ
carried a words c = copied_words words (frames_of a c.channel).sender (frames_of a c.channel).receiver c.words

-- the words after one copy and the next
abbrev pub delivered : Accepted → List Copy → List ℕ → List ℕ
delivered a cs words = fold (carried a) words cs

-- the cycles of a switch: every dirty line is written back, and every copy after a slot of the partition that ran is made
abbrev pub switch_work : Plan → ℕ → Tables → ℕ
switch_work p who t = write_back * dirty_count t.cache + copy_cycles (copies p who)
