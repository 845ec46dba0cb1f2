-- All rules in their order, and what an accepted plan comes with.
use Rattle.std.specs.Prelude.{◌≡◌, ℕ, ◌<◌, ◌≤◌, List, take, Option, Result}
use Rattle.std.specs.Option.{option_or}
use Rattle.words.specs.Bytes.{byte}
use Rattle.ranges.specs.Questions.{first, unless}
use Rattle.plan.specs.declared.model.Plan.{Plan}
use Rattle.plan.specs.declared.refusal.Refusal.{Refusal}
use Rattle.plan.specs.Format.{longest, plan_of, rows}
use Rattle.plan.specs.Rules.{budget_fault, channel_fault, count_fault, slot_fault, start_fault, surplus, truncated}
use Rattle.checker.specs.declared.Accepted.{Accepted}
use Rattle.checker.specs.Pages.{frames_or_none, no_frames, pages_refusal}
use Rattle.checker.specs.Roots.{root_refusal}
use Rattle.checker.specs.Sharing.{lent_refusal, share_refusal}
use Rattle.checker.specs.Tables.{table_refusal}

-- the rules in the order in which they are asked
unfoldable pub first_refusal : List ℕ → List ℕ → Plan → Option Refusal
first_refusal bytes words p =
    option_or (truncated bytes p)
    (option_or (first (count_fault p.counts) 3)
    (option_or (first (slot_fault p) p.counts.slots)
    (option_or (first (channel_fault p) p.counts.channels)
    (option_or (first (pages_refusal words p) p.counts.channels)
    (option_or (first (root_refusal words p) p.counts.partitions)
    (option_or (first (table_refusal words p) p.counts.partitions)
    (option_or (first (share_refusal words p) p.counts.partitions)
    (option_or (first (start_fault p) p.counts.partitions)
    (option_or (budget_fault p)
    (option_or (lent_refusal words p)
    (surplus bytes p)))))))))))

-- the plan, and the frames behind the pages of its channels
abbrev pub accepted : List ℕ → Plan → Accepted
accepted words p = record { plan = p; frames = rows (frames_or_none words p) no_frames 16 p.counts.channels }

-- the refusal of the first rule that is not kept, or the plan that the bytes say
unfoldable pub checked : List ℕ → List ℕ → Result Accepted Refusal
checked bytes words = unless (first_refusal bytes words (plan_of bytes)) (accepted words (plan_of bytes))

-- the verdict on a file is that on so many of its bytes as the longest plan has, and a byte more
abbrev pub TellsAll : Type 0
TellsAll = (bytes words : List ℕ) (n : ℕ) → ((i : ℕ) → byte bytes i < 256) → longest ≤ n → checked (take n bytes) words ≡ checked bytes words
