-- The rules on the frames that partitions reference, as tests.
use Rattle.std.specs.Prelude.{ℕ, Bool, not, ◌&&◌, ◌||◌, List, Option}
use Rattle.ranges.specs.Questions.{any}
use Rattle.words.specs.Frames.{lent}
use Rattle.plan.specs.declared.model.Plan.{Plan}
use Rattle.plan.specs.declared.refusal.Refusal.{Refusal}
use Rattle.plan.specs.declared.refusal.Refusal.TheVariants.{FrameShared, FramesMissing}
use Rattle.plan.specs.Rules.{broken_unless, partition}
use Rattle.checker.specs.Marks.{is_page_table_frame, references}

-- of the partition with a number: it references the frame, or has it as a page-table frame
unfoldable pub referenced_at : List ℕ → Plan → ℕ → ℕ → Bool
referenced_at words p frame k = references words (partition p k).root frame

unfoldable pub page_tables_at : List ℕ → Plan → ℕ → ℕ → Bool
page_tables_at words p frame k = is_page_table_frame words (partition p k).root frame

-- a partition references a frame that an earlier one references or has as a page-table frame, or that is its own page-table frame; or an earlier one references
-- its page-table frame. Two partitions may have a page-table frame in common
unfoldable pub clash : Bool → Bool → Bool → Bool → Bool
clash referenced page_tables others tables = (referenced && (others || (tables || page_tables))) || (page_tables && others)

unfoldable pub clash_at : List ℕ → Plan → ℕ → ℕ → Bool
clash_at words p k f = clash (referenced_at words p f k) (page_tables_at words p f k) (any (referenced_at words p f) k) (any (page_tables_at words p f) k)

unfoldable pub apart_kept : List ℕ → Plan → ℕ → Bool
apart_kept words p k = not (any (clash_at words p k) 256)

abbrev pub share_refusal : List ℕ → Plan → ℕ → Option Refusal
share_refusal words p k = broken_unless (apart_kept words p k) (FrameShared k)

unfoldable pub missing_at : List ℕ → Plan → ℕ → Bool
missing_at words p f = any (referenced_at words p f) p.counts.partitions && not (lent words f)

unfoldable pub lent_kept : List ℕ → Plan → Bool
lent_kept words p = not (any (missing_at words p) 256)

abbrev pub lent_refusal : List ℕ → Plan → Option Refusal
lent_refusal words p = broken_unless (lent_kept words p) FramesMissing
