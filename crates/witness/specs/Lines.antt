-- The lines printed of the first slots of two programs, worked out by hand from the programs and the costs.
use Rattle.std.specs.Prelude.{◌≡◌, ℕ, List, codes, Some, Option, option_map}
use Rattle.plan.specs.Format.{plan_of}
use Rattle.kernel.specs.Machine.{System}
use Rattle.kernel.specs.Reports.{slot_report}
use Rattle.kernel.specs.ReportText.{report_text}
use Rattle.sample.specs.Memory.{two}
use Rattle.witness.specs.Programs.{after, other_after}

-- what is printed of the slot to come
abbrev pub line : System → Option (List ℕ)
line s = option_map report_text (slot_report (plan_of two) s)

-- in the first slot six instructions take 86 cycles, and then there is a jump in each of the 114 that are left. In the second three take 83, and 45 jumps follow.
-- In the third the first jump takes 31, since its page has to be walked for again, and 169 follow. In the other layout the second partition's first word is no instruction
pub record Lines : Type 0 where
  pub first : line (after 0) ≡ Some (codes "slot 0 partition 0 from 0 ended 200 instructions 120 pc 00010018")
  pub second : line (after 1) ≡ Some (codes "slot 1 partition 1 from 1954 ended 2082 instructions 48 pc 0001000c")
  pub third : line (after 2) ≡ Some (codes "slot 2 partition 0 from 3836 ended 4036 instructions 170 pc 00010018")
  pub stopped : line (other_after 1) ≡ Some (codes "slot 1 partition 1 stopped 1 at 00010000")
