-- What stops the check of a rule, and the refusal that it leads to.
use Rattle.std.specs.Prelude.{ℕ, cond, List, Some, None, Option, nat_lt}
use Rattle.words.specs.Frames.{lent}
use Rattle.plan.specs.declared.refusal.Refusal.{Refusal}
use Rattle.plan.specs.declared.refusal.Refusal.TheVariants.{FramesMissing}
use Rattle.checker.specs.declared.fault.Fault.{Fault}
use Rattle.checker.specs.declared.fault.Fault.TheVariants.{Broken, NotLent}

-- a frame from the 256th on breaks a rule, and one below that is not lent cannot be read
abbrev pub frame_fault : List ℕ → ℕ → Option Fault
frame_fault words frame = cond (nat_lt frame 256) (cond (lent words frame) None (Some NotLent)) (Some Broken)

-- the refusal at a fault of a rule
abbrev pub refused_with : Refusal → Fault → Refusal
refused_with rule Broken = rule
refused_with rule NotLent = FramesMissing

abbrev pub refused_by : Refusal → Option Fault → Option Refusal
refused_by rule None = None
refused_by rule (Some fault) = Some (refused_with rule fault)
