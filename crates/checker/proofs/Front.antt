-- The verdict on a file is that on its front part.
use Rattle.std.proofs.Common.{refl}
use Rattle.plan.proofs.Front.{front_tells_all as plan_tells_all}
use Rattle.checker.specs.Checked.{TellsAll, checked, first_refusal}

pub tells_all : TellsAll
unfolding checked first_refusal
tells_all bytes words n small enough = let front = plan_tells_all bytes n small enough in rw (front.plan, front.early, front.late) refl
