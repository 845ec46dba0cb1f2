-- What is left to show of `deliver`.
use Rattle.std.proofs.Common.{refl}
use Rattle.plan.specs.Switch.{messages}
use Rattle.kernel.proofs.Carrying.{delivered_next}
use Rattle.kernel.proofs.messages.deliver.Goals as goal

pub loop-k-init : goal.loop-k-init
unfolding messages
loop-k-init c = refl

pub loop-k-preserved : goal.loop-k-preserved
loop-k-preserved c = delivered_next c.args.accepted.now c.args.who c.loop-k.k c.args.words.now c.loop-k.words _ c.loop-k.invariant c.carry.ensures
