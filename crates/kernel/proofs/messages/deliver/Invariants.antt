-- What the loop of `deliver` keeps.
use Rattle.std.proofs.Common.{◌≡◌}
use Rattle.plan.specs.Switch.{messages}
use Rattle.kernel.specs.Switch.{delivered}
use Rattle.kernel.proofs.messages.deliver.Given as goal

abbrev pub invariant-loop-k : goal.invariant-loop-k
invariant-loop-k l = l.words ≡ delivered l.accepted (messages l.accepted.plan l.who l.k) l.initial.words
