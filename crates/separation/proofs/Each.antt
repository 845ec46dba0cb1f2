-- Each promise by itself, out of a whole run.
use Rattle.std.proofs.Common.{◌≡◌, ℕ, suc, ◌+◌, ◌^◌, ◌<◌, List, Ok, arith}
use Rattle.checker.specs.declared.Accepted.{Accepted}
use Rattle.checker.specs.Checked.{checked}
use Rattle.kernel.specs.Machine.{after_slots, inside_after}
use Rattle.separation.specs.Calls.{first}
use Rattle.separation.specs.Each.{Confinement, Execution, MessagesArrive, OnTime, OthersRest, Progresses, StaysAccepted, SwitchesFit, TrueTranslation}
use Rattle.separation.specs.Promises.{SlotPromises}
use Rattle.separation.proofs.Calling.{at, whole_run}

of_slot : (bytes words : List ℕ) (a : Accepted) → checked bytes words ≡ Ok a → (k : ℕ) → k + 1 < 2 ^ 32 → SlotPromises bytes a (after_slots a k (first a words)) (after_slots a (suc k) (first a words))
of_slot bytes words a e k room = (whole_run bytes words a e (k + 1) room).slots k (omega arith)

pub on_time : OnTime
on_time bytes words a e k room = (whole_run bytes words a e k room).on_time k (omega arith)

pub stays_accepted : StaysAccepted
stays_accepted bytes words a e k room = (at bytes words a e k room k (omega arith)).running.before.accepts

pub switches_fit : SwitchesFit
switches_fit bytes words a e k room = (of_slot bytes words a e k room).switch

pub messages_arrive : MessagesArrive
messages_arrive bytes words a e k room = (of_slot bytes words a e k room).messages

pub others_rest : OthersRest
unfolding inside_after
others_rest bytes words a e k room q other n = other

pub confinement : Confinement
confinement bytes words a e k room = (of_slot bytes words a e k room).confined

pub true_translation : TrueTranslation
true_translation bytes words a e k room = (of_slot bytes words a e k room).translation

pub execution : Execution
execution bytes words a e k room = (of_slot bytes words a e k room).execution

pub progresses : Progresses
progresses bytes words a e k room = (of_slot bytes words a e k room).progress
