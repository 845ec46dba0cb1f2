-- Each promise by itself, over all slots of all runs of accepted plans.
use Rattle.std.specs.Prelude.{◌≡◌, ℕ, suc, ◌+◌, ◌^◌, ◌<◌, Bool, ◌≢◌, List, Ok}
use Rattle.plan.specs.Timetable.{begins}
use Rattle.checker.specs.declared.Accepted.{Accepted}
use Rattle.checker.specs.Checked.{checked}
use Rattle.kernel.specs.Machine.{System, after_slots}
use Rattle.separation.specs.Agreement.{Agree, In, SameWords}
use Rattle.separation.specs.Calls.{first}
use Rattle.separation.specs.Promises.{Confined, Executes, Messages, Progress, Rests, Switches, TranslatesThroughout, runs}

-- of every slot of every run: the accepted plan, the system before the slot, and the one after its switch
abbrev pub InEverySlot : (Accepted → System → System → Type 0) → Type 0
InEverySlot P =
    (bytes words : List ℕ) (a : Accepted) → checked bytes words ≡ Ok a → (k : ℕ) → k + 1 < 2 ^ 32 →
    P a (after_slots a k (first a words)) (after_slots a (suc k) (first a words))

-- slot k begins at the clock that the plan alone gives
abbrev pub OnTime : Type 0
OnTime = (bytes words : List ℕ) (a : Accepted) → checked bytes words ≡ Ok a → (k : ℕ) → k < 2 ^ 32 → (after_slots a k (first a words)).machine.clock ≡ begins a.plan k

-- the checker's answer in the words as they are after any number of slots is the one that it gave at first
abbrev pub StaysAccepted : Type 0
StaysAccepted = (bytes words : List ℕ) (a : Accepted) → checked bytes words ≡ Ok a → (k : ℕ) → k < 2 ^ 32 → checked bytes (after_slots a k (first a words)).words ≡ Ok a

abbrev pub SwitchesFit : Type 0
SwitchesFit = InEverySlot Switches

abbrev pub MessagesArrive : Type 0
MessagesArrive = InEverySlot Messages

abbrev pub Confinement : Type 0
Confinement = InEverySlot (λ a s t. (q : ℕ) → q < a.plan.counts.partitions → Rests a s q → Confined a s t q)

-- every partition but the slot's own runs after no step of it
abbrev pub OthersRest : Type 0
OthersRest = InEverySlot (λ a s t. (q : ℕ) → q ≢ runs a s → Rests a s q)

abbrev pub TrueTranslation : Type 0
TrueTranslation = InEverySlot (λ a s t. TranslatesThroughout a s)

abbrev pub Execution : Type 0
Execution = InEverySlot Executes

abbrev pub Progresses : Type 0
Progresses = InEverySlot (λ a s t. Progress a s)

-- two memories that are accepted for the same plan and have the same words in the frames of a set's members give systems that agree on the set
abbrev pub LoadsAlike : Type 0
LoadsAlike =
    (bytes words others : List ℕ) (a b : Accepted) (A : ℕ → Bool) → checked bytes words ≡ Ok a → checked bytes others ≡ Ok b → SameWords a.plan (In A) words others →
    Agree a.plan (In A) (first a words) (first b others)
