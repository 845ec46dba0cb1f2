-- Two programs in the memory of `sample`, and their first slots: what they read from the clock, and what the first sends to the second.
use Rattle.std.specs.Prelude.{◌≡◌, ℕ, cond, List, [], ◌∷◌, ◌==◌, slice_index}
use Rattle.words.specs.Frames.{word}
use Rattle.isa.specs.Registers.{held, register}
use Rattle.hart.specs.declared.cause.Cause.TheVariants.{IllegalInstruction}
use Rattle.hart.specs.declared.context.State.TheVariants.{Ready, Stopped}
use Rattle.plan.specs.Format.{plan_of}
use Rattle.kernel.specs.Machine.{System, after_slots, context_of}
use Rattle.sample.specs.Memory.{two}
use Rattle.separation.specs.Agreement.{Agree, In}
use Rattle.sample.specs.Verdicts.{here, there}
use Rattle.witness.specs.Pair.{first_alone, plan_in, system_in}

-- LUI x2, 17; rdcycle x5; LW x6, 0(x2); LW x7, 0(x2); rdcycle x8; SW x8, 0(x2); JAL x0, 0
abbrev pub sender_code : List ℕ
sender_code = 0x00011137 ∷ 0xC00022F3 ∷ 0x00012303 ∷ 0x00012383 ∷ 0xC0002473 ∷ 0x00812023 ∷ 0x0000006F ∷ []

-- LUI x2, 17; LW x6, 0(x2); rdcycle x5; JAL x0, 0
abbrev pub receiver_code : List ℕ
receiver_code = 0x00011137 ∷ 0x00012303 ∷ 0xC00022F3 ∷ 0x0000006F ∷ []

-- the first partition's code is in frame 2, the second's in frame 5
abbrev pub codes : ℕ → ℕ → ℕ
codes frame k = cond (frame == 2) (slice_index sender_code k) (cond (frame == 5) (slice_index receiver_code k) 0)

abbrev pub after : ℕ → System
after n = after_slots (plan_in here codes) n (system_in here codes)

abbrev pub register_after : ℕ → ℕ → ℕ → ℕ
register_after n partition r = held (context_of (after n).machine partition).registers (register r)

-- the first program reads 31 and 84 from the clock, as its instructions cost, and sends the 84. The second reads the 84 in the next slot, which begins at 1,954, and
-- then 2,036 from the clock, as its two instructions cost 82. In the third slot the first goes on where it was: begun anew, it would read the clock again
pub record FirstSlots : Type 0 where
  pub early : register_after 1 0 5 ≡ 31
  pub late : register_after 1 0 8 ≡ 84
  pub next_begins : (after 1).machine.clock ≡ 1954
  pub sent : word (after 1).words 7 0 ≡ 84
  pub received : register_after 2 1 6 ≡ 84
  pub reads_on : register_after 2 1 5 ≡ 2036
  pub then_begins : (after 2).machine.clock ≡ 3836
  pub keeps_early : register_after 3 0 5 ≡ 31
  pub keeps_late : register_after 3 0 8 ≡ 84
  pub fourth_begins : (after 3).machine.clock ≡ 5790

-- in the other layout, with the same first program and a word in place of the second program that is no instruction
abbrev pub broken : ℕ → ℕ → ℕ
broken frame k = cond (frame == 2) (slice_index sender_code k) 0

abbrev pub other_after : ℕ → System
other_after n = after_slots (plan_in there broken) n (system_in there broken)

-- the second partition goes on in the one system and is stopped in the other, and on the first the two agree
pub record OtherProgram : Type 0 where
  pub goes_on : (context_of (after 2).machine 1).state ≡ Ready
  pub stops : (context_of (other_after 2).machine 1).state ≡ Stopped IllegalInstruction 0x10000
  pub agree : Agree (plan_of two) (In first_alone) (after 2) (other_after 2)
