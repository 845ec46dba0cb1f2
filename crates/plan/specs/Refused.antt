-- The number and the place of each refusal, and the turn in which its rule is asked.
use Rattle.std.specs.Prelude.{◌≡◌, ℕ, suc, ◌<◌, cond, List, [], ◌∷◌, ◌++◌, length, codes, decimal, ◌==◌, slice_index}
use Rattle.plan.specs.declared.refusal.Count.{Count}
use Rattle.plan.specs.declared.refusal.Count.TheVariants.{Partitions, Slots, Channels}
use Rattle.plan.specs.declared.refusal.Refusal.{Refusal}
use Rattle.plan.specs.declared.refusal.Refusal.TheVariants.{Truncated, CountRange, SlotRule, ChannelRule, ChannelPage, RootRule, TableMalformed, FrameShared, StartMisaligned, BudgetRule, FramesMissing, Surplus}

abbrev pub number_of : Refusal → ℕ
number_of (Truncated length) = 1
number_of (CountRange count) = 2
number_of (SlotRule slot) = 3
number_of (ChannelRule channel) = 4
number_of (ChannelPage channel) = 5
number_of (RootRule partition) = 6
number_of (TableMalformed partition) = 7
number_of (FrameShared partition) = 8
number_of (StartMisaligned partition) = 9
number_of BudgetRule = 10
number_of FramesMissing = 11
number_of (Surplus at) = 12

-- the numbers of the rules in the order in which they are asked
abbrev pub turns : List ℕ
turns = 1 ∷ 2 ∷ 3 ∷ 4 ∷ 5 ∷ 6 ∷ 7 ∷ 8 ∷ 9 ∷ 10 ∷ 11 ∷ 12 ∷ []

-- the index of a number in a list, the list's length where it does not stand there
unfoldable pub index_in : List ℕ → ℕ → ℕ
index_in [] n = 0
index_in (m ∷ ms) n = cond (m == n) 0 (suc (index_in ms n))

-- in which turn the rule with a number is asked
abbrev pub rank : ℕ → ℕ
rank number = index_in turns number

-- every rule has a turn, in which it is asked
pub record Ranked (number : ℕ) : Type 0 where
  pub some : rank number < length turns
  pub asked : slice_index turns (rank number) ≡ number

abbrev pub AllRanked : Type 0
AllRanked = (e : Refusal) → Ranked (number_of e)

-- so the turn tells the rule
abbrev pub RankTells : Type 0
RankTells = (e d : Refusal) → rank (number_of e) ≡ rank (number_of d) → number_of e ≡ number_of d

-- the counts are the first three bytes
abbrev pub count_place : Count → ℕ
count_place Partitions = 0
count_place Slots = 1
count_place Channels = 2

abbrev pub place_of : Refusal → ℕ
place_of (Truncated length) = length
place_of (CountRange count) = count_place count
place_of (SlotRule slot) = slot
place_of (ChannelRule channel) = channel
place_of (ChannelPage channel) = channel
place_of (RootRule partition) = partition
place_of (TableMalformed partition) = partition
place_of (FrameShared partition) = partition
place_of (StartMisaligned partition) = partition
place_of BudgetRule = 3
place_of FramesMissing = 0
place_of (Surplus at) = at

abbrev pub count_at : ℕ → Count
count_at k = cond (k == 0) Partitions (cond (k == 1) Slots Channels)

-- the refusal with a number and a place
abbrev pub refusal : ℕ → ℕ → Refusal
refusal number at =
    cond (number == 1) (Truncated at)
    (cond (number == 2) (CountRange (count_at at))
    (cond (number == 3) (SlotRule at)
    (cond (number == 4) (ChannelRule at)
    (cond (number == 5) (ChannelPage at)
    (cond (number == 6) (RootRule at)
    (cond (number == 7) (TableMalformed at)
    (cond (number == 8) (FrameShared at)
    (cond (number == 9) (StartMisaligned at)
    (cond (number == 10) BudgetRule
    (cond (number == 11) FramesMissing
    (Surplus at)))))))))))

-- number and place tell the refusal
abbrev pub Named : Type 0
Named = (e : Refusal) → e ≡ refusal (number_of e) (place_of e)

-- what is printed of a refusal
abbrev pub refusal_text : Refusal → List ℕ
refusal_text e = codes "refused " ++ (decimal (number_of e) ++ (codes " at " ++ decimal (place_of e)))
