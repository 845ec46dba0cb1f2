-- What the definitions of this crate come to.
use Rattle.std.specs.Prelude.{◌≡◌, ℕ, ◌+◌, ◌-◌, ◌*◌, ◌/◌, ◌%◌, ◌<◌, ◌≤◌, min, Bool, true, false, cond, ◌⊎◌, List, [], ◌∷◌, ◌++◌, length, replicate, is_some, None, Decides, Option, ◌≢◌, slice_index}
use Rattle.std.specs.List.{AllByRecursion}
use Rattle.costs.specs.Costs.{miss, misprediction, page_walk, write_back}
use Rattle.costs.specs.Cycles.{walk_cycles}
use Rattle.ranges.specs.Questions.{weight}
use Rattle.paging.specs.declared.access.Access.{Access}
use Rattle.paging.specs.declared.leaf.Leaf.{Leaf}
use Rattle.paging.specs.declared.physical.PhysicalAddress.{PhysicalAddress}
use Rattle.paging.specs.Walks.{walked}
use Rattle.tables.specs.declared.cache.Cache.{Cache}
use Rattle.tables.specs.declared.predictor.Predictor.{Predictor}
use Rattle.tables.specs.declared.tlb.Tlb.{Tlb}
use Rattle.tables.specs.Cache.{AtHand, access_cost, accessed, dirty_count, empty_cache, hits, line_of, index_of, tag_of}
use Rattle.tables.specs.History.{Costs, Resident, Stored}
use Rattle.tables.specs.Coherent.{Coherent, Truthful}
use Rattle.tables.specs.Pages.{Kept, PageUse, tlb_after}
use Rattle.tables.specs.Predictor.{branch_cost, first_predictor, learned}
use Rattle.tables.specs.Loops.{Branch, Taken, branch_costs, loop_and_again, loop_cost, taken_at}
use Rattle.tables.specs.Rows.{Use, Whole, after, fills, dirty_in, evicts_dirty, evicts_dirty_line, makes_dirty, makes_line_dirty, row_cost, times}
use Rattle.tables.specs.Tlb.{empty_tlb, filled, found, known}

-- an access costs nothing, a miss, or a miss and a write-back
abbrev pub AccessCosts : Type 0
AccessCosts = (cache : Cache) (line : ℕ) →
    (access_cost cache line ≡ 0) ⊎ ((access_cost cache line ≡ miss) ⊎ (access_cost cache line ≡ miss + write_back))

-- a frame has as many lines as the cache, so a line's place in the cache is its place in its frame, and its tag is the frame
pub record LineOfFrame (physical : PhysicalAddress) : Type 0 where
  pub at : index_of (line_of physical) ≡ physical.offset % 4096 / 64
  pub tag : tag_of (line_of physical) ≡ physical.frame

abbrev pub FrameIsTag : Type 0
FrameIsTag = (physical : PhysicalAddress) → LineOfFrame physical

-- after an access its line is in the cache, and another access to it at once costs nothing
abbrev pub ComesIn : Type 0
ComesIn = (cache : Cache) (line : ℕ) (store : Bool) → Whole cache → AtHand (accessed cache line store) line

-- what is in the cache after a row, which of it is dirty, and what the next access costs: the row alone tells
pub record Remembered (row : List Use) : Type 0 where
  pub resident : (line : ℕ) → Decides (hits (after empty_cache row) line) (Resident line row)
  pub stored : (line : ℕ) → Decides (dirty_in (after empty_cache row) line) (Stored line row)
  pub next : (line : ℕ) → Costs row line (access_cost (after empty_cache row) line)

abbrev pub Remembers : Type 0
Remembers = (row : List Use) → Remembered row

-- what is charged for a row: a miss for each line that fills a place, and a write-back for each time that a dirty line is evicted.
-- Each time that a line is made dirty is written back once, when the line goes, or the line is still there and dirty
pub record Charged (row : List Use) : Type 0 where
  pub cycles : row_cost empty_cache row ≡ miss * times fills empty_cache row + write_back * times evicts_dirty empty_cache row
  pub in_all : times evicts_dirty empty_cache row + dirty_count (after empty_cache row) ≡ times makes_dirty empty_cache row
  pub of_each : (line : ℕ) →
      times (evicts_dirty_line line) empty_cache row + weight (dirty_in (after empty_cache row) line) 1 ≡ times (makes_line_dirty line) empty_cache row

abbrev pub Charges : Type 0
Charges = (row : List Use) → Charged row

-- a write-back is of one line: where a dirty line is evicted, there is one that is, and no other
pub record WrittenBack (cache : Cache) (u : Use) : Type 0 where
  pub some : Decides (evicts_dirty cache u) ((line : ℕ) × (evicts_dirty_line line cache u ≡ true))
  pub only : (a b : ℕ) → evicts_dirty_line a cache u ≡ true → evicts_dirty_line b cache u ≡ true → a ≡ b

abbrev pub WriteBacks : Type 0
WriteBacks = (cache : Cache) (u : Use) → WrittenBack cache u

-- a store to a place of one frame, and a load from the same place of another: the load evicts the stored line, and costs nothing when repeated
pub record Evicted (cache : Cache) (from to : PhysicalAddress) : Type 0 where
  pub first : access_cost (accessed cache (line_of from) true) (line_of to) ≡ miss + write_back
  pub again : access_cost (accessed (accessed cache (line_of from) true) (line_of to) false) (line_of to) ≡ 0

abbrev pub FramesConflict : Type 0
FramesConflict = (cache : Cache) (from to : PhysicalAddress) → Whole cache → from.offset ≡ to.offset → (from.frame ≢ to.frame) → Evicted cache from to

-- from the first state, a branch that is taken n times in a row is mispredicted once, at the first turn;
-- other branches may lie between, as long as each that has the same counter is taken too
pub record Predicted (address : ℕ) : Type 0 where
  pub alone : (n : ℕ) → loop_cost address first_predictor (replicate (n + 1) (taken_at address)) ≡ misprediction
  pub among_others : (row : List Branch) → AllByRecursion (Taken address) row → loop_cost address first_predictor row ≤ misprediction

abbrev pub LoopsPredicted : Type 0
LoopsPredicted = (address : ℕ) → Predicted address

-- from the first state, the branch of a loop of two turns or more is mispredicted at the first turn and at the exit,
-- and nowhere else: when the loop is entered again, it is predicted as taken
abbrev pub LoopsLeft : Type 0
LoopsLeft = (address n : ℕ) → branch_costs first_predictor (loop_and_again address (n + 2)) ≡ misprediction ∷ (replicate (n + 1) 0 ++ (misprediction ∷ (0 ∷ [])))

-- what the counter at a place stands at
abbrev pub counter_at : Predictor → ℕ → ℕ
counter_at predictor place = slice_index predictor.counters place

-- what a branch does, said by the places of the counters: the branch at an address has the one at a quarter of it, modulo 64.
-- That goes one up, at most to 3, if the branch is taken, and one down, at least to 0, if it is not. The counters of all other addresses stay.
-- At 2 and above a branch is mispredicted if it is not taken, below 2 if it is taken
pub record Counted (predictor : Predictor) (address : ℕ) : Type 0 where
  pub up : counter_at (learned predictor address true) (address / 4 % 64) ≡ min (counter_at predictor (address / 4 % 64) + 1) 3
  pub down : counter_at (learned predictor address false) (address / 4 % 64) ≡ counter_at predictor (address / 4 % 64) - 1
  pub others : (other : ℕ) (taken : Bool) → (other / 4 % 64 ≢ address / 4 % 64) →
      counter_at (learned predictor address taken) (other / 4 % 64) ≡ counter_at predictor (other / 4 % 64)
  pub high : 2 ≤ counter_at predictor (address / 4 % 64) → (branch_cost predictor address true ≡ 0) × (branch_cost predictor address false ≡ misprediction)
  pub low : counter_at predictor (address / 4 % 64) < 2 → (branch_cost predictor address true ≡ misprediction) × (branch_cost predictor address false ≡ 0)

abbrev pub Counts : Type 0
Counts = (predictor : Predictor) (address : ℕ) → length predictor.counters ≡ 64 → Counted predictor address

-- 64 counters from 0 to 3
pub record InRange (predictor : Predictor) : Type 0 where
  pub as_many : length predictor.counters ≡ 64
  pub at_most : AllByRecursion (λ n. n ≤ 3) predictor.counters

pub record CountersStay : Type 0 where
  pub first : InRange first_predictor
  pub next : (predictor : Predictor) (address : ℕ) (taken : Bool) → InRange predictor → InRange (learned predictor address taken)

-- a look-up costs a walk unless the page is known; one that faults fills nothing; after one that does not fault, the page is known
pub record LookedUp (tlb : Tlb) (page : ℕ) (access : Access) (walk : Option Leaf) : Type 0 where
  pub cost : walk_cycles (found tlb page access walk).walked ≡ cond (is_some (known tlb page)) 0 page_walk
  pub fault : (found tlb page access walk).frame ≡ None → filled tlb page access walk ≡ tlb
  pub fills : length tlb.entries ≡ 16 → is_some (found tlb page access walk).frame ≡ true → is_some (known (filled tlb page access walk) page) ≡ true

abbrev pub LookUps : Type 0
LookUps = (tlb : Tlb) (page : ℕ) (access : Access) (walk : Option Leaf) → LookedUp tlb page access walk

-- which pages are known after a row of look-ups, and what the next look-up costs: the row alone tells
pub record PagesRemembered (row : List PageUse) : Type 0 where
  pub is_known : (page : ℕ) → Decides (is_some (known (tlb_after empty_tlb row) page)) (Kept page row)
  pub no_walk : (u : PageUse) → Kept u.page row → walk_cycles (found (tlb_after empty_tlb row) u.page u.access u.walk).walked ≡ 0
  pub a_walk : (u : PageUse) → (Kept u.page row → ⊥) → walk_cycles (found (tlb_after empty_tlb row) u.page u.access u.walk).walked ≡ page_walk

abbrev pub RemembersPages : Type 0
RemembersPages = (row : List PageUse) → PagesRemembered row

-- a coherent TLB answers what the page tables say, and stays coherent as long as every walk stays the same
pub record Coherence : Type 0 where
  pub first : (words : List ℕ) (root : ℕ) → Coherent empty_tlb words root
  pub find : (tlb : Tlb) (words : List ℕ) (root page : ℕ) (access : Access) → Coherent tlb words root →
      Truthful (filled tlb page access (walked words root page)) words root page access (found tlb page access (walked words root page))
  pub moves : (tlb : Tlb) (words others : List ℕ) (root : ℕ) → ((page : ℕ) → walked others root page ≡ walked words root page) →
      Coherent tlb words root → Coherent tlb others root
