-- What instructions cost: a program that reads the clock around its loads, branches alone, a load that evicts what was stored, and the dearest load.
use Rattle.std.specs.Prelude.{◌≡◌, ℕ, List}
use Rattle.words.specs.Frames.{written}
use Rattle.isa.specs.Registers.{held, register}
use Rattle.paging.specs.Small.{mapped, mapped_in, with_page}
use Rattle.costs.specs.Cycles.{cycles}
use Rattle.hart.specs.Core.{first_core, stepped}
use Rattle.hart.specs.Moments.{Moment, after, begin}

-- LUI x2, 17; rdcycle x5; LW x6, 0(x2); a fourth word; rdcycle x8
abbrev pub program : ℕ → List ℕ
program fourth =
    written (written (written (written (written mapped 2 0 0x00011137) 2 1 0xC00022F3) 2 2 0x00012303) 2 3 fourth) 2 4 0xC0002473

-- a fresh program in page 16
abbrev pub beginning : List ℕ → Moment
beginning words = begin (first_core 0 0x10000) words

-- the cycles of the step that comes then
abbrev pub cost_at : Moment → ℕ
cost_at m = cycles (stepped m.core m.words).used

abbrev pub start : ℕ → Moment
start fourth = beginning (program fourth)

abbrev pub register_after : ℕ → ℕ → ℕ → ℕ
register_after fourth n r = held (after n (start fourth)).core.context.registers (register r)

-- a program of one word, after some steps
abbrev pub alone : ℕ → ℕ → Moment
alone word n = after n (beginning (written mapped 2 0 word))

-- the same memory with pages 18 and 19, which are frame 2 as well: LUI x2, 17; LUI x3, 19; SW x0, 0(x2);
-- a JAL that goes on at the fifth word, by page 18; LW x6, 0(x3)
abbrev pub four_pages : List ℕ
four_pages = with_page (with_page mapped 18 0x8DB) 19 0x8DB

abbrev pub dear : List ℕ
dear = written (written (written (written (written four_pages 2 0 0x00011137) 2 1 0x000131B7) 2 2 0x00012023) 2 3 0x0040206F) 2 4 0x0001A303

-- page 18 is a frame of its own, frame 4, with R and W: LUI x2, 17; SW x0, 0(x2); LUI x3, 18; LW x6, 0(x3), whose line has the place of the one that was stored to; LW x6, 0(x3)
abbrev pub evicting : List ℕ
evicting =
    let words = with_page (mapped_in 5120) 18 0x10D7 in
    written (written (written (written (written words 2 0 0x00011137) 2 1 0x00012023) 2 2 0x000121B7) 2 3 0x0001A303) 2 4 0x0001A303

-- what an instruction of that program costs, with so many before it
abbrev pub evicting_cost : ℕ → ℕ
evicting_cost n = cost_at (after n (beginning evicting))

-- the first instruction costs 31, the first load 51, and a second load of the same line 1; one of the next line 21.
-- A counter begins at 1, which predicts not taken: BEQ x0, x0, 8, which is taken, costs 3 besides, and BNE x0, x0, 8 nothing.
-- BEQ x0, x0, 0 goes round on the spot, and from the second round on it is predicted.
-- A store whose page and line are missing costs 51, a load whose page and line are missing and that evicts a dirty line 61, and 1 when repeated.
-- The most that an instruction can cost is met: a load whose code page, data page and line are missing, over a dirty line
pub record Clocked : Type 0 where
  pub first_read : register_after 0x00012383 2 5 ≡ 31
  pub load_ends : (after 3 (start 0x00012383)).core.clock ≡ 83
  pub same_line : register_after 0x00012383 5 8 ≡ 84
  pub next_line : register_after 0x04012383 5 8 ≡ 104
  pub taken : (alone 0x00000463 1).core.clock ≡ 34
  pub goes_to : (alone 0x00000463 1).core.context.pc ≡ 0x10008
  pub not_taken : (alone 0x00001463 1).core.clock ≡ 31
  pub falls_through : (alone 0x00001463 1).core.context.pc ≡ 0x10004
  pub rounds : (alone 0x00000063 4).core.clock ≡ 37
  pub stores : evicting_cost 1 ≡ 51
  pub evicts : evicting_cost 3 ≡ 61
  pub again : evicting_cost 4 ≡ 1
  pub evicted_in_all : (after 5 (beginning evicting)).core.clock ≡ 145
  pub most : cost_at (after 4 (beginning dear)) ≡ 91
  pub in_all : (after 5 (beginning dear)).core.clock ≡ 175
