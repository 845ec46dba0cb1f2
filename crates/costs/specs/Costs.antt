-- What things cost in cycles.
use Rattle.std.specs.Prelude.{ℕ, ◌+◌, ◌-◌, ◌*◌}

-- every instruction
abbrev pub instruction : ℕ
instruction = 1

-- a page that is not in the TLB: the walk of its page table
abbrev pub page_walk : ℕ
page_walk = 30

-- a line that is not in the cache
abbrev pub miss : ℕ
miss = 20

-- a dirty line that leaves the cache
abbrev pub write_back : ℕ
write_back = 10

-- a branch that the predictor got wrong
abbrev pub misprediction : ℕ
misprediction = 3

-- a word of a message that is copied
abbrev pub copied_word : ℕ
copied_word = 1

abbrev pub cache_lines : ℕ
cache_lines = 64

-- the worst case of an instruction: a load or store whose code page, data page and line are all missing, over a dirty line
abbrev pub worst_instruction : ℕ
worst_instruction = instruction + page_walk + page_walk + miss + write_back

-- the worst case of a branch, which has no data: its code page is missing, and the predictor got it wrong
abbrev pub worst_branch : ℕ
worst_branch = instruction + page_walk + misprediction

-- the most that can lie between a slot's end and the end of a switch without messages: the last instruction began in the slot's
-- last cycle, and every line is dirty
abbrev pub worst_switch : ℕ
worst_switch = worst_instruction - 1 + cache_lines * write_back
