-- The rule on the form of page tables as tests: entries are read from the first on, and the first at fault decides.
use Rattle.std.specs.Prelude.{ℕ, Bool, cond, not, ◌&&◌, List, Some, None, Option, nat_lt}
use Rattle.std.specs.Option.{option_or}
use Rattle.ranges.specs.Questions.{any, first}
use Rattle.words.specs.Frames.{lent, word}
use Rattle.paging.specs.Entries.{frame_of, is_leaf, is_pointer, is_valid}
use Rattle.plan.specs.declared.model.Plan.{Plan}
use Rattle.plan.specs.declared.refusal.Refusal.{Refusal}
use Rattle.plan.specs.declared.refusal.Refusal.TheVariants.{TableMalformed}
use Rattle.plan.specs.Rules.{partition}
use Rattle.checker.specs.declared.fault.Fault.{Fault}
use Rattle.checker.specs.declared.fault.Fault.TheVariants.{Broken, NotLent}
use Rattle.checker.specs.Faults.{frame_fault, refused_by}

-- an entry of a table that is valid and no leaf of one of the 256 frames
abbrev pub bad_leaf : ℕ → Bool
bad_leaf entry = is_valid entry && not (is_leaf entry && nat_lt (frame_of entry) 256)

abbrev pub bad_leaf_at : List ℕ → ℕ → ℕ → Bool
bad_leaf_at words table k = bad_leaf (word words table k)

unfoldable pub bad_table : List ℕ → ℕ → Bool
bad_table words table = any (bad_leaf_at words table) 1024

unfoldable pub table_fault : List ℕ → ℕ → Option Fault
table_fault words table = option_or (frame_fault words table) (cond (bad_table words table) (Some Broken) None)

-- an entry of a root that is valid has to point to a table without fault
unfoldable pub entry_fault : List ℕ → ℕ → Option Fault
entry_fault words entry = cond (is_valid entry) (cond (is_pointer entry) (table_fault words (frame_of entry)) (Some Broken)) None

abbrev pub entry_fault_at : List ℕ → ℕ → ℕ → Option Fault
entry_fault_at words root k = entry_fault words (word words root k)

unfoldable pub root_fault : List ℕ → ℕ → Option Fault
root_fault words root = cond (lent words root) (first (entry_fault_at words root) 1024) (Some NotLent)

abbrev pub table_refusal : List ℕ → Plan → ℕ → Option Refusal
table_refusal words p k = refused_by (TableMalformed k) (root_fault words (partition p k).root)
