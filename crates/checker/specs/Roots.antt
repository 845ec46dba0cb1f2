-- The rule on the lent frames and the roots, as a test.
use Rattle.std.specs.Prelude.{ℕ, ◌/◌, Bool, not, ◌&&◌, List, length, Option, ◌==◌, nat_le, nat_lt}
use Rattle.ranges.specs.Questions.{any}
use Rattle.plan.specs.declared.model.Plan.{Plan}
use Rattle.plan.specs.declared.refusal.Refusal.{Refusal}
use Rattle.plan.specs.declared.refusal.Refusal.TheVariants.{RootRule}
use Rattle.plan.specs.Rules.{broken_unless, partition}

-- partition j has the root of partition k
abbrev pub same_root : Plan → ℕ → ℕ → Bool
same_root p k j = (partition p j).root == (partition p k).root

abbrev pub root_kept : List ℕ → Plan → ℕ → Bool
root_kept words p k = nat_le (length words / 1024) 256 && (nat_lt (partition p k).root 256 && not (any (same_root p k) k))

abbrev pub root_refusal : List ℕ → Plan → ℕ → Option Refusal
root_refusal words p k = broken_unless (root_kept words p k) (RootRule k)
