-- What the loop of `check_entries` keeps.
use Rattle.std.proofs.Common.{◌≡◌, None}
use Rattle.ranges.specs.Questions.{any, first}
use Rattle.checker.specs.Marks.{points}
use Rattle.checker.specs.Tables.{entry_fault_at}
use Rattle.checker.specs.Scaffold.{Gathered, Shows}
use Rattle.checker.proofs.tables.check_entries.Given as goal

abbrev pub invariant-loop-k : goal.invariant-loop-k
invariant-loop-k l =
    (first (entry_fault_at l.words l.root) l.k ≡ None)
    × Gathered l.words l.claims
    × Shows l.claims.page_tables (λ f. any (points l.words l.root f) l.k)
