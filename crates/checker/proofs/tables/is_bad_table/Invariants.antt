-- What the loop of `is_bad_table` keeps.
use Rattle.std.proofs.Common.{◌≡◌, false, ◌||◌}
use Rattle.ranges.specs.Questions.{any}
use Rattle.checker.specs.Marks.{referencing_entry}
use Rattle.checker.specs.Tables.{bad_leaf_at}
use Rattle.checker.specs.Scaffold.{Shows, marked}
use Rattle.checker.proofs.tables.is_bad_table.Given as goal

abbrev pub invariant-loop-k : goal.invariant-loop-k
invariant-loop-k l =
    (any (bad_leaf_at l.words l.table) l.k ≡ false)
    × Shows l.referenced (λ f. marked l.initial.referenced f || any (referencing_entry l.words l.table f) l.k)
