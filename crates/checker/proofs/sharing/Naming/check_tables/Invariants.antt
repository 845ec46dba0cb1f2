-- What the loop of `check_tables` keeps.
use Rattle.std.proofs.Common.{◌≡◌, None}
use Rattle.ranges.specs.Questions.{first}
use Rattle.checker.specs.Sharing.{page_tables_at, referenced_at, share_refusal}
use Rattle.checker.specs.Tables.{table_refusal}
use Rattle.checker.specs.Scaffold.{Joined}
use Rattle.checker.proofs.sharing.Naming.check_tables.Given as goal

abbrev pub invariant-loop-k : goal.invariant-loop-k
invariant-loop-k l =
    (first (table_refusal l.words l.plan) l.k ≡ None)
    × (l.shared ≡ first (share_refusal l.words l.plan) l.k)
    × Joined (referenced_at l.words l.plan) l.earlier.referenced l.k
    × Joined (page_tables_at l.words l.plan) l.earlier.page_tables l.k
