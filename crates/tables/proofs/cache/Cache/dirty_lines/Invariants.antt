-- What holds whenever the loop comes round: the lines before this one are counted.
use Rattle.std.proofs.Common.{◌≡◌, ◌≤◌}
use Rattle.ranges.specs.Questions.{count}
use Rattle.tables.specs.Cache.{dirty_at}
use Rattle.tables.proofs.cache.Cache.dirty_lines.Given as goal

abbrev pub invariant-loop-line : goal.invariant-loop-line
invariant-loop-line l = record {
  so_far : l.dirty ≡ count (dirty_at l.self) l.line-index;
  most : l.dirty ≤ l.line-index;
}
