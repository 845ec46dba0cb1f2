-- Rows of loads and stores, one after the other, and what is charged for them.
use Rattle.std.specs.Prelude.{◌≡◌, ℕ, ◌+◌, Bool, not, ◌&&◌, List, [], ◌∷◌, length, ◌==◌}
use Rattle.costs.specs.Costs.{cache_lines}
use Rattle.ranges.specs.Questions.{weight}
use Rattle.tables.specs.declared.cache.Cache.{Cache}
use Rattle.tables.specs.Cache.{access_cost, accessed, held, hits, is_dirty, index_of}

-- a load or store, by the line of memory that it goes to
pub record Use : Type 0 where
  pub line : ℕ
  pub store : Bool

-- the cache has all of its lines, as every array of them has
abbrev pub Whole : Cache → Type 0
Whole cache = length cache.lines ≡ cache_lines

abbrev pub used : Cache → Use → Cache
used cache u = accessed cache u.line u.store

-- the cache after a row
unfoldable pub after : Cache → List Use → Cache
after cache [] = cache
after cache (u ∷ row) = after (used cache u) row

-- the cycles of a row
unfoldable pub row_cost : Cache → List Use → ℕ
row_cost cache [] = 0
row_cost cache (u ∷ row) = access_cost cache u.line + row_cost (used cache u) row

-- how often something happens in a row; the test is asked of each access and of the cache that it meets
unfoldable pub times : (Cache → Use → Bool) → Cache → List Use → ℕ
times test cache [] = 0
times test cache (u ∷ row) = weight (test cache u) 1 + times test (used cache u) row

-- a line of memory is in the cache, and dirty
abbrev pub dirty_in : Cache → ℕ → Bool
dirty_in cache line = hits cache line && is_dirty (held cache line)

-- a line that was not there fills its place
abbrev pub fills : Cache → Use → Bool
fills cache u = not (hits cache u.line)

-- a dirty line is evicted
abbrev pub evicts_dirty : Cache → Use → Bool
evicts_dirty cache u = not (hits cache u.line) && is_dirty (held cache u.line)

-- a line that was not there, or was there and not dirty, is made dirty
abbrev pub makes_dirty : Cache → Use → Bool
makes_dirty cache u = u.store && not (dirty_in cache u.line)

-- two lines of memory that go to one place in the cache
abbrev pub conflicts : ℕ → ℕ → Bool
conflicts a b = index_of a == index_of b && not (a == b)

-- this very line is evicted dirty, or made dirty
abbrev pub evicts_dirty_line : ℕ → Cache → Use → Bool
evicts_dirty_line line cache u = dirty_in cache line && conflicts u.line line

abbrev pub makes_line_dirty : ℕ → Cache → Use → Bool
makes_line_dirty line cache u = u.line == line && makes_dirty cache u
