-- The data cache: 64 lines of 16 words. It knows which lines of memory it holds and which of them are dirty, and no words.
use Rattle.std.specs.Prelude.{◌≡◌, ℕ, ◌+◌, ◌*◌, ◌/◌, ◌%◌, Bool, true, false, cond, ◌||◌, replicate, Some, None, Option, ◌==◌, slice_index_or, slice_set}
use Rattle.costs.specs.declared.used.CacheUse.{CacheUse}
use Rattle.costs.specs.declared.used.CacheUse.TheVariants.{DirtyMiss, Hit, Miss}
use Rattle.costs.specs.Costs.{cache_lines}
use Rattle.costs.specs.Cycles.{cache_cycles}
use Rattle.ranges.specs.Questions.{count}
use Rattle.paging.specs.declared.access.Access.{Access}
use Rattle.paging.specs.declared.access.Access.TheVariants.{Fetch, Load, Store}
use Rattle.paging.specs.declared.physical.PhysicalAddress.{PhysicalAddress}
use Rattle.tables.specs.declared.cache.Cache.{Cache}
use Rattle.tables.specs.declared.cache.Line.{Line}

-- memory is words, 1,024 to a frame, and lines of 16 words, of which each has a number
abbrev pub line_of : PhysicalAddress → ℕ
line_of physical = (physical.frame * 1024 + physical.offset % 4096 / 4) / 16

-- where in the cache a line of memory goes, and the tag that tells it from the others that go there
abbrev pub index_of : ℕ → ℕ
index_of line = line % cache_lines

abbrev pub tag_of : ℕ → ℕ
tag_of line = line / cache_lines

-- what the cache holds where a line of memory goes
abbrev pub held : Cache → ℕ → Option Line
held cache line = slice_index_or cache.lines (index_of line) None

abbrev pub is_dirty : Option Line → Bool
is_dirty None = false
is_dirty (Some line) = line.dirty

abbrev pub has_tag : ℕ → Option Line → Bool
has_tag tag None = false
has_tag tag (Some line) = line.tag == tag

-- whether a line of memory is in the cache
abbrev pub hits : Cache → ℕ → Bool
hits cache line = has_tag (tag_of line) (held cache line)

-- what an access to a line of memory does: a hit if it is in the cache, else a miss, and one over a dirty line if what goes is dirty
abbrev pub access_use : Cache → ℕ → CacheUse
access_use cache line = cond (hits cache line) Hit (cond (is_dirty (held cache line)) DirtyMiss Miss)

-- and the cycles of that
abbrev pub access_cost : Cache → ℕ → ℕ
access_cost cache line = cache_cycles (access_use cache line)

abbrev pub is_store : Access → Bool
is_store Fetch = false
is_store Load = false
is_store Store = true

-- what the cache holds of the line afterwards: dirty after a store, and after a load if it was there and dirty
abbrev pub renewed : Cache → ℕ → Bool → Line
renewed cache line store = record { tag = tag_of line; dirty = cond (hits cache line) (is_dirty (held cache line) || store) store }

abbrev pub accessed : Cache → ℕ → Bool → Cache
accessed cache line store = record { lines = slice_set cache.lines (index_of line) (Some (renewed cache line store)) }

-- a line of memory is in the cache, and an access to it costs nothing
pub record AtHand (cache : Cache) (line : ℕ) : Type 0 where
  pub in_cache : hits cache line ≡ true
  pub free : access_cost cache line ≡ 0

abbrev pub dirty_at : Cache → ℕ → Bool
dirty_at cache at = is_dirty (slice_index_or cache.lines at None)

-- how many lines are dirty
abbrev pub dirty_count : Cache → ℕ
dirty_count cache = count (dirty_at cache) cache_lines

abbrev pub empty_cache : Cache
empty_cache = record { lines = replicate cache_lines None }
