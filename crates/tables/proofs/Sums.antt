-- What a row is charged for.
use Rattle.std.proofs.Common.{◌≡◌, ℕ, ◌+◌, ◌*◌, ◌<◌, Bool, true, false, cond, not, ◌&&◌, ◌||◌, eqb, List, [], ◌∷◌, Some, None, Option, sym, refl, ap, ◌∙◌, subst, inl, inr, arith}
use Rattle.std.proofs.lemmas.Nat.{mod_below}
use Rattle.std.proofs.lemmas.List.{get_or-set_same, get_or-set_other}
use Rattle.std.proofs.lemmas.Bool.{and_left, and_right, and_from, eq-eqb, ne_eqb, not_from_true, not_from_false}
use Rattle.costs.specs.declared.used.CacheUse.TheVariants.{DirtyMiss, Hit, Miss}
use Rattle.costs.specs.Costs.{cache_lines, miss, write_back}
use Rattle.costs.specs.Cycles.{cache_cycles}
use Rattle.ranges.specs.Questions.{count, weight}
use Rattle.ranges.proofs.Questions.{count_change}
use Rattle.tables.specs.declared.cache.Cache.{Cache}
use Rattle.tables.specs.declared.cache.Line.{Line}
use Rattle.tables.specs.Cache.{dirty_at, dirty_count, empty_cache, held, has_tag, hits, is_dirty, index_of, renewed, tag_of}
use Rattle.tables.specs.Rows.{Use, Whole, after, fills, conflicts, dirty_in, evicts_dirty, evicts_dirty_line, makes_dirty, makes_line_dirty, row_cost, times, used}
use Rattle.tables.specs.Laws.{Charges}
use Rattle.tables.proofs.Lines.{dirty_away, dirty_gone, dirty_same, held_empty, meets, whole_accessed, whole_empty}

-- what leaves and what is left is what came and what was there: for each access, and so for a row
module _ (out into : Cache → Use → Bool) (stock : Cache → ℕ)
    (each : (cache : Cache) (u : Use) → Whole cache → weight (out cache u) 1 + stock (used cache u) ≡ weight (into cache u) 1 + stock cache) where
  balanced : (row : List Use) (cache : Cache) → Whole cache → times out cache row + stock (after cache row) ≡ times into cache row + stock cache
  unfolding after times
  balanced [] cache whole = refl
  balanced (u ∷ row) cache whole =
      omega (arith, each cache u whole, balanced row (used cache u) (whole_accessed cache u.line u.store whole))

-- a whole cache
sums : (hit dirty store : Bool) (now was : ℕ) → now + weight dirty 1 ≡ was + weight (cond hit (dirty || store) store) 1 →
    weight (not hit && dirty) 1 + now ≡ weight (store && not (hit && dirty)) 1 + was
sums true true true now was e = omega arith
sums true true false now was e = omega arith
sums true false true now was e = omega arith
sums true false false now was e = omega arith
sums false true true now was e = omega arith
sums false true false now was e = omega arith
sums false false true now was e = omega arith
sums false false false now was e = omega arith

all_lines : (cache : Cache) (u : Use) → Whole cache → weight (evicts_dirty cache u) 1 + dirty_count (used cache u) ≡ weight (makes_dirty cache u) 1 + dirty_count cache
all_lines cache u whole =
    let at = index_of u.line in
    let new : Option Line = Some (renewed cache u.line u.store) in
    let inside : at < 64 = mod_below u.line 64 (omega arith) in
    let there : dirty_at (used cache u) at ≡ is_dirty new = ap is_dirty (get_or-set_same cache.lines at new None (omega arith)) in
    let change = count_change (dirty_at (used cache u)) (dirty_at cache) at cache_lines inside (λ k ne. ap is_dirty (get_or-set_other cache.lines at k new None ne)) in
    sums (hits cache u.line) (is_dirty (held cache u.line)) u.store (dirty_count (used cache u)) (dirty_count cache) (change ∙ ap (λ b. dirty_count cache + weight b 1) there)

-- one line
same_line : (dirty store : Bool) → weight (dirty && false) 1 + weight (dirty || store) 1 ≡ weight (store && not dirty) 1 + weight dirty 1
same_line true true = refl
same_line true false = refl
same_line false true = refl
same_line false false = refl

away_line : (dirty other : Bool) → weight (dirty && false) 1 + weight dirty 1 ≡ weight (false && other) 1 + weight dirty 1
away_line true other = refl
away_line false other = refl

gone_line : (dirty other : Bool) → weight (dirty && true) 1 + weight false 1 ≡ weight (false && other) 1 + weight dirty 1
gone_line true other = refl
gone_line false other = refl

one_line : (line : ℕ) (cache : Cache) (u : Use) → Whole cache →
    weight (evicts_dirty_line line cache u) 1 + weight (dirty_in (used cache u) line) 1 ≡ weight (makes_line_dirty line cache u) 1 + weight (dirty_in cache line) 1
one_line line cache u whole = elim (meets u.line line) [
  | inl e ↦
      let is : eqb u.line line ≡ true = eq-eqb u.line line e in
      let apart : conflicts u.line line ≡ false = and_right (eqb (index_of u.line) (index_of line)) (not (eqb u.line line)) (not_from_true (eqb u.line line) is) in
      let now : dirty_in (used cache u) line ≡ (dirty_in cache line || u.store) =
      subst (λ (l : ℕ). dirty_in (used cache u) l ≡ (dirty_in cache l || u.store)) e (dirty_same cache u.line u.store whole) in
      let was : dirty_in cache u.line ≡ dirty_in cache line = ap (λ l. dirty_in cache l) e in
      rw (apart, now, is, was) (same_line (dirty_in cache line) u.store)
  | inr (inl k) ↦
      let not_is : eqb u.line line ≡ false = ne_eqb u.line line k.1 in
      let apart : conflicts u.line line ≡ true =
      and_from (eqb (index_of u.line) (index_of line)) (not (eqb u.line line)) (eq-eqb (index_of u.line) (index_of line) k.0) (not_from_false (eqb u.line line) not_is) in
      rw (apart, dirty_gone cache u.line u.store whole line k, not_is) (gone_line (dirty_in cache line) (makes_dirty cache u))
  | inr (inr away) ↦
      let not_is : eqb u.line line ≡ false = ne_eqb u.line line (λ e. away (ap index_of (sym e))) in
      let apart : conflicts u.line line ≡ false =
      and_left (eqb (index_of u.line) (index_of line)) (not (eqb u.line line)) (ne_eqb (index_of u.line) (index_of line) (λ e. away (sym e))) in
      rw (apart, dirty_away cache u.line u.store line away, not_is) (away_line (dirty_in cache line) (makes_dirty cache u))
]

-- cycles
priced : (hit dirty : Bool) → cache_cycles (cond hit Hit (cond dirty DirtyMiss Miss)) ≡ miss * weight (not hit) 1 + write_back * weight (not hit && dirty) 1
priced true dirty = refl
priced false true = refl
priced false false = refl

cycles : (row : List Use) (cache : Cache) → row_cost cache row ≡ miss * times fills cache row + write_back * times evicts_dirty cache row
unfolding row_cost times
cycles [] cache = refl
cycles (u ∷ row) cache = omega (arith, priced (hits cache u.line) (is_dirty (held cache u.line)), cycles row (used cache u))

none_dirty : dirty_count empty_cache ≡ 0
unfolding count
none_dirty = refl

pub charges : Charges
charges row = record {
  cycles = cycles row empty_cache;
  in_all = omega (arith, balanced evicts_dirty makes_dirty dirty_count all_lines row empty_cache whole_empty, none_dirty);
  of_each = λ line.
      let none : dirty_in empty_cache line ≡ false = ap (λ o. has_tag (tag_of line) o && is_dirty o) (held_empty line) in
      omega (arith, balanced (evicts_dirty_line line) (makes_line_dirty line) (λ cache. weight (dirty_in cache line) 1) (one_line line) row empty_cache whole_empty, ap (λ b. weight b 1) none);
}
