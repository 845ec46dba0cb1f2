-- One access, seen from any line of memory.
use Rattle.std.proofs.Common.{◌≡◌, ℕ, ◌<◌, Bool, true, false, cond, ◌&&◌, ◌||◌, ◌⊎◌, length, Some, None, Option, sym, refl, ap, ◌∙◌, inl, inr, arith}
use Rattle.std.proofs.lemmas.Nat.{mod_below}
use Rattle.std.proofs.lemmas.List.{get_or-set_same, get_or-set_other, get_or-replicate, length-set, length-replicate}
use Rattle.std.proofs.lemmas.Bool.{and_left, cases_eq, eq-eqb, eqb-true, ne_eqb, or_right}
use Rattle.costs.specs.declared.used.CacheUse.TheVariants.{DirtyMiss, Hit, Miss}
use Rattle.costs.specs.Costs.{cache_lines}
use Rattle.costs.specs.Cycles.{cache_cycles}
use Rattle.tables.specs.declared.cache.Cache.{Cache}
use Rattle.tables.specs.declared.cache.Line.{Line}
use Rattle.tables.specs.Cache.{accessed, empty_cache, has_tag, held, hits, is_dirty, line_of, index_of, renewed, tag_of}
use Rattle.tables.specs.Rows.{Whole, dirty_in}
use Rattle.tables.specs.History.{Conflict}
use Rattle.tables.specs.Laws.{AccessCosts, ComesIn, FrameIsTag, FramesConflict}

-- a line's place and tag make up its number
pub one_line : (a b : ℕ) → index_of a ≡ index_of b → tag_of a ≡ tag_of b → a ≡ b
one_line a b p t = omega arith

-- one line is another, conflicts with it, or goes to another place
pub meets : (a b : ℕ) → (a ≡ b) ⊎ (Conflict a b ⊎ (index_of b ≡ index_of a → ⊥))
meets a b = elim (cases_eq a b) [
  | inl e ↦ inl e
  | inr ne ↦ elim (cases_eq (index_of b) (index_of a)) [ inl p ↦ inr (inl (sym p, ne)) | inr away ↦ inr (inr away) ]
]

-- a place holds one tag at most
pub one_tag : (o : Option Line) (a b : ℕ) → has_tag a o ≡ true → (a ≡ b → ⊥) → has_tag b o ≡ false
one_tag None a b h ne = refl
one_tag (Some line) a b h ne = let e = eqb-true line.tag a h in ne_eqb line.tag b (λ t. ne (sym e ∙ t))

-- whether a line is dirty after an access, by whether it was there, was dirty, and is stored to
renews : (hit dirty store : Bool) → cond hit (dirty || store) store ≡ ((hit && dirty) || store)
renews true dirty store = refl
renews false dirty store = refl

module _ (cache : Cache) (line : ℕ) (store : Bool) where
  pub whole_accessed : Whole cache → Whole (accessed cache line store)
  whole_accessed whole = length-set cache.lines (index_of line) (Some (renewed cache line store)) ∙ whole

  held_there : Whole cache → (other : ℕ) → index_of other ≡ index_of line → held (accessed cache line store) other ≡ Some (renewed cache line store)
  held_there whole other p =
      let room : index_of line < length cache.lines = omega (arith, mod_below line 64 (omega arith)) in
      rw p (get_or-set_same cache.lines (index_of line) (Some (renewed cache line store)) None room)

  held_away : (other : ℕ) → (index_of other ≡ index_of line → ⊥) → held (accessed cache line store) other ≡ held cache other
  held_away other away = get_or-set_other cache.lines (index_of line) (index_of other) (Some (renewed cache line store)) None away

  pub hit_same : Whole cache → hits (accessed cache line store) line ≡ true
  hit_same whole = ap (has_tag (tag_of line)) (held_there whole line refl) ∙ eq-eqb (tag_of line) (tag_of line) refl

  pub hit_gone : Whole cache → (other : ℕ) → Conflict line other → hits (accessed cache line store) other ≡ false
  hit_gone whole other k =
      ap (has_tag (tag_of other)) (held_there whole other (sym k.0))
      ∙ ne_eqb (tag_of line) (tag_of other) (λ t. k.1 (one_line line other k.0 t))

  pub hit_away : (other : ℕ) → (index_of other ≡ index_of line → ⊥) → hits (accessed cache line store) other ≡ hits cache other
  hit_away other away = ap (has_tag (tag_of other)) (held_away other away)

  dirty_there : Whole cache → is_dirty (held (accessed cache line store) line) ≡ cond (hits cache line) (is_dirty (held cache line) || store) store
  dirty_there whole = ap is_dirty (held_there whole line refl)

  pub dirty_away : (other : ℕ) → (index_of other ≡ index_of line → ⊥) → dirty_in (accessed cache line store) other ≡ dirty_in cache other
  dirty_away other away = ap (λ o. has_tag (tag_of other) o && is_dirty o) (held_away other away)

  pub dirty_gone : Whole cache → (other : ℕ) → Conflict line other → dirty_in (accessed cache line store) other ≡ false
  dirty_gone whole other k = and_left (hits (accessed cache line store) other) (is_dirty (held (accessed cache line store) other)) (hit_gone whole other k)

  pub dirty_same : Whole cache → dirty_in (accessed cache line store) line ≡ (dirty_in cache line || store)
  dirty_same whole =
      ap (λ h. h && is_dirty (held (accessed cache line store) line)) (hit_same whole)
      ∙ dirty_there whole ∙ renews (hits cache line) (is_dirty (held cache line)) store

pub whole_empty : Whole empty_cache
whole_empty = let none : Option Line = None in length-replicate cache_lines none

pub held_empty : (line : ℕ) → held empty_cache line ≡ None
held_empty line = let none : Option Line = None in get_or-replicate cache_lines (index_of line) none none (mod_below line 64 (omega arith))

-- what an access costs, by what its place holds
priced : (hit dirty : Bool) → let cost = cache_cycles (cond hit Hit (cond dirty DirtyMiss Miss)) in (cost ≡ 0) ⊎ ((cost ≡ 20) ⊎ (cost ≡ 30))
priced true dirty = inl refl
priced false false = inr (inl refl)
priced false true = inr (inr refl)

pub access_costs : AccessCosts
access_costs cache line = priced (hits cache line) (is_dirty (held cache line))

pub frame_is_tag : FrameIsTag
frame_is_tag physical = record { at = omega arith; tag = omega arith }

pub comes_in : ComesIn
comes_in cache line store whole =
    let hit = hit_same cache line store whole in
    record { in_cache = hit; free = rw hit refl }

pub frames_conflict : FramesConflict
frames_conflict cache from to whole o ne =
    let physical : index_of (line_of from) ≡ index_of (line_of to) = omega arith in
    let apart : line_of from ≡ line_of to → ⊥ = λ e. ne (omega arith) in
    let next = accessed cache (line_of from) true in
    let gone = hit_gone cache (line_of from) true whole (line_of to) (physical, apart) in
    let dirty : is_dirty (held next (line_of to)) ≡ true =
    ap is_dirty (held_there cache (line_of from) true whole (line_of to) (sym physical))
    ∙ renews (hits cache (line_of from)) (is_dirty (held cache (line_of from))) true ∙ or_right (dirty_in cache (line_of from)) true refl in
    record {
      first = rw (gone, dirty) refl;
      again = (comes_in next (line_of to) false (whole_accessed cache (line_of from) true whole)).free;
    }
