-- What a row tells of the cache after it.
use Rattle.std.proofs.Common.{◌≡◌, ℕ, ◌+◌, ◌*◌, Bool, true, false, not, ◌&&◌, eqb, ◌⊎◌, List, get_or, Some, None, Decides, Option, sym, refl, ap, ◌∙◌, subst, inl, inr, arith}
use Rattle.std.proofs.lemmas.Nat.{mod_below}
use Rattle.std.proofs.lemmas.Bool.{and_from, and_parts, both_ways, cases_Bool, eq-eqb, eqb-true, false_from_ne_true, false≢true, not_from_false, not-true, or_cases, or_left, or_right}
use Rattle.std.proofs.lemmas.Bool.Decides.{Decides-and, Decides-eqb, Decides-not}
use Rattle.costs.specs.Costs.{miss, write_back}
use Rattle.tables.specs.declared.cache.Cache.{Cache}
use Rattle.tables.specs.declared.cache.Line.{Line}
use Rattle.tables.specs.Cache.{access_cost, empty_cache, has_tag, held, hits, is_dirty, index_of, tag_of}
use Rattle.tables.specs.Rows.{Use, Whole, after, conflicts, dirty_in, evicts_dirty_line, used}
use Rattle.tables.specs.History.{Accesses, Apart, Conflict, Since, Stores}
use Rattle.tables.specs.Laws.{Remembers, WriteBacks}
use Rattle.tables.proofs.Rows.{told}
use Rattle.tables.proofs.Lines.{dirty_away, dirty_gone, dirty_same, held_empty, hit_away, hit_gone, hit_same, meets, one_line, one_tag, whole_accessed, whole_empty}

-- something that is so of a line, comes about by a wanted access to it, and ends with one that conflicts
record Follows (so : Cache → ℕ → Bool) (Wanted : ℕ → Use → Type 0) : Type 0 where
  same : (cache : Cache) (u : Use) → Whole cache → Decides (so (used cache u) u.line) (Wanted u.line u ⊎ (so cache u.line ≡ true))
  own : (line : ℕ) (u : Use) → Wanted line u → u.line ≡ line
  gone : (cache : Cache) (u : Use) (line : ℕ) → Whole cache → Conflict u.line line → so (used cache u) line ≡ false
  away : (cache : Cache) (u : Use) (line : ℕ) → (index_of line ≡ index_of u.line → ⊥) → so (used cache u) line ≡ so cache line
  empty : (line : ℕ) → so empty_cache line ≡ false

module _ (so : Cache → ℕ → Bool) (Wanted : ℕ → Use → Type 0) (follows : Follows so Wanted) (line : ℕ) where
  -- one access
  abbrev Holds : Cache → Use → Type 0
  Holds cache u = Wanted line u ⊎ ((so cache line ≡ true) × Apart line u)

  at_line : (cache : Cache) (u : Use) → Whole cache → u.line ≡ line → Decides (so (used cache u) line) (Wanted line u ⊎ (so cache line ≡ true))
  at_line cache u whole e = subst (λ (l : ℕ). Decides (so (used cache u) l) (Wanted l u ⊎ (so cache l ≡ true))) e (follows.same cache u whole)

  each : (cache : Cache) (u : Use) → Whole cache → Decides (so (used cache u) line) (Holds cache u)
  each cache u whole = elim (meets u.line line) [
    | inl e ↦
        let now = at_line cache u whole e in (
          (λ h. elim (now.0 h) [ inl w ↦ inl w | inr was ↦ inr (was, λ k. k.1 e) ]),
          λ t. now.1 (elim t [ inl w ↦ inl w | inr p ↦ inr p.0 ]),
        )
    | inr (inl k) ↦
        let now = follows.gone cache u line whole k in (
          (λ h. absurd (both_ways (so (used cache u) line) now h)),
          λ t. absurd (elim t [ inl w ↦ k.1 (follows.own line u w) | inr p ↦ p.1 k ]),
        )
    | inr (inr away) ↦
        let now = follows.away cache u line away in (
          (λ h. inr (sym now ∙ h, λ k. away (sym k.0))),
          λ t. elim t [ inl w ↦ absurd (away (ap index_of (sym (follows.own line u w)))) | inr p ↦ now ∙ p.0 ],
        )
  ]

  since : (row : List Use) → Decides (so (after empty_cache row) line) (Since (Wanted line) (Apart line) row)
  unfolding after
  since = told (Wanted line) (Apart line) Cache Whole used after (λ cache. so cache line)
      (λ cache u. whole_accessed cache u.line u.store) (λ cache. refl) (λ cache u row. refl) each empty_cache whole_empty (follows.empty line)

hits_follow : Follows hits Accesses
hits_follow = record {
  same = λ cache u whole. ((λ h. inl refl), λ t. hit_same cache u.line u.store whole);
  own = λ line u w. w;
  gone = λ cache u line whole k. hit_gone cache u.line u.store whole line k;
  away = λ cache u line away. hit_away cache u.line u.store line away;
  empty = λ line. ap (has_tag (tag_of line)) (held_empty line);
}

dirty_follows : Follows dirty_in Stores
dirty_follows = record {
  same = λ cache u whole.
      let now = dirty_same cache u.line u.store whole in (
        (λ h. elim (or_cases (dirty_in cache u.line) u.store (sym now ∙ h)) [ inl was ↦ inr was | inr w ↦ inl (refl, w) ]),
        λ t. now ∙ elim t [ inl w ↦ or_right (dirty_in cache u.line) u.store w.1 | inr was ↦ or_left (dirty_in cache u.line) u.store was ],
      );
  own = λ line u w. w.0;
  gone = λ cache u line whole k. dirty_gone cache u.line u.store whole line k;
  away = λ cache u line away. dirty_away cache u.line u.store line away;
  empty = λ line. ap (λ o. has_tag (tag_of line) o && is_dirty o) (held_empty line);
}

-- what a dirty place holds is some line of memory
holder : (o : Option Line) → is_dirty o ≡ true → (tag : ℕ) × (has_tag tag o ≡ true)
holder None d = absurd (false≢true d)
holder (Some line) d = (line.tag, eq-eqb line.tag line.tag refl)

module _ (cache : Cache) (line : ℕ) where
  -- a line that conflicts with it and is dirty is what its place holds
  evicted : (other : ℕ) → Conflict line other → dirty_in cache other ≡ true → (hits cache line ≡ false) × (is_dirty (held cache line) ≡ true)
  evicted other k d =
      let parts = and_parts (hits cache other) (is_dirty (held cache other)) d in
      let same : held cache other ≡ held cache line = ap (λ at. get_or cache.lines at None) (sym k.0) in (
        one_tag (held cache line) (tag_of other) (tag_of line) (ap (has_tag (tag_of other)) (sym same) ∙ parts.0) (λ t. k.1 (one_line line other k.0 (sym t))),
        ap is_dirty (sym same) ∙ parts.1,
      )

  -- and what its place holds, if it is dirty, is such a line
  some_out : hits cache line ≡ false → is_dirty (held cache line) ≡ true → (other : ℕ) × Conflict line other × (dirty_in cache other ≡ true)
  some_out gone d =
      let h = holder (held cache line) d in
      let other = h.0 * 64 + index_of line in
      let physical : index_of other ≡ index_of line = omega (arith, mod_below line 64 (omega arith)) in
      let tag : tag_of other ≡ h.0 = omega (arith, mod_below line 64 (omega arith)) in
      let same : held cache other ≡ held cache line = ap (λ at. get_or cache.lines at None) physical in
      let hit : hits cache other ≡ true = rw (same, tag) h.1 in
      let dirty : is_dirty (held cache other) ≡ true = ap is_dirty same ∙ d in (
        other,
        (sym physical, λ e. both_ways (hits cache line) gone (subst (λ (l : ℕ). hits cache l ≡ true) (sym e) hit)),
        and_from (hits cache other) (is_dirty (held cache other)) hit dirty,
      )

  over_dirty : (other : ℕ) → Conflict line other → dirty_in cache other ≡ true → access_cost cache line ≡ miss + write_back
  over_dirty other k d = let out = evicted other k d in rw (out.0, out.1) refl

  over_clean : hits cache line ≡ false → ((other : ℕ) → Conflict line other → dirty_in cache other ≡ true → ⊥) → access_cost cache line ≡ miss
  over_clean gone none = elim (cases_Bool (is_dirty (held cache line))) [
    | inl d ↦ absurd (let out = some_out gone d in none out.0 out.1 out.2)
    | inr d ↦ rw (gone, d) refl
  ]

-- a place has one line at most
one_held : (o : Option Line) (a b : ℕ) → has_tag a o ≡ true → has_tag b o ≡ true → a ≡ b
one_held None a b h k = cc
one_held (Some line) a b h k = sym (eqb-true line.tag a h) ∙ eqb-true line.tag b k

conflicts_tell : (a b : ℕ) → Decides (conflicts a b) (Conflict a b)
conflicts_tell a b = Decides-and (eqb (index_of a) (index_of b)) (not (eqb a b)) (Decides-eqb (index_of a) (index_of b)) (Decides-not (eqb a b) (Decides-eqb a b))

pub write_backs : WriteBacks
write_backs cache u =
    let line = u.line in
    let apart : (other : ℕ) → evicts_dirty_line other cache u ≡ true → (dirty_in cache other ≡ true) × Conflict line other = λ other d.
    (let p = and_parts (dirty_in cache other) (conflicts line other) d in (p.0, (conflicts_tell line other).0 p.1)) in
    record {
      some = (
        (λ d.
            let p = and_parts (not (hits cache line)) (is_dirty (held cache line)) d in
            let out = some_out cache line (not-true (hits cache line) p.0) p.1 in
            (out.0, and_from (dirty_in cache out.0) (conflicts line out.0) out.2 ((conflicts_tell line out.0).1 out.1))),
        λ s.
            let p = apart s.0 s.1 in
            let out = evicted cache line s.0 p.1 p.0 in
            and_from (not (hits cache line)) (is_dirty (held cache line)) (not_from_false (hits cache line) out.0) out.1,
      );
      only = λ a b da db.
          let p = apart a da in
          let q = apart b db in
          let physical : index_of a ≡ index_of b = sym p.1.0 ∙ q.1.0 in
          let same : held cache b ≡ held cache a = ap (λ at. get_or cache.lines at None) (sym physical) in
          one_line a b physical (one_held (held cache a) (tag_of a) (tag_of b)
          (and_parts (hits cache a) (is_dirty (held cache a)) p.0).0
          (ap (has_tag (tag_of b)) (sym same) ∙ (and_parts (hits cache b) (is_dirty (held cache b)) q.0).0));
    }

pub remembers : Remembers
remembers row =
    let resident = λ (line : ℕ). since hits Accesses hits_follow line row in
    let stored = λ (line : ℕ). since dirty_in Stores dirty_follows line row in
    let cache = after empty_cache row in
    record {
      resident = resident;
      stored = stored;
      next = λ line. record {
        hit = λ r. let there = (resident line).1 r in rw there refl;
        over_dirty = λ other k s. over_dirty cache line other (sym k.0, λ e. k.1 (sym e)) ((stored other).1 s);
        over_clean = λ out none. over_clean cache line (false_from_ne_true (hits cache line) (λ h. out ((resident line).0 h))) (λ other k d. none other (sym k.0, λ e. k.1 (sym e)) ((stored other).0 d));
      };
    }
