-- Arrays of which the first places are filled and the rest blank.
use Rattle.std.proofs.Common.{◌≡◌, ℕ, ◌<◌, cond, ltb, List, length, get_or, ap, ◌∙◌, inl, inr, arith}
use Rattle.std.proofs.lemmas.List.FromFn.{fill_by_all, get_or-map-range_with_len, length-map-range_with_len}
use Rattle.std.proofs.lemmas.Bool.{cases_lt, le-ltb}
use Rattle.plan.specs.Format.{rows}

module _ {X : Type 0} (at : ℕ → X) (blank : X) (room : ℕ) where
  pub rows_at : (many k : ℕ) → k < room → get_or (rows at blank room many) k blank ≡ cond (ltb k many) (at k) blank
  unfolding rows
  rows_at many k l = get_or-map-range_with_len (λ j. cond (ltb j many) (at j) blank) 0 room k k blank l (omega arith)

  pub length_rows : (many : ℕ) → length (rows at blank room many) ≡ room
  unfolding rows
  length_rows many = length-map-range_with_len (λ j. cond (ltb j many) (at j) blank) 0 room

  same_rows : (xs : List X) (many : ℕ) → length xs ≡ room → ((k : ℕ) → k < room → get_or xs k blank ≡ cond (ltb k many) (at k) blank) → xs ≡ rows at blank room many
  unfolding rows
  same_rows xs many = fill_by_all (λ j. cond (ltb j many) (at j) blank) xs room blank

-- rows that agree below their room and their count are the same
pub rows_below : {X : Type 0} (at also : ℕ → X) (blank : X) (room many : ℕ) → ((k : ℕ) → k < room → k < many → at k ≡ also k) → rows at blank room many ≡ rows also blank room many
rows_below at also blank room many h =
    same_rows also blank room (rows at blank room many) many (length_rows at blank room many)
    (λ k l. rows_at at blank room many k l ∙ (elim (cases_lt k many) [ inl below ↦ ap (λ x. cond (ltb k many) x blank) (h k l below) | inr past ↦ (let e = le-ltb k many past in rw e) ]))

-- rows that agree below their room are the same
pub rows_same : {X : Type 0} (at also : ℕ → X) (blank : X) (room many : ℕ) → ((k : ℕ) → k < room → at k ≡ also k) → rows at blank room many ≡ rows also blank room many
rows_same at also blank room many h = rows_below at also blank room many (λ k l _. h k l)
