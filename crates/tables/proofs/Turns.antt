-- Branches that are taken again and again.
use Rattle.std.proofs.Common.{◌≡◌, ℕ, zero, suc, ◌+◌, ◌/◌, ◌<◌, ◌≤◌, min, Bool, true, false, cond, not, eqb, leb, ◌⊎◌, List, [], ◌∷◌, ◌++◌, length, get_or, replicate, sym, refl, ap, ◌∙◌, inl, inr, add-one, arith}
use Rattle.std.proofs.lemmas.Nat.{mod_below}
use Rattle.std.proofs.ByRecursion.{All-get_or, All-set}
use Rattle.std.proofs.lemmas.List.{get_or_past, get_or-replicate, get_or-set_other, get_or-set_same, length-replicate, length-set}
use Rattle.std.proofs.lemmas.Bool.{cases_eq, cases_lt, eq-eqb, le-leb, lt-leb, ne_eqb}
use Rattle.std.specs.List.{AllByRecursion as All}
use Rattle.costs.specs.Costs.{misprediction}
use Rattle.costs.specs.Cycles.{branch_cycles}
use Rattle.costs.proofs.Bounds.{branch_most}
use Rattle.tables.specs.declared.predictor.Predictor.{Predictor}
use Rattle.tables.specs.Predictor.{branch_cost, counted, counter, counter_of, first_predictor, learned}
use Rattle.tables.specs.Loops.{Branch, Taken, branch_costs, loop_and_again, loop_cost, taken_at}
use Rattle.tables.specs.Laws.{CountersStay, Counts, LoopsLeft, LoopsPredicted}

abbrev AsMany : Predictor → Type 0
AsMany predictor = length predictor.counters ≡ 64

module _ (predictor : Predictor) (address : ℕ) (taken : Bool) where
  as_many_learned : AsMany predictor → AsMany (learned predictor address taken)
  as_many_learned e = length-set predictor.counters (counter_of address) (counted taken (counter predictor address)) ∙ e

  counter_learned : AsMany predictor → counter (learned predictor address taken) address ≡ counted taken (counter predictor address)
  counter_learned e =
      let room : counter_of address < length predictor.counters = omega (arith, mod_below (address / 4) 64 (omega arith)) in
      get_or-set_same predictor.counters (counter_of address) (counted taken (counter predictor address)) 0 room

  counter_other : (other : ℕ) → (counter_of other ≡ counter_of address → ⊥) → counter (learned predictor address taken) other ≡ counter predictor other
  counter_other other ne = get_or-set_other predictor.counters (counter_of address) (counter_of other) (counted taken (counter predictor address)) 0 ne

-- a row in which the branches with the counter of an address are taken
module _ (address : ℕ) where
  abbrev charge : Predictor → Branch → ℕ
  charge predictor b = cond (eqb (counter_of b.address) (counter_of address)) (branch_cost predictor b.address b.taken) 0

  abbrev next : Predictor → Branch → Predictor
  next predictor b = learned predictor b.address b.taken

  -- a branch of the row counts up, or leaves the counter and is not charged
  turn : (predictor : Predictor) (b : Branch) → AsMany predictor → Taken address b →
      ((charge predictor b ≡ branch_cycles (not (leb 2 (counter predictor address)))) × (counter (next predictor b) address ≡ min (counter predictor address + 1) 3))
      ⊎ ((charge predictor b ≡ 0) × (counter (next predictor b) address ≡ counter predictor address))
  turn predictor b many taken = elim (cases_eq (counter_of b.address) (counter_of address)) [
    | inl e ↦
        let is : eqb (counter_of b.address) (counter_of address) ≡ true = eq-eqb (counter_of b.address) (counter_of address) e in
        let was : counter predictor b.address ≡ counter predictor address = ap (λ at. get_or predictor.counters at 0) e in
        let now : counter (next predictor b) b.address ≡ counter (next predictor b) address = ap (λ at. get_or (next predictor b).counters at 0) e in
        let up = counter_learned predictor b.address b.taken many in
        let counts : counted b.taken (counter predictor b.address) ≡ min (counter predictor address + 1) 3 = rw (taken e, was) refl in
        inl (rw (is, taken e, was) refl, sym now ∙ up ∙ counts)
    | inr ne ↦
        let not_is : eqb (counter_of b.address) (counter_of address) ≡ false = ne_eqb (counter_of b.address) (counter_of address) ne in
        inr (rw not_is refl, counter_other predictor b.address b.taken address (λ e. ne (sym e)))
  ]

  -- from 2 on it is right, and stays so
  steady : (row : List Branch) (predictor : Predictor) → AsMany predictor → All (Taken address) row → 2 ≤ counter predictor address → loop_cost address predictor row ≡ 0
  unfolding loop_cost
  steady [] predictor many all high = refl
  steady (b ∷ row) predictor many all high =
      let right : leb 2 (counter predictor address) ≡ true = le-leb 2 (counter predictor address) high in
      let rest : 2 ≤ counter (next predictor b) address → loop_cost address (next predictor b) row ≡ 0 =
      steady row (next predictor b) (as_many_learned predictor b.address b.taken many) all.1 in
      elim (turn predictor b many all.0) [
        | inl t ↦ rw (t.0, right, rest (omega (arith, t.1))) refl
        | inr t ↦ rw (t.0, rest (omega (arith, t.1))) refl
      ]

  -- from 1 on it is wrong once at most
  once : (row : List Branch) (predictor : Predictor) → AsMany predictor → All (Taken address) row → 1 ≤ counter predictor address → loop_cost address predictor row ≤ misprediction
  unfolding loop_cost
  once [] predictor many all high = omega arith
  once (b ∷ row) predictor many all high =
      let many_next = as_many_learned predictor b.address b.taken many in
      elim (turn predictor b many all.0) [
        | inl t ↦ omega (arith, t.0, branch_most (not (leb 2 (counter predictor address))), steady row (next predictor b) many_next all.1 (omega (arith, t.1)))
        | inr t ↦ omega (arith, t.0, once row (next predictor b) many_next all.1 (omega (arith, t.1)))
      ]

  always : (n : ℕ) → All (Taken address) (replicate n (taken_at address))
  always zero = tt
  always (suc n) = ((λ _. refl), always n)

first_as_many : AsMany first_predictor
first_as_many = length-replicate {A = ℕ} 64 1

first_counter : (address : ℕ) → counter first_predictor address ≡ 1
first_counter address = get_or-replicate {A = ℕ} 64 (counter_of address) 1 0 (mod_below (address / 4) 64 (omega arith))

alone : (address n : ℕ) → loop_cost address first_predictor (replicate (n + 1) (taken_at address)) ≡ misprediction
unfolding loop_cost
alone address n =
    let next = learned first_predictor address true in
    let is : eqb (counter_of address) (counter_of address) ≡ true = eq-eqb (counter_of address) (counter_of address) refl in
    let second : counter next address ≡ 2 = counter_learned first_predictor address true first_as_many ∙ rw (first_counter address) refl in
    let rest = steady address (replicate n (taken_at address)) next (as_many_learned first_predictor address true first_as_many) (always address n) (omega (arith, second)) in
    rw (add-one, is, rest, first_counter address) refl

pub loops_predicted : LoopsPredicted
loops_predicted address = record {
  alone = alone address;
  among_others = λ row all. once address row first_predictor first_as_many all (omega (arith, first_counter address));
}

pub counts : Counts
counts predictor address many = record {
  up = counter_learned predictor address true many;
  down = counter_learned predictor address false many;
  others = λ other taken ne. counter_other predictor address taken other ne;
  high = λ l. let right : leb 2 (counter predictor address) ≡ true = le-leb 2 (counter predictor address) l in (rw right refl, rw right refl);
  low = λ l. let wrong : leb 2 (counter predictor address) ≡ false = lt-leb 2 (counter predictor address) l in (rw wrong refl, rw wrong refl);
}

-- a loop's turns from 3 on are right, the exit is not, and the next entry is
leaving : (address n : ℕ) (predictor : Predictor) → AsMany predictor → counter predictor address ≡ 3 →
    branch_costs predictor (loop_and_again address n) ≡ replicate n 0 ++ (misprediction ∷ (0 ∷ []))
unfolding branch_costs
leaving address zero predictor many at =
    let next : counter (learned predictor address false) address ≡ 2 = counter_learned predictor address false many ∙ rw at refl in
    rw (next, at) refl
leaving address (suc n) predictor many at =
    let next : counter (learned predictor address true) address ≡ 3 = counter_learned predictor address true many ∙ rw at refl in
    let rest = leaving address n (learned predictor address true) (as_many_learned predictor address true many) next in
    rw (rest, at) refl

pub loops_left : LoopsLeft
unfolding branch_costs
loops_left address n =
    let once = learned first_predictor address true in
    let many = as_many_learned first_predictor address true first_as_many in
    let second : counter once address ≡ 2 = counter_learned first_predictor address true first_as_many ∙ rw (first_counter address) refl in
    let third : counter (learned once address true) address ≡ 3 = counter_learned once address true many ∙ rw second refl in
    let rest = leaving address n (learned once address true) (as_many_learned once address true many) third in
    let turns : n + 2 ≡ suc (suc n) = omega arith in
    let others : n + 1 ≡ suc n = omega arith in
    rw (turns, others, rest, second, first_counter address) refl

replicated : (n : ℕ) → All (λ (k : ℕ). k ≤ 3) (replicate n 1)
replicated zero = tt
replicated (suc n) = (omega arith, replicated n)

counted_range : (taken : Bool) (n : ℕ) → n ≤ 3 → counted taken n ≤ 3
counted_range true n l = omega arith
counted_range false n l = omega arith

counter_range : (counters : List ℕ) (at : ℕ) → All (λ (k : ℕ). k ≤ 3) counters → get_or counters at 0 ≤ 3
counter_range counters at all = elim (cases_lt at (length counters)) [
  | inl l ↦ All-get_or (λ (k : ℕ). k ≤ 3) counters at 0 l all
  | inr l ↦ omega (arith, get_or_past counters at 0 l)
]

pub counters_stay : CountersStay
counters_stay = record {
  first = record { as_many = first_as_many; at_most = replicated 64 };
  next = λ predictor address taken r. record {
    as_many = as_many_learned predictor address taken r.as_many;
    at_most = All-set (λ (k : ℕ). k ≤ 3) predictor.counters (counter_of address) (counted taken (counter predictor address))
        (counted_range taken (counter predictor address) (counter_range predictor.counters (counter_of address) r.at_most)) r.at_most;
  };
}
