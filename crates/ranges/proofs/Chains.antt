-- Chains over the numbers below n, carried to the questions over the places below n.
-- Each lemma takes the function that the closure computes, n, the clauses of the chain's calls, and what one call of the closure gives,
-- as in `first_over_range _ _ refl c.try_for_each.ensures.ran (λ k v q z. search rules)`.
use Rattle.std.proofs.Common.{◌≡◌, ℕ, zero, suc, ◌+◌, ◌-◌, ◌<◌, ◌≤◌, max, Bool, true, false, cond, ◌||◌, Break, List, [], ◌∷◌, ◌++◌, length, get_or, map, Some, None, Ok, Err, Option, Result, sym, refl, ap, subst, ◌∙◌, inl, inr, add-one, length-append, arith}
use denote.Param.Members.{Mut}
use denote.Ref.{Bor}
use Rattle.std.specs.declared.ops.Range.{Range}
use Rattle.std.specs.Array.{IsFromFnResult, IsFromFnResultFrom}
use Rattle.std.proofs.lemmas.Bool.{cases_eq}
use Rattle.std.specs.Fn.{Called, CalledAt}
use Rattle.std.specs.Iterator.{Drains, PicksByCmp, YieldsThen, TryForEachTurn, TryCallsOnEach}
use Rattle.std.specs.Iterator.Adapters.{filter_source, filter_callee, filter_steps, map_source, map_callee}
use Rattle.std.specs.Ordering.{nat_cmp, max_by_ordering}
use Rattle.std.specs.List.{FoldsTo, filter, fold, range_with_len, list_any}
use Rattle.std.specs.Option.{MatchOption, unwrap_or}
use Rattle.std.specs.Result.{IsErr, IsErrAnd, result_from_control_flow}
use Rattle.std.proofs.iter.Yields.{nat_range_steps}
use Rattle.std.proofs.lemmas.Iterator.{YieldsList-from_range, YieldsList-from_map, maps}
use Rattle.std.proofs.lemmas.Iterator.Consumers.{YieldsList-from_filter, count_from_yields_List, reduce_from_yields_List}
use Rattle.std.proofs.lemmas.Iterator.Search.{any_from_yields_List}
use Rattle.std.proofs.lemmas.Result.{err_from_is_err_and}
use Rattle.std.proofs.lemmas.List.{map-id}
use Rattle.std.proofs.lemmas.List.FromFn.{fill_by_all, map-range_with_len_more}
use Rattle.std.proofs.lemmas.List.Folds.{list_any-append, max_of_map}
use Rattle.std.proofs.lemmas.List.Elements.{filter-append}
use Rattle.std.proofs.lemmas.List.Sums.{fold-append}
use Rattle.ranges.specs.Questions.{first, any, count, most, unless}
use Rattle.ranges.proofs.Questions.{first_none, checked_more, checked_stops, checked_all, any_none, any_step, count_none, count_more, most_none, most_more}

-- what holds at 0, and at n + 1 where it holds at n
by_count : (P : ℕ → Type 0) → P 0 → ((n : ℕ) → P n → P (n + 1)) → (n : ℕ) → P n
by_count P none more zero = none
by_count P none more (suc n) = subst P (add-one n) (more n (by_count P none more n))

-- the numbers below n + 1 end in n
numbers_more : (n : ℕ) → range_with_len 0 (n + 1) ≡ range_with_len 0 n ++ n ∷ []
numbers_more n = simp map-id at (map-range_with_len_more (λ (k : ℕ). k) 0 n n (omega arith))

-- `(0..n).try_for_each(check)`
module _ {E F : Type 0} (g : Mut F (ℕ × Unit {0}) (Result (Unit {0}) E)) (f : F) (test : ℕ → Option E) (n : ℕ) (r : Result (Unit {0}) E) (u : Range ℕ)
    (computes : (k : ℕ) (v : Result (Unit {0}) E) (q : F) → Called g f (k, tt) v q → (q ≡ f) × (v ≡ unless (test k) tt)) where
  -- what the last call gave, after f became j
  abbrev Last : F → Option ℕ → Type 0
  Last j o = MatchOption o (r ≡ Ok tt) (λ x. (v : Result (Unit {0}) E) × (h : F) × (e : _) × Called g j (x, tt) v h × (v ≡ result_from_control_flow (Break e)) × (IsErr r × IsErrAnd r (λ y. y ≡ e.0)))

  left : (xs : List ℕ) (o : Option ℕ) (s : Range ℕ) (p j : F) → s.end ≡ n → s.start ≤ n → p ≡ f → first test s.start ≡ None →
      YieldsThen nat_range_steps s xs o u → FoldsTo (TryForEachTurn g (λ v b. v ≡ result_from_control_flow b)) p xs j → Last j o → r ≡ unless (first test n) tt
  left [] None s p j end start same none y d last =
      let empty : s.end - s.start ≡ 0 = rw y.1 y.2.1.0 in
      last ∙ sym (checked_all test s.start n tt none (omega arith))
  left [] (Some x) s p j end start same none y d last =
      let some : 0 < s.end - s.start = rw y.1 y.2.1.0 in
      let here : x ≡ s.start = rw y.1 y.2.1.1 in
      let call : Called g f (x, tt) last.0 last.1 = subst (λ q. Called g q (x, tt) last.0 last.1) (sym d ∙ same) last.3 in
      let fault : unless (test s.start) (tt {0}) ≡ Err last.2.0 = rw (← here) (sym (computes x last.0 last.1 call).1 ∙ last.4) in
      let told = err_from_is_err_and r last.5.1 in
      told.1 ∙ ap Err told.2 ∙ sym (checked_stops test s.start n tt last.2.0 (omega arith) none fault)
  left (x ∷ xs) o s p j end start same none y d last =
      let turn = y.1.1 in
      let call : Called g f (x, tt) d.1.0 d.0 = subst (λ q. Called g q (x, tt) d.1.0 d.0) same d.1.1 in
      let told = computes x d.1.0 d.0 call in
      let passed : unless (test s.start) (tt {0}) ≡ Ok tt = rw (← turn.1.1) (sym told.1 ∙ d.1.2) in
      left xs o y.1.0 d.0 j (turn.0 ∙ end) (omega (arith, turn.1.0, turn.1.2)) told.0 (rw turn.1.2 (checked_more test s.start tt tt none passed)) (y.0, y.1.2, y.2) d.2 last

pub first_over_range : {E F : Type 0} {g : Mut F (ℕ × Unit {0}) (Result (Unit {0}) E)} {p : F} {s u : Range ℕ} {r : Result (Unit {0}) E} (f : ℕ → Option E) (n : ℕ) → s ≡ record { start = 0; end = n } →
    TryCallsOnEach nat_range_steps g (λ v b. v ≡ result_from_control_flow b) (λ e v. IsErr v × IsErrAnd v (λ y. y ≡ e.0)) s p r u →
    ((k : ℕ) (v : Result (Unit {0}) E) (q : F) → Called g p (k, tt) v q → (q ≡ p) × (v ≡ unless (f k) tt)) → r ≡ unless (first f n) tt
first_over_range {E} {F} {g} {p} {s} {u} {r} f n e d computes = left g p f n r u computes d.0 d.1 s p d.2 (ap (λ t. t.end) e) (rw e (omega arith)) refl (rw e (first_none f)) d.3 d.4 d.5

-- `(0..n).any(test)`, as `any_over_range (test) n refl c.any.ensures.ran (λ k b q z. search (rules, tests))`
or_false : (a b : Bool) → (a || (b || false)) ≡ (a || b)
or_false true b = refl
or_false false true = refl
or_false false false = refl

any_of_list : (f : ℕ → Bool) (n : ℕ) → list_any f (range_with_len 0 n) ≡ any f n
any_of_list f = by_count (λ n. list_any f (range_with_len 0 n) ≡ any f n) (sym (any_none f))
    (λ n h. rw (numbers_more n, any_step f n, list_any-append f (range_with_len 0 n) (n ∷ []), h) (or_false (any f n) (f n)))

pub any_over_range : {F : Type 0} {g : Mut F (ℕ × Unit {0}) Bool} {p : F} {s u : Range ℕ} {r : Bool} (f : ℕ → Bool) (n : ℕ) → s ≡ record { start = 0; end = n } →
    (xs : List ℕ) × (o : Option ℕ) × (j : F) × YieldsThen nat_range_steps s xs o u × FoldsTo (λ p x q. Called g p (x, tt) false q) p xs j × MatchOption o (r ≡ false) (λ x. (r ≡ true) × ((h : F) × Called g j (x, tt) true h)) →
    ((k : ℕ) (b : Bool) (q : F) → Called g p (k, tt) b q → (q ≡ p) × (b ≡ f k)) → r ≡ any f n
any_over_range {p = p} {u = u} {r = r} f n e ran computes = any_from_yields_List f u p r ran (YieldsList-from_range 0 n n e (omega arith)) computes ∙ any_of_list f n

-- `(0..n).filter(test).count()`, as `count_over_range (test) n c.filter.ensures.source c.filter.ensures.closure c.count.ensures.ran (λ k b q z. search (rules, tests))`
one : (b : Bool) (n : ℕ) → length (cond b (n ∷ []) []) ≡ cond b 1 0
one true n = refl
one false n = refl

count_of_list : (f : ℕ → Bool) (n : ℕ) → length (filter f (range_with_len 0 n)) ≡ count f n
count_of_list f = by_count (λ n. length (filter f (range_with_len 0 n)) ≡ count f n) (sym (count_none f))
    (λ n h. rw (numbers_more n, count_more f n, filter-append f (range_with_len 0 n) (n ∷ []), length-append, h) (ap (λ k. count f n + k) (one (f n) n)))

pub count_over_range : {F : Type 0} {g : Mut F (Bor ℕ × Unit {0}) Bool} {p : F} {s : _} {r : ℕ} (f : ℕ → Bool) (n : ℕ) → filter_source {I = Range ℕ} {F = F} s ≡ record { start = 0; end = n } → filter_callee s ≡ p →
    ((xs : List ℕ) × Drains (filter_steps nat_range_steps g) s xs × (r ≡ length xs)) →
    ((k : ℕ) (b : Bool) (q : F) → CalledAt g p k b q → (q ≡ p) × (b ≡ f k)) → r ≡ count f n
count_over_range {g = g} {s = s} {r = r} f n source closure ran computes =
    count_from_yields_List s r ran (YieldsList-from_filter g f (YieldsList-from_range 0 n n source (omega arith)) closure computes) ∙ count_of_list f n

-- `(0..n).map(g).max().unwrap_or(0)`, as `rw c.unwrap_or.ensures (most_over_range (g) n _ c.map.ensures.source c.map.ensures.closure c.max.ensures.ran (λ k b q z. search rules))`
most_of_list : (f : ℕ → ℕ) (n : ℕ) → fold (λ a k. max a (f k)) 0 (range_with_len 0 n) ≡ most f n
most_of_list f = by_count (λ n. fold (λ a k. max a (f k)) 0 (range_with_len 0 n) ≡ most f n) (sym (most_none f))
    (λ n h. rw (numbers_more n, most_more f n, fold-append, h))

pub most_over_range : {F : Type 0} {g : Mut F (ℕ × Unit {0}) ℕ} {p : F} {s : _} (f : ℕ → ℕ) (n : ℕ) (r : Option ℕ) → map_source {I = Range ℕ} {F = F} s ≡ record { start = 0; end = n } → map_callee s ≡ p →
    PicksByCmp (maps nat_range_steps g) max_by_ordering nat_cmp s r →
    ((k b : ℕ) (q : F) → Called g p (k, tt) b q → (q ≡ p) × (b ≡ f k)) → unwrap_or r 0 ≡ most f n
most_over_range {g = g} {s = s} f n r source closure ran computes =
    let all = reduce_from_yields_List (λ p z. max_by_ordering (nat_cmp p z) p z) s r ran (YieldsList-from_map g f (YieldsList-from_range 0 n n source (omega arith)) closure computes) in
    ap (λ o. unwrap_or o 0) all ∙ max_of_map f (range_with_len 0 n) ∙ most_of_list f n

-- `array::from_fn(g)`, as `array_from_calls (g) c.from_fn.ensures.items (λ k l v q z. search rules)`
module _ {X F : Type 0} (g : Mut F (ℕ × Unit {0}) X) (f : F) (h : ℕ → X) (n : ℕ) (xs : List X)
    (computes : (k : ℕ) → k < n → (v : X) (q : F) → Called g f (k, tt) v q → (q ≡ f) × (v ≡ h k)) where
  element : (m i : ℕ) (p : F) → p ≡ f → i + m ≡ n → IsFromFnResultFrom g p xs i m → (k : ℕ) (d : X) → i ≤ k → k < n → get_or xs k d ≡ h k
  element zero i p same end calls k d low high = absurd (omega arith)
  element (suc m) i p same end calls k d low high =
      let call : Called g f (i, tt) calls.1 calls.0 = subst (λ w. Called g w (i, tt) calls.1 calls.0) same calls.3 in
      let told = computes i (omega arith) calls.1 calls.0 call in
      elim (cases_eq k i) [
        | inl here ↦ rw here (calls.2.1 d ∙ told.1)
        | inr past ↦ element m (i + 1) calls.0 told.0 (omega arith) calls.4 k d (omega arith) high
      ]

pub array_from_calls : {X F : Type 0} {g : Mut F (ℕ × Unit {0}) X} {f : F} {n : ℕ} {xs : List X} (h : ℕ → X) → IsFromFnResult g f xs n →
    ((k : ℕ) → k < n → (v : X) (q : F) → Called g f (k, tt) v q → (q ≡ f) × (v ≡ h k)) → xs ≡ map h (range_with_len 0 n)
array_from_calls {g = g} {f = f} {n = n} {xs = xs} h calls computes = fill_by_all h xs n (h 0) calls.long (λ k l. element g f h n xs computes n 0 f refl (omega arith) calls.each k (h 0) (omega arith) l)
