-- Laws of the questions over the places below a number.
use Rattle.std.proofs.Common.{◌≡◌, ℕ, zero, suc, ◌+◌, ◌<◌, ◌≤◌, max, Bool, true, false, cond, ◌||◌, ◌⊎◌, Some, None, Ok, Err, Option, sym, refl, ◌∙◌, inl, inr, add-one, arith}
use Rattle.std.proofs.lemmas.Bool.{cases_lt, cases_Bool, or_left, or_right, or_cases, or_from, true≢false}
use Rattle.std.specs.Option.{option_or}
use Rattle.ranges.specs.Questions.{first, any, count, most, unless}

pub or_none : {X : Type 0} (o q : Option X) → option_or o q ≡ None → (o ≡ None) × (q ≡ None)
or_none None q e = (refl, e)
or_none (Some x) q e = absurd (cc)

pub or_some : {X : Type 0} (o q : Option X) (x : X) → option_or o q ≡ Some x → (o ≡ Some x) ⊎ ((o ≡ None) × (q ≡ Some x))
or_some None q x e = inr (refl, e)
or_some (Some y) q x e = inl e

pub unless_ok : {X E : Type 0} (o : Option E) (x y : X) → unless o x ≡ Ok y → o ≡ None
unless_ok None x y e = refl
unless_ok (Some z) x y e = absurd (cc)

pub unless_err : {X E : Type 0} (o : Option E) (x : X) (z : E) → unless o x ≡ Err z → o ≡ Some z
unless_err None x z e = absurd (cc)
unless_err (Some y) x z e = cc

module _ {X : Type 0} (f : ℕ → Option X) where
  pub first_none : first f 0 ≡ None
  unfolding first
  first_none = refl

  pub first_more : (i : ℕ) → first f i ≡ None → f i ≡ None → first f (i + 1) ≡ None
  unfolding first
  first_more i none good = rw (add-one, none) good

  -- a loop's early return
  pub first_stays : (i n : ℕ) (e : X) → i < n → first f i ≡ None → f i ≡ Some e → first f n ≡ Some e
  unfolding first
  first_stays i zero e l none bad = absurd (omega arith)
  first_stays i (suc n) e l none bad = elim (cases_lt i n) [
    | inl h ↦ rw (first_stays i n e h none bad)
    | inr h ↦ let s : n ≡ i = omega arith in rw s (rw none bad)
  ]

  -- a loop whose turn is `check(i)?`: its next turn, its exit and its end
  pub checked_more : {Y : Type 0} (i : ℕ) (y z : Y) → first f i ≡ None → unless (f i) y ≡ Ok z → first f (i + 1) ≡ None
  checked_more i y z none e = first_more i none (unless_ok (f i) y z e)

  pub checked_stops : {Y : Type 0} (i n : ℕ) (y : Y) (e : X) → i < n → first f i ≡ None → unless (f i) y ≡ Err e → unless (first f n) y ≡ Err e
  checked_stops i n y e l none h = rw (first_stays i n e l none (unless_err (f i) y e h))

  pub checked_all : {Y : Type 0} (i n : ℕ) (y : Y) → first f i ≡ None → i ≡ n → unless (first f n) y ≡ Ok y
  checked_all i n y none e = rw (sym e) (rw none)

  pub none_below : (n : ℕ) → first f n ≡ None → (k : ℕ) → k < n → f k ≡ None
  unfolding first
  none_below zero e k l = absurd (omega arith)
  none_below (suc n) e k l = let z = or_none (first f n) (f n) e in elim (cases_lt k n) [
    | inl h ↦ none_below n z.0 k h
    | inr h ↦ let s : k ≡ n = omega arith in rw s z.1
  ]

  pub below_none : (n : ℕ) → ((k : ℕ) → k < n → f k ≡ None) → first f n ≡ None
  unfolding first
  below_none zero h = refl
  below_none (suc n) h = rw (below_none n (λ k l. h k (omega arith))) (h n (omega arith))

  pub first_is : (n : ℕ) (e : X) → first f n ≡ Some e → (i : ℕ) × (i < n) × (f i ≡ Some e) × ((k : ℕ) → k < i → f k ≡ None)
  unfolding first
  first_is zero e h = absurd (cc)
  first_is (suc n) e h = elim (or_some (first f n) (f n) e h) [
    | inl g ↦ let z = first_is n e g in (z.0, omega (arith, z.1), z.2, z.3)
    | inr g ↦ (n, omega arith, g.1, none_below n g.0)
  ]

module _ (f : ℕ → Bool) where
  pub any_none : any f 0 ≡ false
  unfolding any
  any_none = refl

  pub any_step : (n : ℕ) → any f (n + 1) ≡ (any f n || f n)
  unfolding any
  any_step n = rw add-one

  pub any_here : (n k : ℕ) → k < n → f k ≡ true → any f n ≡ true
  unfolding any
  any_here zero k l e = absurd (omega arith)
  any_here (suc n) k l e = elim (cases_lt k n) [
    | inl h ↦ or_left (any f n) (f n) (any_here n k h e)
    | inr h ↦ let s : n ≡ k = omega arith in or_right (any f n) (f n) (rw s e)
  ]

  pub any_where : (n : ℕ) → any f n ≡ true → (k : ℕ) × (k < n) × (f k ≡ true)
  unfolding any
  any_where zero e = absurd (true≢false (sym e))
  any_where (suc n) e = elim (or_cases (any f n) (f n) e) [
    | inl h ↦ let z = any_where n h in (z.0, omega (arith, z.1), z.2)
    | inr h ↦ (n, omega arith, h)
  ]

  pub any_more : (n : ℕ) → any f n ≡ false → f n ≡ false → any f (n + 1) ≡ false
  any_more n a b = any_step n ∙ or_from (any f n) (f n) a b

  pub not_any : (n : ℕ) → any f n ≡ false → (k : ℕ) → k < n → f k ≡ false
  not_any n e k l = elim (cases_Bool (f k)) [ inl h ↦ absurd (true≢false (sym (any_here n k l h) ∙ e)) | inr h ↦ h ]

  pub all_not : (n : ℕ) → ((k : ℕ) → k < n → f k ≡ true → ⊥) → any f n ≡ false
  all_not n h = elim (cases_Bool (any f n)) [ inl e ↦ (let z = any_where n e in absurd (h z.0 z.1 z.2)) | inr e ↦ e ]

  pub count_none : count f 0 ≡ 0
  unfolding count
  count_none = refl

  pub count_more : (n : ℕ) → count f (n + 1) ≡ count f n + cond (f n) 1 0
  unfolding count
  count_more n = rw add-one

  pub count_at_most : (n : ℕ) → count f n ≤ n
  unfolding count
  count_at_most zero = omega arith
  count_at_most (suc n) = elim (cases_Bool (f n)) [
    | inl e ↦ simp e (omega (arith, count_at_most n))
    | inr e ↦ simp e (omega (arith, count_at_most n))
  ]

module _ (f g : ℕ → Bool) where
  pub count_same : (n : ℕ) → ((k : ℕ) → k < n → f k ≡ g k) → count f n ≡ count g n
  unfolding count
  count_same zero same = refl
  count_same (suc n) same = rw (count_same n (λ k l. same k (omega arith)), same n (omega arith)) refl

  -- two questions that differ at one place
  pub count_change : (at n : ℕ) → at < n → ((k : ℕ) → (k ≡ at → ⊥) → f k ≡ g k) → count f n + cond (g at) 1 0 ≡ count g n + cond (f at) 1 0
  unfolding count
  count_change at zero l same = absurd (omega arith)
  count_change at (suc n) l same = elim (cases_lt at n) [
    | inl h ↦ rw (same n (λ e. omega arith)) (omega (arith, count_change at n h same))
    | inr h ↦ let s : at ≡ n = omega arith in rw s (omega (arith, count_same n (λ k b. same k (λ e. omega arith))))
  ]

module _ (f : ℕ → ℕ) where
  pub most_none : most f 0 ≡ 0
  unfolding most
  most_none = refl

  pub most_more : (n : ℕ) → most f (n + 1) ≡ max (most f n) (f n)
  unfolding most
  most_more n = rw add-one

  pub most_bound : (n k : ℕ) → k < n → f k ≤ most f n
  unfolding most
  most_bound zero k l = absurd (omega arith)
  most_bound (suc n) k l = elim (cases_lt k n) [
    | inl h ↦ omega (arith, most_bound n k h)
    | inr h ↦ let s : k ≡ n = omega arith in rw s (omega arith)
  ]

pub any_same : (f g : ℕ → Bool) (n : ℕ) → ((k : ℕ) → k < n → f k ≡ g k) → any f n ≡ any g n
unfolding any
any_same f g zero h = refl
any_same f g (suc n) h = rw (any_same f g n (λ k l. h k (omega arith)), h n (omega arith)) refl
