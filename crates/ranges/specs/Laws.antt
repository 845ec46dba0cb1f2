-- What the questions come to, with no order of asking but that of the numbers.
use Rattle.std.specs.Prelude.{◌≡◌, ℕ, ◌+◌, ◌<◌, ◌≤◌, Bool, true, false, cond, ◌≢◌, ◌⊎◌, Some, None, Decides, Option}
use Rattle.ranges.specs.Questions.{any, count, first, most}

-- the first answer is one's, and none before it has one; there is no first where none has one, and only there
pub record FirstOf (f : ℕ → Option ℕ) (n : ℕ) : Type 0 where
  pub found : (e : ℕ) → first f n ≡ Some e → (i : ℕ) × (i < n) × (f i ≡ Some e) × ((k : ℕ) → k < i → f k ≡ None)
  pub none : first f n ≡ None → (k : ℕ) → k < n → f k ≡ None
  pub nowhere : ((k : ℕ) → k < n → f k ≡ None) → first f n ≡ None

abbrev pub Firsts : Type 0
Firsts = (f : ℕ → Option ℕ) (n : ℕ) → FirstOf f n

-- one passes if and only if there is a number below n that does
abbrev pub Anys : Type 0
Anys = (f : ℕ → Bool) (n : ℕ) → Decides (any f n) ((k : ℕ) × (k < n) × (f k ≡ true))

-- where none passes none is counted; and two tests that differ at one number alone, differ by that one
pub record Counted (f g : ℕ → Bool) (n : ℕ) : Type 0 where
  pub none : ((k : ℕ) → k < n → f k ≡ false) → count f n ≡ 0
  pub one : (at : ℕ) → at < n → ((k : ℕ) → k ≢ at → f k ≡ g k) → count f n + cond (g at) 1 0 ≡ count g n + cond (f at) 1 0

abbrev pub Counts : Type 0
Counts = (f g : ℕ → Bool) (n : ℕ) → Counted f g n

-- the largest value is no smaller than any, and one's, or 0 where there is none
pub record MostOf (f : ℕ → ℕ) (n : ℕ) : Type 0 where
  pub above : (k : ℕ) → k < n → f k ≤ most f n
  pub met : (most f n ≡ 0) ⊎ ((k : ℕ) × (k < n) × (f k ≡ most f n))

abbrev pub Mosts : Type 0
Mosts = (f : ℕ → ℕ) (n : ℕ) → MostOf f n
