-- What a row of uses alone tells: that something came and nothing ended it since; and so of loads and stores, with no cache in it.
use Rattle.std.specs.Prelude.{◌≡◌, ℕ, ◌+◌, true, List, ◌∷◌, ◌++◌, ◌≢◌}
use Rattle.std.specs.List.{AllByRecursion}
use Rattle.costs.specs.Costs.{miss, write_back}
use Rattle.tables.specs.Cache.{index_of}
use Rattle.tables.specs.Rows.{Use}

-- the row has something wanted, and after it only what leaves that as it is
pub record Since {U : Type 0} (Wanted Leaves : U → Type 0) (row : List U) : Type 0 where
  pub before : List U
  pub this : U
  pub later : List U
  pub parts : row ≡ before ++ (this ∷ later)
  pub is_wanted : Wanted this
  pub undisturbed : AllByRecursion Leaves later

-- two lines of memory that cannot be in the cache together
abbrev pub Conflict : ℕ → ℕ → Type 0
Conflict a b = (index_of a ≡ index_of b) × (a ≢ b)

abbrev pub Apart : ℕ → Use → Type 0
Apart line u = Conflict u.line line → ⊥

-- an access to the line
abbrev pub Accesses : ℕ → Use → Type 0
Accesses line u = u.line ≡ line

-- a store to the line
abbrev pub Stores : ℕ → Use → Type 0
Stores line u = (u.line ≡ line) × (u.store ≡ true)

-- the line came in, and has not been evicted
abbrev pub Resident : ℕ → List Use → Type 0
Resident line = Since (Accesses line) (Apart line)

-- the line was stored to since it last came in
abbrev pub Stored : ℕ → List Use → Type 0
Stored line = Since (Stores line) (Apart line)

-- what an access to a line costs after a row
pub record Costs (row : List Use) (line cost : ℕ) : Type 0 where
  pub hit : Resident line row → cost ≡ 0
  pub over_dirty : (other : ℕ) → Conflict other line → Stored other row → cost ≡ miss + write_back
  pub over_clean : (Resident line row → ⊥) → ((other : ℕ) → Conflict other line → Stored other row → ⊥) → cost ≡ miss
