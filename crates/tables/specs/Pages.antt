-- Rows of look-ups, and what a row alone tells of the pages that are known after it, with no TLB in it.
use Rattle.std.specs.Prelude.{◌≡◌, ℕ, ◌%◌, true, List, [], ◌∷◌, Some, Option, ◌≢◌}
use Rattle.paging.specs.declared.access.Access.{Access}
use Rattle.paging.specs.declared.leaf.Leaf.{Leaf}
use Rattle.paging.specs.Accesses.{permitted}
use Rattle.tables.specs.declared.tlb.Tlb.{Tlb}
use Rattle.tables.specs.History.{Since}
use Rattle.tables.specs.Tlb.{filled}

-- a look-up: the page, the access, and what a walk of the page ends in at that time
pub record PageUse : Type 0 where
  pub page : ℕ
  pub access : Access
  pub walk : Option Leaf

-- the TLB after one look-up
abbrev pub page_used : Tlb → PageUse → Tlb
page_used tlb u = filled tlb u.page u.access u.walk

-- and after a row of them
unfoldable pub tlb_after : Tlb → List PageUse → Tlb
tlb_after tlb [] = tlb
tlb_after tlb (u ∷ row) = tlb_after (page_used tlb u) row

-- the walk ends in a leaf that permits the access
abbrev pub Granted : PageUse → Type 0
Granted u = (leaf : Leaf) × (u.walk ≡ Some leaf) × (permitted leaf u.access ≡ true)

-- two pages that cannot be known together: their numbers are equal modulo 16
abbrev pub PagesConflict : ℕ → ℕ → Type 0
PagesConflict a b = (a % 16 ≡ b % 16) × (a ≢ b)

-- a look-up of this page that is granted
abbrev pub GrantedTo : ℕ → PageUse → Type 0
GrantedTo page u = (u.page ≡ page) × Granted u

-- a look-up that leaves the page as it was: it is of no page that conflicts, or is not granted
abbrev pub LeavesPage : ℕ → PageUse → Type 0
LeavesPage page u = PagesConflict u.page page → Granted u → ⊥

-- the page was looked up and granted, and none that conflicts with it since
abbrev pub Kept : ℕ → List PageUse → Type 0
Kept page = Since (GrantedTo page) (LeavesPage page)
