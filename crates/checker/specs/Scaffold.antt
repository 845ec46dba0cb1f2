-- What proofs cite of marks and of the loops that set them. A reader need not believe it: no rule and no promise speaks of it.
use Rattle.std.specs.Prelude.{◌≡◌, ℕ, ◌<◌, ⊤, Bool, true, false, not, ◌&&◌, List, None, Ok, Err, Result, slice_index_or}
use Rattle.ranges.specs.Questions.{any, first}
use Rattle.words.specs.Frames.{lent}
use Rattle.plan.specs.declared.model.Plan.{Plan}
use Rattle.checker.specs.declared.claims.Claims.{Claims}
use Rattle.checker.specs.declared.marks.Marks.{Marks}
use Rattle.checker.specs.declared.sharing.Naming.{Naming}
use Rattle.checker.specs.Marks.{is_page_table_frame, references, references_in}
use Rattle.checker.specs.Sharing.{clash, referenced_at, share_refusal}
use Rattle.checker.specs.Tables.{table_fault}

-- an answer without its value
abbrev pub cleared : {X E : Type 0} → Result X E → Result ⊤ E
cleared (Ok x) = Ok tt
cleared (Err e) = Err e

abbrev pub marked : Marks → ℕ → Bool
marked m frame = slice_index_or m.marks frame false

-- the marked frames are those that pass a test
abbrev pub Shows : Marks → (ℕ → Bool) → Type 0
Shows m test = (f : ℕ) → f < 256 → marked m f ≡ test f

-- a marked table references the frame
abbrev pub referenced_through : List ℕ → Marks → ℕ → ℕ → Bool
referenced_through words tables frame table = marked tables table && references_in words table frame

-- what is marked is a table without fault
abbrev pub Known : List ℕ → Marks → Type 0
Known words marks = (f : ℕ) → f < 256 → marked marks f ≡ true → table_fault words f ≡ None

-- while a root is read: the tables so far are without fault, and what they reference is marked
abbrev pub Gathered : List ℕ → Claims → Type 0
Gathered words claims = Known words claims.page_tables × Shows claims.referenced (λ f. any (referenced_through words claims.page_tables f) 256)

-- what the partition under a root claims
abbrev pub Claimed : List ℕ → ℕ → Claims → Type 0
Claimed words root claims = Shows claims.referenced (references words root) × Shows claims.page_tables (is_page_table_frame words root)

abbrev pub clash_claims : Claims → Claims → ℕ → Bool
clash_claims own earlier f = clash (marked own.referenced f) (marked own.page_tables f) (marked earlier.referenced f) (marked earlier.page_tables f)

-- the marks of the partitions below a number
abbrev pub Joined : (ℕ → ℕ → Bool) → Marks → ℕ → Type 0
Joined by marks n = Shows marks (λ f. any (by f) n)

-- the first partition that shares a frame is found, and all that is referenced is marked
abbrev pub Gathers : List ℕ → Plan → Naming → Type 0
Gathers words p x = (x.shared ≡ first (share_refusal words p) p.counts.partitions) × Joined (referenced_at words p) x.referenced p.counts.partitions

abbrev pub missing_mark : List ℕ → Marks → ℕ → Bool
missing_mark words marks f = marked marks f && not (lent words f)
