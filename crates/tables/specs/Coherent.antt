-- A TLB that answers what a walk would.
use Rattle.std.specs.Prelude.{◌≡◌, ℕ, ◌/◌, List, Some, None, Ok, Err, Option, Result}
use Rattle.std.specs.List.{AllByRecursion}
use Rattle.paging.specs.declared.access.Access.{Access}
use Rattle.paging.specs.Accesses.{PageFault, page_fault, physical_in}
use Rattle.paging.specs.declared.physical.PhysicalAddress.{PhysicalAddress}
use Rattle.paging.specs.Walks.{translated, walked}
use Rattle.tables.specs.declared.tlb.Lookup.{Lookup}
use Rattle.tables.specs.declared.tlb.Tlb.{Tlb}
use Rattle.tables.specs.declared.tlb.TlbEntry.{TlbEntry}

-- an entry has the leaf that a walk of its page ends in
abbrev pub TrueEntry : List ℕ → ℕ → Option TlbEntry → Type 0
TrueEntry words root None = Unit {0}
TrueEntry words root (Some entry) = walked words root entry.page ≡ Some entry.leaf

-- and so has every entry
abbrev pub Coherent : Tlb → List ℕ → ℕ → Type 0
Coherent tlb words root = AllByRecursion (TrueEntry words root) tlb.entries

-- the place that a look-up gives for an address in its page, or the fault
abbrev pub reached_in : Option ℕ → ℕ → Access → Result PhysicalAddress PageFault
reached_in None address access = Err (page_fault access)
reached_in (Some frame) address access = Ok (physical_in frame address)

abbrev pub reached : Lookup → ℕ → Access → Result PhysicalAddress PageFault
reached lookup address access = reached_in lookup.frame address access

-- a look-up gives what translation by the page tables gives, and leaves a coherent TLB
pub record Truthful (after : Tlb) (words : List ℕ) (root page : ℕ) (access : Access) (lookup : Lookup) : Type 0 where
  pub still : Coherent after words root
  pub translates : (address : ℕ) → address / 4096 ≡ page → reached lookup address access ≡ translated words root address access
