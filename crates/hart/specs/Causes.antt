-- The numbers of the causes with which a program stops.
use Rattle.std.specs.Prelude.{ℕ}
use Rattle.paging.specs.declared.access.Access.{Access}
use Rattle.paging.specs.declared.access.Access.TheVariants.{Fetch, Load, Store}
use Rattle.hart.specs.declared.cause.Cause.{Cause}
use Rattle.hart.specs.declared.cause.Cause.TheVariants.{IllegalInstruction, FetchMisaligned, FetchFault, LoadMisaligned, LoadFault, StoreMisaligned, StoreFault}

abbrev pub cause_number : Cause → ℕ
cause_number IllegalInstruction = 1
cause_number FetchMisaligned = 2
cause_number FetchFault = 3
cause_number LoadMisaligned = 4
cause_number LoadFault = 5
cause_number StoreMisaligned = 6
cause_number StoreFault = 7

-- the cause of a page fault
abbrev pub fault_cause : Access → Cause
fault_cause Fetch = FetchFault
fault_cause Load = LoadFault
fault_cause Store = StoreFault

-- and of an address that is not aligned
abbrev pub misaligned_cause : Access → Cause
misaligned_cause Fetch = FetchMisaligned
misaligned_cause Load = LoadMisaligned
misaligned_cause Store = StoreMisaligned
