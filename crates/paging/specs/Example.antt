-- Walks and accesses in the small memory.
use Rattle.std.specs.Prelude.{◌≡◌, true, false, Some, None, Ok, Err}
use Rattle.paging.specs.declared.access.Access.TheVariants.{Fetch, Load, Store}
use Rattle.paging.specs.Accesses.{page_fault}
use Rattle.paging.specs.Small.{mapped, mapped_in}
use Rattle.paging.specs.Walks.{translated, walked}

pub record Example : Type 0 where
  pub runs : walked mapped 0 16 ≡ Some (record { frame = 2; readable = true; writable = false; executable = true })
  pub stores : walked mapped 0 17 ≡ Some (record { frame = 3; readable = true; writable = true; executable = false })
  pub not_mapped : walked mapped 0 18 ≡ None
  pub not_lent : walked (mapped_in 3072) 0 17 ≡ None
  pub fetched : translated mapped 0 0x10004 Fetch ≡ Ok (record { frame = 2; offset = 4 })
  pub loaded : translated mapped 0 0x10FFF Load ≡ Ok (record { frame = 2; offset = 4095 })
  pub not_stored : translated mapped 0 0x10004 Store ≡ Err (page_fault Store)
