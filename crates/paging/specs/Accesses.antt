-- What an access wants of a leaf, and the place that it reaches through it.
use Rattle.std.specs.Prelude.{ℕ, ◌%◌, Bool, cond, ◌&&◌, Ok, Err, Result}
use Rattle.paging.specs.declared.access.Access.{Access}
use Rattle.paging.specs.declared.access.Access.TheVariants.{Fetch, Load, Store}
use Rattle.paging.specs.declared.leaf.Leaf.{Leaf}
use Rattle.paging.specs.declared.physical.PhysicalAddress.{PhysicalAddress}

-- a fetch needs X, a load R, a store R and W
abbrev pub permitted : Leaf → Access → Bool
permitted leaf Fetch = leaf.executable
permitted leaf Load = leaf.readable
permitted leaf Store = leaf.readable && leaf.writable

-- the byte of a frame that the low twelve bits of an address tell
abbrev pub physical_in : ℕ → ℕ → PhysicalAddress
physical_in frame address = record { frame = frame; offset = address % 4096 }

-- no page maps the address and permits the access
pub record PageFault : Type 0 where
  pub access : Access

abbrev pub page_fault : Access → PageFault
page_fault access = record { access = access }

-- what an access to an address comes to, where its page has the leaf
abbrev pub physical_through : Leaf → ℕ → Access → Result PhysicalAddress PageFault
physical_through leaf address access = cond (permitted leaf access) (Ok (physical_in leaf.frame address)) (Err (page_fault access))
