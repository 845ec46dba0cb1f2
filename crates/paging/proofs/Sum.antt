-- An entry is the sum of its fields.
use Rattle.std.proofs.Common.{◌≡◌, ℕ, ◌*◌, ◌/◌, ◌^◌, refl, inl, inr, mul-zero, mul-one, arith}
use Rattle.std.proofs.lemmas.Nat.{mod_below}
use Rattle.std.proofs.lemmas.Bool.{cases_eq}
use Rattle.words.specs.Bits.{field}
use Rattle.ranges.specs.Questions.{weight}
use Rattle.paging.specs.Entries.{flag}
use Rattle.paging.specs.Laws.{EntriesAddUp}

-- a flag adds its bit
bit : (entry at value : ℕ) → weight (flag entry at) value ≡ value * field entry at 1
unfolding flag
bit entry at value = elim (cases_eq (field entry at 1) 1) [
  | inl e ↦ rw e (rw mul-one refl)
  | inr n ↦ let e : field entry at 1 ≡ 0 = omega (arith, mod_below (entry / 2 ^ at) 2 (omega arith)) in rw e (rw mul-zero refl)
]

pub entries_add_up : EntriesAddUp
entries_add_up entry = rw (bit entry 0 1, bit entry 1 2, bit entry 2 4, bit entry 3 8, bit entry 4 16, bit entry 5 32, bit entry 6 64, bit entry 7 128) (omega arith)
