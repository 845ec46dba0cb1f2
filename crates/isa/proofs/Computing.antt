-- Laws of the operations and of the conditions.
use Rattle.std.proofs.Common.{◌≡◌, ℕ, ◌*◌, ◌/◌, ◌%◌, ◌^◌, ◌<◌, true, false, not, ℤ, pos, negsuc, ◌+ℤ◌, ◌*ℤ◌, neg_ℤ, ◌≤ℤ◌, ◌<ℤ◌, Decides, mod-eq_of_lt, mul_comm, mul-suc, mul-add, div-le_self, arith}
use lib.Signed.{lt_z, shr_z}
use Rattle.std.proofs.lemmas.Int.{ints}
use Rattle.std.proofs.lemmas.Nat.{div-add-mod', mod_below, pow_pos}
use Rattle.std.proofs.lemmas.Bool.{cond-true, cond-false}
use Rattle.std.proofs.lemmas.Bool.Decides.{nat_tests}
use Rattle.words.specs.Bits.{signed}
use Rattle.isa.specs.declared.instruction.Operation.TheVariants.{ShiftRightArithmetic}
use Rattle.words.proofs.Signs.{signs}
use Rattle.isa.specs.Encoding.{Within}
use Rattle.isa.proofs.Complement.{signed_of_bits}
use Rattle.isa.specs.Operations.{computed}
use Rattle.isa.specs.Laws.{Undoes, Orders, RoundsDown}

pub undoes : Undoes
undoes a b ha hb = grind (arith, ints)

less : (x y : ℤ) → x <ℤ y → lt_z x y ≡ true
less x y h = grind (arith, ints)

not_less : (x y : ℤ) → y ≤ℤ x → lt_z x y ≡ false
not_less x y h = grind (arith, ints)

decides_less : (x y : ℤ) → Decides (lt_z x y) (x <ℤ y)
decides_less x y = grind (arith, ints)

decides_not_less : (x y : ℤ) → Decides (not (lt_z x y)) (y ≤ℤ x)
decides_not_less x y = grind (arith, ints)

pub orders : Orders
orders a b = record {
  slt = (λ h. cond-true _ 1 0 (less (signed 32 a) (signed 32 b) h), λ h. cond-false _ 1 0 (not_less (signed 32 a) (signed 32 b) h));
  sltu = (λ h. grind (arith, nat_tests), λ h. grind (arith, nat_tests));
  beq = grind (arith, nat_tests);
  bne = grind (arith, nat_tests);
  blt = decides_less (signed 32 a) (signed 32 b);
  bge = decides_not_less (signed 32 a) (signed 32 b);
  bltu = grind (arith, nat_tests);
  bgeu = grind (arith, nat_tests);
}

-- a quotient that is rounded down, times its divisor
floor_low : (z : ℤ) (m : ℕ) → 0 < m → (pos m *ℤ shr_z z m) ≤ℤ z
floor_low (pos n) m h = omega (arith, ints, div-add-mod' n m, mul_comm m (n / m))
floor_low (negsuc n) m h = omega (arith, ints, div-add-mod' n m, mod_below n m h, mul_comm m (n / m), mul-suc m (n / m))

times_minus : (m q : ℕ) → pos m *ℤ neg_ℤ (pos q) ≡ neg_ℤ (pos (m * q))
times_minus m q = grind (arith, ints)

floor_high : (z : ℤ) (m : ℕ) → 0 < m → z <ℤ (pos m *ℤ (shr_z z m +ℤ pos 1))
floor_high (pos n) m h = omega (arith, ints, div-add-mod' n m, mod_below n m h, mul_comm m (n / m), mul-add m (n / m) 1)
floor_high (negsuc n) m h =
    let next : negsuc (n / m) +ℤ pos 1 ≡ neg_ℤ (pos (n / m)) = omega (arith, ints) in
    rw (next, times_minus m (n / m)) (omega (arith, ints, div-add-mod' n m, mul_comm m (n / m)))

within_shr : (z : ℤ) (m : ℕ) → Within 32 z → Within 32 (shr_z z m)
within_shr (pos n) m (low, high) = let l = div-le_self n m in (omega (arith, ints), omega (arith, ints))
within_shr (negsuc n) m (low, high) = let l = div-le_self n m in (omega (arith, ints), omega (arith, ints))

pub rounds_down : RoundsDown
rounds_down a k ha hk =
    let all = signs 32 a (omega arith) in
    let z = signed 32 a in
    let k_is : k % 32 ≡ k = mod-eq_of_lt hk in
    let same : signed 32 (computed ShiftRightArithmetic a k) ≡ shr_z z (2 ^ k) =
    rw k_is (signed_of_bits 32 (shr_z z (2 ^ k)) (omega arith) (within_shr z (2 ^ k) (all.least, all.most))) in
    record { low = rw same (floor_low z (2 ^ k) (pow_pos k)); high = rw same (floor_high z (2 ^ k) (pow_pos k)) }
