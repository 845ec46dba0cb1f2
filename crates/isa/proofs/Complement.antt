-- Two's complement: a number and its bits tell each other.
use Rattle.std.proofs.Common.{◌≡◌, ℕ, zero, suc, ◌+◌, ◌-◌, ◌*◌, ◌%◌, ◌^◌, ◌<◌, ℤ, pos, negsuc, ◌+ℤ◌, nat_abs, sym, refl, ap, ◌∙◌, inl, inr, mod-eq_of_lt, zero-add, zero-mul, div-one, arith}
use native.Mathlib.Nat.{pow-succ'}
use Rattle.std.proofs.lemmas.Nat.{pow_pos, pow-add, mod_below}
use Rattle.std.proofs.lemmas.Int.{ints, int_rem_euclid_is}
use Rattle.std.proofs.lemmas.Bool.{lt-ltb, le-ltb, cond-true, cond-false}
use Rattle.words.specs.Bits.{signed, complement}
use Rattle.words.proofs.Signs.{signs}
use Rattle.isa.specs.Encoding.{Within}
use Rattle.isa.specs.Integers.{remainder}

signed_is : (k n : ℕ) → n < 2 ^ k → signed k n ≡ complement k n
signed_is k n h = rw (div-one n, mod-eq_of_lt h)

-- the low bits of a signed number are those that it was read from
pub low_bits : (k j n : ℕ) → 0 < k + j → n < 2 ^ (k + j) → remainder j (signed (k + j) n) ≡ n % 2 ^ j
low_bits k j n some h =
    let whole : n % 2 ^ (k + j) ≡ n = mod-eq_of_lt h in
    let euclid : (m : ℕ) → signed (k + j) n +ℤ pos (m * 2 ^ j) ≡ pos n → remainder j (signed (k + j) n) ≡ n % 2 ^ j =
    λ m e. ap nat_abs (int_rem_euclid_is (signed (k + j) n) (pos (2 ^ j)) (2 ^ j) m n (pow_pos j) refl e) in
    elim (signs (k + j) n some).bits [
      | inl e ↦ euclid 0 (rw zero-mul (omega (arith, ints)))
      | inr e ↦ euclid (2 ^ k) (rw (sym (pow-add 2 k j)) (e ∙ ap pos whole))
    ]

pub bits_of_signed : (k n : ℕ) → 0 < k → n < 2 ^ k → remainder k (signed k n) ≡ n
bits_of_signed k n some h =
    let none : 0 + k ≡ k = zero-add k in
    (rw none at (low_bits 0 k n (omega arith) (rw none h))) ∙ mod-eq_of_lt h

pub bits_below : (k : ℕ) (z : ℤ) → remainder k z < 2 ^ k
bits_below k z = grind (arith, ints, pow_pos k, mod_below)

pub signed_of_bits : (k : ℕ) (z : ℤ) → 0 < k → Within k z → signed k (remainder k z) ≡ z
signed_of_bits zero z some h = absurd (omega arith)
signed_of_bits (suc k) (pos n) some h =
    let less : suc k - 1 ≡ k = omega arith in
    let top = rw less at h.1 in
    let span : 2 ^ suc k ≡ 2 * 2 ^ k = pow-succ' 2 k in
    let l : n < 2 ^ suc k = omega (arith, ints) in
    rw (mod-eq_of_lt l, signed_is (suc k) n l) (cond-true _ _ _ (lt-ltb (2 * n) (2 ^ suc k) (omega (arith, ints))))
signed_of_bits (suc k) (negsuc n) some h =
    let less : suc k - 1 ≡ k = omega arith in
    let low = rw less at h.0 in
    let span : 2 ^ suc k ≡ 2 * 2 ^ k = pow-succ' 2 k in
    let l : n < 2 ^ suc k = omega (arith, ints) in
    let m = 2 ^ suc k - 1 - n in
    let in_span : m < 2 ^ suc k = omega arith in
    rw (mod-eq_of_lt l, signed_is (suc k) m in_span)
    (cond-false _ _ _ (le-ltb (2 * m) (2 ^ suc k) (omega (arith, ints))) ∙ omega (arith, ints))

-- a multiple of 2 ^ j ends in zeros
pub zeros : (k j : ℕ) (z : ℤ) → 0 < k + j → Within (k + j) z → remainder j z ≡ 0 → remainder (k + j) z % 2 ^ j ≡ 0
zeros k j z some h e =
    sym (low_bits k j (remainder (k + j) z) some (bits_below (k + j) z)) ∙ ap (remainder j) (signed_of_bits (k + j) z some h) ∙ e
