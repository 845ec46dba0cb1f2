-- Laws of sums and of the operations on bits.
use Rattle.std.proofs.Common.{◌≡◌, ℕ, ◌+◌, ◌-◌, ◌*◌, ◌/◌, ◌%◌, ◌^◌, ◌<◌, ◌≤◌, pos, ◌+ℤ◌, ◌-ℤ◌, sym, ap, ◌∙◌, add-zero, add_comm, mod-eq_of_lt, arith}
use lib.Signed.{shr_z}
use Rattle.std.proofs.Math.Pow.{mod-mod-pow}
use Rattle.std.proofs.lemmas.Int.{ints}
use Rattle.std.proofs.lemmas.Nat.{field_of, mod_below, pow_pos, shr-shr, shr_le, or_lt, xor_lt}
use Rattle.std.proofs.lemmas.Nat.Bits.{bit_at_and, bit_at_or, bit_at_xor, bit_at-zero, bit_at_cat_low, bit_at_cat_high}
use Rattle.std.specs.Int.{bit_at}
use Rattle.std.specs.Int.Bits.{and_lt}
use Rattle.words.specs.Bits.{signed}
use Rattle.isa.specs.declared.instruction.Operation.TheVariants.{Add, Sub, ShiftLeft, LessThan, LessThanUnsigned, Xor, ShiftRight, ShiftRightArithmetic, Or, And}
use Rattle.isa.specs.Laws.{Adds, Bitwise, GivesWords, Moves, ShiftsByFive}
use Rattle.isa.proofs.Complement.{bits_below}

pub gives_words : GivesWords
gives_words Add a b ha hb = bits_below 32 (pos a +ℤ pos b)
gives_words Sub a b ha hb = bits_below 32 (pos a -ℤ pos b)
gives_words ShiftLeft a b ha hb = mod_below (a * 2 ^ (b % 32)) (2 ^ 32) (pow_pos 32)
gives_words LessThan a b ha hb = grind arith
gives_words LessThanUnsigned a b ha hb = grind arith
gives_words Xor a b ha hb = xor_lt 32 a b ha hb
gives_words ShiftRight a b ha hb = omega (arith, shr_le a (b % 32))
gives_words ShiftRightArithmetic a b ha hb = bits_below 32 (shr_z (signed 32 a) (2 ^ (b % 32)))
gives_words Or a b ha hb = or_lt 32 a b ha hb
gives_words And a b ha hb = and_lt 32 a b ha hb

pub adds : Adds
adds a b ha hb = record { sum = grind (arith, ints); difference = grind (arith, ints) }

pub bitwise : Bitwise
bitwise a b i = record { xor = bit_at_xor a b i; or = bit_at_or a b i; and = bit_at_and a b i }

-- a remainder by 2 ^ w has the bits below w
low_bit : (n w i : ℕ) → i < w → bit_at (n % 2 ^ w) i ≡ bit_at n i
low_bit n w i l =
    let j = w - i - 1 in
    let all : w ≡ j + 1 + i = omega arith in
    rw all (ap (λ x. x % 2) (field_of n (j + 1) i) ∙ mod-mod-pow (n / 2 ^ i) j 1)

shifted_low : (a k i : ℕ) → i < k → bit_at (a * 2 ^ k) i ≡ 0
shifted_low a k i l = ap (λ n. bit_at n i) (sym (add-zero (a * 2 ^ k))) ∙ bit_at_cat_low a k 0 i l ∙ bit_at-zero i

shifted_high : (a k i : ℕ) → k ≤ i → bit_at (a * 2 ^ k) i ≡ bit_at a (i - k)
shifted_high a k i l = ap (λ n. bit_at n i) (sym (add-zero (a * 2 ^ k))) ∙ bit_at_cat_high a k 0 i (pow_pos k) l

pub moves : Moves
moves a k i hk hi =
    let low : k % 32 ≡ k = mod-eq_of_lt hk in
    record {
      below = λ l. rw low (low_bit (a * 2 ^ k) 32 i hi ∙ shifted_low a k i l);
      up = λ l. rw low (low_bit (a * 2 ^ k) 32 i hi ∙ shifted_high a k i l);
      down = rw low (ap (λ n. n % 2) (shr-shr a k i) ∙ ap (bit_at a) (add_comm k i));
    }

pub shifts_by_five : ShiftsByFive
shifts_by_five a b = let e : b % 32 % 32 ≡ b % 32 = omega arith in record { sll = rw e; srl = rw e; sra = rw e }
