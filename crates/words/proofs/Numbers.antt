-- Laws of numbers in bytes.
use Rattle.std.proofs.Common.{◌≡◌, ℕ, zero, suc, ◌+◌, ◌-◌, ◌*◌, ◌^◌, ◌<◌, ◌≤◌, List, length, take, min, refl, sym, ◌∙◌, inl, inr, subst, add-zero, mul_assoc, suc-add, zero-add, arith}
use native.Mathlib.Nat.{mul-add-div, div-eq_of_lt, pow-succ'}
use Rattle.std.proofs.lemmas.List.{get_or_past, get_or-take}
use Rattle.std.proofs.lemmas.Bool.{cases_lt}
use Rattle.words.specs.Bytes.{byte, number}
use Rattle.words.specs.Laws.{LowByteFirst, NumbersFit}

-- the bytes after the first m weigh 256 ^ m
pub number_split : (bytes : List ℕ) (at m n : ℕ) → number bytes at (m + n) ≡ number bytes at m + 256 ^ m * number bytes (at + m) n
number_split bytes at zero n = rw (zero-add, add-zero) (omega arith)
number_split bytes at (suc m) n =
    let rest = number bytes (at + 1 + m) n in
    let more = number_split bytes (at + 1) m n in
    let place : at + suc m ≡ at + 1 + m = omega arith in
    let weight : 256 ^ suc m * rest ≡ 256 * (256 ^ m * rest) = rw (pow-succ', mul_assoc) refl in
    rw (suc-add, place) (omega arith)

pub number_below : NumbersFit
number_below bytes at zero h = omega arith
number_below bytes at (suc count) h = rw pow-succ' (omega (arith, h at, number_below bytes (at + 1) count h))

pub low_byte_first : LowByteFirst
low_byte_first bytes at count k h l =
    let rest = number bytes (at + k) (count - k) in
    let tail = number bytes (at + k + 1) (count - k - 1) in
    let size : k + (count - k) ≡ count = omega arith in
    let left : suc (count - k - 1) ≡ count - k = omega arith in
    let parts : number bytes at count ≡ 256 ^ k * rest + number bytes at k =
    subst (λ (n : ℕ). number bytes at n ≡ 256 ^ k * rest + number bytes at k) size (omega (arith, number_split bytes at k (count - k))) in
    let head : rest ≡ byte bytes (at + k) + 256 * tail = subst (λ (n : ℕ). number bytes (at + k) n ≡ byte bytes (at + k) + 256 * tail) left refl in
    let low : number bytes at k < 256 ^ k = number_below bytes at k h in
    let pos : 0 < 256 ^ k = omega arith in
    rw (parts, mul-add-div pos rest (number bytes at k), div-eq_of_lt low) (omega (arith, h (at + k)))

-- a number that lies in a front part is the same in the whole
pub number_take : (bytes : List ℕ) (n at count : ℕ) → at + count ≤ n → number (take n bytes) at count ≡ number bytes at count
number_take bytes n at zero h = refl
number_take bytes n at (suc count) h = rw (get_or-take n bytes at 0 (omega arith), number_take bytes n (at + 1) count (omega arith)) refl

-- no byte lies past a place that the bytes end before
pub byte_below : (bytes : List ℕ) (at top : ℕ) → length bytes ≤ top → byte bytes (min at top) ≡ byte bytes at
byte_below bytes at top l = elim (cases_lt at top) [
  | inl h ↦ let e : min at top ≡ at = omega arith in rw e
  | inr h ↦ let e : min at top ≡ top = omega arith in rw e (get_or_past bytes top 0 l ∙ sym (get_or_past bytes at 0 (omega arith)))
]
