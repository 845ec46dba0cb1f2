-- Laws of fields and of two's complement.
use Rattle.std.proofs.Common.{◌≡◌, ℕ, zero, suc, ◌+◌, ◌-◌, ◌*◌, ◌/◌, ◌%◌, ◌^◌, ◌<◌, cond, ltb, ◌⊎◌, ℤ, pos, ◌+ℤ◌, ◌-ℤ◌, neg_ℤ, ◌≤ℤ◌, ◌<ℤ◌, refl, ◌∙◌, inl, inr, mul_comm, add_comm, div-one, arith}
use native.Mathlib.Nat.{pow-succ'}
use Rattle.std.proofs.lemmas.Nat.{mod-pow-add, shr-shr, pow_pos, mod_below}
use Rattle.std.proofs.lemmas.Int.{ints}
use Rattle.std.proofs.lemmas.Bool.{cases_lt, lt-ltb, le-ltb, cond-true, cond-false}
use Rattle.words.specs.Bits.{signed}
use Rattle.words.specs.Laws.{FieldsJoin, LowFields, Signs}

pub low_fields : LowFields
low_fields w n = rw div-one

pub fields_join : FieldsJoin
fields_join w low m n =
    let high = w / 2 ^ (low + m) % 2 ^ n in
    rw (add_comm m n, mod-pow-add (w / 2 ^ low) n m, shr-shr w low m) (omega (arith, mul_comm high (2 ^ m)))

-- two's complement of x in a span of twice `half` values
halves : (half span x : ℕ) → span ≡ 2 * half → x < span → (z : ℤ) → z ≡ cond (ltb (2 * x) span) (pos x) (pos x -ℤ pos span) →
    (neg_ℤ (pos half) ≤ℤ z) × (z <ℤ pos half) × ((z ≡ pos x) ⊎ (z +ℤ pos span ≡ pos x))
halves half span x s l z e = elim (cases_lt (2 * x) span) [
  | inl h ↦ let is : z ≡ pos x = e ∙ cond-true _ _ _ (lt-ltb (2 * x) span h) in
      rw is (omega (arith, ints), omega (arith, ints), inl refl)
  | inr h ↦ let is : z ≡ pos x -ℤ pos span = e ∙ cond-false _ _ _ (le-ltb (2 * x) span h) in
      rw is (omega (arith, ints), omega (arith, ints), inr (omega (arith, ints)))
]

pub signs : Signs
signs zero w h = absurd (omega arith)
signs (suc k) w h =
    let less : suc k - 1 ≡ k = omega arith in
    let inside = mod_below w (2 ^ suc k) (pow_pos (suc k)) in
    let all = halves (2 ^ k) (2 ^ suc k) (w % 2 ^ suc k) (pow-succ' 2 k) inside (signed (suc k) w) (rw div-one refl) in
    record { least = rw less all.0; most = rw less all.1; bits = all.2 }
