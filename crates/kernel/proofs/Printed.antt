-- Eight hexadecimal digits, taken one by one from the last, are those of an address.
use Rattle.std.proofs.Common.{◌≡◌, ℕ, zero, suc, ◌+◌, ◌-◌, ◌/◌, ◌%◌, ◌^◌, ◌<◌, ◌≤◌, false, List, [], ◌∷◌, ◌++◌, length, replicate, refl, sym, ap, ◌∙◌, inl, inr, arith}
use Rattle.std.proofs.Math.Seq.{append_snoc}
use Rattle.std.proofs.lemmas.Bool.{cases_eq, eq-eqb, ne_eqb}
use Rattle.std.proofs.lemmas.List.{length-append, length-replicate, replicate_more}
use Rattle.std.specs.Fmt.{digit_glyph, digits, digits_onto}
use Rattle.kernel.specs.ReportText.{EightDigits, address_text}

-- the last k digits of n, before acc
abbrev pub last_digits : ℕ → ℕ → List ℕ → List ℕ
last_digits zero n acc = acc
last_digits (suc k) n acc = last_digits k (n / 16) (digit_glyph false (n % 16) ∷ acc)

zeros : (k : ℕ) (acc : List ℕ) → last_digits k 0 acc ≡ replicate k 48 ++ acc
zeros zero acc = refl
zeros (suc k) acc =
    let e : k + 1 ≡ suc k = omega arith in
    let more : replicate {A = ℕ} k 48 ++ (48 ∷ []) ≡ replicate (suc k) 48 = replicate_more k 48 ∙ ap (λ n. replicate n 48) e in
    zeros k (48 ∷ acc) ∙ sym (append_snoc (replicate k 48) 48 acc) ∙ ap (λ ds. ds ++ acc) more

-- of a number below 16 ^ (k + 1), the last k + 1 digits are zeros and then all that it has
padded : (k i n : ℕ) (acc : List ℕ) → k < i → n < 16 ^ suc k
    → (z : ℕ) × (last_digits (suc k) n acc ≡ replicate z 48 ++ digits_onto i 16 false n acc) × (z + length (digits_onto i 16 false n acc) ≡ suc k + length acc)
padded k zero n acc l small = absurd (omega arith)
padded zero (suc i) n acc l small = rw (eq-eqb (n / 16) 0 (omega arith)) (0, refl, omega arith)
padded (suc k) (suc i) n acc l small = elim (cases_eq (n / 16) 0) [
  | inl e ↦ rw (eq-eqb (n / 16) 0 e, e) (suc k, zeros (suc k) _, omega arith)
  | inr ne ↦
      let p = padded k i (n / 16) (digit_glyph false (n % 16) ∷ acc) (omega arith) (omega arith) in
      rw (ne_eqb (n / 16) 0 ne) (p.0, p.1, omega (arith, p.2))
]

at_most_eight : (n : ℕ) → n < 2 ^ 32 → length (digits 16 false n) ≤ 8
unfolding digits
at_most_eight n l = omega (arith, (padded 7 64 n [] (omega arith) (omega arith)).2)

pub last_eight : (n : ℕ) → n < 2 ^ 32 → last_digits 8 n [] ≡ address_text n
unfolding digits
last_eight n l =
    let p = padded 7 64 n [] (omega arith) (omega arith) in
    let z : p.0 ≡ 8 - length (digits_onto 64 16 false n []) = omega (arith, p.2) in
    p.1 ∙ ap (λ k. replicate k 48 ++ digits_onto 64 16 false n []) z

pub eight_digits : EightDigits
eight_digits n l =
    let ds = digits 16 false n in
    omega (arith, at_most_eight n l, length-append (replicate {A = ℕ} (8 - length ds) 48) ds, length-replicate {A = ℕ} (8 - length ds) 48)
