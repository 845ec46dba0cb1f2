-- A word with some of its bits replaced.
use Rattle.std.proofs.Common.{◌≡◌, ℕ, ◌+◌, ◌-◌, ◌*◌, ◌/◌, ◌%◌, ◌^◌, ◌<◌, ◌≤◌, sym, ap, ◌∙◌, subst, add-mul, arith}
use Rattle.std.proofs.lemmas.Nat.{pow-add, pow_pos, shr_split, shr_below, mul-add-lt, mod_below}
use Rattle.words.specs.Bits.{field}

-- the bits that go are a part of the word, and the word with other bits in their place is one too
pub record Replaces (word shift count value : ℕ) : Type 0 where
  pub part : field word shift count * 2 ^ shift ≤ word
  pub value_below : value * 2 ^ shift < 2 ^ 32
  pub below : word - field word shift count * 2 ^ shift + value * 2 ^ shift < 2 ^ 32

pub replaces : (word shift count value : ℕ) → word < 2 ^ 32 → shift + count ≤ 32 → value < 2 ^ count → Replaces word shift count value
replaces w s c v fits room small =
    let q = w / 2 ^ s in
    let a = q / 2 ^ c in
    let f = q % 2 ^ c in
    let left = 32 - (s + c) in
    let all : s + (c + left) ≡ 32 = omega arith in
    let also : 32 ≡ left + c + s = omega arith in
    let whole : 2 ^ s * (2 ^ c * 2 ^ left) ≡ 2 ^ 32 =
    ap (λ x. 2 ^ s * x) (sym (pow-add 2 c left)) ∙ sym (pow-add 2 s (c + left)) ∙ ap (λ n. 2 ^ n) all in
    let parts : w ≡ a * 2 ^ c * 2 ^ s + f * 2 ^ s + w % 2 ^ s =
    omega (arith, shr_split w s, ap (λ x. x * 2 ^ s) (shr_split q c), add-mul (a * 2 ^ c) f (2 ^ s)) in
    let high : w / 2 ^ s < 2 ^ (left + c) = shr_below w (left + c) s (subst (λ n. w < 2 ^ n) also fits) in
    let top : a < 2 ^ left = shr_below q left c high in
    let other : a * 2 ^ c + v < 2 ^ c * 2 ^ left = mul-add-lt a (2 ^ c) v (2 ^ left) top small in
    let new = mul-add-lt (a * 2 ^ c + v) (2 ^ s) (w % 2 ^ s) (2 ^ c * 2 ^ left) other (mod_below w (2 ^ s) (pow_pos s)) in
    let sum = add-mul (a * 2 ^ c) v (2 ^ s) in
    record { part = omega arith; value_below = omega arith; below = omega arith }
