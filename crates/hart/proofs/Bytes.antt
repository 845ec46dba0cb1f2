-- Loads and stores, byte by byte.
use Rattle.std.proofs.Common.{◌≡◌, ℕ, ◌+◌, ◌-◌, ◌*◌, ◌/◌, ◌%◌, ◌^◌, ◌<◌, ◌≤◌, sym, refl, ap, ◌∙◌, subst, add-mul, div-one, arith}
use Rattle.std.proofs.Math.Pow.{mod-mod-pow}
use Rattle.std.proofs.lemmas.Nat.{field_of, mod_below, mod_low, pow_pos, shr-shr, shr_high, shr_split}
use Rattle.std.proofs.lemmas.Int.{ints}
use Rattle.words.specs.Bits.{field, signed}
use Rattle.words.proofs.Signs.{fields_join, signs}
use Rattle.isa.specs.declared.instruction.LoadWidth.{LoadWidth}
use Rattle.isa.specs.declared.instruction.LoadWidth.TheVariants.{Byte, Half, Word, ByteUnsigned, HalfUnsigned}
use Rattle.isa.specs.declared.instruction.StoreWidth.{StoreWidth}
use Rattle.isa.specs.Integers.{remainder}
use Rattle.isa.proofs.Complement.{bits_below, signed_of_bits}
use Rattle.isa.specs.Loads.{loaded}
use Rattle.isa.specs.Memory.{replaced}
use Rattle.isa.specs.Stores.{stored}
use Rattle.hart.specs.Bytes.{LoadsBytes, StoresBytes, byte_of, four_bytes, two_bytes}
use Rattle.hart.proofs.Replacing.{replaces}

-- a word with some of its bits replaced: those below, the bits themselves, and those above
record Parts (word shift count value : ℕ) : Type 0 where
  low : replaced word shift count value % 2 ^ shift ≡ word % 2 ^ shift
  middle : replaced word shift count value / 2 ^ shift % 2 ^ count ≡ field value 0 count
  high : replaced word shift count value / 2 ^ (shift + count) ≡ word / 2 ^ (shift + count)

parts : (word shift count value : ℕ) → Parts word shift count value
parts w s c value =
    let q = w / 2 ^ s in
    let v = field value 0 c in
    let a = q / 2 ^ c in
    let f = q % 2 ^ c in
    let l = w % 2 ^ s in
    let small : v < 2 ^ c = mod_below (value / 2 ^ 0) (2 ^ c) (pow_pos c) in
    let rest : l < 2 ^ s = mod_below w (2 ^ s) (pow_pos s) in
    let was : w ≡ a * 2 ^ c * 2 ^ s + f * 2 ^ s + l =
    omega (arith, shr_split w s, ap (λ x. x * 2 ^ s) (shr_split q c), add-mul (a * 2 ^ c) f (2 ^ s)) in
    let is : replaced w s c value ≡ (a * 2 ^ c + v) * 2 ^ s + l = omega (arith, add-mul (a * 2 ^ c) v (2 ^ s)) in
    let above : replaced w s c value / 2 ^ s ≡ a * 2 ^ c + v = rw is (shr_high (a * 2 ^ c + v) s l rest) in
    record {
      low = ap (λ x. x % 2 ^ s) is ∙ mod_low (a * 2 ^ c + v) s l rest;
      middle = ap (λ x. x % 2 ^ c) above ∙ mod_low a c v small;
      high = sym (shr-shr (replaced w s c value) s c) ∙ ap (λ x. x / 2 ^ c) above ∙ shr_high a c v small ∙ shr-shr w s c;
    }

-- a field below a place, one from a place on, and one between two places
field_below : (w v physical low count : ℕ) → w % 2 ^ physical ≡ v % 2 ^ physical → low + count ≤ physical → field w low count ≡ field v low count
field_below w v physical low count e l =
    let less = physical - (count + low) in
    let whole : less + (count + low) ≡ physical = omega arith in
    let front : (n : ℕ) → n % 2 ^ physical % 2 ^ (count + low) ≡ n % 2 ^ (count + low) =
    λ n. subst (λ p. n % 2 ^ p % 2 ^ (count + low) ≡ n % 2 ^ (count + low)) whole (mod-mod-pow n less (count + low)) in
    let same : w % 2 ^ (count + low) ≡ v % 2 ^ (count + low) = sym (front w) ∙ ap (λ n. n % 2 ^ (count + low)) e ∙ front v in
    sym (field_of w count low) ∙ ap (λ n. n / 2 ^ low) same ∙ field_of v count low

shifted : (w physical low : ℕ) → physical ≤ low → w / 2 ^ physical / 2 ^ (low - physical) ≡ w / 2 ^ low
shifted w physical low l = let whole : physical + (low - physical) ≡ low = omega arith in shr-shr w physical (low - physical) ∙ ap (λ p. w / 2 ^ p) whole

field_above : (w v physical low count : ℕ) → w / 2 ^ physical ≡ v / 2 ^ physical → physical ≤ low → field w low count ≡ field v low count
field_above w v physical low count e l =
    ap (λ n. n % 2 ^ count) (sym (shifted w physical low l) ∙ ap (λ n. n / 2 ^ (low - physical)) e ∙ shifted v physical low l)

field_between : (w v physical size low count : ℕ) → w / 2 ^ physical % 2 ^ size ≡ v % 2 ^ size → physical ≤ low → low + count ≤ physical + size →
    field w low count ≡ field v (low - physical) count
field_between w v physical size low count e l m =
    ap (λ n. n % 2 ^ count) (sym (shifted w physical low l)) ∙ field_below (w / 2 ^ physical) v size (low - physical) count e (omega arith)

-- a word with `count` bytes from byte `at` on replaced
module _ (word value at count : ℕ) where
  abbrev put_in : ℕ
  put_in = replaced word (8 * at) (8 * count) value

  there : (k : ℕ) → at ≤ k → k < at + count → byte_of put_in k ≡ byte_of value (k - at)
  there k l m =
      let p = parts word (8 * at) (8 * count) value in
      let middle : put_in / 2 ^ (8 * at) % 2 ^ (8 * count) ≡ value % 2 ^ (8 * count) = p.middle ∙ ap (λ n. n % 2 ^ (8 * count)) (div-one value) in
      let physical : 8 * k - 8 * at ≡ 8 * (k - at) = omega arith in
      field_between put_in value (8 * at) (8 * count) (8 * k) 8 middle (omega arith) (omega arith) ∙ ap (λ low. field value low 8) physical

  below : (k : ℕ) → k < at → byte_of put_in k ≡ byte_of word k
  below k l = field_below put_in word (8 * at) (8 * k) 8 (parts word (8 * at) (8 * count) value).low (omega arith)

  above : (k : ℕ) → at + count ≤ k → byte_of put_in k ≡ byte_of word k
  above k l = field_above put_in word (8 * at + 8 * count) (8 * k) 8 (parts word (8 * at) (8 * count) value).high (omega arith)

  fits : at + count ≤ 4 → word < 2 ^ 32 → put_in < 2 ^ 32
  fits room w = (replaces word (8 * at) (8 * count) (field value 0 (8 * count)) w (omega arith) (mod_below (value / 2 ^ 0) (2 ^ (8 * count)) (pow_pos (8 * count)))).below

pub stores_bytes : StoresBytes
stores_bytes StoreWidth.Byte address word value aligned =
    let at = address % 4 in
    record {
      there = there word value at 1;
      below = below word value at 1;
      above = λ k l _. above word value at 1 k l;
      fits = λ w _. fits word value at 1 (omega arith) w;
    }
stores_bytes StoreWidth.Half address word value aligned =
    let at = address % 4 in
    let physical : 8 * at ≡ 16 * (address / 2 % 2) = omega arith in
    let moved : replaced word (8 * at) 16 value ≡ stored StoreWidth.Half word address value = ap (λ shift. replaced word shift 16 value) physical in
    let same : (k : ℕ) → byte_of (stored StoreWidth.Half word address value) k ≡ byte_of (replaced word (8 * at) 16 value) k = λ k. ap (λ n. byte_of n k) (sym moved) in
    record {
      there = λ k l m. same k ∙ there word value at 2 k l m;
      below = λ k l. same k ∙ below word value at 2 k l;
      above = λ k l _. same k ∙ above word value at 2 k l;
      fits = λ w _. subst (λ n. n < 2 ^ 32) moved (fits word value at 2 (omega arith) w);
    }
stores_bytes StoreWidth.Word address word value aligned = record {
  there = λ k l m. (let physical : k ≡ k - address % 4 = omega arith in ap (byte_of value) physical);
  below = λ k l. absurd (omega arith);
  above = λ k l m. absurd (omega arith);
  fits = λ _ v. v;
}

-- two fields side by side
next_to : (w k : ℕ) → field w (8 * k) 16 ≡ two_bytes w k
next_to w k = let physical : 8 * k + 8 ≡ 8 * (k + 1) = omega arith in fields_join w (8 * k) 8 8 ∙ ap (λ low. byte_of w k + 2 ^ 8 * field w low 8) physical

all_four : (w k : ℕ) → field w (8 * k) 32 ≡ four_bytes w k
all_four w k =
    let physical : 8 * k + 16 ≡ 8 * (k + 2) = omega arith in
    fields_join w (8 * k) 16 16 ∙ ap (λ low. field w (8 * k) 16 + 2 ^ 16 * field w low 16) physical ∙
    ap (λ n. n + 2 ^ 16 * field w (8 * (k + 2)) 16) (next_to w k) ∙ ap (λ n. two_bytes w k + 2 ^ 16 * n) (next_to w (k + 2))

signed_8 : (n : ℕ) → signed 32 (remainder 32 (signed 8 n)) ≡ signed 8 n
signed_8 n = let s = signs 8 n (omega arith) in signed_of_bits 32 (signed 8 n) (omega arith) (omega (arith, ints, s.least), omega (arith, ints, s.most))

signed_16 : (n : ℕ) → signed 32 (remainder 32 (signed 16 n)) ≡ signed 16 n
signed_16 n = let s = signs 16 n (omega arith) in signed_of_bits 32 (signed 16 n) (omega arith) (omega (arith, ints, s.least), omega (arith, ints, s.most))

load_fits : (width : LoadWidth) (address word : ℕ) → loaded width word address < 2 ^ 32
load_fits Byte address word = bits_below 32 (signed 8 (field word (8 * (address % 4)) 8))
load_fits Half address word = bits_below 32 (signed 16 (field word (8 * (address % 4)) 16))
load_fits Word address word = mod_below (word / 2 ^ (8 * (address % 4))) (2 ^ 32) (omega arith)
load_fits ByteUnsigned address word = let b = mod_below (word / 2 ^ (8 * (address % 4))) (2 ^ 8) (omega arith) in omega arith
load_fits HalfUnsigned address word = let b = mod_below (word / 2 ^ (8 * (address % 4))) (2 ^ 16) (omega arith) in omega arith

pub loads_bytes : LoadsBytes
loads_bytes address word =
    let at = address % 4 in
    record {
      byte = refl;
      half = next_to word at;
      whole = all_four word at;
      signed_byte = signed_8 (byte_of word at);
      signed_half = signed_16 (field word (8 * at) 16) ∙ ap (signed 16) (next_to word at);
      fits = λ width. load_fits width address word;
    }
