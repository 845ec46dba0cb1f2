-- Parts with places of their own: an OR of them is their sum.
use Rattle.std.proofs.Common.{◌≡◌, ℕ, ◌+◌, ◌*◌, ◌/◌, ◌%◌, ◌^◌, ◌<◌, bit_or, sym, refl, ◌∙◌, ap, arith}
use Rattle.std.proofs.Math.Nat.{div-add-mod'}
use Rattle.std.specs.Prelude.{pos, neg_ℤ}
use Rattle.std.proofs.lemmas.Nat.{mod_below, or_block, or_comm, or_shifted}
use Rattle.std.specs.Int.Bits.{or_zero_l, or_zero_r}
use Rattle.words.specs.Bits.{field}
use Rattle.rv32ui.specs.Words.{branch_format, jal_format, offset_bits, operand_format, placed, store_format, upper_format}
use Rattle.rv32ui.specs.Laws.{BranchWords, ConstantWords, Example, JalWords, RegisterWords, StoreWords, UpperWords}

-- a part that goes to the bits from j to k of a word, which are 0 there
module _ (word part j k : ℕ) (free : word % 2 ^ k < 2 ^ j) (fits : part * 2 ^ j < 2 ^ k) where
  below : bit_or (word % 2 ^ k) (part * 2 ^ j) ≡ part * 2 ^ j + word % 2 ^ k
  below = or_comm (word % 2 ^ k) (part * 2 ^ j) ∙ or_shifted part j (word % 2 ^ k) free

  added : bit_or word (part * 2 ^ j) ≡ word + part * 2 ^ j
  added =
      let whole : word / 2 ^ k * 2 ^ k + word % 2 ^ k ≡ word = div-add-mod' word (2 ^ k) in
      let alone : 0 * 2 ^ k + part * 2 ^ j ≡ part * 2 ^ j = omega arith in
      let inside : word % 2 ^ k < 2 ^ k = mod_below word (2 ^ k) (omega (arith, fits)) in
      ap (λ w. bit_or w (part * 2 ^ j)) (sym whole)
      ∙ ap (bit_or (word / 2 ^ k * 2 ^ k + word % 2 ^ k)) (sym alone)
      ∙ or_block k (word / 2 ^ k) 0 (word % 2 ^ k) (part * 2 ^ j) inside fits
      ∙ rw (or_zero_r (word / 2 ^ k), below) (omega (arith, whole))

  put : part * 2 ^ j < 2 ^ 32 → bit_or word (placed part j) ≡ word + part * 2 ^ j
  put h = ap (bit_or word) (let small : placed part j ≡ part * 2 ^ j = omega (arith, h) in small) ∙ added

pub register_words : RegisterWords
register_words fixed t f s hf ht hs a b c =
    let e1 = put fixed t 7 12 (omega arith) (omega arith) (omega arith) in
    let e2 = put (fixed + t * 2 ^ 7) f 15 20 (omega arith) (omega arith) (omega arith) in
    let e3 = put (fixed + t * 2 ^ 7 + f * 2 ^ 15) s 20 25 (omega arith) (omega arith) (omega arith) in
    let e : operand_format fixed t f s ≡ fixed + t * 2 ^ 7 + f * 2 ^ 15 + s * 2 ^ 20 =
    ap (λ w. bit_or (bit_or w (placed f 15)) (placed s 20)) e1 ∙ ap (λ w. bit_or w (placed s 20)) e2 ∙ e3 in
    record {
      kept = record { opcode = omega (arith, e); funct3 = omega (arith, e) };
      funct7 = omega (arith, e);
      in_target = omega (arith, e);
      in_first = omega (arith, e);
      in_second = omega (arith, e);
    }

-- the word of a constant
constant_is : (fixed t s v : ℕ) → fixed < 2 ^ 15 → field fixed 7 5 ≡ 0 → t < 32 → s < 32 → v < 2 ^ 12 →
    operand_format fixed t s v ≡ fixed + t * 2 ^ 7 + s * 2 ^ 15 + v * 2 ^ 20
constant_is fixed t s v hf ht a b c =
    let e1 = put fixed t 7 12 (omega arith) (omega arith) (omega arith) in
    let e2 = put (fixed + t * 2 ^ 7) s 15 20 (omega arith) (omega arith) (omega arith) in
    let e3 = put (fixed + t * 2 ^ 7 + s * 2 ^ 15) v 20 32 (omega arith) (omega arith) (omega arith) in
    ap (λ w. bit_or (bit_or w (placed s 15)) (placed v 20)) e1 ∙ ap (λ w. bit_or w (placed v 20)) e2 ∙ e3

pub constant_words : ConstantWords
constant_words fixed t s v hf ht a b c =
    let e = constant_is fixed t s v hf ht a b c in record {
      kept = record { opcode = omega (arith, e); funct3 = omega (arith, e) };
      in_target = omega (arith, e);
      in_source = omega (arith, e);
      in_value = omega (arith, e);
    }

pub upper_words : UpperWords
upper_words fixed t v hf a b =
    let e1 = put fixed t 7 12 (omega arith) (omega arith) (omega arith) in
    let e2 = put (fixed + t * 2 ^ 7) v 12 32 (omega arith) (omega arith) (omega arith) in
    let e : upper_format fixed t v ≡ fixed + t * 2 ^ 7 + v * 2 ^ 12 = ap (λ w. bit_or w (placed v 12)) e1 ∙ e2 in
    record { opcode = omega (arith, e); in_target = omega (arith, e); in_value = omega (arith, e) }

pub branch_words : BranchWords
branch_words fixed f s hf hb a b =
    let e1 = put fixed 8 8 12 (omega arith) (omega arith) (omega arith) in
    let e2 = put (fixed + 8 * 2 ^ 8) f 15 20 (omega arith) (omega arith) (omega arith) in
    let e3 = put (fixed + 8 * 2 ^ 8 + f * 2 ^ 15) s 20 25 (omega arith) (omega arith) (omega arith) in
    let e : branch_format fixed f s ≡ fixed + 8 * 2 ^ 8 + f * 2 ^ 15 + s * 2 ^ 20 =
    ap (λ w. bit_or (bit_or w (placed f 15)) (placed s 20)) e1 ∙ ap (λ w. bit_or w (placed s 20)) e2 ∙ e3 in
    record {
      kept = record { opcode = omega (arith, e); funct3 = omega (arith, e) };
      in_first = omega (arith, e);
      in_second = omega (arith, e);
      in_offset = omega (arith, e);
    }

pub store_words : StoreWords
store_words fixed b s offset hf ht hb hs =
    let o = offset_bits offset in
    let low = o % 2 ^ 5 in
    let high = o / 2 ^ 5 % 2 ^ 7 in
    let e1 = put fixed low 7 12 (omega arith) (omega arith) (omega arith) in
    let e2 = put (fixed + low * 2 ^ 7) b 15 20 (omega arith) (omega arith) (omega arith) in
    let e3 = put (fixed + low * 2 ^ 7 + b * 2 ^ 15) s 20 25 (omega arith) (omega arith) (omega arith) in
    let e4 = put (fixed + low * 2 ^ 7 + b * 2 ^ 15 + s * 2 ^ 20) high 25 32 (omega arith) (omega arith) (omega arith) in
    let e : store_format fixed b s offset ≡ fixed + low * 2 ^ 7 + b * 2 ^ 15 + s * 2 ^ 20 + high * 2 ^ 25 =
    ap (λ w. bit_or (bit_or (bit_or w (placed b 15)) (placed s 20)) (placed high 25)) e1
    ∙ ap (λ w. bit_or (bit_or w (placed s 20)) (placed high 25)) e2
    ∙ ap (λ w. bit_or w (placed high 25)) e3 ∙ e4 in
    record {
      kept = record { opcode = omega (arith, e); funct3 = omega (arith, e) };
      in_base = omega (arith, e);
      in_source = omega (arith, e);
      in_offset = omega (arith, e);
    }

pub jal_words : JalWords
jal_words t offset ht even =
    let o = offset_bits offset in
    let a = o / 2 % 2 ^ 10 in
    let b = o / 2 ^ 11 % 2 in
    let c = o / 2 ^ 12 % 2 ^ 8 in
    let d = o / 2 ^ 20 % 2 in
    let w = 0x6f + t * 2 ^ 7 + (a * 2 + b) * 2 ^ 20 in
    let in_target = put 0x6f t 7 12 (omega arith) (omega arith) (omega arith) in
    let alone_a : placed a 21 ≡ a * 2 ^ 21 = omega arith in
    let alone_c : placed c 12 ≡ c * 2 ^ 12 = omega arith in
    let alone_d : placed d 31 ≡ d * 2 ^ 31 = omega arith in
    let a_and_b : bit_or (placed a 21) (placed b 20) ≡ (a * 2 + b) * 2 ^ 20 =
    ap (λ n. bit_or n (placed b 20)) alone_a ∙ put (a * 2 ^ 21) b 20 21 (omega arith) (omega arith) (omega arith) ∙ omega arith in
    let c_and_d : bit_or (placed c 12) (placed d 31) ≡ d * 2 ^ 31 + c * 2 ^ 12 =
    rw (alone_c, alone_d) (or_comm (c * 2 ^ 12) (d * 2 ^ 31) ∙ or_shifted d 31 (c * 2 ^ 12) (omega arith)) in
    let with_ab = added (0x6f + t * 2 ^ 7) (a * 2 + b) 20 31 (omega arith) (omega arith) in
    let with_c = added w c 12 20 (omega arith) (omega arith) in
    let with_cd : bit_or w (d * 2 ^ 31 + c * 2 ^ 12) ≡ d * 2 ^ 31 + (w + c * 2 ^ 12) =
    (let low : 0 * 2 ^ 31 + w ≡ w = omega arith in ap (λ n. bit_or n (d * 2 ^ 31 + c * 2 ^ 12)) (sym low))
    ∙ or_block 31 0 d w (c * 2 ^ 12) (omega arith) (omega arith) ∙ rw (or_zero_l d, with_c) refl in
    let e : jal_format t offset ≡ d * 2 ^ 31 + (w + c * 2 ^ 12) =
    ap (λ n. bit_or (bit_or n (bit_or (placed a 21) (placed b 20))) (bit_or (placed c 12) (placed d 31))) in_target
    ∙ ap (λ n. bit_or (bit_or (0x6f + t * 2 ^ 7) n) (bit_or (placed c 12) (placed d 31))) a_and_b
    ∙ ap (λ n. bit_or n (bit_or (placed c 12) (placed d 31))) with_ab
    ∙ ap (bit_or w) c_and_d ∙ with_cd in
    record { opcode = omega (arith, e); in_target = omega (arith, e); in_offset = omega (arith, e) }

pub example : Example
example = record {
  add = register_words 0x33 14 1 2 (omega arith) refl refl (omega arith) (omega arith) (omega arith);
  add_word = refl;
  srai = register_words 0x40005013 2 2 20 (omega arith) refl refl (omega arith) (omega arith) (omega arith);
  srai_word = refl;
  addi = constant_words 0x13 5 5 4 (omega arith) refl (omega arith) (omega arith) (omega arith);
  addi_word = refl;
  lb = constant_words 0x3 14 2 0xffd (omega arith) refl (omega arith) (omega arith) (omega arith);
  lb_word = refl;
  jalr = constant_words 0x67 0 4 20 (omega arith) refl (omega arith) (omega arith) (omega arith);
  jalr_word = refl;
  lui = upper_words 0x37 2 17 (omega arith) (omega arith) (omega arith);
  lui_word = refl;
  beq = branch_words 0x63 1 2 (omega arith) refl (omega arith) (omega arith);
  beq_word = refl;
  sh = store_words 0x1023 2 1 (neg_ℤ (pos 32)) (omega arith) refl (omega arith) (omega arith);
  sh_word = refl;
  jal = jal_words 1 (pos 2048) (omega arith) refl;
  jal_word = refl;
}
