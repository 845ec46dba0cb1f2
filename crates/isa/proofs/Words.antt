-- A word is made of its fields, and the fields of a made word are those that it was made of.
use Rattle.std.proofs.Common.{◌≡◌, ℕ, ◌+◌, ◌*◌, ◌/◌, ◌%◌, ◌^◌, ◌<◌, ◌∙◌, arith}
use Rattle.words.specs.Bits.{field}
use Rattle.words.proofs.Signs.{fields_join}
use Rattle.isa.specs.Formats.{opcode, rd, funct3, rs1, rs2, funct7, i_bits, s_bits, b_bits, u_bits, j_bits, r_format, i_format, s_format, b_format, u_format, j_format}

-- the parts of a branch's and of a jump's immediate
b_parts : (a b c d n : ℕ) → a < 2 → b < 2 → c < 64 → d < 16 → n ≡ a * 2 ^ 12 + b * 2 ^ 11 + c * 2 ^ 5 + d * 2 →
    (field n 12 1 ≡ a) × (field n 11 1 ≡ b) × (field n 5 6 ≡ c) × (field n 1 4 ≡ d)
b_parts a b c d n ha hb hc hd e = (omega arith, omega arith, omega arith, omega arith)

j_parts : (a b c d n : ℕ) → a < 2 → b < 256 → c < 2 → d < 1024 → n ≡ a * 2 ^ 20 + b * 2 ^ 12 + c * 2 ^ 11 + d * 2 →
    (field n 20 1 ≡ a) × (field n 12 8 ≡ b) × (field n 11 1 ≡ c) × (field n 1 10 ≡ d)
j_parts a b c d n ha hb hc hd e = (omega arith, omega arith, omega arith, omega arith)

s_parts : (a b n : ℕ) → a < 128 → b < 32 → n ≡ a * 2 ^ 5 + b → (field n 5 7 ≡ a) × (field n 0 5 ≡ b)
s_parts a b n ha hb e = (omega arith, omega arith)

b_whole : (n : ℕ) → n < 2 ^ 13 → n % 2 ≡ 0 → field n 12 1 * 2 ^ 12 + field n 11 1 * 2 ^ 11 + field n 5 6 * 2 ^ 5 + field n 1 4 * 2 ≡ n
b_whole n h even = omega (arith, fields_join n 0 1 12, fields_join n 1 4 8, fields_join n 5 6 2, fields_join n 11 1 1)

j_whole : (n : ℕ) → n < 2 ^ 21 → n % 2 ≡ 0 → field n 20 1 * 2 ^ 20 + field n 12 8 * 2 ^ 12 + field n 11 1 * 2 ^ 11 + field n 1 10 * 2 ≡ n
j_whole n h even = omega (arith, fields_join n 0 1 20, fields_join n 1 10 10, fields_join n 11 1 9, fields_join n 12 8 1)

module _ (w : ℕ) (h : w < 2 ^ 32) where
  pub r_word : r_format (funct7 w) (rs2 w).index (rs1 w).index (funct3 w) (rd w).index (opcode w) ≡ w
  r_word = omega arith

  pub i_word : i_format (i_bits w) (rs1 w).index (funct3 w) (rd w).index (opcode w) ≡ w
  i_word = omega (arith, r_word, fields_join w 20 5 7)

  pub s_word : s_format (s_bits w) (rs2 w).index (rs1 w).index (funct3 w) (opcode w) ≡ w
  s_word =
      let p = s_parts (field w 25 7) (field w 7 5) (s_bits w) (omega arith) (omega arith) (omega arith) in
      simp (p.0, p.1) r_word

  pub u_word : u_format (u_bits w) (rd w).index (opcode w) ≡ w
  u_word = omega arith

  pub b_word : b_format (b_bits w) (rs2 w).index (rs1 w).index (funct3 w) (opcode w) ≡ w
  b_word =
      let p = b_parts (field w 31 1) (field w 7 1) (field w 25 6) (field w 8 4) (b_bits w) (omega arith) (omega arith) (omega arith) (omega arith) (omega arith) in
      simp (p.0, p.1, p.2, p.3) (omega (arith, r_word, fields_join w 25 6 1, fields_join w 7 1 4))

  pub j_word : j_format (j_bits w) (rd w).index (opcode w) ≡ w
  j_word =
      let p = j_parts (field w 31 1) (field w 12 8) (field w 20 1) (field w 21 10) (j_bits w) (omega arith) (omega arith) (omega arith) (omega arith) (omega arith) in
      simp (p.0, p.1, p.2, p.3) (omega (arith, i_word, fields_join w 12 3 5, fields_join w 20 1 11, fields_join w 21 10 1))

-- the fields of a made word
pub record Made (w f7 s2 s1 f3 d op : ℕ) : Type 0 where
  pub word : w < 2 ^ 32
  pub in_funct7 : funct7 w ≡ f7
  pub in_rs2 : (rs2 w).index ≡ s2
  pub in_rs1 : (rs1 w).index ≡ s1
  pub in_funct3 : funct3 w ≡ f3
  pub in_rd : (rd w).index ≡ d
  pub in_opcode : opcode w ≡ op

pub r_made : (w f7 s2 s1 f3 d op : ℕ) → f7 < 128 → s2 < 32 → s1 < 32 → f3 < 8 → d < 32 → op < 128 → r_format f7 s2 s1 f3 d op ≡ w → Made w f7 s2 s1 f3 d op
r_made w f7 s2 s1 f3 d op h7 h2 h1 h3 hd ho e = record {
  word = omega arith;
  in_funct7 = omega arith;
  in_rs2 = omega arith;
  in_rs1 = omega arith;
  in_funct3 = omega arith;
  in_rd = omega arith;
  in_opcode = omega arith;
}

b_cells : (w a b c d : ℕ) → b < 2 → c < 64 → funct7 w ≡ a * 64 + c → (rd w).index ≡ d * 2 + b →
    b_bits w ≡ a * 2 ^ 12 + b * 2 ^ 11 + c * 2 ^ 5 + d * 2
b_cells w a b c d hb hc e f = omega (arith, fields_join w 25 6 1, fields_join w 7 1 4)

j_cells : (w a b c k d op : ℕ) → a < 2 → b < 256 → c < 2 → k < 1024 → d < 32 → op < 128 →
    a * 2 ^ 31 + k * 2 ^ 21 + c * 2 ^ 20 + b * 2 ^ 12 + d * 2 ^ 7 + op ≡ w →
    (w < 2 ^ 32) × (opcode w ≡ op) × ((rd w).index ≡ d) × (j_bits w ≡ a * 2 ^ 20 + b * 2 ^ 12 + c * 2 ^ 11 + k * 2)
j_cells w a b c k d op ha hb hc hk hd ho e =
    let a_is : field w 31 1 ≡ a = omega arith in
    let b_is : field w 12 8 ≡ b = omega arith in
    let c_is : field w 20 1 ≡ c = omega arith in
    let k_is : field w 21 10 ≡ k = omega arith in
    (omega arith, omega arith, omega arith, simp (a_is, b_is, c_is, k_is) (omega arith))

module _ (w n f3 op : ℕ) (h3 : f3 < 8) (ho : op < 128) where
  pub i_made : (s1 d : ℕ) → s1 < 32 → d < 32 → n < 2 ^ 12 → i_format n s1 f3 d op ≡ w → Made w (n / 32) (n % 32) s1 f3 d op × (i_bits w ≡ n)
  i_made s1 d h1 hd hn e =
      let m = r_made w (n / 32) (n % 32) s1 f3 d op (omega arith) (omega arith) h1 h3 hd ho (omega arith) in
      (m, omega (arith, fields_join w 20 5 7, m.in_funct7, m.in_rs2))

  pub s_made : (s2 s1 : ℕ) → s2 < 32 → s1 < 32 → n < 2 ^ 12 → s_format n s2 s1 f3 op ≡ w → Made w (field n 5 7) s2 s1 f3 (field n 0 5) op × (s_bits w ≡ n)
  s_made s2 s1 h2 h1 hn e =
      let m = r_made w (field n 5 7) s2 s1 f3 (field n 0 5) op (omega arith) h2 h1 h3 (omega arith) ho e in
      (m, omega (arith, m.in_funct7, m.in_rd))

  pub b_made : (s2 s1 : ℕ) → s2 < 32 → s1 < 32 → n < 2 ^ 13 → n % 2 ≡ 0 → b_format n s2 s1 f3 op ≡ w →
      Made w (field n 12 1 * 64 + field n 5 6) s2 s1 f3 (field n 1 4 * 2 + field n 11 1) op × (b_bits w ≡ n)
  b_made s2 s1 h2 h1 hn even e =
      let m = r_made w (field n 12 1 * 64 + field n 5 6) s2 s1 f3 (field n 1 4 * 2 + field n 11 1) op (omega arith) h2 h1 h3 (omega arith) ho (omega arith) in
      (m, b_cells w (field n 12 1) (field n 11 1) (field n 5 6) (field n 1 4) (omega arith) (omega arith) m.in_funct7 m.in_rd ∙ b_whole n hn even)

module _ (w n d op : ℕ) (hd : d < 32) (ho : op < 128) where
  pub u_made : n < 2 ^ 32 → n % 2 ^ 12 ≡ 0 → u_format n d op ≡ w → (w < 2 ^ 32) × (opcode w ≡ op) × ((rd w).index ≡ d) × (u_bits w ≡ n)
  u_made hn zeros e = (omega arith, omega arith, omega arith, omega arith)

  pub j_made : n < 2 ^ 21 → n % 2 ≡ 0 → j_format n d op ≡ w → (w < 2 ^ 32) × (opcode w ≡ op) × ((rd w).index ≡ d) × (j_bits w ≡ n)
  j_made hn even e =
      let m = j_cells w (field n 20 1) (field n 12 8) (field n 11 1) (field n 1 10) d op (omega arith) (omega arith) (omega arith) (omega arith) hd ho (omega arith) in
      (m.0, m.1, m.2, m.3 ∙ j_whole n hn even)
