-- Only the word of a lawful instruction decodes to it.
use Rattle.std.proofs.Common.{rules, ◌≡◌, ℕ, ◌+◌, ◌*◌, ◌%◌, ◌^◌, ◌<◌, Bool, true, cond, ◌&&◌, eqb, List, pos, Some, None, Option, sym, ap, ◌∙◌, inl, inr, arith}
use Rattle.std.proofs.lemmas.Int.{ints}
use Rattle.std.proofs.lemmas.Bool.{eqb-true, and_parts}
use Rattle.std.specs.Option.{option_and_then}
use Rattle.words.specs.Bits.{field, signed}
use Rattle.ranges.proofs.Questions.{or_some}
use Rattle.words.proofs.Signs.{signs}
use Rattle.isa.specs.declared.instruction.Operation.{Operation}
use Rattle.isa.specs.declared.instruction.Condition.{Condition}
use Rattle.isa.specs.declared.instruction.LoadWidth.{LoadWidth}
use Rattle.isa.specs.declared.instruction.StoreWidth.{StoreWidth}
use Rattle.isa.specs.declared.instruction.Csr.{Csr}
use Rattle.isa.specs.declared.instruction.Instruction.{Instruction}
use Rattle.isa.specs.declared.instruction.Instruction.TheVariants.{Lui, Auipc, Jal, Jalr, Branch, Load, Store, RegisterImmediate, RegisterRegister, ReadCsr}
use Rattle.isa.specs.Formats.{opcode, rd, funct3, rs1, rs2, funct7, i_bits, s_bits, b_bits, u_bits, j_bits, i_immediate, s_immediate, b_immediate, u_immediate, j_immediate}
use Rattle.isa.specs.Integers.{remainder}
use Rattle.isa.specs.Tables.{numbered, Listed}
use Rattle.isa.specs.Operations.{operation_number, operations, funct3_of, funct7_of, constants, shifts}
use Rattle.isa.specs.Conditions.{condition_number, conditions}
use Rattle.isa.specs.Loads.{load_number, loads}
use Rattle.isa.specs.Stores.{store_number, stores}
use Rattle.isa.specs.Csrs.{csr_number, csrs}
use Rattle.isa.specs.Decoding.{Major, opcode_of, majors, constant, shift, in_major, decoded}
use Rattle.isa.specs.Encoding.{encoding, Within, Encodable}
use Rattle.isa.proofs.Complement.{bits_of_signed, low_bits}
use Rattle.isa.proofs.Rows.{and_some, found, plain, operation_listed}
use Rattle.isa.proofs.Words.{r_word, i_word, s_word, b_word, u_word, j_word}

-- the word of a lawful instruction
abbrev pub Of : ℕ → Instruction → Type 0
Of w i = (encoding i ≡ w) × Encodable i

within : (k n : ℕ) → 0 < k → Within k (signed k n)
within k n some = let s = signs k n some in (s.least, s.most)

j_fits : (w : ℕ) → j_bits w < 2 ^ 21
j_fits w = omega arith

j_even : (w : ℕ) → j_bits w % 2 ≡ 0
j_even w = omega arith

b_fits : (w : ℕ) → b_bits w < 2 ^ 13
b_fits w = omega arith

b_even : (w : ℕ) → b_bits w % 2 ≡ 0
b_even w = omega arith

module _ (w : ℕ) (h : w < 2 ^ 32) where
  upper : remainder 32 (u_immediate w) ≡ u_bits w
  upper = bits_of_signed 32 (u_bits w) (omega arith) (omega arith)

  twelve : remainder 12 (i_immediate w) ≡ i_bits w
  twelve = bits_of_signed 12 (i_bits w) (omega arith) (omega arith)

  lawful_upper : Within 32 (u_immediate w) × (remainder 12 (u_immediate w) ≡ 0)
  lawful_upper = (within 32 (u_bits w) (omega arith), low_bits 20 12 (u_bits w) (omega arith) (omega arith) ∙ omega arith)

  lui_of : opcode w ≡ opcode_of Major.LUI → Of w (Lui (rd w) (u_immediate w))
  lui_of o = let l = upper in let b = u_word w h in (cc, lawful_upper)

  auipc_of : opcode w ≡ opcode_of Major.AUIPC → Of w (Auipc (rd w) (u_immediate w))
  auipc_of o = let l = upper in let b = u_word w h in (cc, lawful_upper)

  jal_of : opcode w ≡ opcode_of Major.JAL → Of w (Jal (rd w) (j_immediate w))
  jal_of o =
      let l = bits_of_signed 21 (j_bits w) (omega arith) (j_fits w) in
      let b = j_word w h in
      (cc, (within 21 (j_bits w) (omega arith), low_bits 20 1 (j_bits w) (omega arith) (j_fits w) ∙ j_even w))

  jalr_of : opcode w ≡ opcode_of Major.JALR → funct3 w ≡ 0 → Of w (Jalr (rd w) (rs1 w) (i_immediate w))
  jalr_of o f = let l = twelve in let b = i_word w h in (cc, within 12 (i_bits w) (omega arith))

  branch_of : (c : Condition) → opcode w ≡ opcode_of Major.BRANCH → funct3 w ≡ condition_number c → Of w (Branch c (rs1 w) (rs2 w) (b_immediate w))
  branch_of c o f =
      let l = bits_of_signed 13 (b_bits w) (omega arith) (b_fits w) in
      let b = b_word w h in
      (cc, (within 13 (b_bits w) (omega arith), low_bits 12 1 (b_bits w) (omega arith) (b_fits w) ∙ b_even w))

  load_of : (s : LoadWidth) → opcode w ≡ opcode_of Major.LOAD → funct3 w ≡ load_number s → Of w (Load s (rd w) (rs1 w) (i_immediate w))
  load_of s o f = let l = twelve in let b = i_word w h in (cc, within 12 (i_bits w) (omega arith))

  store_of : (s : StoreWidth) → opcode w ≡ opcode_of Major.STORE → funct3 w ≡ store_number s → Of w (Store s (rs1 w) (rs2 w) (s_immediate w))
  store_of s o f =
      let l = bits_of_signed 12 (s_bits w) (omega arith) (omega arith) in
      let b = s_word w h in
      (cc, within 12 (s_bits w) (omega arith))

  -- funct7 and funct3 in one number tell both
  both : (o : Operation) → funct7 w * 8 + funct3 w ≡ operation_number o → (funct7 w ≡ funct7_of o) × (funct3 w ≡ funct3_of o)
  both o e = let small = (operation_listed o).1 in (omega arith, omega arith)

  constant_of : (k : Operation) → opcode w ≡ opcode_of Major.OPIMM → funct3 w ≡ funct3_of k → Listed funct3_of constants k →
      Of w (RegisterImmediate k (rd w) (rs1 w) (i_immediate w))
  constant_of k o f listed =
      let z = plain k listed in
      let l = twelve in
      (omega (arith, i_word w h), inl (listed, within 12 (i_bits w) (omega arith)))

  shift_of : (k : Operation) → opcode w ≡ opcode_of Major.OPIMM → funct7 w * 8 + funct3 w ≡ operation_number k → Listed operation_number shifts k →
      Of w (RegisterImmediate k (rd w) (rs1 w) (pos (field w 20 5)))
  shift_of k o f listed =
      let g = both k f in
      (omega (arith, r_word w h, g.0, g.1), inr (listed, omega (arith, ints), omega (arith, ints)))

  register_of : (k : Operation) → opcode w ≡ opcode_of Major.OP → funct7 w * 8 + funct3 w ≡ operation_number k → Of w (RegisterRegister k (rd w) (rs1 w) (rs2 w))
  register_of k o e = let g = both k e in let b = r_word w h in (cc, tt)

  counter_of : (k : Csr) → opcode w ≡ opcode_of Major.SYSTEM → funct3 w ≡ 2 → (rs1 w).index ≡ 0 → i_bits w ≡ csr_number k → Of w (ReadCsr (rd w) k)
  counter_of k o f r e = let b = i_word w h in (cc, tt)

-- the row that a word was found in
module _ (w : ℕ) (i : Instruction) (h : w < 2 ^ 32) where
  is : {j : Instruction} → Of w j → Some j ≡ Some i → Of w i
  is o e = search rules

  by_row : {A : Type 0} (number : A → ℕ) (rows : List A) (n : ℕ) (make : A → Instruction) →
      ((a : A) → n ≡ number a → Listed number rows a → Of w (make a)) → option_and_then (λ a. Some (make a)) (numbered number rows n) ≡ Some i → Of w i
  by_row number rows n make each e =
      let r = and_some (numbered number rows n) (λ a. Some (make a)) i e in
      let f = found number rows n r.0 r.1 in
      is (each r.0 f (ap (numbered number rows) (sym f) ∙ r.1)) r.2

  by_test : (t : Bool) (o : Option Instruction) → (t ≡ true → o ≡ Some i → Of w i) → cond t o None ≡ Some i → Of w i
  by_test t o each e = search rules

  by_major : (m : Major) → opcode w ≡ opcode_of m → in_major w m ≡ Some i → Of w i
  by_major Major.LUI o = is (lui_of w h o)
  by_major Major.AUIPC o = is (auipc_of w h o)
  by_major Major.JAL o = is (jal_of w h o)
  by_major Major.JALR o = by_test (eqb (funct3 w) 0) _ (λ t. is (jalr_of w h o (eqb-true (funct3 w) 0 t)))
  by_major Major.BRANCH o = by_row condition_number conditions (funct3 w) (λ c. Branch c (rs1 w) (rs2 w) (b_immediate w)) (λ c f _. branch_of w h c o f)
  by_major Major.LOAD o = by_row load_number loads (funct3 w) (λ s. Load s (rd w) (rs1 w) (i_immediate w)) (λ s f _. load_of w h s o f)
  by_major Major.STORE o = by_row store_number stores (funct3 w) (λ s. Store s (rs1 w) (rs2 w) (s_immediate w)) (λ s f _. store_of w h s o f)
  by_major Major.OPIMM o = λ e. elim (or_some (constant w) (shift w) i e) [
    | inl c ↦ by_row funct3_of constants (funct3 w) (λ k. RegisterImmediate k (rd w) (rs1 w) (i_immediate w)) (λ k. constant_of w h k o) c
    | inr s ↦ by_row operation_number shifts (funct7 w * 8 + funct3 w) (λ k. RegisterImmediate k (rd w) (rs1 w) (pos (field w 20 5))) (λ k. shift_of w h k o) s.1
  ]
  by_major Major.OP o =
      by_row operation_number operations (funct7 w * 8 + funct3 w) (λ k. RegisterRegister k (rd w) (rs1 w) (rs2 w)) (λ k f _. register_of w h k o f)
  by_major Major.SYSTEM o = by_test (eqb (funct3 w) 2 && eqb (field w 15 5) 0) _ (λ t.
      let both = and_parts (eqb (funct3 w) 2) (eqb (field w 15 5) 0) t in
      by_row csr_number csrs (i_bits w) (ReadCsr (rd w))
      (λ k f _. counter_of w h k o (eqb-true (funct3 w) 2 both.0) (eqb-true (field w 15 5) 0 both.1) f))

  pub only : decoded w ≡ Some i → Of w i
  only e =
      let m = and_some (numbered opcode_of majors (opcode w)) (in_major w) i e in
      by_major m.0 (found opcode_of majors (opcode w) m.0 m.1) m.2
