-- The word of each lawful instruction decodes to it.
use Rattle.std.proofs.Common.{rules, ◌≡◌, ℕ, ◌+◌, ◌*◌, ◌/◌, ◌%◌, ◌^◌, ◌<◌, eqb, ℤ, pos, negsuc, Some, None, Option, refl, ap, ◌∙◌, inl, inr, arith}
use Rattle.std.proofs.lemmas.Int.{ints}
use Rattle.std.proofs.lemmas.Bool.{cond-true, eq-eqb, and_from}
use Rattle.std.specs.Option.{option_or}
use Rattle.words.specs.Bits.{field, signed}
use Rattle.isa.specs.declared.register.Register.{Register}
use Rattle.isa.specs.declared.instruction.Operation.{Operation}
use Rattle.isa.specs.declared.instruction.Instruction.{Instruction}
use Rattle.isa.specs.declared.instruction.Instruction.TheVariants.{Lui, Auipc, Jal, Jalr, Branch, Load, Store, RegisterImmediate, RegisterRegister, ReadCsr}
use Rattle.isa.specs.Registers.{register}
use Rattle.isa.specs.Formats.{opcode, rd, funct3, rs1, rs2, funct7, i_bits, u_immediate, u_format, i_format}
use Rattle.isa.specs.Integers.{remainder}
use Rattle.isa.specs.Tables.{Listed}
use Rattle.isa.specs.Operations.{operation_number, operations, funct3_of, funct7_of, constants, shifts}
use Rattle.isa.specs.Conditions.{condition_number, conditions}
use Rattle.isa.specs.Loads.{load_number, loads}
use Rattle.isa.specs.Stores.{store_number, stores}
use Rattle.isa.specs.Csrs.{csr_number, csrs}
use Rattle.isa.specs.Decoding.{Major, opcode_of, majors, constant, shift, in_major, decoded}
use Rattle.isa.specs.Encoding.{encoding, Within, Encodable}
use Rattle.isa.proofs.Complement.{bits_below, signed_of_bits, zeros}
use Rattle.isa.proofs.Rows.{finds, meets, plain, apart, Row, operation_listed}
use Rattle.isa.proofs.Same.{below, same_register}
use Rattle.isa.proofs.Words.{Made, r_made, i_made, s_made, b_made, u_made, j_made}

abbrev Back : ℕ → Instruction → Type 0
Back w i = (w < 2 ^ 32) × (decoded w ≡ Some i)

-- the major opcode is found
major : (w : ℕ) (m : Major) (o : Option Instruction) → opcode w ≡ opcode_of m → Listed opcode_of majors m → in_major w m ≡ o → decoded w ≡ o
major w m o e l s = meets opcode_of majors (in_major w) (opcode w) m e l ∙ s

upper_back : (w : ℕ) (rd' : Register) (z : ℤ) (op : ℕ) → op < 128 → Within 32 z → remainder 12 z ≡ 0 → u_format (remainder 32 z) rd'.index op ≡ w →
    (w < 2 ^ 32) × (opcode w ≡ op) × (rd w ≡ rd') × (u_immediate w ≡ z)
upper_back w rd' z op ho h e q =
    let m = u_made w (remainder 32 z) rd'.index op (below rd') ho (bits_below 32 z) (zeros 20 12 z (omega arith) h e) q in
    (m.0, m.1, same_register (rd w) rd' m.2, ap (signed 32) m.3 ∙ signed_of_bits 32 z (omega arith) h)

-- a word of format I
module _ (w n f3 op : ℕ) (s1 d : Register) (h3 : f3 < 8) (ho : op < 128) (hn : n < 2 ^ 12) (q : i_format n s1.index f3 d.index op ≡ w) where
  i_back : Made w (n / 32) (n % 32) s1.index f3 d.index op × (i_bits w ≡ n) × (rs1 w ≡ s1) × (rd w ≡ d)
  i_back =
      let m = i_made w n f3 op h3 ho s1.index d.index (below s1) (below d) hn q in
      (m.0, m.1, same_register (rs1 w) s1 m.0.in_rs1, same_register (rd w) d m.0.in_rd)

module _ (w : ℕ) (k : Operation) (d r : Register) (z : ℤ) where
  constant_back : Listed funct3_of constants k → Within 12 z → encoding (RegisterImmediate k d r z) ≡ w → Back w (RegisterImmediate k d r z)
  constant_back listed h q =
      let none = plain k listed in
      let m = i_back w (remainder 12 z) (funct3_of k) 0x13 r d (operation_listed k).1 (omega arith) (bits_below 12 z) (omega arith) in
      let s = ap (signed 12) m.1 ∙ signed_of_bits 12 z (omega arith) h in
      let c : constant w ≡ Some (RegisterImmediate k d r z) = meets funct3_of constants _ (funct3 w) k m.0.in_funct3 listed ∙ cc in
      (m.0.word, major w Major.OPIMM _ m.0.in_opcode refl (ap (λ o. option_or o (shift w)) c))

shift_back : (w : ℕ) (k : Operation) (d r : Register) (n : ℕ) → Listed operation_number shifts k → n < 32 → encoding (RegisterImmediate k d r (pos n)) ≡ w →
    Back w (RegisterImmediate k d r (pos n))
shift_back w k d r n listed small q =
    let t = operation_listed k in
    let m = i_back w (funct7_of k * 32 + n % 2 ^ 12) (funct3_of k) 0x13 r d t.1 (omega arith) (omega arith) q in
    let amount : field w 20 5 ≡ n = m.0.in_rs2 ∙ omega arith in
    let both : funct7 w * 8 + funct3 w ≡ operation_number k = omega (arith, m.0.in_funct7, m.0.in_funct3) in
    let none : constant w ≡ None = finds funct3_of constants _ (funct3 w) (funct3_of k) None m.0.in_funct3 (apart k listed) in
    let s : shift w ≡ Some (RegisterImmediate k d r (pos n)) = meets operation_number shifts _ (funct7 w * 8 + funct3 w) k both listed ∙ cc in
    (m.0.word, major w Major.OPIMM _ m.0.in_opcode refl (ap (λ o. option_or o (shift w)) none ∙ s))

pub back : (w : ℕ) (i : Instruction) → Encodable i → encoding i ≡ w → Back w i
back w (Lui d z) (h, e) q =
    let m = upper_back w d z 0x37 (omega arith) h e q in
    (m.0, major w Major.LUI _ m.1 refl (cc))
back w (Auipc d z) (h, e) q =
    let m = upper_back w d z 0x17 (omega arith) h e q in
    (m.0, major w Major.AUIPC _ m.1 refl (cc))
back w (Jal d z) (h, e) q =
    let m = j_made w (remainder 21 z) d.index 0x6F (below d) (omega arith) (bits_below 21 z) (zeros 20 1 z (omega arith) h e) q in
    let r = same_register (rd w) d m.2 in
    let s = ap (signed 21) m.3 ∙ signed_of_bits 21 z (omega arith) h in
    (m.0, major w Major.JAL _ m.1 refl (cc))
back w (Jalr d b z) h q =
    let m = i_back w (remainder 12 z) 0 0x67 b d (omega arith) (omega arith) (bits_below 12 z) q in
    let s = ap (signed 12) m.1 ∙ signed_of_bits 12 z (omega arith) h in
    (m.0.word, major w Major.JALR _ m.0.in_opcode refl (cond-true _ _ _ (eq-eqb (funct3 w) 0 m.0.in_funct3) ∙ cc))
back w (Branch c l r z) (h, e) q =
    let k : Row condition_number conditions 8 c = search rules in
    let m = b_made w (remainder 13 z) (condition_number c) 0x63 k.1 (omega arith) r.index l.index (below r) (below l) (bits_below 13 z) (zeros 12 1 z (omega arith) h e) q in
    let r1 = same_register (rs1 w) l m.0.in_rs1 in
    let r2 = same_register (rs2 w) r m.0.in_rs2 in
    let s = ap (signed 13) m.1 ∙ signed_of_bits 13 z (omega arith) h in
    (m.0.word, major w Major.BRANCH _ m.0.in_opcode refl (meets condition_number conditions _ (funct3 w) c m.0.in_funct3 k.0 ∙ cc))
back w (Load k d b z) h q =
    let t : Row load_number loads 8 k = search rules in
    let m = i_back w (remainder 12 z) (load_number k) 0x03 b d t.1 (omega arith) (bits_below 12 z) q in
    let s = ap (signed 12) m.1 ∙ signed_of_bits 12 z (omega arith) h in
    (m.0.word, major w Major.LOAD _ m.0.in_opcode refl (meets load_number loads _ (funct3 w) k m.0.in_funct3 t.0 ∙ cc))
back w (Store k b r z) h q =
    let t : Row store_number stores 8 k = search rules in
    let m = s_made w (remainder 12 z) (store_number k) 0x23 t.1 (omega arith) r.index b.index (below r) (below b) (bits_below 12 z) q in
    let r1 = same_register (rs1 w) b m.0.in_rs1 in
    let r2 = same_register (rs2 w) r m.0.in_rs2 in
    let s = ap (signed 12) m.1 ∙ signed_of_bits 12 z (omega arith) h in
    (m.0.word, major w Major.STORE _ m.0.in_opcode refl (meets store_number stores _ (funct3 w) k m.0.in_funct3 t.0 ∙ cc))
back w (RegisterImmediate k d r z) (inl (listed, h)) q = constant_back w k d r z listed h q
back w (RegisterImmediate k d r (pos n)) (inr (listed, low, high)) q = shift_back w k d r n listed (omega (arith, ints)) q
back w (RegisterImmediate k d r (negsuc n)) (inr (listed, low, high)) q = absurd low.le
back w (RegisterRegister k d l r) h q =
    let t = operation_listed k in
    let m = r_made w (funct7_of k) r.index l.index (funct3_of k) d.index 0x33 t.2 (below r) (below l) t.1 (below d) (omega arith) q in
    let r0 = same_register (rd w) d m.in_rd in
    let r1 = same_register (rs1 w) l m.in_rs1 in
    let r2 = same_register (rs2 w) r m.in_rs2 in
    (m.word, major w Major.OP _ m.in_opcode refl (meets operation_number operations _ (funct7 w * 8 + funct3 w) k (omega (arith, m.in_funct7, m.in_funct3)) t.0 ∙ cc))
back w (ReadCsr d k) h q =
    let t : Row csr_number csrs (2 ^ 12) k = search rules in
    let m = i_back w (csr_number k) 2 0x73 (register 0) d (omega arith) (omega arith) t.1 q in
    let tests = and_from (eqb (funct3 w) 2) (eqb (field w 15 5) 0) (eq-eqb (funct3 w) 2 m.0.in_funct3) (eq-eqb (field w 15 5) 0 m.0.in_rs1) in
    (m.0.word, major w Major.SYSTEM _ m.0.in_opcode refl (cond-true _ _ _ tests ∙ meets csr_number csrs _ (i_bits w) k m.1 t.0 ∙ cc))
