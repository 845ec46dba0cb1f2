-- The six formats of an instruction word: its fields by position, its immediates, and the word that fields make.
use Rattle.std.specs.Prelude.{ℕ, ◌+◌, ◌*◌, ◌/◌, ◌^◌, List, [], ◌∷◌, ℤ}
use Rattle.words.specs.Bits.{field, signed}
use Rattle.isa.specs.declared.register.Register.{Register}
use Rattle.isa.specs.Registers.{register}

abbrev pub opcode : ℕ → ℕ
opcode word = field word 0 7

abbrev pub rd : ℕ → Register
rd word = register (word / 2 ^ 7)

abbrev pub funct3 : ℕ → ℕ
funct3 word = field word 12 3

abbrev pub rs1 : ℕ → Register
rs1 word = register (word / 2 ^ 15)

abbrev pub rs2 : ℕ → Register
rs2 word = register (word / 2 ^ 20)

abbrev pub funct7 : ℕ → ℕ
funct7 word = field word 25 7

-- values with their widths, drawn as the manual draws them: the highest bits first
abbrev pub widths : List (ℕ × ℕ) → ℕ
widths [] = 0
widths ((value, width) ∷ parts) = width + widths parts

abbrev pub drawn : List (ℕ × ℕ) → ℕ
drawn [] = 0
drawn ((value, width) ∷ parts) = value * 2 ^ widths parts + drawn parts

-- the immediates: which bits of the word they are made of
abbrev pub i_bits : ℕ → ℕ
i_bits word = field word 20 12

abbrev pub s_bits : ℕ → ℕ
s_bits word = drawn ((field word 25 7, 7) ∷ (field word 7 5, 5) ∷ [])

abbrev pub b_bits : ℕ → ℕ
b_bits word = drawn ((field word 31 1, 1) ∷ (field word 7 1, 1) ∷ (field word 25 6, 6) ∷ (field word 8 4, 4) ∷ (0, 1) ∷ [])

abbrev pub u_bits : ℕ → ℕ
u_bits word = drawn ((field word 12 20, 20) ∷ (0, 12) ∷ [])

abbrev pub j_bits : ℕ → ℕ
j_bits word = drawn ((field word 31 1, 1) ∷ (field word 12 8, 8) ∷ (field word 20 1, 1) ∷ (field word 21 10, 10) ∷ (0, 1) ∷ [])

abbrev pub i_immediate : ℕ → ℤ
i_immediate word = signed 12 (i_bits word)

abbrev pub s_immediate : ℕ → ℤ
s_immediate word = signed 12 (s_bits word)

abbrev pub b_immediate : ℕ → ℤ
b_immediate word = signed 13 (b_bits word)

abbrev pub u_immediate : ℕ → ℤ
u_immediate word = signed 32 (u_bits word)

abbrev pub j_immediate : ℕ → ℤ
j_immediate word = signed 21 (j_bits word)

-- the words: imm is the immediate's bits
abbrev pub r_format : ℕ → ℕ → ℕ → ℕ → ℕ → ℕ → ℕ
r_format f7 s2 s1 f3 d op = drawn ((f7, 7) ∷ (s2, 5) ∷ (s1, 5) ∷ (f3, 3) ∷ (d, 5) ∷ (op, 7) ∷ [])

abbrev pub i_format : ℕ → ℕ → ℕ → ℕ → ℕ → ℕ
i_format imm s1 f3 d op = drawn ((imm, 12) ∷ (s1, 5) ∷ (f3, 3) ∷ (d, 5) ∷ (op, 7) ∷ [])

abbrev pub s_format : ℕ → ℕ → ℕ → ℕ → ℕ → ℕ
s_format imm s2 s1 f3 op = drawn ((field imm 5 7, 7) ∷ (s2, 5) ∷ (s1, 5) ∷ (f3, 3) ∷ (field imm 0 5, 5) ∷ (op, 7) ∷ [])

abbrev pub b_format : ℕ → ℕ → ℕ → ℕ → ℕ → ℕ
b_format imm s2 s1 f3 op =
    drawn ((field imm 12 1, 1) ∷ (field imm 5 6, 6) ∷ (s2, 5) ∷ (s1, 5) ∷ (f3, 3) ∷ (field imm 1 4, 4) ∷ (field imm 11 1, 1) ∷ (op, 7) ∷ [])

abbrev pub u_format : ℕ → ℕ → ℕ → ℕ
u_format imm d op = drawn ((field imm 12 20, 20) ∷ (d, 5) ∷ (op, 7) ∷ [])

abbrev pub j_format : ℕ → ℕ → ℕ → ℕ
j_format imm d op =
    drawn ((field imm 20 1, 1) ∷ (field imm 1 10, 10) ∷ (field imm 11 1, 1) ∷ (field imm 12 8, 8) ∷ (d, 5) ∷ (op, 7) ∷ [])
