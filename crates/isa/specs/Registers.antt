-- The 32 registers: their names, and what they hold.
use Rattle.std.proofs.Common.{subst, sym, inl, inr, mod-lt, lit<}
use Rattle.std.specs.Prelude.{ℕ, ◌%◌, Bool, cond, ◌&&◌, T, ◌≢◌, List, length, replicate, ◌==◌, nat_lt, slice_index, slice_set}
use Rattle.std.proofs.lemmas.List.{get_or-set_other, length-set}
use Rattle.std.proofs.lemmas.Bool.{cases_Bool, cond-true, cond-false, eqb-false, lt-ltb}
use Rattle.isa.specs.declared.register.Register.{Register}
use Rattle.isa.specs.declared.register.Registers.{Registers}

-- the low five bits of a number name a register
pub five_bits : (n : ℕ) → T (nat_lt (n % 32) 32)
five_bits n = subst T (sym (lt-ltb (n % 32) 32 (mod-lt n (lit< tt)))) tt

abbrev pub register : ℕ → Register
register n = record { index = n % 32; named = five_bits n }

-- every register holds 0
abbrev pub blank : Registers
blank = record { words = replicate 32 0; formed = tt }

-- what a register holds
abbrev pub held : Registers → Register → ℕ
held rs r = slice_index rs.words r.index

-- there are 32, and register 0 holds 0
abbrev pub formed_words : List ℕ → Bool
formed_words words = length words == 32 && slice_index words 0 == 0

-- a write to register 0 is lost
abbrev pub put : List ℕ → ℕ → ℕ → List ℕ
put words index value = cond (index == 0) words (slice_set words index value)

pub still_formed : (words : List ℕ) (index value : ℕ) → T (formed_words words) → T (formed_words (put words index value))
still_formed words index value t = elim (cases_Bool (index == 0)) [
  | inl e ↦ rw (cond-true (index == 0) words (slice_set words index value) e) t
  | inr e ↦
      let other : 0 ≢ index = λ z. eqb-false index 0 e (sym z) in
      rw (cond-false (index == 0) words (slice_set words index value) e, length-set words index value, get_or-set_other words index 0 value 0 other) t
]

-- the registers after a write
abbrev pub written : Registers → Register → ℕ → Registers
written rs r value = record { words = put rs.words r.index value; formed = still_formed rs.words r.index value rs.formed }
