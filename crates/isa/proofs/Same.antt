-- Registers are below 32; two with one number are one, and so are register files with the same words.
use Rattle.std.proofs.Common.{◌≡◌, ℕ, ◌<◌, T, ltb, List, ap, subst, rules}
use lib.Dec.{T_prop}
use Rattle.isa.specs.declared.register.Register.{Register}
use Rattle.isa.specs.declared.register.Registers.{Registers}
use Rattle.isa.specs.Registers.{formed_words}

pub below : (r : Register) → r.index < 32
below r = search rules

pub same_register : (a b : Register) → a.index ≡ b.index → a ≡ b
same_register a b e =
    subst (λ (n : ℕ). (q : T (ltb n 32)) → a ≡ record { index = n; named = q }) e
    (λ q. ap (λ (p : T (ltb a.index 32)). record { index = a.index; named = p }) (T_prop (ltb a.index 32) a.named q)) b.named

pub same_registers : (a b : Registers) → a.words ≡ b.words → a ≡ b
same_registers a b e =
    subst (λ (ws : List ℕ). (q : T (formed_words ws)) → a ≡ record { words = ws; formed = q }) e
    (λ q. ap (λ (p : T (formed_words a.words)). record { words = a.words; formed = p }) (T_prop (formed_words a.words) a.formed q)) b.formed
