-- Decoding is exact, and lawful instructions have words of their own.
use Rattle.std.proofs.Common.{rules, ◌≡◌, ℕ, Some, None, Option, sym, refl, ◌∙◌}
use Rattle.std.proofs.lemmas.Option.{same_Some, none-some}
use Rattle.isa.specs.declared.instruction.Instruction.{Instruction}
use Rattle.isa.specs.Decoding.{decoded}
use Rattle.isa.specs.Encoding.{encoding, Encodable}
use Rattle.isa.specs.Laws.{Exact, Encodes, Injective, Illegal}
use Rattle.isa.proofs.Each.{back}
use Rattle.isa.proofs.Only.{Of, only}

pub exact : Exact
exact w i h = record { only = only w i h; each = λ e l. (back w i l e).1 }

pub encodes : Encodes
encodes i l = (back (encoding i) i l refl).0

pub injective : Injective
injective i j l m e = same_Some i j (sym (back (encoding i) i l refl).1 ∙ (back (encoding i) j m (sym e)).1)

-- a word with no instruction, once decoding has answered
refused : (w : ℕ) (o : Option Instruction) → ((i : Instruction) → o ≡ Some i → Of w i) → ((i : Instruction) → Encodable i → encoding i ≡ w → ⊥) → o ≡ None
refused w None of alone = refl
refused w (Some i) of alone = let o = of i refl in search rules

pub illegal : Illegal
illegal w h = record {
  none = λ e i l q. none-some i (sym e ∙ (back w i l q).1);
  illegal = refused w (decoded w) (λ i. only w i h);
}
