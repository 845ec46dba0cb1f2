-- What a decoder remembers.
use Rattle.std.proofs.Common.{◌≡◌, ℕ, ◌<◌, length, get_or, set, ◌≢◌, Option, refl, rules}
use mathlib.Core.Path.{path_j'}
use Rattle.std.proofs.lemmas.List.{get_or_default}
use Rattle.std.proofs.lemmas.Bool.Decides.{nat_tests}
use Rattle.isa.specs.declared.instruction.Instruction.{Instruction}
use Rattle.isa.specs.declared.decoder.Decoder.{Decoder}
use Rattle.isa.specs.declared.decoder.Decoding.{Decoding}
use Rattle.isa.specs.Decoding.{decoded}
use Rattle.isa.specs.Remembered.{decoding, remembered}

-- there is one thing to know of a word
pub one_decoding : (w : ℕ) (i : Option Instruction) (right : i ≡ decoded w) → ◌≡◌ {A = Decoding} (record { word = w; instruction = i; right = right }) (decoding w)
one_decoding w i right = path_j' (λ j e. ◌≡◌ {A = Decoding} (record { word = w; instruction = j; right = e }) (decoding w)) refl right

-- a place that has another word takes this one
pub takes : (d : Decoder) (w at : ℕ) (old new : Decoding) → at < length d.decodings → (get_or d.decodings at old).word ≢ w →
    new ≡ decoding w → ◌≡◌ {A = Decoder} (record { decodings = set d.decodings at new }) (remembered d at w)
takes d w at old new room other made =
    let there = get_or_default d.decodings at old (decoding 0) room in
    search (rules, nat_tests)
