-- What a decoder remembers: 1,024 words, each with what it decodes to.
use Rattle.std.specs.Prelude.{ℕ, ◌+◌, ◌*◌, ◌/◌, ◌%◌, ◌^◌, cond, replicate, ◌==◌, slice_index_or, slice_set, refl}
use Rattle.isa.specs.declared.decoder.Decoder.{Decoder}
use Rattle.isa.specs.declared.decoder.Decoding.{Decoding}
use Rattle.isa.specs.Decoding.{decoded}

abbrev pub decoding : ℕ → Decoding
decoding w = record { word = w; instruction = decoded w; right = refl }

abbrev pub first_decoder : Decoder
first_decoder = record { decodings = replicate 1024 (decoding 0) }

-- where the word of an address is remembered: programs with one root after the other have other places for the same addresses
abbrev pub kept_at : ℕ → ℕ → ℕ
kept_at pc root = (pc + root * 1092) % 2 ^ 32 / 4 % 1024

-- a word that is not there takes the place
abbrev pub remembered : Decoder → ℕ → ℕ → Decoder
remembered d at w = cond ((slice_index_or d.decodings at (decoding 0)).word == w) d (record { decodings = slice_set d.decodings at (decoding w) })
