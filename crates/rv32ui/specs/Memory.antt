-- Code and data in the memory in which programs run.
use Rattle.std.specs.Prelude.{ℕ, ◌+◌, ◌-◌, ◌*◌, cond, ◌&&◌, List, length, nat_le, nat_lt}
use Rattle.std.proofs.Math.Seq.{paste}

-- values over the words from a word of a frame on; nothing is put where not all of those words are lent
abbrev pub put_at : List ℕ → ℕ → ℕ → List ℕ → List ℕ
put_at words frame first values =
    let start = frame * 1024 + first in
    cond (nat_lt start (length words) && nat_le (length values) (length words - start)) (paste words start values (length values)) words
