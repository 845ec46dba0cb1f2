-- What the definitions of this crate come to, in laws that do not mention how they are computed.
use Rattle.std.specs.Prelude.{◌≡◌, ℕ, ◌+◌, ◌-◌, ◌*◌, ◌/◌, ◌%◌, ◌^◌, ◌<◌, ◌≤◌, true, false, ◌&&◌, ◌≢◌, ◌⊎◌, List, length, pos, ◌+ℤ◌, neg_ℤ, ◌≤ℤ◌, ◌<ℤ◌, slice_index, Decides}
use Rattle.words.specs.Bytes.{byte, number}
use Rattle.words.specs.Bits.{field, signed}
use Rattle.words.specs.Frames.{copied, lent, word, written}

-- byte k of a number, from its lowest, is the k-th byte that wrote it
abbrev pub LowByteFirst : Type 0
LowByteFirst =
    (bytes : List ℕ) (at count k : ℕ) → ((i : ℕ) → byte bytes i < 256) → k < count →
    number bytes at count / 256 ^ k % 256 ≡ byte bytes (at + k)

-- the number that `count` bytes write is below 256 ^ count
abbrev pub NumbersFit : Type 0
NumbersFit = (bytes : List ℕ) (at count : ℕ) → ((i : ℕ) → byte bytes i < 256) → number bytes at count < 256 ^ count

-- the field of the low n bits is the remainder by 2 ^ n
abbrev pub LowFields : Type 0
LowFields = (w n : ℕ) → field w 0 n ≡ w % 2 ^ n

-- a field is its low part, and above it the rest
abbrev pub FieldsJoin : Type 0
FieldsJoin = (w low m n : ℕ) → field w low (m + n) ≡ field w low m + 2 ^ m * field w (low + m) n

-- two's complement: the number lies in the range of its width, and differs from the bits by 0 or 2 ^ width
pub record SignExtends (width w : ℕ) : Type 0 where
  pub least : neg_ℤ (pos (2 ^ (width - 1))) ≤ℤ signed width w
  pub most : signed width w <ℤ pos (2 ^ (width - 1))
  pub bits : (signed width w ≡ pos (w % 2 ^ width)) ⊎ (signed width w +ℤ pos (2 ^ width) ≡ pos (w % 2 ^ width))

abbrev pub Signs : Type 0
Signs = (width w : ℕ) → 0 < width → SignExtends width w

-- a frame is lent if and only if all of its words are
abbrev pub Lends : Type 0
Lends = (ws : List ℕ) (frame : ℕ) → Decides (lent ws frame) (frame * 1024 + 1024 ≤ length ws)

-- what is written is read back, and every other word stays
pub record Writes (ws : List ℕ) (frame offset value : ℕ) : Type 0 where
  pub back : frame * 1024 + offset < length ws → word (written ws frame offset value) frame offset ≡ value
  pub others : (i : ℕ) → i ≢ frame * 1024 + offset → slice_index (written ws frame offset value) i ≡ slice_index ws i
  pub as_many : length (written ws frame offset value) ≡ length ws

abbrev pub ReadsBack : Type 0
ReadsBack = (ws : List ℕ) (frame offset value : ℕ) → Writes ws frame offset value

-- the target holds what the source held, the words of every other frame stay, and where one of the two is not lent, all words
pub record Copied (ws : List ℕ) (from to : ℕ) : Type 0 where
  pub there : lent ws from ≡ true → lent ws to ≡ true → (k : ℕ) → k < 1024 → word (copied ws from to) to k ≡ word ws from k
  pub others : (frame k : ℕ) → k < 1024 → frame ≢ to → word (copied ws from to) frame k ≡ word ws frame k
  pub as_many : length (copied ws from to) ≡ length ws
  pub not_lent : (lent ws from && lent ws to) ≡ false → copied ws from to ≡ ws

abbrev pub Copies : Type 0
Copies = (ws : List ℕ) (from to : ℕ) → Copied ws from to
