-- Laws of frames.
use Rattle.std.proofs.Common.{◌≡◌, ℕ, ◌+◌, ◌-◌, ◌*◌, ◌<◌, ◌≤◌, true, ◌&&◌, ◌≢◌, ◌⊎◌, List, ◌++◌, length, get_or, take, drop, ◌∙◌, inl, inr, arith}
use lib.Seq.{paste}
use Rattle.std.proofs.lemmas.List.{get_or-set_same, get_or-set_other, length-set, length-append, length-take, length-take-le, get_or-take, get_or-drop, get_or_append_left, get_or-append_right}
use Rattle.std.proofs.lemmas.List.Edits.{length-between, get_or-between, length-paste}
use Rattle.std.proofs.lemmas.Bool.{cases_Bool, cases_lt, and_parts, and_from, both_ways}
use Rattle.std.proofs.lemmas.Bool.Decides.{nat_tests}
use Rattle.words.specs.Frames.{contents, copied, lent}
use Rattle.words.specs.Laws.{Lends, ReadsBack, Copies}

pub lends : Lends
lends ws frame = grind (arith, nat_tests)

-- the words of a lent frame lie among the lent words
pub lent_room : (ws : List ℕ) (frame : ℕ) → lent ws frame ≡ true → frame * 1024 + 1024 ≤ length ws
lent_room ws frame = (lends ws frame).0

pub length_contents : (ws : List ℕ) (frame : ℕ) → lent ws frame ≡ true → length (contents ws frame) ≡ 1024
length_contents ws frame h = omega (arith, length-between ws (frame * 1024) (frame * 1024 + 1024) (lent_room ws frame h))

pub reads_back : ReadsBack
reads_back ws frame offset value = record {
  back = λ h. get_or-set_same ws (frame * 1024 + offset) value 0 h;
  others = λ i h. get_or-set_other ws (frame * 1024 + offset) i value 0 h;
  as_many = length-set ws (frame * 1024 + offset) value;
}

-- a part of n places from a on, written over by the first n of s
module _ (d s : List ℕ) (a n : ℕ) (room : a + n ≤ length d) (enough : n ≤ length s) where
  front : length (take a d ++ take n s) ≡ a + n
  front = simp (length-append, length-take) (omega arith)

  paste_in : (k : ℕ) → k < n → get_or (paste d a s n) (a + k) 0 ≡ get_or s k 0
  paste_in k l =
      get_or_append_left (take a d ++ take n s) (drop (a + n) d) 0 (a + k) (omega (arith, front))
      ∙ get_or-append_right (take a d) (take n s) a (a + k) 0 (length-take-le a d (omega arith)) (omega arith)
      ∙ (let e : a + k - a ≡ k = omega arith in rw e (get_or-take n s k 0 l))

  paste_out : (i : ℕ) → (i < a) ⊎ (a + n ≤ i) → get_or (paste d a s n) i 0 ≡ get_or d i 0
  paste_out i (inl l) =
      get_or_append_left (take a d ++ take n s) (drop (a + n) d) 0 i (omega (arith, front))
      ∙ get_or_append_left (take a d) (take n s) 0 i (omega (arith, length-take-le a d (omega arith)))
      ∙ get_or-take a d i 0 l
  paste_out i (inr l) =
      get_or-append_right (take a d ++ take n s) (drop (a + n) d) (a + n) i 0 front l
      ∙ get_or-drop (a + n) d (i - (a + n)) 0
      ∙ (let e : a + n + (i - (a + n)) ≡ i = omega arith in rw e)

outside : (frame to k : ℕ) → k < 1024 → frame ≢ to → (frame * 1024 + k < to * 1024) ⊎ (to * 1024 + 1024 ≤ frame * 1024 + k)
outside frame to k l ne = elim (cases_lt frame to) [
  | inl h ↦ inl (omega arith)
  | inr h ↦ inr (let apart : frame ≡ to → ⊥ = ne in omega arith)
]

pub copies : Copies
copies ws from to = elim (cases_Bool (lent ws from && lent ws to)) [
  | inl e ↦
      let both = and_parts (lent ws from) (lent ws to) e in
      let source = contents ws from in
      let room = lent_room ws to both.1 in
      let enough : 1024 ≤ length source = omega (arith, length_contents ws from both.0) in
      let is : copied ws from to ≡ paste ws (to * 1024) source 1024 = simp e in
      record {
        there = λ _ _ k l. rw is (paste_in ws source (to * 1024) 1024 room enough k l ∙ get_or-between ws (from * 1024) (from * 1024 + 1024) k 0 (omega arith));
        others = λ frame k l ne. rw is (paste_out ws source (to * 1024) 1024 room enough (frame * 1024 + k) (outside frame to k l ne));
        as_many = rw is (length-paste ws (to * 1024) source 1024 room enough);
        not_lent = λ h. absurd (both_ways (lent ws from && lent ws to) h e);
      }
  | inr e ↦
      let is : copied ws from to ≡ ws = simp e in
      record {
        there = λ a b. absurd (both_ways (lent ws from && lent ws to) e (and_from (lent ws from) (lent ws to) a b));
        others = λ frame k l ne. rw is;
        as_many = rw is;
        not_lent = λ _. is;
      }
]
