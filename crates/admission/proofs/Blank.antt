-- Blank images: what they lend, that the example plan may have it, and what their own rules say.
use Rattle.std.proofs.Common.{◌≡◌, ℕ, zero, suc, ◌+◌, ◌*◌, ◌-◌, ◌<◌, ◌≤◌, true, [], ◌∷◌, List, length, get_or, replicate, Some, Ok, sym, refl, ap, ◌∙◌, inl, inr, arith}
use Rattle.std.specs.Prelude.{map}
use Rattle.std.specs.List.{range_with_len}
use Rattle.std.proofs.lemmas.Bool.{cases_lt, true≢false}
use Rattle.std.proofs.lemmas.List.{get_or_past, get_or-append_right, get_or-replicate, length-replicate}
use Rattle.std.proofs.lemmas.List.FromFn.{get_or-map-range_with_len, length-map-range_with_len}
use Rattle.words.specs.Frames.{word}
use Rattle.paging.specs.Entries.{flag, is_valid}
use Rattle.paging.specs.Tables.{References}
use Rattle.plan.specs.Example.{example}
use Rattle.plan.specs.declared.refusal.Refusal.TheVariants.{FramesMissing, Surplus}
use Rattle.plan.specs.Format.{plan_of, rows}
use Rattle.plan.proofs.Worked.{worked as plan_worked}
use Rattle.checker.specs.Checked.{accepted, checked}
use Rattle.checker.specs.Found.{Lawful}
use Rattle.checker.specs.Lawful.{Formed, RootFits, root}
use Rattle.checker.proofs.Judged.{lawful_accepted}
use Rattle.image.specs.Frames.{Whole, image_fault, image_word, image_words, lent_frames}
use Rattle.image.proofs.Words.{long as words_as_lent}
use Rattle.admission.specs.Admitted.{admitted}
use Rattle.admission.specs.Example.{Example, blank, longer, short, zeros}
use Rattle.admission.proofs.Verdict.{verdict}

zero_byte : (count n at : ℕ) → 2 ≤ at → get_or (zeros count n) at 0 ≡ 0
zero_byte count n at l =
    get_or-append_right (count ∷ 0 ∷ []) (replicate n 0) 2 at 0 refl l ∙ elim (cases_lt (at - 2) n) [
      | inl inside ↦ get_or-replicate n (at - 2) 0 0 inside
      | inr past ↦ get_or_past (replicate n 0) (at - 2) 0 (rw length-replicate past)
    ]

-- an image that lends two frames of zeros
record Blank (image : List ℕ) : Type 0 where
  lends : lent_frames image ≡ 2
  zero : (at : ℕ) → 2 ≤ at → get_or image at 0 ≡ 0

blank_blank : Blank blank
unfolding blank
blank_blank = record { lends = refl; zero = zero_byte 2 8192 }

blank_short : Blank short
unfolding short
blank_short = record { lends = refl; zero = zero_byte 3 8192 }

blank_longer : Blank longer
unfolding longer
blank_longer = record { lends = refl; zero = zero_byte 2 8193 }

whole : Whole blank
unfolding blank
whole = refl

no_channels : (plan_of example).counts.channels ≡ 0
unfolding plan_of
no_channels = refl

two_partitions : (plan_of example).counts.partitions ≡ 2
unfolding plan_of
two_partitions = refl

root_is : (k : ℕ) → k < 2 → root (plan_of example) k ≡ k
unfolding plan_of rows
root_is zero l = refl
root_is (suc zero) l = refl
root_is (suc (suc k)) l = absurd (omega arith)

-- it may have the words of a blank image
module _ (image : List ℕ) (is : Blank image) where
  zero_word : (k : ℕ) → image_word image k ≡ 0
  zero_word k = rw (
    is.zero (2 + 4 * k) (omega arith),
    is.zero (2 + 4 * k + 1) (omega arith),
    is.zero (2 + 4 * k + 1 + 1) (omega arith),
    is.zero (2 + 4 * k + 1 + 1 + 1) (omega arith),
  ) refl

  zero_at : (i : ℕ) → get_or (image_words image) i 0 ≡ 0
  unfolding image_words
  zero_at i = elim (cases_lt i (lent_frames image * 1024)) [
    | inl l ↦ get_or-map-range_with_len (image_word image) 0 (lent_frames image * 1024) i i 0 l (omega arith) ∙ zero_word i
    | inr past ↦ get_or_past (map (image_word image) (range_with_len 0 (lent_frames image * 1024))) i 0 (rw length-map-range_with_len past)
  ]

  words_long : length (image_words image) ≡ 2048
  words_long = words_as_lent image ∙ ap (λ n. 1024 * n) is.lends

  -- so no entry is valid
  not_valid : (frame k : ℕ) → is_valid (word (image_words image) frame k) ≡ true → ⊥
  unfolding flag
  not_valid frame k v = true≢false (sym v ∙ ap is_valid (zero_at (frame * 1024 + k)))

  names_none : (at f : ℕ) → References (image_words image) at f → ⊥
  names_none at f n = not_valid n.table n.at n.valid

  formed : (at : ℕ) → at < 2 → Formed (image_words image) at
  formed at l = record {
    there = omega (arith, words_long);
    entries = λ k h. record {
      points = λ v. absurd (not_valid at k v);
      there = λ v. absurd (not_valid at k v);
      formed = λ v. absurd (not_valid at k v);
    };
  }

  root_fits : (k : ℕ) → k < 2 → RootFits (image_words image) (plan_of example) k
  root_fits k l = record {
    few = omega (arith, words_long);
    below = omega (arith, root_is k l);
    own = λ j h e. omega (arith, root_is k l, root_is j (omega arith), e);
  }

  lawful : Lawful example (image_words image)
  lawful = record {
    plan = plan_worked.accepted;
    pages = λ k l. absurd (omega (arith, no_channels));
    roots = λ k l. root_fits k (omega (arith, two_partitions));
    tables = λ k l. let h : k < 2 = omega (arith, two_partitions) in formed (root (plan_of example) k) (omega (arith, root_is k h));
    apart = λ a b la lb c. names_none (root (plan_of example) a) c.0 c.1;
    all_lent = λ k f l n. absurd (names_none (root (plan_of example) k) f n);
  }

  passes : checked example (image_words image) ≡ Ok (accepted (image_words image) (plan_of example))
  passes = lawful_accepted example (image_words image) lawful

faulty_short : image_fault short ≡ Some FramesMissing
unfolding short
faulty_short = refl

faulty_longer : image_fault longer ≡ Some (Surplus 8194)
unfolding longer
faulty_longer = refl

pub worked : Example
unfolding admitted
worked = record {
  lawful = lawful blank blank_blank;
  whole = whole;
  admits = (verdict example (image_words blank) blank).accepts (lawful blank blank_blank) whole;
  lawful_short = lawful short blank_short;
  lawful_longer = lawful longer blank_longer;
  frame_less = rw (passes short blank_short, faulty_short) refl;
  byte_more = rw (passes longer blank_longer, faulty_longer) refl;
}
