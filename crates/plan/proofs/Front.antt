-- The plan that a file says is that of its front part.
use Rattle.std.proofs.Common.{◌≡◌, ℕ, ◌+◌, ◌*◌, ◌<◌, ◌≤◌, List, length, take, refl, ap, ◌∙◌, inl, inr, arith}
use Rattle.std.proofs.lemmas.List.{get_or-take, length-take-le, take_all}
use Rattle.std.proofs.lemmas.Bool.{cases_lt, le-leb, lt-leb}
use Rattle.words.specs.Bytes.{byte, number}
use Rattle.words.proofs.Numbers.{number_take}
use Rattle.plan.specs.declared.model.Counts.{Counts}
use Rattle.plan.specs.declared.model.Partition.{Partition}
use Rattle.plan.specs.declared.model.Slot.{Slot}
use Rattle.plan.specs.declared.model.Channel.{Channel}
use Rattle.plan.specs.declared.model.Plan.{Plan}
use Rattle.plan.specs.Format.{Part, channel_at, channels_from, channels_part, counts_of, longest, no_channel, no_partition, no_slot, part_in, partition_at, partitions_from, partitions_part, plan_of, plan_size, slot_at, slots_from, slots_part}
use Rattle.plan.specs.Rules.{FrontTellsAll, surplus, truncated}
use Rattle.plan.proofs.Rows.{rows_same}

abbrev plan_with : List ℕ → Counts → Plan
plan_with bytes c = record {
  counts = c;
  budget = number bytes 3 4;
  partitions = part_in partition_at no_partition bytes (partitions_from c) (partitions_part c);
  slots = part_in slot_at no_slot bytes (slots_from c) (slots_part c);
  channels = part_in channel_at no_channel bytes (channels_from c) (channels_part c);
}

made_same : (c : Counts) (b b' : ℕ) → b ≡ b' → (p p' : List Partition) → p ≡ p' → (s s' : List Slot) → s ≡ s' → (h h' : List Channel) → h ≡ h' →
    ◌≡◌ {A = Plan} (record { counts = c; budget = b; partitions = p; slots = s; channels = h }) (record { counts = c; budget = b'; partitions = p'; slots = s'; channels = h' })
made_same c b b' eb p p' ep s s' es h h' eh = rw (eb, ep, es, eh)

module _ (bytes : List ℕ) (n : ℕ) (small : (i : ℕ) → byte bytes i < 256) (enough : longest ≤ n) where
  byte_front : (i : ℕ) → i < n → byte (take n bytes) i ≡ byte bytes i
  byte_front i l = get_or-take n bytes i 0 l

  number_front : (at count : ℕ) → at + count ≤ n → number (take n bytes) at count ≡ number bytes at count
  number_front at count = number_take bytes n at count

  counts_front : counts_of (take n bytes) ≡ counts_of bytes
  counts_front = rw (byte_front 0 (omega arith), byte_front 1 (omega arith), byte_front 2 (omega arith)) refl

  -- the counts are bytes, so the plan ends below the longest
  size_below : plan_size (counts_of bytes) < longest
  size_below = omega (arith, small 0, small 1, small 2)

  same_part : {X : Type 0} (row : List ℕ → ℕ → X) (blank : X) (start : ℕ) (part : Part) →
      ((k : ℕ) → k < part.room → row (take n bytes) (start + part.size * k) ≡ row bytes (start + part.size * k)) →
      part_in row blank (take n bytes) start part ≡ part_in row blank bytes start part
  same_part row blank start part h = rows_same (λ k. row (take n bytes) (start + part.size * k)) (λ k. row bytes (start + part.size * k)) blank part.room part.many h

  partition_front : (at : ℕ) → at + 6 ≤ n → partition_at (take n bytes) at ≡ partition_at bytes at
  partition_front at room = rw (number_front at 2 (omega arith), number_front (at + 2) 4 (omega arith)) refl

  slot_front : (at : ℕ) → at + 5 ≤ n → slot_at (take n bytes) at ≡ slot_at bytes at
  slot_front at room = rw (byte_front at (omega arith), number_front (at + 1) 4 (omega arith)) refl

  channel_front : (at : ℕ) → at + 10 ≤ n → channel_at (take n bytes) at ≡ channel_at bytes at
  channel_front at room = rw (byte_front at (omega arith), byte_front (at + 1) (omega arith), number_front (at + 2) 4 (omega arith), number_front (at + 6) 4 (omega arith)) refl

  plan_front : plan_of (take n bytes) ≡ plan_of bytes
  unfolding plan_of
  plan_front =
      let c = counts_of bytes in
      let partitions = same_part partition_at no_partition (partitions_from c) (partitions_part c) (λ k l. partition_front (partitions_from c + 6 * k) (omega arith)) in
      let slots = same_part slot_at no_slot (slots_from c) (slots_part c) (λ k l. slot_front (slots_from c + 5 * k) (omega (arith, small 0))) in
      let channels = same_part channel_at no_channel (channels_from c) (channels_part c) (λ k l. channel_front (channels_from c + 10 * k) (omega (arith, small 0, small 1))) in
      ap (plan_with (take n bytes)) counts_front ∙ made_same c _ _ (number_front 3 4 (omega arith)) _ _ partitions _ _ slots _ _ channels

  -- where the file goes on past the front part, neither length is too short, and both are too long
  early_front : n < length bytes → truncated (take n bytes) (plan_of bytes) ≡ truncated bytes (plan_of bytes)
  unfolding plan_of
  early_front l =
      let long = length-take-le n bytes (omega arith) in
      let size = plan_size (counts_of bytes) in
      rw (long, le-leb size n (omega (arith, size_below)), le-leb size (length bytes) (omega (arith, size_below))) refl

  late_front : n < length bytes → surplus (take n bytes) (plan_of bytes) ≡ surplus bytes (plan_of bytes)
  unfolding plan_of
  late_front l =
      let long = length-take-le n bytes (omega arith) in
      let size = plan_size (counts_of bytes) in
      rw (long, lt-leb n size (omega (arith, size_below)), lt-leb (length bytes) size (omega (arith, size_below))) refl

pub front_tells_all : FrontTellsAll
front_tells_all bytes n small enough = elim (cases_lt n (length bytes)) [
  | inl l ↦ record { plan = plan_front bytes n small enough; early = early_front bytes n small enough l; late = late_front bytes n small enough l }
  | inr l ↦ let same = take_all n bytes l in record { plan = ap plan_of same; early = ap (λ b. truncated b (plan_of bytes)) same; late = ap (λ b. surplus b (plan_of bytes)) same }
]
