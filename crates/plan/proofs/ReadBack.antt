-- What is written reads back.
use Rattle.std.proofs.Common.{◌≡◌, ℕ, zero, suc, ◌+◌, ◌*◌, ◌/◌, ◌%◌, ◌^◌, ◌<◌, ◌≤◌, List, [], ◌∷◌, ◌++◌, length, get_or, add-one, add-zero, zero-add, refl, ap, ◌∙◌, subst, arith}
use native.Mathlib.Nat.{mul-suc, pow-succ'}
use Rattle.std.proofs.lemmas.Bool.{cond-true, lt-ltb}
use Rattle.std.proofs.lemmas.List.{get_or_append_left, get_or-append-add, length-append}
use Rattle.words.specs.Bytes.{byte, number}
use Rattle.plan.specs.declared.model.Partition.{Partition}
use Rattle.plan.specs.declared.model.Slot.{Slot}
use Rattle.plan.specs.declared.model.Channel.{Channel}
use Rattle.plan.specs.Format.{channel_at, no_channel, no_partition, no_slot, partition_at, plan_of, slot_at}
use Rattle.plan.specs.Written.{ChannelWritable, PartitionWritable, Reads, ReadsBack, SlotWritable, Writable, channel_bytes, in_bytes, partition_bytes, row_bytes, slot_bytes, written}
use Rattle.plan.proofs.Rows.{rows_at}

number_cons : (x : ℕ) (xs : List ℕ) (at n : ℕ) → number (x ∷ xs) (at + 1) n ≡ number xs at n
number_cons x xs at zero = refl
number_cons x xs at (suc n) = let here : byte (x ∷ xs) (at + 1) ≡ byte xs at = rw add-one refl in omega (arith, here, number_cons x xs (at + 1) n)

-- a number that fits is what its bytes write
number_in_bytes : (n value : ℕ) → value < 256 ^ n → number (in_bytes n value) 0 n ≡ value
number_in_bytes zero value l = omega (arith, l)
number_in_bytes (suc n) value l =
    let fits : value / 256 < 256 ^ n = (let m : value < 256 * 256 ^ n = subst (λ t. value < t) (pow-succ' 256 n) l in omega (arith, m)) in
    omega (arith, number_cons (value % 256) (in_bytes n (value / 256)) 0 n, number_in_bytes n (value / 256) fits)

module _ (bytes : List ℕ) where
  -- from a place on there stand these
  Holds : ℕ → List ℕ → Type 0
  Holds at xs = (i : ℕ) → i < length xs → byte bytes (at + i) ≡ byte xs i

  left : (at : ℕ) (xs ys : List ℕ) → Holds at (xs ++ ys) → Holds at xs
  unfolding Holds
  left at xs ys h i l = h i (omega (arith, l, length-append xs ys)) ∙ get_or_append_left xs ys 0 i l

  right : (at next : ℕ) (xs ys : List ℕ) → at + length xs ≡ next → Holds at (xs ++ ys) → Holds next ys
  unfolding Holds
  right at next xs ys e h i l =
      let place : next + i ≡ at + (length xs + i) = omega (arith, e) in
      ap (byte bytes) place ∙ h (length xs + i) (omega (arith, l, length-append xs ys)) ∙ get_or-append-add xs ys i 0

  held_number : (at : ℕ) (xs : List ℕ) → Holds at xs → (o n : ℕ) → o + n ≤ length xs → number bytes (at + o) n ≡ number xs o n
  unfolding Holds
  held_number at xs h o zero l = refl
  held_number at xs h o (suc n) l =
      let place : at + (o + 1) ≡ at + o + 1 = omega arith in
      omega (arith, h o (omega arith), subst (λ q. number bytes q n ≡ number xs (o + 1) n) place (held_number at xs h (o + 1) n (omega arith)))

  -- a number in its bytes, at a place
  field : (at n value : ℕ) → n ≡ length (in_bytes n value) → Holds at (in_bytes n value) → value < 256 ^ n → number bytes at n ≡ value
  field at n value long h fits = subst (λ q. number bytes q n ≡ number (in_bytes n value) 0 n) (add-zero at) (held_number at (in_bytes n value) h 0 n (omega (arith, long))) ∙ number_in_bytes n value fits

  partition_back : (at : ℕ) (p : Partition) → PartitionWritable p → Holds at (partition_bytes p) → partition_at bytes at ≡ p
  partition_back at p w h =
      let root = field at 2 p.root refl (left at (in_bytes 2 p.root) (in_bytes 4 p.start) h) (omega (arith, w.0)) in
      let start = field (at + 2) 4 p.start refl (right at (at + 2) (in_bytes 2 p.root) (in_bytes 4 p.start) refl h) (omega (arith, w.1)) in
      rw (root, start) refl

  slot_back : (at : ℕ) (s : Slot) → SlotWritable s → Holds at (slot_bytes s) → slot_at bytes at ≡ s
  slot_back at s w h =
      let who = field at 1 s.partition refl (left at (in_bytes 1 s.partition) (in_bytes 4 s.length) h) (omega (arith, w.0)) in
      let cycles = field (at + 1) 4 s.length refl (right at (at + 1) (in_bytes 1 s.partition) (in_bytes 4 s.length) refl h) (omega (arith, w.1)) in
      let is : byte bytes at ≡ s.partition = omega (arith, who) in
      rw (is, cycles) refl

  channel_back : (at : ℕ) (c : Channel) → ChannelWritable c → Holds at (channel_bytes c) → channel_at bytes at ≡ c
  channel_back at c w h =
      let from = in_bytes 1 c.sender.partition in
      let to = in_bytes 1 c.receiver.partition in
      let page = in_bytes 4 c.sender.page in
      let pages = page ++ in_bytes 4 c.receiver.page in
      let after = right at (at + 1) from (to ++ pages) refl h in
      let last = right (at + 1) (at + 2) to pages (omega arith) after in
      let sender = field at 1 c.sender.partition refl (left at from (to ++ pages) h) (omega (arith, w.0)) in
      let receiver = field (at + 1) 1 c.receiver.partition refl (left (at + 1) to pages after) (omega (arith, w.1)) in
      let sends = field (at + 2) 4 c.sender.page refl (left (at + 2) page (in_bytes 4 c.receiver.page) last) (omega (arith, w.2)) in
      let receives = field (at + 6) 4 c.receiver.page refl (right (at + 2) (at + 6) page (in_bytes 4 c.receiver.page) (omega arith) last) (omega (arith, w.3)) in
      let is : byte bytes at ≡ c.sender.partition = omega (arith, sender) in
      let too : byte bytes (at + 1) ≡ c.receiver.partition = omega (arith, receiver) in
      rw (is, too, sends, receives) refl

  -- rows, one after the other
  module _ {X : Type 0} (f : X → List ℕ) (size : ℕ) (long : (x : X) → length (f x) ≡ size) (blank : X) where
    rows_long : (xs : List X) → length (row_bytes f xs) ≡ size * length xs
    rows_long [] = omega arith
    rows_long (x ∷ xs) = length-append (f x) (row_bytes f xs) ∙ (rw (long x, rows_long xs, mul-suc) (omega arith))

    row_held : (at : ℕ) (xs : List X) (k : ℕ) → k < length xs → Holds at (row_bytes f xs) → Holds (at + size * k) (f (get_or xs k blank))
    row_held at [] k l h = absurd (omega (arith, l))
    row_held at (x ∷ xs) zero l h = let place : at ≡ at + size * 0 = omega arith in subst (λ n. Holds n (f x)) place (left at (f x) (row_bytes f xs) h)
    row_held at (x ∷ xs) (suc k) l h =
        let there = row_held (at + size) xs k (omega (arith, l)) (right at (at + size) (f x) (row_bytes f xs) (ap (λ n. at + n) (long x)) h) in
        let place : at + size + size * k ≡ at + size * suc k = rw mul-suc (omega arith) in
        subst (λ n. Holds n (f (get_or xs k blank))) place there

module _ (budget : ℕ) (ps : List Partition) (ss : List Slot) (cs : List Channel) (w : Writable budget ps ss cs) where
  -- what stands where
  bytes : List ℕ
  bytes = written budget ps ss cs

  rest : List ℕ
  rest = row_bytes slot_bytes ss ++ row_bytes channel_bytes cs

  whole : Holds bytes 0 bytes
  unfolding Holds
  whole i l = rw zero-add refl

  at_partitions : Holds bytes 7 (row_bytes partition_bytes ps ++ rest)
  unfolding bytes rest
  at_partitions = right bytes 0 7 (length ps ∷ length ss ∷ length cs ∷ in_bytes 4 budget) (row_bytes partition_bytes ps ++ rest) refl whole

  at_slots : Holds bytes (7 + 6 * length ps) rest
  at_slots = right bytes 7 _ (row_bytes partition_bytes ps) rest (ap (λ n. 7 + n) (rows_long bytes partition_bytes 6 (λ x. refl) no_partition ps)) at_partitions

  at_channels : Holds bytes (7 + 6 * length ps + 5 * length ss) (row_bytes channel_bytes cs)
  unfolding rest
  at_channels = right bytes (7 + 6 * length ps) _ (row_bytes slot_bytes ss) (row_bytes channel_bytes cs) (ap (λ n. 7 + 6 * length ps + n) (rows_long bytes slot_bytes 5 (λ x. refl) no_slot ss)) at_slots

  reads : Reads budget ps ss cs (plan_of bytes)
  unfolding plan_of bytes rest
  reads = record {
    counts = refl;
    cycles = field bytes 3 4 budget refl (left bytes 3 (in_bytes 4 budget) _ (right bytes 0 3 (length ps ∷ length ss ∷ length cs ∷ []) _ refl whole)) (omega (arith, w.cycles));
    each_partition = λ k l.
        rows_at _ no_partition 8 (length ps) k (omega (arith, l, w.few_partitions)) ∙ cond-true _ _ _ (lt-ltb k (length ps) l)
        ∙ partition_back bytes (7 + 6 * k) (get_or ps k no_partition) (w.each_partition k l) (row_held bytes partition_bytes 6 (λ x. refl) no_partition 7 ps k l (left bytes 7 _ rest at_partitions));
    each_slot = λ k l.
        rows_at _ no_slot 64 (length ss) k (omega (arith, l, w.few_slots)) ∙ cond-true _ _ _ (lt-ltb k (length ss) l)
        ∙ slot_back bytes _ (get_or ss k no_slot) (w.each_slot k l) (row_held bytes slot_bytes 5 (λ x. refl) no_slot (7 + 6 * length ps) ss k l (left bytes _ _ (row_bytes channel_bytes cs) at_slots));
    each_channel = λ k l.
        rows_at _ no_channel 16 (length cs) k (omega (arith, l, w.few_channels)) ∙ cond-true _ _ _ (lt-ltb k (length cs) l)
        ∙ channel_back bytes _ (get_or cs k no_channel) (w.each_channel k l) (row_held bytes channel_bytes 10 (λ x. refl) no_channel _ cs k l at_channels);
  }

pub reads_back : ReadsBack
unfolding bytes
reads_back budget ps ss cs w = reads budget ps ss cs w
