-- The sample with one rule broken, and what the checker answers.
use Rattle.std.proofs.Common.{◌≡◌, ℕ, zero, suc, ◌<◌, ◌≤◌, true, false, List, Some, None, Err, refl, ◌∙◌, inl, inr, arith}
use Rattle.std.proofs.lemmas.Bool.{ne_eqb}
use Rattle.ranges.specs.Questions.{first, most}
use Rattle.words.specs.Bytes.{number}
use Rattle.words.specs.Frames.{word}
use Rattle.ranges.proofs.Questions.{any_here}
use Rattle.paging.specs.Entries.{flag, is_valid}
use Rattle.plan.specs.Switch.{messages}
use Rattle.plan.specs.declared.model.Plan.{Plan}
use Rattle.plan.specs.declared.refusal.Refusal.TheVariants.{ChannelPage, FrameShared, FramesMissing, RootRule, TableMalformed}
use Rattle.plan.specs.Format.{plan_of, rows}
use Rattle.plan.specs.Rules.{channel}
use Rattle.plan.specs.Written.{in_bytes}
use Rattle.checker.specs.declared.fault.Fault.TheVariants.{Broken, NotLent}
use Rattle.checker.specs.Checked.{checked}
use Rattle.checker.specs.Lawful.{Apart, Conflict, Formed, Joins, Lent, PagesFit, PagesUnread, PageUnread, RootFits, TablesUnread, Usable, root}
use Rattle.checker.specs.Tables.{bad_leaf_at, bad_table, entry_fault, entry_fault_at, root_fault, table_fault}
use Rattle.checker.proofs.Forms as forms
use Rattle.checker.proofs.Forms.{lent_tells}
use Rattle.checker.proofs.Joined as joined
use Rattle.checker.proofs.Leading.{named_leaf}
use Rattle.sample.specs.Memory.{Layout, memory, two}
use Rattle.sample.specs.Verdicts.{Refuses, crowded, forked, here, one_root, own, past, shared, short, tableless, turned, unjoined}
use Rattle.sample.proofs.Asked.{answers, lent_refused, own_refusal, page_refused, receiver_fault, root_refused, share_refused, table_refused, taken_fault_at, written_end}
use Rattle.sample.proofs.Laid.{Rooted, Tabled, at_0, each_root, first_fits, formed, lent_at, long, mapped_0, mapped_1, pages, receives, roots, second_points, sends, there, two_rooted, word_at}
use Rattle.sample.proofs.Tables.{its_form, its_frames, its_kernel, leads_16, leads_17, names_16, not_valid}
use Rattle.sample.proofs.Verdicts.{Spread, all_apart}

pub here_tabled : Tabled here
here_tabled = grind arith

short_spread : Spread short
short_spread = grind arith

-- the plans keep their own rules, so a refusal is that of the first rule on frames
abbrev Keeps : List ℕ → Type 0
Keeps bytes = own_refusal bytes (plan_of bytes) ≡ None

own_kept : Keeps two × Keeps turned × Keeps one_root × Keeps forked × ((r : ℕ) → Keeps (unjoined r))
unfolding first most messages plan_of rows own_refusal
own_kept = (refl, refl, refl, refl, λ r. refl)

unjoined_rooted : (r : ℕ) → number (in_bytes 2 r) 0 2 ≡ r → Rooted (plan_of (unjoined r)) r
unfolding plan_of rows
unjoined_rooted r is = record { both = refl; first = refl; second = is }

-- an entry of a root that is lent breaks the rule, and none before it is at fault
root_broken : (ws : List ℕ) (r k : ℕ) → Lent ws r → k < 1024 → ((j : ℕ) → j < k → entry_fault_at ws r j ≡ None) → entry_fault_at ws r k ≡ Some Broken → root_fault ws r ≡ Some Broken
unfolding root_fault
root_broken ws r k there l before here = rw ((lent_tells ws r).1 there) (answers (entry_fault_at ws r) k 1024 Broken l before here)

module _ (content : ℕ → ℕ → ℕ) where
  receiver_writes : checked turned (memory here content) ≡ Err (ChannelPage 0)
  unfolding checked plan_of rows
  receiver_writes =
      let ws = memory here content in
      let p = plan_of turned in
      let sender : Usable ws p (channel p 0).sender false 7 = sends (leads_17 (mapped_1 here content here_tabled) (omega arith)) refl in
      page_refused turned ws p own_kept.1 0 Broken (omega arith) (λ j b. absurd (omega arith))
      (receiver_fault ws p 0 7 sender (written_end ws p (channel p 0).receiver 6 (leads_17 (mapped_0 here content (omega arith)) (omega arith))))

  root_twice : checked one_root (memory here content) ≡ Err (RootRule 1)
  unfolding checked plan_of rows
  root_twice =
      let ws = memory here content in
      let p = plan_of one_root in
      let m = mapped_0 here content (omega arith) in
      let joins : Joins ws p 0 (record { sender = 6; receiver = 2 }) = record { sender = sends (leads_17 m (omega arith)) refl; receiver = receives (leads_16 m (omega arith)) refl refl } in
      let fits : RootFits ws p 0 = record { few = omega (arith, long here content); below = omega arith; own = λ j b e. omega arith } in
      root_refused one_root ws p own_kept.2 (at_0 (PagesFit ws p) (first_fits joins)) 1 (omega arith) (at_0 (RootFits ws p) fits) (λ f. f.own 0 (omega arith) refl)

  too_many : checked two (memory crowded content) ≡ Err (RootRule 0)
  unfolding checked plan_of
  too_many =
      root_refused two (memory crowded content) (plan_of two) own_kept.0 (pages crowded content (grind arith)) 0 (omega arith) (λ j b. absurd (omega arith))
      (λ f. omega (arith, long crowded content, f.few))

  past_table : table_fault (memory past content) 4 ≡ Some Broken
  unfolding table_fault bad_table flag
  past_table =
      let ws = memory past content in
      let leaf : bad_leaf_at ws 4 16 ≡ true = rw (word_at past content 4 16 (omega arith) (omega arith)) refl in
      rw ((lent_tells ws 4).1 (lent_at past content 4 (omega arith)), any_here (bad_leaf_at ws 4) 1024 16 (omega arith) leaf) refl

  past_root : root_fault (memory past content) 3 ≡ Some Broken
  unfolding entry_fault flag
  past_root =
      let ws = memory past content in
      root_broken ws 3 0 (lent_at past content 3 (omega arith)) (omega arith) (λ j b. absurd (omega arith)) (rw (word_at past content 3 0 (omega arith) (omega arith)) past_table)

  no_frame : checked two (memory past content) ≡ Err (TableMalformed 1)
  unfolding checked plan_of rows
  no_frame =
      let ws = memory past content in
      let p = plan_of two in
      table_refused two ws p own_kept.0 (pages past content (grind arith)) (roots past content two_rooted (omega arith) (omega arith) (omega arith)) 1 Broken (omega arith)
      (at_0 (λ j. Formed ws (root p j)) (its_form (mapped_0 past content (omega arith)) (omega arith) (omega arith))) past_root

  -- the first partition is in conflict with none before it, itself included, whatever the plan says of the second
  no_conflict_0 : (l : Layout) → 6 < l.frames → {p : Plan} {r : ℕ} → Rooted p r → Conflict (memory l content) p 0 0 → ⊥
  no_conflict_0 l enough is (f, n, inl m) = m.0 refl
  no_conflict_0 l enough is (f, n, inr k) =
      let x = its_frames (mapped_0 l content enough) f (rw is.first at n) in
      let y = its_kernel (mapped_0 l content enough) f (rw is.first at k) in
      grind arith

  apart_0 : (l : Layout) → 6 < l.frames → {p : Plan} {r : ℕ} → Rooted p r → Apart (memory l content) p 0
  apart_0 l enough is zero g c = elim c [ inl x ↦ no_conflict_0 l enough is x | inr x ↦ no_conflict_0 l enough is x ]
  apart_0 l enough is (suc j) g c = omega arith

  -- a second partition that is not apart is refused
  second_shares : (l : Layout) → Tabled l → l.code < 256 → l.frames ≤ 256 → (Apart (memory l content) (plan_of two) 1 → ⊥) → checked two (memory l content) ≡ Err (FrameShared 1)
  unfolding checked plan_of
  second_shares l h code few not_apart =
      let ws = memory l content in
      share_refused two ws (plan_of two) own_kept.0 (pages l content h) (roots l content two_rooted (omega arith) (omega arith) few) (formed l content h two_rooted code) 1 (omega arith)
      (at_0 (Apart ws (plan_of two)) (apart_0 l h.enough two_rooted)) not_apart

  -- the second references the first one's frame 2
  both_name : checked two (memory shared content) ≡ Err (FrameShared 1)
  unfolding plan_of rows
  both_name =
      let h : Tabled shared = grind arith in
      second_shares shared h (omega arith) (omega arith) (λ apart.
      apart 0 (omega arith) (inl (2, names_16 (mapped_1 shared content h), inl ((λ e. omega arith), names_16 (mapped_0 shared content (omega arith))))))

  -- the second references frame 4, its table
  names_own : checked two (memory own content) ≡ Err (FrameShared 1)
  unfolding plan_of rows
  names_own =
      let h : Tabled own = grind arith in
      second_shares own h (omega arith) (omega arith) (λ apart.
      apart 1 (omega arith) (inl (4, names_16 (mapped_1 own content h), inr (inr (record { at = 0; within = omega arith; points = second_points own content (omega arith) })))))

  mailbox_missing : checked two (memory short content) ≡ Err FramesMissing
  unfolding checked plan_of rows
  mailbox_missing =
      let ws = memory short content in
      let h = short_spread.tabled in
      lent_refused two ws (plan_of two) own_kept.0 (pages short content h) (roots short content two_rooted (omega arith) (omega arith) (omega arith))
      (formed short content h two_rooted (omega arith)) (all_apart short content two_rooted short_spread)
      (λ all. omega (arith, long short content, all 1 7 (omega arith) (named_leaf ws 3 17 _ (leads_17 (mapped_1 short content h) (omega arith)))))

  table_missing : checked two (memory tableless content) ≡ Err FramesMissing
  unfolding checked plan_of rows
  table_missing =
      let ws = memory tableless content in
      let p = plan_of two in
      let unread : PagesUnread ws p 0 = inr (
        (6, sends (leads_17 (mapped_0 tableless content (omega arith)) (omega arith)) refl),
        PageUnread.no_table 0 17 8 (omega arith) (omega arith) refl (there tableless content 3 (omega arith) (omega arith)) (second_points tableless content (omega arith)) (omega arith)
            (λ lent. omega (arith, long tableless content, lent)),
      ) in
      page_refused two ws p own_kept.0 0 NotLent (omega arith) (λ j b. absurd (omega arith)) (joined.unread_unlent ws p 0 unread)

  -- without a channel, the rules on page tables and what they share decide
  table_unread : checked (unjoined 3) (memory tableless content) ≡ Err FramesMissing
  unfolding checked plan_of rows
  table_unread =
      let ws = memory tableless content in
      let p = plan_of (unjoined 3) in
      let unread : TablesUnread ws 3 =
      TablesUnread.no_table 0 8 (omega arith) (second_points tableless content (omega arith)) (omega arith) (λ lent. omega (arith, long tableless content, lent)) (λ j b. absurd (omega arith)) in
      table_refused (unjoined 3) ws p (own_kept.4 3) (λ k l. absurd (omega arith)) (roots tableless content (unjoined_rooted 3 refl) (omega arith) (omega arith) (omega arith))
      1 NotLent (omega arith) (at_0 (λ j. Formed ws (root p j)) (its_form (mapped_0 tableless content (omega arith)) (omega arith) (omega arith))) (forms.unread_unlent ws 3 unread)

  -- the first table as a root has no valid entry before its leaf at 16
  leaf_at_16 : root_fault (memory here content) 1 ≡ Some Broken
  unfolding entry_fault flag
  leaf_at_16 =
      let words = word_at here content 1 in
      root_broken (memory here content) 1 16 (lent_at here content 1 (omega arith)) (omega arith)
      (λ j l. rw (words j (omega arith) (omega arith), ne_eqb j 16 (λ e. omega arith), ne_eqb j 17 (λ e. omega arith)) refl) (rw (words 16 (omega arith) (omega arith)) refl)

  leaf_in_root : checked (unjoined 1) (memory here content) ≡ Err (TableMalformed 1)
  unfolding checked plan_of rows
  leaf_in_root =
      let ws = memory here content in
      let p = plan_of (unjoined 1) in
      table_refused (unjoined 1) ws p (own_kept.4 1) (λ k l. absurd (omega arith)) (roots here content (unjoined_rooted 1 refl) (omega arith) (omega arith) (omega arith))
      1 Broken (omega arith) (at_0 (λ j. Formed ws (root p j)) (its_form (mapped_0 here content (omega arith)) (omega arith) (omega arith))) leaf_at_16

  module _ (zeros : (k : ℕ) → content 2 k ≡ 0) where
    nothing_in_2 : (k : ℕ) → k < 1024 → is_valid (word (memory here content) 2 k) ≡ true → ⊥
    nothing_in_2 k l v = not_valid (rw (word_at here content 2 k (omega arith) l ∙ zeros k) at v)

    formed_2 : Formed (memory here content) 2
    formed_2 = record {
      there = lent_at here content 2 (omega arith);
      entries = λ k l. record {
        points = λ v. absurd (nothing_in_2 k l v);
        there = λ v. absurd (nothing_in_2 k l v);
        formed = λ v. absurd (nothing_in_2 k l v);
      };
    }

    root_named : checked (unjoined 2) (memory here content) ≡ Err (FrameShared 1)
    unfolding checked plan_of rows
    root_named =
        let ws = memory here content in
        let m = mapped_0 here content (omega arith) in
        let p = plan_of (unjoined 2) in
        let rooted = unjoined_rooted 2 refl in
        share_refused (unjoined 2) ws p (own_kept.4 2) (λ k l. absurd (omega arith)) (roots here content rooted (omega arith) (omega arith) (omega arith))
        (each_root rooted (Formed ws) (its_form m (omega arith) (omega arith)) formed_2) 1 (omega arith) (at_0 (Apart ws p) (apart_0 here (omega arith) rooted))
        (λ apart. apart 0 (omega arith) (inr (2, names_16 m, inr (inl refl))))

  -- both channels of the forked plan join frames, and the sender's is the same
  sends_twice : checked forked (memory here content) ≡ Err (ChannelPage 1)
  unfolding checked plan_of rows
  sends_twice =
      let ws = memory here content in
      let p = plan_of forked in
      let sender = leads_17 (mapped_0 here content (omega arith)) (omega arith) in
      let m = mapped_1 here content here_tabled in
      let one : Joins ws p 0 (record { sender = 6; receiver = 7 }) = record { sender = sends sender refl; receiver = receives (leads_17 m (omega arith)) refl refl } in
      let other : Joins ws p 1 (record { sender = 6; receiver = 5 }) = record { sender = sends sender refl; receiver = receives (leads_16 m (omega arith)) refl refl } in
      page_refused forked ws p own_kept.3 1 Broken (omega arith) (at_0 (PagesFit ws p) (first_fits one)) (taken_fault_at ws p 1 0 (omega arith) _ _ other one refl)

pub refuses : Refuses
refuses = record {
  receiver_writes = receiver_writes;
  root_twice = root_twice;
  too_many = too_many;
  no_frame = no_frame;
  both_name = both_name;
  mailbox_missing = mailbox_missing;
  table_missing = table_missing;
  table_unread = table_unread;
  names_own = names_own;
  root_named = root_named;
  sends_twice = sends_twice;
  leaf_in_root = leaf_in_root;
}
