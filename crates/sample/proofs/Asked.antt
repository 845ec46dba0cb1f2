-- What the checker answers where a plan keeps its own rules: the first rule on frames that refuses decides.
use Rattle.std.proofs.Common.{◌≡◌, ℕ, ◌<◌, Bool, true, false, List, Some, None, Err, Decides, Option, sym, refl, ap, subst, inl, inr, arith}
use Rattle.std.proofs.lemmas.Bool.{cases_Bool}
use Rattle.std.specs.Option.{option_or}
use Rattle.ranges.specs.Questions.{any, first, unless}
use Rattle.ranges.proofs.Questions.{any_here, below_none, first_stays}
use Rattle.plan.specs.declared.model.Endpoint.{Endpoint}
use Rattle.plan.specs.declared.model.Plan.{Plan}
use Rattle.plan.specs.declared.refusal.Refusal.{Refusal}
use Rattle.plan.specs.declared.refusal.Refusal.TheVariants.{ChannelPage, FrameShared, FramesMissing, RootRule, TableMalformed}
use Rattle.plan.specs.Rules.{budget_fault, channel, channel_fault, count_fault, slot_fault, start_fault, surplus, truncated}
use Rattle.checker.specs.declared.fault.Fault.{Fault}
use Rattle.checker.specs.declared.fault.Fault.TheVariants.{Broken}
use Rattle.checker.specs.declared.pages.ChannelFrames.{ChannelFrames}
use Rattle.checker.specs.Checked.{accepted, first_refusal}
use Rattle.checker.specs.Faults.{refused_by, refused_with}
use Rattle.checker.specs.Lawful.{AllLent, Apart, Formed, Joins, Leads, PagesFit, RootFits, Usable, root}
use Rattle.checker.specs.Pages.{channel_frames, end_frame, pages_fault, pages_refusal, meets, touch, touches}
use Rattle.checker.specs.Roots.{root_kept, root_refusal}
use Rattle.checker.specs.Sharing.{apart_kept, lent_kept, lent_refusal, share_refusal}
use Rattle.checker.specs.Tables.{root_fault, table_refusal}
use Rattle.checker.proofs.Conflicts.{apart_decides, lent_decides}
use Rattle.checker.proofs.Ended.{leads_looked, usable_end}
use Rattle.checker.proofs.Forms.{formed_none}
use Rattle.checker.proofs.Joined.{fit_none, joins_behind}
use Rattle.checker.proofs.Staged.{root_decides}
use Rattle.sample.proofs.Entries.{to_write}

refuted : {P : Type 0} (t : Bool) → Decides t P → (P → ⊥) → t ≡ false
refuted t d h = elim (cases_Bool t) [ inl e ↦ absurd (h (d.0 e)) | inr e ↦ e ]

-- the first of the rules that a plan keeps by itself that refuses
unfoldable pub own_refusal : List ℕ → Plan → Option Refusal
own_refusal bytes p =
    option_or (truncated bytes p) (option_or (first (count_fault p.counts) 3) (option_or (first (slot_fault p) p.counts.slots)
    (option_or (first (channel_fault p) p.counts.channels) (option_or (first (start_fault p) p.counts.partitions) (option_or (budget_fault p) (surplus bytes p))))))

-- the first answer, where those before it are known
pub answers : {X : Type 0} (a : ℕ → Option X) (k n : ℕ) (e : X) → k < n → ((j : ℕ) → j < k → a j ≡ None) → a k ≡ Some e → first a n ≡ Some e
answers a k n e l before here = first_stays a k n e l (below_none a k before) here

module _ (ws : List ℕ) (p : Plan) where
  page_none : (k : ℕ) → PagesFit ws p k → pages_refusal ws p k ≡ None
  page_none k h = rw (fit_none ws p k h) refl

  root_none : (k : ℕ) → RootFits ws p k → root_refusal ws p k ≡ None
  root_none k h = rw ((root_decides ws p k).1 h) refl

  table_none : (k : ℕ) → Formed ws (root p k) → table_refusal ws p k ≡ None
  table_none k h = rw (formed_none ws (root p k) h) refl

  share_none : (ok : (k : ℕ) → k < p.counts.partitions → Formed ws (root p k)) (k : ℕ) → k < p.counts.partitions → Apart ws p k → share_refusal ws p k ≡ None
  share_none ok k l h = rw ((apart_decides ws p k (λ q b. ok q (omega arith))).1 h) refl

  -- a page that may be written receives on nothing
  pub written_end : (end : Endpoint) (f : ℕ) → Leads ws (root p end.partition) end.page (to_write f) → end_frame ws p end true ≡ Err Broken
  unfolding end_frame
  written_end end f h = rw (leads_looked ws (root p end.partition) end.page _ h) refl

  pub receiver_fault : (k f : ℕ) → Usable ws p (channel p k).sender false f → end_frame ws p (channel p k).receiver true ≡ Err Broken → pages_fault ws p k ≡ Some Broken
  unfolding pages_fault channel_frames
  receiver_fault k f u e = rw (usable_end ws p (channel p k).sender false f u, e) refl

  -- a channel with a frame behind a page of an earlier one
  pub taken_fault_at : (k j : ℕ) → j < k → (a b : ChannelFrames) → Joins ws p k a → Joins ws p j b → touch a b ≡ true → pages_fault ws p k ≡ Some Broken
  unfolding pages_fault meets
  taken_fault_at k j l a b ours theirs both =
      let met : touches a (channel_frames ws p j) ≡ true = rw (joins_behind ws p j b theirs) both in
      rw (joins_behind ws p k a ours) (rw (any_here (meets ws p a) k j l met) refl)

  -- two channels that join frames of their own
  pub two_apart : p.counts.channels ≡ 2 → {a b : ChannelFrames} → Joins ws p 0 a → Joins ws p 1 b → touch b a ≡ false → first (pages_refusal ws p) p.counts.channels ≡ None
  unfolding any pages_fault meets first
  two_apart many {a} {b} one other apart = subst (λ n. first (pages_refusal ws p) n ≡ None) (sym many) (simp (joins_behind ws p 0 a one, joins_behind ws p 1 b other, apart))

module _ (bytes ws : List ℕ) (p : Plan) where
  -- the verdict on the plan
  abbrev pub Answered : Refusal → Type 0
  Answered e = unless (first_refusal bytes ws p) (accepted ws p) ≡ Err e

  -- where the rules on frames are kept, its own decide
  pub frames_kept : first (pages_refusal ws p) p.counts.channels ≡ None → ((k : ℕ) → k < p.counts.partitions → RootFits ws p k) →
      (ok : (k : ℕ) → k < p.counts.partitions → Formed ws (root p k)) → ((k : ℕ) → k < p.counts.partitions → Apart ws p k) → AllLent ws p → first_refusal bytes ws p ≡ own_refusal bytes p
  unfolding first_refusal own_refusal
  frames_kept pages roots ok apart lent = rw (
    pages,
    below_none (root_refusal ws p) p.counts.partitions (λ k l. root_none ws p k (roots k l)),
    below_none (table_refusal ws p) p.counts.partitions (λ k l. table_none ws p k (ok k l)),
    below_none (share_refusal ws p) p.counts.partitions (λ k l. share_none ws p ok k l (apart k l)),
    (lent_decides ws p ok).1 lent,
  ) refl

  module _ (own : own_refusal bytes p ≡ None) where
    -- the first rule on frames that refuses decides
    refused : (e : Refusal) →
        option_or (first (pages_refusal ws p) p.counts.channels) (option_or (first (root_refusal ws p) p.counts.partitions) (option_or (first (table_refusal ws p) p.counts.partitions)
        (option_or (first (share_refusal ws p) p.counts.partitions) (lent_refusal ws p)))) ≡ Some e → Answered e
    unfolding first_refusal own_refusal
    refused e asked = let z : own_refusal bytes p ≡ None = own in grind arith

    pub page_refused : (k : ℕ) (f : Fault) → k < p.counts.channels → ((j : ℕ) → j < k → PagesFit ws p j) → pages_fault ws p k ≡ Some f → Answered (refused_with (ChannelPage k) f)
    page_refused k f l before here = refused _ (rw (answers (pages_refusal ws p) k _ _ l (λ j b. page_none ws p j (before j b)) (ap (refused_by (ChannelPage k)) here)) refl)

    module _ (pages : (k : ℕ) → k < p.counts.channels → PagesFit ws p k) where
      no_page : first (pages_refusal ws p) p.counts.channels ≡ None
      no_page = below_none (pages_refusal ws p) p.counts.channels (λ k l. page_none ws p k (pages k l))

      pub root_refused : (k : ℕ) → k < p.counts.partitions → ((j : ℕ) → j < k → RootFits ws p j) → (RootFits ws p k → ⊥) → Answered (RootRule k)
      root_refused k l before not_fit =
          let here : root_refusal ws p k ≡ Some (RootRule k) = rw (refuted (root_kept ws p k) (root_decides ws p k) not_fit) refl in
          refused _ (rw (no_page, answers (root_refusal ws p) k _ _ l (λ j b. root_none ws p j (before j b)) here) refl)

      module _ (roots : (k : ℕ) → k < p.counts.partitions → RootFits ws p k) where
        no_root : first (root_refusal ws p) p.counts.partitions ≡ None
        no_root = below_none (root_refusal ws p) p.counts.partitions (λ k l. root_none ws p k (roots k l))

        pub table_refused : (k : ℕ) (f : Fault) → k < p.counts.partitions → ((j : ℕ) → j < k → Formed ws (root p j)) → root_fault ws (root p k) ≡ Some f → Answered (refused_with (TableMalformed k) f)
        table_refused k f l before here =
            refused _ (rw (no_page, no_root, answers (table_refusal ws p) k _ _ l (λ j b. table_none ws p j (before j b)) (ap (refused_by (TableMalformed k)) here)) refl)

        module _ (ok : (k : ℕ) → k < p.counts.partitions → Formed ws (root p k)) where
          no_table : first (table_refusal ws p) p.counts.partitions ≡ None
          no_table = below_none (table_refusal ws p) p.counts.partitions (λ k l. table_none ws p k (ok k l))

          pub share_refused : (k : ℕ) → k < p.counts.partitions → ((j : ℕ) → j < k → Apart ws p j) → (Apart ws p k → ⊥) → Answered (FrameShared k)
          share_refused k l before not_apart =
              let here : share_refusal ws p k ≡ Some (FrameShared k) = rw (refuted (apart_kept ws p k) (apart_decides ws p k (λ q b. ok q (omega arith))) not_apart) refl in
              refused _ (rw (no_page, no_root, no_table, answers (share_refusal ws p) k _ _ l (λ j b. share_none ws p ok j (omega arith) (before j b)) here) refl)

          pub lent_refused : ((k : ℕ) → k < p.counts.partitions → Apart ws p k) → (AllLent ws p → ⊥) → Answered FramesMissing
          lent_refused apart missing =
              let here : lent_refusal ws p ≡ Some FramesMissing = rw (refuted (lent_kept ws p) (lent_decides ws p ok) missing) refl in
              refused _ (rw (no_page, no_root, no_table, below_none (share_refusal ws p) p.counts.partitions (λ k l. share_none ws p ok k l (apart k l)), here) refl)
