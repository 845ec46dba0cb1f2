-- The words of the sample's memory, and what follows for its page tables.
use Rattle.std.proofs.Common.{◌≡◌, ℕ, zero, suc, ◌+◌, ◌*◌, ◌/◌, ◌%◌, ◌<◌, ◌≤◌, true, false, ◌≢◌, List, length, sym, refl, ap, ◌∙◌, arith}
use Rattle.std.proofs.lemmas.List.FromFn.{get_or-map-range_with_len, length-map-range_with_len}
use Rattle.std.proofs.lemmas.Bool.{eq-eqb, ne_eqb, true≢false}
use Rattle.words.specs.Frames.{word}
use Rattle.paging.specs.declared.leaf.Leaf.{Leaf}
use Rattle.paging.specs.Mapping.{InMemory, Pointer}
use Rattle.plan.specs.declared.model.Endpoint.{Endpoint}
use Rattle.plan.specs.declared.model.Plan.{Plan}
use Rattle.plan.specs.Format.{plan_of, rows}
use Rattle.checker.specs.declared.pages.ChannelFrames.{ChannelFrames}
use Rattle.checker.specs.Lawful.{Formed, Joins, Leads, Lent, PagesFit, RootFits, Usable, root}
use Rattle.sample.specs.Memory.{Layout, memory, reads, runs, two, word_in, writes}
use Rattle.sample.specs.Verdicts.{Free}
use Rattle.sample.proofs.Entries.{pointer, reads_leaf, runs_leaf, to_read, to_run, to_write, writes_leaf}
use Rattle.sample.proofs.Tables.{Mapped, its_form, leads_17}

-- what holds at 0 holds below 1
pub at_0 : (P : ℕ → Type 0) → P 0 → (k : ℕ) → k < 1 → P k
at_0 P here zero l = here
at_0 P here (suc k) l = absurd (omega arith)

-- a plan of two partitions, the first with root 0
pub record Rooted (p : Plan) (r : ℕ) : Type 0 where
  pub both : p.counts.partitions ≡ 2
  pub first : root p 0 ≡ 0
  pub second : root p 1 ≡ r

module _ {p : Plan} {r : ℕ} (is : Rooted p r) where
  pub each_root : (P : ℕ → Type 0) → P 0 → P r → (k : ℕ) → k < p.counts.partitions → P (root p k)
  each_root P a b zero l = rw is.first a
  each_root P a b (suc zero) l = rw is.second b
  each_root P a b (suc (suc k)) l = absurd (omega (arith, is.both))

pub two_rooted : Rooted (plan_of two) 3
unfolding plan_of rows
two_rooted = record { both = refl; first = refl; second = refl }

module _ {ws : List ℕ} {p : Plan} where
  -- ends that may be read, and, where they receive, not written
  pub sends : {end : Endpoint} {leaf : Leaf} → Leads ws (root p end.partition) end.page leaf → leaf.readable ≡ true → Usable ws p end false leaf.frame
  sends leads readable = record { leaf = _; leads = leads; readable = readable; not_writable = λ e. absurd (true≢false (sym e)); frame_is = refl }

  pub receives : {end : Endpoint} {leaf : Leaf} → Leads ws (root p end.partition) end.page leaf → leaf.readable ≡ true → leaf.writable ≡ false → Usable ws p end true leaf.frame
  receives leads readable fixed = record { leaf = _; leads = leads; readable = readable; not_writable = λ e. fixed; frame_is = refl }

  pub first_fits : {frames : ChannelFrames} → Joins ws p 0 frames → PagesFit ws p 0
  first_fits joins = record { frames = _; joins = joins; alone = λ j b. absurd (omega arith) }

-- the frames that the rule on channels' pages reads
pub record Tabled (l : Layout) : Type 0 where
  pub enough : 6 < l.frames
  pub table : Free l l.table
  pub below : l.table < 256
  pub mailbox : l.mailbox < 256

module _ (l : Layout) (content : ℕ → ℕ → ℕ) where
  pub long : length (memory l content) ≡ l.frames * 1024
  unfolding memory
  long = length-map-range_with_len (λ i. word_in l content (i / 1024) (i % 1024)) 0 (l.frames * 1024)

  pub roots : {p : Plan} {r : ℕ} → Rooted p r → 0 < r → r < 256 → l.frames ≤ 256 → (k : ℕ) → k < p.counts.partitions → RootFits (memory l content) p k
  roots is some below few zero g = record { few = omega (arith, long, few); below = omega (arith, is.first); own = λ j b e. omega arith }
  roots {p} is some below few (suc zero) g = record {
    few = omega (arith, long, few);
    below = omega (arith, is.second);
    own = at_0 (λ j. root p j ≢ root p 1) (λ e. omega (arith, some, e, is.first, is.second));
  }
  roots is some below few (suc (suc k)) g = absurd (omega (arith, is.both))

  pub word_at : (f k : ℕ) → f < l.frames → k < 1024 → word (memory l content) f k ≡ word_in l content f k
  unfolding memory
  word_at f k lf lk =
      let at = f * 1024 + k in
      let high : at / 1024 ≡ f = omega arith in
      let low : at % 1024 ≡ k = omega arith in
      get_or-map-range_with_len (λ i. word_in l content (i / 1024) (i % 1024)) 0 (l.frames * 1024) at at 0 (omega arith) (omega arith)
      ∙ ap (λ f. word_in l content f (at % 1024)) high ∙ ap (λ k. word_in l content f k) low

  pub lent_at : (f : ℕ) → f < l.frames → Lent (memory l content) f
  lent_at f h = omega (arith, long)

  pub there : (f : ℕ) → f < 256 → f < l.frames → InMemory (memory l content) f
  there f b g = record { below = b; lent = lent_at f g }

  pub mapped_0 : 6 < l.frames → Mapped (memory l content) 0 1 (to_run 2) (to_write 6)
  mapped_0 enough = record {
    entry_16 = runs 2;
    entry_17 = writes 6;
    leaf_16 = runs_leaf 2;
    leaf_17 = writes_leaf 6;
    root_words = λ k g. word_at 0 k (omega (arith, enough)) g;
    table_words = λ k g. word_at 1 k (omega (arith, enough)) g;
    root_there = there 0 (omega arith) (omega (arith, enough));
    table_there = there 1 (omega arith) (omega (arith, enough));
  }

  pub second_points : 6 < l.frames → Pointer (word (memory l content) 3 0) l.table
  second_points enough = rw (word_at 3 0 (omega (arith, enough)) (omega arith)) (pointer l.table)

  module _ (h : Tabled l) where
    pub mapped_1 : Mapped (memory l content) 3 l.table (to_run l.code) (to_read l.mailbox)
    mapped_1 =
        let t = l.table in
        let other : (f : ℕ) → f < 4 → t ≢ f = λ f b e. omega (arith, h.table.0, b, e) in
        record {
          entry_16 = runs l.code;
          entry_17 = reads l.mailbox;
          leaf_16 = runs_leaf l.code;
          leaf_17 = reads_leaf l.mailbox;
          root_words = λ k g. word_at 3 k (omega (arith, h.enough)) g;
          table_words = λ k g. word_at t k h.table.2 g
              ∙ (rw (ne_eqb t 0 (other 0 (omega arith)), ne_eqb t 1 (other 1 (omega arith)), ne_eqb t 3 (other 3 (omega arith)), eq-eqb t t refl) refl);
          root_there = there 3 (omega arith) (omega (arith, h.enough));
          table_there = there t h.below h.table.2;
        }

    pub formed : {p : Plan} → Rooted p 3 → l.code < 256 → (k : ℕ) → k < p.counts.partitions → Formed (memory l content) (root p k)
    formed is code = each_root is (Formed (memory l content)) (its_form (mapped_0 h.enough) (omega arith) (omega arith)) (its_form mapped_1 code h.mailbox)

    pub joins : Joins (memory l content) (plan_of two) 0 (record { sender = 6; receiver = l.mailbox })
    unfolding plan_of rows
    joins = record { sender = sends (leads_17 (mapped_0 h.enough) (omega arith)) refl; receiver = receives (leads_17 mapped_1 h.mailbox) refl refl }

    pub pages : (k : ℕ) → k < (plan_of two).counts.channels → PagesFit (memory l content) (plan_of two) k
    unfolding plan_of
    pages = at_0 (PagesFit (memory l content) (plan_of two)) (first_fits joins)
