-- The sample is accepted in every layout that fits.
use Rattle.std.proofs.Common.{◌≡◌, ℕ, zero, suc, ◌<◌, ◌≢◌, ◌⊎◌, get_or, refl, ◌∙◌, inl, inr, arith}
use Rattle.ranges.specs.Questions.{first, most}
use Rattle.paging.specs.Tables.{PageTableFrame, References}
use Rattle.plan.specs.declared.model.Plan.{Plan}
use Rattle.plan.specs.Format.{plan_of, rows}
use Rattle.plan.specs.Switch.{messages}
use Rattle.plan.proofs.Decides.{kept_lawful}
use Rattle.plan.proofs.Rows.{rows_at}
use Rattle.checker.specs.Checked.{accepted}
use Rattle.checker.specs.Lawful.{AllLent, Apart, Conflict, root}
use Rattle.checker.specs.Pages.{frames_or_none, no_frames}
use Rattle.checker.proofs.Joined as joined
use Rattle.checker.proofs.Judged.{lawful_accepted}
use Rattle.sample.specs.Memory.{Layout, memory, two}
use Rattle.sample.specs.Verdicts.{Accepts, Examples, Fits, Stands, here, there}
use Rattle.sample.proofs.Laid.{Rooted, Tabled, formed, joins, lent_at, mapped_0, mapped_1, pages, roots, two_rooted}
use Rattle.sample.proofs.Tables.{its_frames, its_kernel}

-- the second partition's pages are in no frame of the first, nor in a root or a table; they need not be lent
pub record Spread (l : Layout) : Type 0 where
  pub tabled : Tabled l
  pub code : (3 < l.code) × (l.code ≢ 6)
  pub mailbox : (3 < l.mailbox) × (l.mailbox ≢ 6)
  pub code_apart : l.code ≢ l.table
  pub mailbox_apart : l.mailbox ≢ l.table

module _ (l : Layout) (content : ℕ → ℕ → ℕ) {p : Plan} (is : Rooted p 3) where
  -- where the frames of a partition are
  referenced_at : Tabled l → (k f : ℕ) → k < p.counts.partitions → References (memory l content) (root p k) f →
      ((k ≡ 0) × ((f ≡ 2) ⊎ (f ≡ 6))) ⊎ ((k ≡ 1) × ((f ≡ l.code) ⊎ (f ≡ l.mailbox)))
  referenced_at h zero f b n = inl (refl, its_frames (mapped_0 l content h.enough) f (rw is.first at n))
  referenced_at h (suc zero) f b n = inr (refl, its_frames (mapped_1 l content h) f (rw is.second at n))
  referenced_at h (suc (suc k)) f b n = absurd (omega (arith, is.both))

  held_at : Tabled l → (k f : ℕ) → k < p.counts.partitions → PageTableFrame (memory l content) (root p k) f → ((k ≡ 0) × ((f ≡ 0) ⊎ (f ≡ 1))) ⊎ ((k ≡ 1) × ((f ≡ 3) ⊎ (f ≡ l.table)))
  held_at h zero f b n = inl (refl, its_kernel (mapped_0 l content h.enough) f (rw is.first at n))
  held_at h (suc zero) f b n = inr (refl, its_kernel (mapped_1 l content h) f (rw is.second at n))
  held_at h (suc (suc k)) f b n = absurd (omega (arith, is.both))

  pub none_shared : Spread l → (a b : ℕ) → a < p.counts.partitions → b < p.counts.partitions → Conflict (memory l content) p a b → ⊥
  none_shared h a b la lb (f, n, inl m) = let x = referenced_at h.tabled a f la n in let y = referenced_at h.tabled b f lb m.1 in let z = m.0 in grind arith
  none_shared h a b la lb (f, n, inr k) = let x = referenced_at h.tabled a f la n in let y = held_at h.tabled b f lb k in grind arith

  pub all_apart : Spread l → (k : ℕ) → k < p.counts.partitions → Apart (memory l content) p k
  all_apart h k b j le (inl c) = none_shared h k j b (omega arith) c
  all_apart h k b j le (inr c) = none_shared h j k (omega arith) b c

pub tabled : (l : Layout) → Fits l → Tabled l
tabled l h = grind arith

pub spread : (l : Layout) → Fits l → Spread l
spread l h = record { tabled = tabled l h; code = (h.code.0, h.code.1); mailbox = (h.mailbox.0, h.mailbox.1); code_apart = h.code_apart; mailbox_apart = h.mailbox_apart }

pub all_lent : (l : Layout) (content : ℕ → ℕ → ℕ) {p : Plan} → Rooted p 3 → Fits l → AllLent (memory l content) p
all_lent l content is h k f b n = let x = referenced_at l content is (tabled l h) k f b n in lent_at l content f (grind arith)

pub channels_1 : (plan_of two).counts.channels ≡ 1
unfolding plan_of
channels_1 = refl

module _ (l : Layout) (content : ℕ → ℕ → ℕ) (h : Fits l) where
  frames : get_or (accepted (memory l content) (plan_of two)).frames 0 no_frames ≡ record { sender = 6; receiver = l.mailbox }
  unfolding plan_of
  frames =
      rows_at (frames_or_none (memory l content) (plan_of two)) no_frames 16 (plan_of two).counts.channels 0 (omega arith)
      ∙ (rw channels_1 (joined.frames_kept (memory l content) (plan_of two) 0 (record { sender = 6; receiver = l.mailbox }) (joins l content (tabled l h))))

  stands : Stands l content
  unfolding first most messages plan_of rows
  stands = record {
    verdict = lawful_accepted two (memory l content) (record {
      plan = kept_lawful two refl refl refl refl refl refl refl;
      pages = pages l content (tabled l h);
      roots = roots l content two_rooted (omega arith) (omega arith) h.few;
      tables = formed l content (tabled l h) two_rooted (omega (arith, h.code.2, h.few));
      apart = none_shared l content two_rooted (spread l h);
      all_lent = all_lent l content two_rooted h;
    });
    joined = frames;
  }

pub accepts : Accepts
accepts l h content = stands l content h

pub here_fits : Fits here
here_fits = grind arith

pub there_fits : Fits there
there_fits = grind arith

pub examples : Examples
unfolding first most messages plan_of rows
examples = record { budget = refl; one = accepts here here_fits; other = accepts there there_fits }
