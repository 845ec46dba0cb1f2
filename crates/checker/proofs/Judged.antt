-- The checker's answer is the verdict that the rules ask for.
use Rattle.std.proofs.Common.{◌≡◌, ℕ, ◌<◌, Bool, true, false, List, ◌∷◌, get_or, Some, None, Ok, Option, sym, refl, ◌∙◌, subst, inl, inr, arith}
use Rattle.std.proofs.lemmas.Bool.{cases_eq, cases_lt, cond-true, lt-ltb}
use Rattle.std.proofs.lemmas.Result.{MatchResult-at_ok}
use Rattle.std.specs.Option.{option_or}
use Rattle.ranges.specs.Questions.{first}
use Rattle.ranges.proofs.Questions.{none_below}
use Rattle.paging.specs.declared.leaf.Leaf.{Leaf}
use Rattle.paging.specs.Mapping.{Maps}
use Rattle.paging.specs.Tables.{References}
use Rattle.paging.proofs.Agree.{leaves_named}
use Rattle.plan.specs.declared.model.Endpoint.{Endpoint}
use Rattle.plan.specs.declared.refusal.Count.TheVariants.{Channels}
use Rattle.plan.specs.declared.refusal.Refusal.{Refusal}
use Rattle.plan.specs.declared.refusal.Refusal.TheVariants.{Truncated, CountRange, SlotRule, ChannelRule, ChannelPage, RootRule, TableMalformed, FrameShared, StartMisaligned, BudgetRule, FramesMissing, Surplus}
use Rattle.plan.specs.Format.{plan_of}
use Rattle.plan.specs.Refused.{Ranked, turns}
use Rattle.plan.specs.Rules.{budget_fault, channel, channel_fault, count_fault, slot_fault, start_fault, surplus, truncated}
use Rattle.plan.proofs.Decides.{all_ranked, kept_lawful, passed}
use Rattle.plan.proofs.Rows.{rows_at}
use Rattle.checker.specs.declared.Accepted.{Accepted}
use Rattle.checker.specs.Checked.{accepted, checked, first_refusal}
use Rattle.checker.specs.Pages.{pages_fault, frames_or_none, pages_refusal, no_frames}
use Rattle.checker.specs.Roots.{root_refusal}
use Rattle.checker.specs.Sharing.{lent_refusal, share_refusal}
use Rattle.checker.specs.Tables.{table_refusal}
use Rattle.checker.specs.Lawful.{Apart, Leads, Usable, root}
use Rattle.checker.specs.Found.{AcceptedSeparate, AcceptedUnshared, FrameOf, ChannelJoins, Finding, FirstFound, Found, Judges, Lawful, Separate, Sound, found_at, refusal_of, rule_of}
use Rattle.checker.specs.Found.Finding.{broken, pages_unread, tables_unread}
use Rattle.checker.proofs.Chain.{Asked, chain, last}
use Rattle.checker.proofs.Forms as forms
use Rattle.checker.proofs.Joined as joined
use Rattle.checker.proofs.Conflicts.{apart_decides, lent_decides}
use Rattle.checker.proofs.Leading.{leads_maps, named_leaf}
use Rattle.checker.proofs.Staged.{Staged, all_formed, budget_stage, channels_stage, counts_stage, lent_stage, pages_stage, refused_none, root_decides, roots_stage, sharing_stage, slots_stage, starts_stage, surplus_stage, tables_stage, truncated_stage}

all_none : (a b c d e f g h i j k l : Option Refusal) →
    option_or a (option_or b (option_or c (option_or d (option_or e (option_or f (option_or g (option_or h (option_or i (option_or j (option_or k l)))))))))) ≡ None →
    (a ≡ None) × (b ≡ None) × (c ≡ None) × (d ≡ None) × (e ≡ None) × (f ≡ None) × (g ≡ None) × (h ≡ None) × (i ≡ None) × (j ≡ None) × (k ≡ None) × (l ≡ None)
all_none a b c d e f g h i j k l none = grind arith

-- the rule of a finding has a turn
pub ranked : (d : Finding) → Ranked (rule_of d)
ranked (broken e) = all_ranked e
ranked (pages_unread k) = all_ranked (ChannelPage k)
ranked (tables_unread k) = all_ranked (TableMalformed k)

module _ (bytes words : List ℕ) where
  abbrev AskedSo : Option Refusal → List ℕ → Type 0
  AskedSo s ns = Asked rule_of found_at refusal_of (Found bytes words) s ns

  next : (s r : Option Refusal) (n : ℕ) (ns : List ℕ) → Staged bytes words s n → (s ≡ None → AskedSo r ns) → AskedSo (option_or s r) (n ∷ ns)
  next = chain rule_of found_at refusal_of (Found bytes words)

  all : AskedSo (first_refusal bytes words (plan_of bytes)) turns
  unfolding first_refusal
  all =
      next _ _ _ _ (truncated_stage bytes words) (λ _.
      next _ _ _ _ (counts_stage bytes words) (λ _.
      next _ _ _ _ (slots_stage bytes words) (λ _.
      next _ _ _ _ (channels_stage bytes words) (λ _.
      next _ _ _ _ (pages_stage bytes words) (λ _.
      next _ _ _ _ (roots_stage bytes words) (λ _.
      next _ _ _ _ (tables_stage bytes words) (λ formed.
      next _ _ _ _ (sharing_stage bytes words (all_formed bytes words formed)) (λ _.
      next _ _ _ _ (starts_stage bytes words) (λ _.
      next _ _ _ _ (budget_stage bytes words) (λ _.
      next _ _ _ _ (lent_stage bytes words (all_formed bytes words formed)) (λ _.
      last rule_of found_at refusal_of (Found bytes words) _ _ (surplus_stage bytes words))))))))))))

  -- nothing is found where all rules are kept
  lawful_none : Lawful bytes words → (d : Finding) → Found bytes words d → ⊥
  unfolding Found
  lawful_none h (broken (Truncated at)) b = omega (arith, h.plan.whole, b.0)
  lawful_none h (broken (CountRange c)) b = b (h.plan.counts c)
  lawful_none h (broken (SlotRule k)) b = b.1 (h.plan.slots k b.0)
  lawful_none h (broken (ChannelRule k)) b = b.1 (h.plan.channels k b.0)
  lawful_none h (broken (ChannelPage k)) b = b.2 (h.pages k b.0)
  lawful_none h (broken (RootRule k)) b = b.1 (h.roots k b.0)
  lawful_none h (broken (TableMalformed k)) b = b.2 (h.tables k b.0)
  lawful_none h (broken (FrameShared k)) b = b.1 (λ j l c. elim c [ inl x ↦ h.apart k j b.0 (omega (arith, b.0)) x | inr x ↦ h.apart j k (omega (arith, b.0)) b.0 x ])
  lawful_none h (broken (StartMisaligned k)) b = b.1 (h.plan.starts k b.0)
  lawful_none h (broken BudgetRule) b = b h.plan.budget
  lawful_none h (broken FramesMissing) b = b h.all_lent
  lawful_none h (broken (Surplus at)) b = omega (arith, h.plan.no_surplus, b.0)
  lawful_none h (pages_unread k) b = let e = joined.unread_unlent words (plan_of bytes) k b.1 in let f = joined.fit_none words (plan_of bytes) k (h.pages k b.0) in cc
  lawful_none h (tables_unread k) b =
      let r = root (plan_of bytes) k in
      let e = forms.unread_unlent words r b.1 in let f = forms.formed_none words r (h.tables k b.0) in cc

  -- where no rule refuses, all are kept
  none_lawful : first_refusal bytes words (plan_of bytes) ≡ None → Lawful bytes words
  unfolding first_refusal
  none_lawful none =
      let p = plan_of bytes in
      let n = all_none (truncated bytes p) (first (count_fault p.counts) 3) (first (slot_fault p) p.counts.slots) (first (channel_fault p) p.counts.channels)
      (first (pages_refusal words p) p.counts.channels) (first (root_refusal words p) p.counts.partitions) (first (table_refusal words p) p.counts.partitions)
      (first (share_refusal words p) p.counts.partitions) (first (start_fault p) p.counts.partitions) (budget_fault p) (lent_refusal words p) (surplus bytes p) none in
      let tables = all_formed bytes words n.6 in
      let apart : (k : ℕ) → k < p.counts.partitions → Apart words p k = λ k l.
      (apart_decides words p k (λ q h. tables q (omega arith))).0 (passed _ _ (none_below (share_refusal words p) p.counts.partitions n.7 k l)) in
      record {
        plan = kept_lawful bytes n.0 n.1 n.2 n.3 n.8 n.9 n.11;
        pages = λ k l. joined.none_fit words p k (refused_none (ChannelPage k) (pages_fault words p k) (none_below (pages_refusal words p) p.counts.channels n.4 k l));
        roots = λ k l. (root_decides words p k).0 (passed _ _ (none_below (root_refusal words p) p.counts.partitions n.5 k l));
        tables = tables;
        apart = λ a b la lb c. elim (cases_lt a b) [
          | inl l ↦ apart b lb a (omega arith) (inr c)
          | inr l ↦ apart a la b l (inl c)
        ];
        all_lent = (lent_decides words p tables).0 (passed _ _ n.10);
      }

  module _ (lawful : Lawful bytes words) where
    maps_leaf : (k page : ℕ) (leaf : Leaf) → k < (plan_of bytes).counts.partitions → Leads words (root (plan_of bytes) k) page leaf → Maps words (root (plan_of bytes) k) page leaf
    maps_leaf k page leaf l h =
        let r = root (plan_of bytes) k in
        (leads_maps words r page leaf).maps h (lawful.all_lent k leaf.frame l (named_leaf words r page leaf h))

    behind_end : (end : Endpoint) (receives : Bool) (f : ℕ) → end.partition < (plan_of bytes).counts.partitions → Usable words (plan_of bytes) end receives f → FrameOf words (plan_of bytes) end f
    behind_end end receives f l u = record { leaf = u.leaf; maps = maps_leaf end.partition end.page u.leaf l u.leads; readable = u.readable; frame_is = u.frame_is }

    joins_at : (k : ℕ) → k < (plan_of bytes).counts.channels → ChannelJoins words (plan_of bytes) k (get_or (accepted words (plan_of bytes)).frames k no_frames)
    unfolding behind_end
    joins_at k l =
        let p = plan_of bytes in
        let fit = lawful.pages k l in
        let frames = lawful.plan.channels k l in
        let room : k < 16 = omega (arith, lawful.plan.counts Channels) in
        let is : get_or (accepted words p).frames k no_frames ≡ fit.frames =
        rows_at (frames_or_none words p) no_frames 16 p.counts.channels k room ∙ cond-true _ _ _ (lt-ltb k p.counts.channels l) ∙ joined.frames_kept words p k fit.frames fit.joins in
        subst (ChannelJoins words p k) (sym is) (record {
          sender = behind_end (channel p k).sender false fit.frames.sender frames.0 fit.joins.sender;
          receiver = behind_end (channel p k).receiver true fit.frames.receiver frames.1 fit.joins.receiver;
          only_read = fit.joins.receiver.not_writable refl;
        })

    sound : Sound bytes words (accepted words (plan_of bytes))
    sound = record { lawful = lawful; plan = refl; joins = joins_at }

  judged_at : (o : Option Refusal) → first_refusal bytes words (plan_of bytes) ≡ o → Judges bytes words (checked bytes words)
  unfolding checked
  judged_at None e =
      record { accepts = λ _. rw e; cases = rw e (sound (none_lawful e)) }
  judged_at (Some x) e =
      let z = all.broken x e in
      record {
        accepts = λ h. absurd (lawful_none h z.0 z.2);
        cases = rw e (record { finding = z.0; leads_to = z.1; found = z.2; first = λ d b. z.3 d (ranked d).some b });
      }

  pub judged : Judges bytes words (checked bytes words)
  judged = judged_at (first_refusal bytes words (plan_of bytes)) refl

separate : (bytes words : List ℕ) → Lawful bytes words → Separate words (plan_of bytes)
separate bytes words h = record {
  alone = λ a b f la lb na nb. elim (cases_eq a b) [ inl e ↦ e | inr ne ↦ absurd (h.apart a b la lb (f, na, inl (ne, nb))) ];
  hidden = λ a b f la lb na k. h.apart a b la lb (f, na, inr k);
}

-- what is accepted keeps every rule, and what keeps every rule is accepted
pub accepted_sound : (bytes words : List ℕ) (a : Accepted) → checked bytes words ≡ Ok a → Sound bytes words a
accepted_sound bytes words a e = MatchResult-at_ok (Sound bytes words) (FirstFound bytes words) a e (judged bytes words).cases

pub lawful_accepted : (bytes words : List ℕ) → Lawful bytes words → checked bytes words ≡ Ok (accepted words (plan_of bytes))
lawful_accepted bytes words = (judged bytes words).accepts

pub accepted_separate : AcceptedSeparate
accepted_separate bytes words a e =
    let s = accepted_sound bytes words a e in
    subst (Separate words) (sym s.plan) (separate bytes words s.lawful)

pub accepted_unshared : AcceptedUnshared
accepted_unshared bytes words a e =
    let s = accepted_separate bytes words a e in
    let p = a.plan in
    record {
      alone = λ j k page other leaf there lj lk m n same.
          s.alone j k there.frame lj lk (subst (References words (root p j)) same (leaves_named words (root p j) page leaf m)) (leaves_named words (root p k) other there n);
      hidden = λ j k page leaf lj lk m held. s.hidden j k leaf.frame lj lk (leaves_named words (root p j) page leaf m) held;
    }
