-- The rule on the pages of channels: its answer at a channel tells whether the pages fit, or cannot be looked up.
use Rattle.std.proofs.Common.{◌≡◌, ℕ, true, false, ◌⊎◌, List, Some, None, Ok, Err, Result, sym, refl, ◌∙◌, inl, inr, arith}
use Rattle.std.proofs.lemmas.Bool.{true≢false}
use Rattle.std.proofs.lemmas.Bool.Decides.{nat_tests}
use Rattle.ranges.specs.Questions.{any}
use Rattle.ranges.proofs.Questions.{all_not, any_here}
use Rattle.plan.specs.declared.model.Plan.{Plan}
use Rattle.plan.specs.Rules.{channel}
use Rattle.checker.specs.declared.fault.Fault.{Fault}
use Rattle.checker.specs.declared.fault.Fault.TheVariants.{NotLent}
use Rattle.checker.specs.declared.pages.ChannelFrames.{ChannelFrames}
use Rattle.checker.specs.Pages.{channel_frames, both_frames, end_frame, frames_or_none, meets, pages_fault, taken_fault, touch, touches}
use Rattle.checker.specs.Lawful.{Joins, PagesFit, PagesUnread, Touch}
use Rattle.checker.proofs.Ended.{end_unread, end_usable, unread_end, usable_end}

both_ok : (r s : Result ℕ Fault) (a : ChannelFrames) → both_frames r s ≡ Ok a → (r ≡ Ok a.sender) × (s ≡ Ok a.receiver)
both_ok r s a e = grind arith

both_unlent : (r s : Result ℕ Fault) → both_frames r s ≡ Err NotLent → (r ≡ Err NotLent) ⊎ (((f : ℕ) × (r ≡ Ok f)) × (s ≡ Err NotLent))
both_unlent r s e = grind arith

touch_tells : (a b : ChannelFrames) → touch a b ≡ true → Touch a b
touch_tells a b e = grind (arith, nat_tests)

told_touch : (a b : ChannelFrames) → Touch a b → touch a b ≡ true
told_touch a b h = grind (arith, nat_tests)

touches_some : (a : ChannelFrames) (r : Result ChannelFrames Fault) → touches a r ≡ true → (b : ChannelFrames) × (r ≡ Ok b) × (touch a b ≡ true)
touches_some a r e = grind arith

module _ (ws : List ℕ) (p : Plan) (k : ℕ) where
  behind_joins : (a : ChannelFrames) → channel_frames ws p k ≡ Ok a → Joins ws p k a
  unfolding channel_frames
  behind_joins a e =
      let z = both_ok (end_frame ws p (channel p k).sender false) (end_frame ws p (channel p k).receiver true) a e in
      record { sender = end_usable ws p (channel p k).sender false a.sender z.0; receiver = end_usable ws p (channel p k).receiver true a.receiver z.1 }

  pub joins_behind : (a : ChannelFrames) → Joins ws p k a → channel_frames ws p k ≡ Ok a
  unfolding channel_frames
  joins_behind a j = rw (usable_end ws p (channel p k).sender false a.sender j.sender, usable_end ws p (channel p k).receiver true a.receiver j.receiver) refl

  behind_unread : channel_frames ws p k ≡ Err NotLent → PagesUnread ws p k
  unfolding channel_frames
  behind_unread e = elim (both_unlent (end_frame ws p (channel p k).sender false) (end_frame ws p (channel p k).receiver true) e) [
    | inl h ↦ inl (end_unread ws p (channel p k).sender false h)
    | inr h ↦ inr ((h.0.0, end_usable ws p (channel p k).sender false h.0.0 h.0.1), end_unread ws p (channel p k).receiver true h.1)
  ]

  unread_behind : PagesUnread ws p k → channel_frames ws p k ≡ Err NotLent
  unfolding channel_frames
  unread_behind (inl u) = rw (unread_end ws p (channel p k).sender false u) refl
  unread_behind (inr u) = rw (usable_end ws p (channel p k).sender false u.0.0 u.0.1, unread_end ws p (channel p k).receiver true u.1) refl

module _ (ws : List ℕ) (p : Plan) (k : ℕ) where
  taken_none : (r : Result ChannelFrames Fault) → taken_fault ws p k r ≡ None → (a : ChannelFrames) × (r ≡ Ok a) × (any (meets ws p a) k ≡ false)
  taken_none r e = grind arith

  taken_unlent : (r : Result ChannelFrames Fault) → taken_fault ws p k r ≡ Some NotLent → r ≡ Err NotLent
  taken_unlent r e = grind arith

  pub none_fit : pages_fault ws p k ≡ None → PagesFit ws p k
  unfolding pages_fault meets
  none_fit e =
      let z = taken_none (channel_frames ws p k) e in
      record {
        frames = z.0;
        joins = behind_joins ws p k z.0 z.1;
        alone = λ j l b joins touch.
            let here : touches z.0 (channel_frames ws p j) ≡ true = rw (joins_behind ws p j b joins) (told_touch z.0 b touch) in
            true≢false (sym (any_here (meets ws p z.0) k j l here) ∙ z.2);
      }

  pub fit_none : PagesFit ws p k → pages_fault ws p k ≡ None
  unfolding pages_fault meets
  fit_none h =
      let apart : any (meets ws p h.frames) k ≡ false = all_not (meets ws p h.frames) k (λ j l e.
      let z = touches_some h.frames (channel_frames ws p j) e in
      h.alone j l z.0 (behind_joins ws p j z.0 z.1) (touch_tells h.frames z.0 z.2)) in
      rw (joins_behind ws p k h.frames h.joins) (rw apart refl)

  pub unlent_unread : pages_fault ws p k ≡ Some NotLent → PagesUnread ws p k
  unfolding pages_fault
  unlent_unread e = behind_unread ws p k (taken_unlent (channel_frames ws p k) e)

  pub unread_unlent : PagesUnread ws p k → pages_fault ws p k ≡ Some NotLent
  unfolding pages_fault
  unread_unlent u = rw (unread_behind ws p k u) refl

  pub frames_kept : (a : ChannelFrames) → Joins ws p k a → frames_or_none ws p k ≡ a
  unfolding frames_or_none
  frames_kept a j = rw (joins_behind ws p k a j) refl
