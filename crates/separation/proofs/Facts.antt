-- What the checker's acceptance tells, over the accepted plan, its frames and the words.
use Rattle.std.proofs.Common.{◌≡◌, ℕ, ◌*◌, ◌%◌, ◌<◌, ◌≤◌, true, ◌≢◌, List, Ok, sym, subst, inl, inr, arith}
use Rattle.std.proofs.lemmas.Nat.{mod_below}
use Rattle.std.proofs.lemmas.Bool.{cases_lt, lt-ltb}
use Rattle.words.specs.Frames.{lent}
use Rattle.paging.specs.Tables.{References, Owns}
use Rattle.paging.proofs.Agree.{leaves_named}
use Rattle.plan.specs.declared.model.Endpoint.{Endpoint}
use Rattle.plan.specs.declared.model.Plan.{Plan}
use Rattle.plan.specs.declared.refusal.Count.TheVariants.{Partitions, Slots}
use Rattle.plan.specs.Format.{plan_of}
use Rattle.plan.specs.Places.{channel}
use Rattle.plan.specs.Switch.{required_budget}
use Rattle.plan.specs.Lawful.{SlotFits}
use Rattle.plan.specs.Timetable.{begins, slot_of}
use Rattle.plan.proofs.Decides.{budget_covers}
use Rattle.plan.proofs.Times.{bounded}
use Rattle.checker.specs.declared.Accepted.{Accepted}
use Rattle.checker.specs.declared.pages.ChannelFrames.{ChannelFrames}
use Rattle.checker.specs.Checked.{checked}
use Rattle.checker.specs.Found.{FrameOf, Lawful, Separate, Sound}
use Rattle.checker.specs.Lawful.{Joins, Touch, root}
use Rattle.checker.specs.Pages.{frames_at}
use Rattle.checker.proofs.Joined.{joins_behind}
use Rattle.checker.proofs.Judged.{accepted_separate, accepted_sound}
use Rattle.checker.proofs.Leading.{leads_maps}
use Rattle.separation.proofs.Frames.{Kept, accepts_kept, maps_kept}
use Rattle.separation.proofs.Steps.{SoundFrames, sound_kept}

-- the partitions of a channel, and the frames that it joins
pub record Joined (p : Plan) (ends : List ChannelFrames) (ws : List ℕ) : Type 0 where
  pub sender_known : (k : ℕ) → k < p.counts.channels → (channel p k).sender.partition < p.counts.partitions
  pub receiver_known : (k : ℕ) → k < p.counts.channels → (channel p k).receiver.partition < p.counts.partitions
  pub sender : (k : ℕ) → k < p.counts.channels → FrameOf ws p (channel p k).sender (frames_at ends k).sender
  pub receiver : (k : ℕ) → k < p.counts.channels → FrameOf ws p (channel p k).receiver (frames_at ends k).receiver
  -- no frame belongs to two channels
  pub apart : (i j : ℕ) → i < p.counts.channels → j < p.counts.channels → i ≢ j → Touch (frames_at ends i) (frames_at ends j) → ⊥

-- what the plan says of time
pub record Timely (p : Plan) : Type 0 where
  pub few : p.counts.partitions ≤ 8
  pub runs : (n : ℕ) → (slot_of p n).partition < p.counts.partitions
  pub short : (n : ℕ) → (slot_of p n).length ≤ 1000000
  pub covered : required_budget p ≤ p.budget
  pub bounded : (n : ℕ) → begins p n ≤ n * 1100000

pub record Facts (p : Plan) (ends : List ChannelFrames) (ws : List ℕ) : Type 0 where
  pub frames : SoundFrames p ws
  pub joined : Joined p ends ws
  pub timely : Timely p

behind_kept : (p : Plan) (ws vs : List ℕ) → Kept p ws vs → (end : Endpoint) (f : ℕ) → end.partition < p.counts.partitions → FrameOf ws p end f → FrameOf vs p end f
behind_kept p ws vs k end f l b = record { leaf = b.leaf; maps = maps_kept p ws vs k end.partition l end.page b.leaf b.maps; readable = b.readable; frame_is = b.frame_is }

pub behind_names : (p : Plan) (ws : List ℕ) (end : Endpoint) (f : ℕ) → FrameOf ws p end f → References ws (root p end.partition) f
behind_names p ws end f b = subst (References ws (root p end.partition)) b.frame_is (leaves_named ws (root p end.partition) end.page b.leaf b.maps)

pub facts_kept : (p : Plan) (ends : List ChannelFrames) (ws vs : List ℕ) → Kept p ws vs → Facts p ends ws → Facts p ends vs
facts_kept p ends ws vs k h = let j = h.joined in record {
  frames = sound_kept p ws vs k h.frames;
  joined = record {
    sender_known = j.sender_known;
    receiver_known = j.receiver_known;
    sender = λ i l. behind_kept p ws vs k (channel p i).sender _ (j.sender_known i l) (j.sender i l);
    receiver = λ i l. behind_kept p ws vs k (channel p i).receiver _ (j.receiver_known i l) (j.receiver i l);
    apart = j.apart;
  };
  timely = h.timely;
}

module _ (bytes ws : List ℕ) (a : Accepted) (sound : Sound bytes ws a) where
  joins : (k : ℕ) → k < (plan_of bytes).counts.channels → Joins ws (plan_of bytes) k (frames_at a.frames k)
  joins k l = let c = sound.joins k l in record {
    sender = record { leaf = c.sender.leaf; leads = (leads_maps ws _ _ _).leads c.sender.maps; readable = c.sender.readable; not_writable = λ e. absurd (let z : ◌≡◌ {A = ℕ} 0 1 = cc in omega arith); frame_is = c.sender.frame_is };
    receiver = record { leaf = c.receiver.leaf; leads = (leads_maps ws _ _ _).leads c.receiver.maps; readable = c.receiver.readable; not_writable = λ e. c.only_read; frame_is = c.receiver.frame_is };
  }

  fit_ends : (k : ℕ) (l : k < (plan_of bytes).counts.channels) → (sound.lawful.pages k l).frames ≡ frames_at a.frames k
  fit_ends k l =
      let x = joins_behind ws (plan_of bytes) k (sound.lawful.pages k l).frames (sound.lawful.pages k l).joins in
      let y = joins_behind ws (plan_of bytes) k (frames_at a.frames k) (joins k l) in
      cc

  later_apart : (i j : ℕ) → i < j → (l : j < (plan_of bytes).counts.channels) → Touch (frames_at a.frames j) (frames_at a.frames i) → ⊥
  later_apart i j b l touch =
      (sound.lawful.pages j l).alone i b (frames_at a.frames i) (joins i (omega arith)) (subst (λ z. Touch z (frames_at a.frames i)) (sym (fit_ends j l)) touch)

touch_turned : (x y : ChannelFrames) → Touch x y → Touch y x
touch_turned x y (inl e) = inl (sym e)
touch_turned x y (inr (inl e)) = inr (inr (inl (sym e)))
touch_turned x y (inr (inr (inl e))) = inr (inl (sym e))
touch_turned x y (inr (inr (inr e))) = inr (inr (inr (sym e)))

-- a frame of a partition is lent: its root and tables since they were read, the others by a rule of their own
lent_owned : (bytes ws : List ℕ) → Lawful bytes ws → (q f : ℕ) → q < (plan_of bytes).counts.partitions → Owns ws (root (plan_of bytes) q) f → lent ws f ≡ true
lent_owned bytes ws law q f l (inl (inl e)) = rw e (lt-ltb _ _ (omega (arith, (law.tables q l).there)))
lent_owned bytes ws law q f l (inl (inr t)) =
    let fits = (law.tables q l).entries t.at t.within in
    let there = (fits.there t.points.valid).lent in
    lt-ltb _ _ (omega (arith, there, t.points.frame))
lent_owned bytes ws law q f l (inr n) = lt-ltb _ _ (omega (arith, law.all_lent q f l n))

facts_of : (bytes ws : List ℕ) (a : Accepted) → checked bytes ws ≡ Ok a → Facts (plan_of bytes) a.frames ws
facts_of bytes ws a e =
    let sound = accepted_sound bytes ws a e in
    let law = sound.lawful in
    let slot_fits : (n : ℕ) → SlotFits (plan_of bytes) (n % (plan_of bytes).counts.slots) =
    λ n. law.plan.slots (n % (plan_of bytes).counts.slots) (mod_below n (plan_of bytes).counts.slots (omega (arith, (law.plan.counts Slots).0))) in
    let sep : Separate ws (plan_of bytes) = subst (Separate ws) sound.plan (accepted_separate bytes ws a e) in
    record {
      frames = record {
        separate = sep;
        lent = λ q f l o. lent_owned bytes ws law q f l o;
      };
      joined = record {
        sender_known = λ k l. (law.plan.channels k l).0;
        receiver_known = λ k l. (law.plan.channels k l).1;
        sender = λ k l. (sound.joins k l).sender;
        receiver = λ k l. (sound.joins k l).receiver;
        apart = λ i j li lj ne touch. elim (cases_lt i j) [
          | inl b ↦ later_apart bytes ws a sound i j b lj (touch_turned _ _ touch)
          | inr b ↦ later_apart bytes ws a sound j i (omega arith) li touch
        ];
      };
      timely = record {
        few = (law.plan.counts Partitions).1;
        runs = λ n. (slot_fits n).0;
        short = λ n. (slot_fits n).2;
        covered = budget_covers (plan_of bytes) law.plan.budget;
        bounded = bounded bytes law.plan;
      };
    }

pub facts : (bytes ws : List ℕ) (a : Accepted) → checked bytes ws ≡ Ok a → Facts a.plan a.frames ws
facts bytes ws a e = subst (λ q. Facts q a.frames ws) (sym (accepted_sound bytes ws a e).plan) (facts_of bytes ws a e)

pub accepts_again : (bytes ws vs : List ℕ) (a : Accepted) → Kept a.plan ws vs → checked bytes ws ≡ Ok a → checked bytes vs ≡ Ok a
accepts_again bytes ws vs a k e = accepts_kept bytes ws vs a (subst (λ q. Kept q ws vs) (accepted_sound bytes ws a e).plan k) e
