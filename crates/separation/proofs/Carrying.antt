-- Messages: what arrives, what stays, and that two systems carry alike.
use Rattle.std.proofs.Common.{◌≡◌, ℕ, zero, suc, ◌<◌, ◌≤◌, true, cond, ◌≢◌, List, length, sym, refl, ap, ◌∙◌, subst, inl, inr, arith}
use Rattle.std.proofs.lemmas.Bool.{cases_Bool, cases_eq, cases_lt, true≢false}
use Rattle.words.specs.Frames.{word}
use Rattle.words.proofs.Frame.{copies}
use Rattle.paging.specs.Tables.{References, Owns}
use Rattle.paging.proofs.Agree.{owns_back, owns_there, tables_decide, walks_find}
use Rattle.plan.specs.declared.model.Endpoint.{Endpoint}
use Rattle.plan.specs.declared.model.Plan.{Plan}
use Rattle.plan.specs.Places.{channel, leaves}
use Rattle.plan.specs.Flows.{Closed, by_channel}
use Rattle.plan.specs.Switch.{message, messages}
use Rattle.checker.specs.declared.Accepted.{Accepted}
use Rattle.checker.specs.declared.pages.ChannelFrames.{ChannelFrames}
use Rattle.checker.specs.Found.{FrameOf}
use Rattle.checker.specs.Lawful.{root}
use Rattle.checker.specs.Pages.{frames_at}
use Rattle.kernel.specs.Switch.{carried, delivered, frames_of}
use Rattle.kernel.proofs.Carrying.{delivered_more}
use Rattle.separation.specs.Agreement.{SameWords}
use Rattle.separation.proofs.Facts.{Facts, behind_names, facts_kept}
use Rattle.separation.proofs.Frames.{Kept, kept_more, kept_none, others_kept}
use Rattle.separation.proofs.Steps.{foreign, tables_of}

module _ (a : Accepted) (who : ℕ) where
  -- the message of channel k, if it goes
  abbrev pub one : ℕ → List ℕ → List ℕ
  one k ws = cond (leaves a.plan who k) (carried a ws (message a.plan k)) ws

  -- those of the first n channels
  abbrev pub sent : ℕ → List ℕ → List ℕ
  sent n ws = delivered a (messages a.plan who n) ws

  sent_none : (ws : List ℕ) → sent 0 ws ≡ ws
  unfolding messages
  sent_none ws = refl

  module _ (k : ℕ) (ws : List ℕ) where
    pub one_others : (f j : ℕ) → j < 1024 → (leaves a.plan who k ≡ true → f ≢ (frames_of a k).receiver) → word (one k ws) f j ≡ word ws f j
    one_others f j l ne = elim (cases_Bool (leaves a.plan who k)) [
      | inl e ↦ rw e ((copies ws (frames_of a k).sender (frames_of a k).receiver).others f j l (ne e))
      | inr e ↦ rw e refl
    ]

    one_many : length (one k ws) ≡ length ws
    one_many = elim (cases_Bool (leaves a.plan who k)) [
      | inl e ↦ rw e (copies ws (frames_of a k).sender (frames_of a k).receiver).as_many
      | inr e ↦ rw e refl
    ]

    module _ (l : k < a.plan.counts.channels) (h : Facts a.plan a.frames ws) where
      pub sender_owned : Owns ws (root a.plan (channel a.plan k).sender.partition) (frames_of a k).sender
      sender_owned = inr (behind_names a.plan ws (channel a.plan k).sender (frames_of a k).sender (h.joined.sender k l))

      pub receiver_names : References ws (root a.plan (channel a.plan k).receiver.partition) (frames_of a k).receiver
      receiver_names = behind_names a.plan ws (channel a.plan k).receiver (frames_of a k).receiver (h.joined.receiver k l)

      pub one_there : (j : ℕ) → j < 1024 → leaves a.plan who k ≡ true → word (one k ws) (frames_of a k).receiver j ≡ word ws (frames_of a k).sender j
      one_there j b e =
          rw e ((copies ws (frames_of a k).sender (frames_of a k).receiver).there
          (h.frames.lent (channel a.plan k).sender.partition (frames_of a k).sender (h.joined.sender_known k l) sender_owned)
          (h.frames.lent (channel a.plan k).receiver.partition (frames_of a k).receiver (h.joined.receiver_known k l) (inr receiver_names)) j b)

      pub one_kept : Kept a.plan ws (one k ws)
      one_kept =
          others_kept a.plan ws (one k ws) (channel a.plan k).receiver.partition (h.joined.receiver_known k l) h.frames.separate
          (λ f j ne b. one_others f j b (λ _ e. ne (subst (References ws (root a.plan (channel a.plan k).receiver.partition)) (sym e) receiver_names))) one_many

  pub sent_kept : (n : ℕ) (ws : List ℕ) → n ≤ a.plan.counts.channels → Facts a.plan a.frames ws → Kept a.plan ws (sent n ws)
  sent_kept zero ws l h = rw (sent_none ws) (kept_none a.plan ws)
  sent_kept (suc n) ws l h =
      let before = sent_kept n ws (omega arith) h in
      rw (delivered_more a who n ws) (kept_more a.plan ws (sent n ws) (one n (sent n ws)) before (one_kept n (sent n ws) (omega arith) (facts_kept a.plan a.frames ws (sent n ws) before h)))

  -- the facts hold after each message
  pub sent_facts : (n : ℕ) (ws : List ℕ) → n ≤ a.plan.counts.channels → Facts a.plan a.frames ws → Facts a.plan a.frames (sent n ws)
  sent_facts n ws l h = facts_kept a.plan a.frames ws (sent n ws) (sent_kept n ws l h) h

  -- a frame that no message goes to
  pub sent_others : (n : ℕ) (ws : List ℕ) (f j : ℕ) → j < 1024 → ((k : ℕ) → k < n → leaves a.plan who k ≡ true → f ≢ (frames_of a k).receiver) → word (sent n ws) f j ≡ word ws f j
  sent_others zero ws f j l ne = ap (λ z. word z f j) (sent_none ws)
  sent_others (suc n) ws f j l ne =
      ap (λ z. word z f j) (delivered_more a who n ws) ∙ one_others n (sent n ws) f j l (ne n (omega arith)) ∙ sent_others n ws f j l (λ k b. ne k (omega arith))

  -- what arrives is what the sender's frame held before any message
  pub sent_there : (n : ℕ) (ws : List ℕ) → n ≤ a.plan.counts.channels → Facts a.plan a.frames ws → (k j : ℕ) → k < n → j < 1024 → leaves a.plan who k ≡ true →
      word (sent n ws) (frames_of a k).receiver j ≡ word ws (frames_of a k).sender j
  sent_there zero ws l h k j b c e = absurd (omega arith)
  sent_there (suc n) ws l h k j b c e = ap (λ z. word z (frames_of a k).receiver j) (delivered_more a who n ws) ∙ elim (cases_lt k n) [
    | inl below ↦
        one_others n (sent n ws) (frames_of a k).receiver j c (λ _ same. h.joined.apart k n (omega arith) (omega arith) (omega arith) (inr (inr (inr same))))
        ∙ sent_there n ws (omega arith) h k j below c e
    | inr past ↦
        let here : k ≡ n = omega arith in
        let e2 : leaves a.plan who n ≡ true = subst (λ i. leaves a.plan who i ≡ true) here e in
        rw here (one_there n (sent n ws) (omega arith) (sent_facts n ws (omega arith) h) j c e2
        ∙ sent_others n ws (frames_of a n).sender j c (λ i li ei same. h.joined.apart n i (omega arith) (omega arith) (omega arith) (inr (inl same))))
  ]

-- whoever has the frame behind a receiver's page is the receiver
pub is_receiver : (p : Plan) (k : ℕ) → k < p.counts.channels → (us : List ℕ) (e : List ChannelFrames) → Facts p e us → (q f : ℕ) → q < p.counts.partitions → Owns us (root p q) f →
    f ≡ (frames_at e k).receiver → q ≡ (channel p k).receiver.partition
is_receiver p k l us e h q f lq o at = elim (cases_eq q (channel p k).receiver.partition) [
  | inl here ↦ here
  | inr ne ↦ absurd (foreign p us q (channel p k).receiver.partition f h.frames.separate lq (h.joined.receiver_known k l) ne o
      (subst (References us (root p (channel p k).receiver.partition)) (sym at) (behind_names p us (channel p k).receiver (frames_at e k).receiver (h.joined.receiver k l))))
]

-- a plan that was accepted with these frames of its channels
abbrev pub with_ends : Plan → List ChannelFrames → Accepted
with_ends p ends = record { plan = p; frames = ends }

-- two systems of one plan that agree on a set
module _ (p : Plan) (ea eb : List ChannelFrames) (A : ℕ → Type 0) where
  module _ (ws vs : List ℕ) (hw : Facts p ea ws) (hv : Facts p eb vs) (same : SameWords p A ws vs) where
    -- a page of a member has the same frame behind it
    same_behind : (end : Endpoint) (f g : ℕ) → end.partition < p.counts.partitions → A end.partition → FrameOf ws p end f → FrameOf vs p end g → g ≡ f
    same_behind end f g l m x y =
        let r = root p end.partition in
        let tables = tables_of p A ws vs same end.partition l m in
        let walks = (tables_decide ws vs (root p end.partition) tables).walks (λ h o. hv.frames.lent end.partition h l (owns_there ws vs (root p end.partition) tables h o) ∙ sym (hw.frames.lent end.partition h l o)) end.page in
        let here = (walks_find ws (root p end.partition) end.page).found x.leaf x.maps in
        let there = (walks_find vs (root p end.partition) end.page).found y.leaf y.maps in
        let leaf : y.leaf ≡ x.leaf = cc in
        sym y.frame_is ∙ ap (λ z. z.frame) leaf ∙ x.frame_is

  module _ (closed : Closed p A) (who : ℕ) where
    -- one message
    module _ (k : ℕ) (l : k < p.counts.channels) (ws vs : List ℕ) (hw : Facts p ea ws) (hv : Facts p eb vs) (same : SameWords p A ws vs) where
      sends : A (channel p k).receiver.partition → A (channel p k).sender.partition
      sends m = closed (channel p k).sender.partition (channel p k).receiver.partition (by_channel k l refl refl) m

      same_receiver : A (channel p k).receiver.partition → (frames_at eb k).receiver ≡ (frames_at ea k).receiver
      same_receiver m = same_behind ws vs hw hv same (channel p k).receiver _ _ (hw.joined.receiver_known k l) m (hw.joined.receiver k l) (hv.joined.receiver k l)

      same_sender : A (channel p k).sender.partition → (frames_at eb k).sender ≡ (frames_at ea k).sender
      same_sender m = same_behind ws vs hw hv same (channel p k).sender _ _ (hw.joined.sender_known k l) m (hw.joined.sender k l) (hv.joined.sender k l)

      arrives : (q f j : ℕ) → q < p.counts.partitions → A q → j < 1024 → Owns ws (root p q) f → leaves p who k ≡ true → f ≡ (frames_at ea k).receiver →
          word (one (with_ends p eb) who k vs) f j ≡ word (one (with_ends p ea) who k ws) f j
      arrives q f j lq m b o goes at =
          let member = subst A (is_receiver p k l ws ea hw q f lq o at) m in
          let s = same_sender (sends member) in
          let r = same_receiver member in
          let there : word (one (with_ends p eb) who k vs) (frames_at eb k).receiver j ≡ word vs (frames_at eb k).sender j = one_there (with_ends p eb) who k vs l hv j b goes in
          let here : word (one (with_ends p ea) who k ws) (frames_at ea k).receiver j ≡ word ws (frames_at ea k).sender j = one_there (with_ends p ea) who k ws l hw j b goes in
          let between = same (channel p k).sender.partition (frames_at ea k).sender j (hw.joined.sender_known k l) (sends member) b (sender_owned (with_ends p ea) who k ws l hw) in
          ap (λ g. word (one (with_ends p eb) who k vs) g j) (at ∙ sym r) ∙ there ∙ ap (λ g. word vs g j) s ∙ between ∙ sym here ∙ ap (λ g. word (one (with_ends p ea) who k ws) g j) (sym at)

      pub one_alike : SameWords p A (one (with_ends p ea) who k ws) (one (with_ends p eb) who k vs)
      one_alike q f j lq m b o2 =
          let o = owns_back ws (one (with_ends p ea) who k ws) (root p q) ((one_kept (with_ends p ea) who k ws l hw).tables q lq) f o2 in
          let tables = tables_of p A ws vs same q lq m in
          elim (cases_Bool (leaves p who k)) [
            | inl goes ↦ elim (cases_eq f (frames_at ea k).receiver) [
              | inl at ↦ arrives q f j lq m b o goes at
              | inr ne ↦
                  one_others (with_ends p eb) who k vs f j b (λ _ at. ne (at ∙ same_receiver (subst A (is_receiver p k l vs eb hv q f lq (owns_there ws vs (root p q) tables f o) at) m)))
                  ∙ same q f j lq m b o ∙ sym (one_others (with_ends p ea) who k ws f j b (λ _. ne))
            ]
            | inr stays ↦
                one_others (with_ends p eb) who k vs f j b (λ e. absurd (true≢false (sym e ∙ stays))) ∙ same q f j lq m b o
                ∙ sym (one_others (with_ends p ea) who k ws f j b (λ e. absurd (true≢false (sym e ∙ stays))))
          ]

    pub sent_alike : (n : ℕ) (ws vs : List ℕ) → n ≤ p.counts.channels → Facts p ea ws → Facts p eb vs → SameWords p A ws vs → SameWords p A (sent (with_ends p ea) who n ws) (sent (with_ends p eb) who n vs)
    sent_alike zero ws vs l hw hv same = rw (sent_none (with_ends p ea) who ws, sent_none (with_ends p eb) who vs) same
    sent_alike (suc n) ws vs l hw hv same = rw (delivered_more (with_ends p ea) who n ws, delivered_more (with_ends p eb) who n vs)
        (one_alike n (omega arith) (sent (with_ends p ea) who n ws) (sent (with_ends p eb) who n vs)
        (sent_facts (with_ends p ea) who n ws (omega arith) hw) (sent_facts (with_ends p eb) who n vs (omega arith) hv) (sent_alike n ws vs (omega arith) hw hv same))
