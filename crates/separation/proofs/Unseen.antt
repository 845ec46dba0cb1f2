-- Noninterference: two systems that agree on a closed set go on agreeing, slot by slot and step by step.
use Rattle.std.proofs.Common.{◌≡◌, ℕ, zero, suc, ◌+◌, ◌^◌, ◌<◌, true, cond, ◌&&◌, ltb, List, Some, None, sym, refl, ap, ◌∙◌, subst, inl, inr, arith}
use Rattle.std.proofs.lemmas.Bool.{cases_Bool, cases_eq}
use Rattle.words.specs.Frames.{word}
use Rattle.paging.proofs.Agree.{owns_back, owns_there}
use Rattle.plan.specs.declared.model.Plan.{Plan}
use Rattle.plan.specs.Flows.{Closed, Path, stays, goes_on}
use Rattle.plan.specs.Timetable.{slot_of}
use Rattle.checker.specs.declared.Accepted.{Accepted}
use Rattle.checker.specs.declared.pages.ChannelFrames.{ChannelFrames}
use Rattle.checker.specs.Lawful.{root}
use Rattle.checker.proofs.Judged.{accepted_sound}
use Rattle.kernel.specs.declared.machine.Machine.{Machine}
use Rattle.kernel.specs.Inside.{Inside, onward}
use Rattle.kernel.specs.Machine.{System, after_slot, after_slots, can_run, coming, context_of, ended, entered, inside_after, slot_end, who_runs}
use Rattle.kernel.specs.Reports.{report_of, slot_report}
use Rattle.separation.specs.Agreement.{Agree, AllBut, In, Noninterference, NotReached, Only, SameInside, SameReport, SameWords, StepByStep, Unseen}
use Rattle.separation.specs.Running.{BeforeSlot}
use Rattle.separation.proofs.Carrying.{sent, sent_alike, with_ends}
use Rattle.separation.proofs.Slots.{before_again, cleared, confined, end_facts, good, known, next, ran_context, turned, went, who_known, words_are}
use Rattle.separation.proofs.Steps.{Good, foreign, tables_of, until_alike}

-- reports with the same parts
same_told : (m n : Machine) (x y : Inside) → m.turn ≡ n.turn → m.clock ≡ n.clock → x.who ≡ y.who → x.now.core.clock ≡ y.now.core.clock → x.now.instructions ≡ y.now.instructions →
    x.now.core.context ≡ y.now.core.context → report_of m x ≡ report_of n y
same_told m n x y e f g h i j = rw (e, f, g, h, i, j) refl

module _ (bytes : List ℕ) (p : Plan) (ea eb : List ChannelFrames) (A : ℕ → Type 0) (closed : Closed p A) where
  module _ (s t : System) (rs : BeforeSlot bytes (with_ends p ea) s) (rt : BeforeSlot bytes (with_ends p eb) t) (same : Agree p A s t) where
    same_who : who_runs p t.machine ≡ who_runs p s.machine
    same_who = ap (λ n. (slot_of p n).partition) same.turn

    same_end : slot_end p t.machine ≡ slot_end p s.machine
    same_end = omega (arith, same.clock, ap (λ n. (slot_of p n).length) same.turn)

    -- both begin alike
    alike : A (who_runs p s.machine) → SameInside p A (entered p s) (entered p t)
    alike member = record {
      who = same_who;
      under = ap (root p) same_who;
      context = ap (context_of t.machine) same_who ∙ same.contexts (who_runs p s.machine) (who_known bytes (with_ends p ea) s rs) member;
      tables = same.tables;
      clock = same.clock;
      instructions = refl;
      words = same.words;
    }

    steps : StepByStep p A s t
    unfolding inside_after
    steps n member =
        let w = who_runs p s.machine in
        let end = slot_end p s.machine in
        let told : inside_after p t n ≡ onward end n (entered p t) = ap (λ z. onward z n (entered p t)) same_end in
        rw told (until_alike p (who_runs p s.machine) (who_known bytes (with_ends p ea) s rs) A member (slot_end p s.machine) n (entered p s) (entered p t)
        (good bytes (with_ends p ea) s rs) (subst (λ w. Good p w (entered p t).now) same_who (good bytes (with_ends p eb) t rt)) (alike member))

    same_ended : ended p t ≡ inside_after p t (coming p s.machine).length
    same_ended = ap (λ n. inside_after p t (slot_of p n).length) same.turn

    -- the words at the slot's end: those of the partition that runs by its steps, the others as they were
    end_words : SameWords p A (ended p s).now.words (ended p t).now.words
    unfolding inside_after
    end_words q f k l m b o2 =
        let n = (coming p s.machine).length in
        let here = went bytes (with_ends p ea) s rs (coming p s.machine).length in
        let there = went bytes (with_ends p eb) t rt (coming p t.machine).length in
        let before = owns_back s.words (ended p s).now.words (root p q) (here.kept.tables q l) f o2 in
        let tables = tables_of p A s.words t.words same.words q l m in
        elim (cases_eq q (who_runs p s.machine)) [
          | inl e ↦ ap (λ x. word x.now.words f k) same_ended ∙ (steps n (subst A e m)).words q f k l m b o2
          | inr ne ↦
              there.others f k (foreign p t.words q (who_runs p t.machine) f (known bytes (with_ends p eb) t rt).frames.separate l (who_known bytes (with_ends p eb) t rt) (λ e. ne (e ∙ same_who)) (owns_there s.words t.words (root p q) tables f before)) b
              ∙ same.words q f k l m b before
              ∙ sym (here.others f k (foreign p s.words q (who_runs p s.machine) f (known bytes (with_ends p ea) s rs).frames.separate l (who_known bytes (with_ends p ea) s rs) ne before) b)
        ]

    -- at the slot's end, in a slot of a member
    steps_at : A (who_runs p s.machine) → SameInside p A (ended p s) (inside_after p t (coming p s.machine).length)
    unfolding inside_after
    steps_at = steps (coming p s.machine).length

    same_can : can_run p t.machine ≡ can_run p s.machine
    same_can =
        ap (λ n. ltb (slot_of p n).partition 8 && (ltb (n + 1) (2 ^ 32) && ltb t.machine.clock (2 ^ 63))) same.turn
        ∙ ap (λ c. ltb (who_runs p s.machine) 8 && (ltb (s.machine.turn + 1) (2 ^ 32) && ltb c (2 ^ 63))) same.clock

    module _ (here_able : can_run p s.machine ≡ true) where
      there_able : can_run p t.machine ≡ true
      there_able = same_can ∙ here_able

      contexts : (q : ℕ) → q < p.counts.partitions → A q → context_of (after_slot (with_ends p eb) t).machine q ≡ context_of (after_slot (with_ends p ea) s).machine q
      contexts q l m = elim (cases_eq q (who_runs p s.machine)) [
        | inl e ↦
            ran_context bytes (with_ends p eb) t rt there_able q (e ∙ sym same_who)
            ∙ ap (λ x. x.now.core.context) same_ended ∙ (steps_at (subst A e m)).context
            ∙ sym (ran_context bytes (with_ends p ea) s rs here_able q e)
        | inr ne ↦
            (confined bytes (with_ends p eb) t rt there_able q l (λ e. ne (e ∙ same_who))).context ∙ same.contexts q l m ∙ sym (confined bytes (with_ends p ea) s rs here_able q l ne).context
      ]

      words : SameWords p A (after_slot (with_ends p ea) s).words (after_slot (with_ends p eb) t).words
      words =
          let e : (after_slot (with_ends p eb) t).words ≡ sent (with_ends p eb) (who_runs p s.machine) p.counts.channels (ended p t).now.words =
          words_are bytes (with_ends p eb) t rt there_able ∙ ap (λ w. sent (with_ends p eb) w p.counts.channels (ended p t).now.words) same_who in
          subst (λ z. SameWords p A z (after_slot (with_ends p eb) t).words) (sym (words_are bytes (with_ends p ea) s rs here_able))
          (subst (λ z. SameWords p A (sent (with_ends p ea) (who_runs p s.machine) p.counts.channels (ended p s).now.words) z) (sym e)
          (sent_alike p ea eb A closed (who_runs p s.machine) p.counts.channels (ended p s).now.words (ended p t).now.words (omega arith) (end_facts bytes (with_ends p ea) s rs) (end_facts bytes (with_ends p eb) t rt) end_words))

      ran_alike : Agree p A (after_slot (with_ends p ea) s) (after_slot (with_ends p eb) t)
      ran_alike = record {
        contexts = contexts;
        words = words;
        tables = cleared bytes (with_ends p eb) t rt there_able ∙ sym (cleared bytes (with_ends p ea) s rs here_able);
        clock = omega (arith, next bytes (with_ends p eb) t rt there_able, next bytes (with_ends p ea) s rs here_able, same_end);
        turn = omega (arith, turned bytes (with_ends p eb) t rt there_able, turned bytes (with_ends p ea) s rs here_able, same.turn);
      }

    reports : SameReport p A s t
    unfolding slot_report inside_after
    reports member =
        let z = steps (coming p s.machine).length member in
        let e : ended p t ≡ inside_after p t (coming p s.machine).length = same_ended in
        let told : report_of t.machine (ended p t) ≡ report_of s.machine (ended p s) =
        same_told t.machine s.machine (ended p t) (ended p s) same.turn same.clock (ap (λ x. x.who) e ∙ z.who)
        (ap (λ x. x.now.core.clock) e ∙ z.clock) (ap (λ x. x.now.instructions) e ∙ z.instructions) (ap (λ x. x.now.core.context) e ∙ z.context) in
        ap (λ c. cond c (Some (report_of t.machine (ended p t))) None) same_can ∙ ap (λ r. cond (can_run p s.machine) (Some r) None) told

    record Both : Type 0 where
      here : BeforeSlot bytes (with_ends p ea) (after_slot (with_ends p ea) s)
      there : BeforeSlot bytes (with_ends p eb) (after_slot (with_ends p eb) t)
      agree : Agree p A (after_slot (with_ends p ea) s) (after_slot (with_ends p eb) t)

    both : Both
    unfolding after_slot
    both = elim (cases_Bool (can_run p s.machine)) [
      | inl e ↦ record { here = before_again bytes (with_ends p ea) s rs e; there = before_again bytes (with_ends p eb) t rt (there_able e); agree = ran_alike e }
      | inr e ↦ (let d = same_can ∙ e in record { here = rw e rs; there = rw d rt; agree = rw (e, d) same })
    ]

  -- any number of slots
  record After (n : ℕ) (s t : System) : Type 0 where
    here : BeforeSlot bytes (with_ends p ea) (after_slots (with_ends p ea) n s)
    there : BeforeSlot bytes (with_ends p eb) (after_slots (with_ends p eb) n t)
    agree : Agree p A (after_slots (with_ends p ea) n s) (after_slots (with_ends p eb) n t)

  after : (n : ℕ) (s t : System) → BeforeSlot bytes (with_ends p ea) s → BeforeSlot bytes (with_ends p eb) t → Agree p A s t → After n s t
  unfolding after_slots
  after zero s t rs rt same = record { here = rs; there = rt; agree = same }
  after (suc n) s t rs rt same =
      let z = after n s t rs rt same in
      let b = both (after_slots (with_ends p ea) n s) (after_slots (with_ends p eb) n t) z.here z.there z.agree in
      record { here = b.here; there = b.there; agree = b.agree }

  pub unseen : (s t : System) → BeforeSlot bytes (with_ends p ea) s → BeforeSlot bytes (with_ends p eb) t → Agree p A s t →
      Unseen p A (with_ends p ea) (with_ends p eb) s t
  unseen s t rs rt same = record {
    slots = λ n. (after n s t rs rt same).agree;
    steps = λ n. (let z = after n s t rs rt same in steps (after_slots (with_ends p ea) n s) (after_slots (with_ends p eb) n t) z.here z.there z.agree);
    reports = λ n. (let z = after n s t rs rt same in reports (after_slots (with_ends p ea) n s) (after_slots (with_ends p eb) n t) z.here z.there z.agree);
  }

-- one plan: what both systems were accepted with
pub unseen_by : (bytes : List ℕ) (a b : Accepted) (A : ℕ → Type 0) (s t : System) → Closed a.plan A → BeforeSlot bytes a s → BeforeSlot bytes b t → Agree a.plan A s t → Unseen a.plan A a b s t
unseen_by bytes a b A s t closed rs rt same =
    let e : b.plan ≡ a.plan = (accepted_sound bytes t.words b rt.accepts).plan ∙ sym (accepted_sound bytes s.words a rs.accepts).plan in
    let d : ◌≡◌ {A = Accepted} (record { plan = b.plan; frames = b.frames }) (record { plan = a.plan; frames = b.frames }) = ap (λ q. record { plan = q; frames = b.frames }) e in
    subst (λ z. Unseen a.plan A a z s t) (sym d) (unseen bytes a.plan a.frames b.frames A closed s t rs (subst (λ z. BeforeSlot bytes z t) d rt) same)

pub noninterference : Noninterference
noninterference bytes a b A = unseen_by bytes a b (In A)

-- a smaller set is told less
less : (p : Plan) (A B : ℕ → Type 0) (s t : System) → ((q : ℕ) → B q → A q) → Agree p A s t → Agree p B s t
less p A B s t inside same = record {
  contexts = λ q l m. same.contexts q l (inside q m);
  words = λ q f k l m. same.words q f k l (inside q m);
  tables = same.tables;
  clock = same.clock;
  turn = same.turn;
}

less_inside : (p : Plan) (A B : ℕ → Type 0) (x y : Inside) → ((q : ℕ) → B q → A q) → SameInside p A x y → SameInside p B x y
less_inside p A B x y inside same = record {
  who = same.who;
  under = same.under;
  context = same.context;
  tables = same.tables;
  clock = same.clock;
  instructions = same.instructions;
  words = λ q f k l m. same.words q f k l (inside q m);
}

-- the partitions that no path of flows leads to from one are a closed set
pub not_reached : NotReached
not_reached bytes a b q r s t none rs rt same =
    let A : ℕ → Type 0 = λ x. Path a.plan q x → ⊥ in
    let closed : Closed a.plan A = λ x y flow m way. m (goes_on x y way flow) in
    let inside : (x : ℕ) → Only r x → A x = λ x e way. none (subst (Path a.plan q) e way) in
    let u = unseen_by bytes a b A s t closed rs rt (less a.plan (AllBut q) A s t (λ x m e. m (subst (Path a.plan q) (sym e) stays)) same) in
    record {
      slots = λ n. less a.plan A (Only r) (after_slots a n s) (after_slots b n t) inside (u.slots n);
      steps = λ n k m. less_inside a.plan A (Only r) _ _ inside (u.steps n k (inside _ m));
      reports = λ n m. u.reports n (inside _ m);
    }
