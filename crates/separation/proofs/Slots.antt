-- One slot of a system that runs an accepted plan: every promise.
use Rattle.std.proofs.Common.{◌≡◌, ℕ, ◌+◌, ◌^◌, ◌<◌, ◌≤◌, true, ◌≢◌, List, length, set, sym, refl, ap, ◌∙◌, subst, add-one, arith}
use Rattle.std.proofs.lemmas.List.{get_or-set_other, get_or-set_same, length-set}
use Rattle.std.proofs.lemmas.Bool.{cond-true, eq-eqb}
use Rattle.costs.specs.Costs.{worst_instruction}
use Rattle.words.specs.Frames.{word}
use Rattle.ranges.proofs.Questions.{count_at_most, most_bound}
use Rattle.tables.specs.Cache.{dirty_at}
use Rattle.tables.specs.First.{first_tables}
use Rattle.tables.specs.Coherent.{Coherent}
use Rattle.tables.proofs.Truth.{coherence}
use Rattle.paging.specs.Mapping.{Maps}
use Rattle.paging.specs.Tables.{References}
use Rattle.paging.proofs.Agree.{leaves_named, names_back}
use Rattle.plan.specs.Places.{channel, leaves}
use Rattle.plan.specs.Switch.{copies, copy_cycles, message}
use Rattle.plan.proofs.Copying.{has_message}
use Rattle.plan.specs.Timetable.{begins}
use Rattle.checker.specs.declared.Accepted.{Accepted}
use Rattle.checker.specs.Found.{FrameOf}
use Rattle.checker.specs.Lawful.{root}
use Rattle.hart.specs.Execution.{fresh}
use Rattle.kernel.specs.Machine.{System, after_slot, can_run, coming, context_of, ended, entered, inside_after, slot_end, slot_ran}
use Rattle.hart.specs.Moments.{begin, latest, until}
use Rattle.kernel.specs.Switch.{frames_of, switch_work}
use Rattle.kernel.proofs.Running.{until_least, until_most}
use Rattle.kernel.proofs.Turning.{can, clock_below}
use Rattle.separation.specs.Promises.{Confined, Executes, GoesOn, KeepsPromises, Messages, Progress, Rests, SlotPromises, TranslatesThroughout, runs}
use Rattle.separation.specs.Running.{BeforeSlot, Running}
use Rattle.separation.proofs.Carrying.{is_receiver, sent, sent_kept, sent_others, sent_there}
use Rattle.separation.proofs.Facts.{Facts, accepts_again, facts, facts_kept}
use Rattle.separation.proofs.Frames.{Kept, kept_more}
use Rattle.separation.proofs.Steps.{Good, Went, foreign, until_counted, until_goes_on, until_went}

module _ (bytes : List ℕ) (a : Accepted) (s : System) (before : BeforeSlot bytes a s) where
  pub known : Facts a.plan a.frames s.words
  known = facts bytes s.words a before.accepts

  pub who_known : runs a s < a.plan.counts.partitions
  who_known = known.timely.runs s.machine.turn

  pub good : Good a.plan (runs a s) (entered a.plan s).now
  good = record {
    sound = known.frames;
    under = refl;
    coherent = subst (λ t. Coherent t.tlb s.words (root a.plan (runs a s))) (sym before.tables) (coherence.first s.words (root a.plan (runs a s)));
  }

  pub went : (n : ℕ) → Went a.plan (runs a s) (entered a.plan s).now (inside_after a.plan s n).now
  unfolding inside_after
  went n = until_went a.plan (runs a s) who_known (slot_end a.plan s.machine) n (entered a.plan s).now good

  at_end : Went a.plan (runs a s) (entered a.plan s).now (ended a.plan s).now
  at_end = went (coming a.plan s.machine).length

  pub end_facts : Facts a.plan a.frames (ended a.plan s).now.words
  end_facts = facts_kept a.plan a.frames s.words (ended a.plan s).now.words at_end.kept known

  translates : TranslatesThroughout a s
  unfolding inside_after
  translates n =
      let w = went n in
      let x = inside_after a.plan s n in
      record {
        who = refl;
        under = w.good.under;
        coherent = w.good.coherent;
        reaches = λ page leaf m. subst (λ r. References s.words r leaf.frame) (sym w.good.under)
            (names_back s.words x.now.words (root a.plan (runs a s)) (w.kept.tables (runs a s) who_known) leaf.frame
            (leaves_named x.now.words (root a.plan (runs a s)) page leaf (subst (λ r. Maps x.now.words r page leaf) w.good.under m)));
        own = λ f j b ne. w.others f j (λ n. ne (subst (λ r. References s.words r f) (sym w.good.under) n)) b;
      }

  -- the program begins where it was
  resumes : inside_after a.plan s 0 ≡ record { who = runs a s; now = begin (record (entered a.plan s).now.core { tables = first_tables }) s.words }
  unfolding inside_after until
  resumes = ap (λ t. record { who = runs a s; now = begin (record (entered a.plan s).now.core { tables = t }) s.words }) before.tables

  module _ (able : can_run a.plan s.machine ≡ true) where
    -- the clock has room for the slot
    early : slot_end a.plan s.machine ≤ latest
    early = omega (arith, clock_below a.plan s.machine able, known.timely.short s.machine.turn)

    goes_on : (n : ℕ) → GoesOn (slot_end a.plan s.machine) (inside_after a.plan s n) (inside_after a.plan s (n + 1))
    unfolding inside_after
    goes_on n =
        subst (λ k. GoesOn (slot_end a.plan s.machine) (inside_after a.plan s n) (inside_after a.plan s k)) (sym (add-one n))
        (until_goes_on (slot_end a.plan s.machine) early n (entered a.plan s) (went n).good.coherent)

    -- the slot goes on to its end, and with its switch takes as long as the budget allows
    reached : slot_end a.plan s.machine ≤ (ended a.plan s).now.core.clock
    unfolding inside_after
    reached = until_least (slot_end a.plan s.machine) early (coming a.plan s.machine).length (entered a.plan s).now (omega arith)

    past : (ended a.plan s).now.core.clock < slot_end a.plan s.machine + worst_instruction
    unfolding inside_after
    past = until_most (slot_end a.plan s.machine) early (coming a.plan s.machine).length (entered a.plan s).now (omega arith)

    fits : (ended a.plan s).now.core.clock + switch_work a.plan (runs a s) (ended a.plan s).now.core.tables ≤ slot_end a.plan s.machine + a.plan.budget
    fits =
        let dirty = count_at_most (dirty_at (ended a.plan s).now.core.tables.cache) 64 in
        let out = most_bound (λ who. copy_cycles (copies a.plan who)) a.plan.counts.partitions (runs a s) who_known in
        omega (arith, past, dirty, out, known.timely.covered)

    progress : Progress a s
    unfolding inside_after
    progress ready =
        let n = (coming a.plan s.machine).length in
        let c = until_counted (slot_end a.plan s.machine) early n (entered a.plan s).now ready in
        omega (arith, c.paid, reached)

    after_is : after_slot a s ≡ slot_ran a s
    unfolding after_slot
    after_is = cond-true (can_run a.plan s.machine) (slot_ran a s) s able

    pub words_are : (after_slot a s).words ≡ sent a (runs a s) a.plan.counts.channels (ended a.plan s).now.words
    unfolding slot_ran
    words_are = ap (λ z. z.words) after_is

    pub contexts_are : (after_slot a s).machine.contexts ≡ set s.machine.contexts (runs a s) (ended a.plan s).now.core.context
    unfolding slot_ran inside_after
    contexts_are = ap (λ z. z.machine.contexts) after_is

    pub cleared : (after_slot a s).machine.tables ≡ first_tables
    unfolding slot_ran
    cleared = ap (λ z. z.machine.tables) after_is

    pub turned : (after_slot a s).machine.turn ≡ s.machine.turn + 1
    unfolding slot_ran
    turned = ap (λ z. z.machine.turn) after_is

    pub next : (after_slot a s).machine.clock ≡ slot_end a.plan s.machine + a.plan.budget
    unfolding slot_ran
    next = ap (λ z. z.machine.clock) after_is ∙ (let f = fits in omega arith)

    kept : Kept a.plan s.words (after_slot a s).words
    kept = subst (Kept a.plan s.words) (sym words_are)
        (kept_more a.plan s.words (ended a.plan s).now.words _ at_end.kept (sent_kept a (runs a s) a.plan.counts.channels (ended a.plan s).now.words (omega arith) end_facts))

    pub before_again : BeforeSlot bytes a (after_slot a s)
    before_again = record {
      accepts = accepts_again bytes s.words (after_slot a s).words a kept before.accepts;
      tables = cleared;
      contexts = ap length contexts_are ∙ length-set s.machine.contexts (runs a s) (ended a.plan s).now.core.context ∙ before.contexts;
    }

    messages : Messages a s (after_slot a s)
    messages = record {
      sender_page = end_facts.joined.sender;
      receiver_page = end_facts.joined.receiver;
      arrives = λ k j l sender b.
          let goes : leaves a.plan (runs a s) k ≡ true = eq-eqb (channel a.plan k).sender.partition (runs a s) sender in
          ap (λ z. word z (frames_of a k).receiver j) words_are ∙ sent_there a (runs a s) a.plan.counts.channels (ended a.plan s).now.words (omega arith) end_facts k j l b goes;
      others = λ f j b none.
          ap (λ z. word z f j) words_are ∙ sent_others a (runs a s) a.plan.counts.channels (ended a.plan s).now.words f j b (λ k l goes.
          none (message a.plan k) (has_message a.plan (runs a s) k l goes));
    }

    -- what the program that ran has become
    pub ran_context : (w : ℕ) → w ≡ runs a s → context_of (after_slot a s).machine w ≡ (ended a.plan s).now.core.context
    ran_context w e =
        let inside : w < length s.machine.contexts = omega (arith, e, who_known, known.timely.few, before.contexts) in
        rw (contexts_are, sym e) (get_or-set_same s.machine.contexts w (ended a.plan s).now.core.context (fresh 0) inside)

    executes : Executes a s (after_slot a s)
    unfolding inside_after
    executes = record { resumes = resumes; goes_on = goes_on; keeps = ran_context (runs a s) refl }

    pub confined : (q : ℕ) → q < a.plan.counts.partitions → q ≢ runs a s → Confined a s (after_slot a s) q
    confined q l ne = record {
      context = rw contexts_are (get_or-set_other s.machine.contexts (runs a s) q (ended a.plan s).now.core.context (fresh 0) ne);
      words = λ f j b o none.
          ap (λ z. word z f j) words_are
          ∙ sent_others a (runs a s) a.plan.counts.channels (ended a.plan s).now.words f j b (λ k lk goes e.
          none (message a.plan k) (has_message a.plan (runs a s) k lk goes) (sym (is_receiver a.plan k lk s.words a.frames known q f l o e))
          (subst (FrameOf s.words a.plan (channel a.plan k).receiver) (sym e) (known.joined.receiver k lk)))
          ∙ at_end.others f j (foreign a.plan s.words q (runs a s) f known.frames.separate l who_known ne o) b;
    }

    confined_at_rest : (q : ℕ) → q < a.plan.counts.partitions → Rests a s q → Confined a s (after_slot a s) q
    unfolding inside_after
    confined_at_rest q l rests = confined q l (rests 0)

-- on time
module _ (bytes : List ℕ) (a : Accepted) (s : System) (running : Running bytes a s) (room : s.machine.turn + 1 < 2 ^ 32) where
  can_be : can_run a.plan s.machine ≡ true
  can_be =
      let time = (known bytes a s running.before).timely in
      can a.plan s.machine (coming a.plan s.machine) refl (omega (arith, who_known bytes a s running.before, time.few)) room (omega (arith, running.clock, time.bounded s.machine.turn))

  again : Running bytes a (after_slot a s)
  unfolding begins
  again = record {
    before = before_again bytes a s running.before can_be;
    clock =
        next bytes a s running.before can_be ∙ ap (λ c. c + (coming a.plan s.machine).length + a.plan.budget) running.clock
        ∙ ap (begins a.plan) (sym (turned bytes a s running.before can_be ∙ add-one s.machine.turn));
  }

  promised : SlotPromises bytes a s (after_slot a s)
  promised = let b = running.before in record {
    again = again;
    turn = turned bytes a s b can_be;
    switch = record { reached = reached bytes a s b can_be; past = past bytes a s b can_be; cleared = cleared bytes a s b can_be; fits = fits bytes a s b can_be; next = next bytes a s b can_be };
    messages = messages bytes a s b can_be;
    confined = confined_at_rest bytes a s b can_be;
    execution = executes bytes a s b can_be;
    translation = translates bytes a s b;
    progress = progress bytes a s b can_be;
  }

pub keeps_promises : KeepsPromises
keeps_promises bytes a s running room = promised bytes a s running room
