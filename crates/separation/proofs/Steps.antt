-- The steps of one slot: what they keep, what they leave alone, how long they take, and that two systems take them alike.
use Rattle.std.proofs.Common.{◌≡◌, ℕ, zero, suc, ◌+◌, ◌*◌, ◌<◌, ◌≤◌, true, ◌≢◌, List, sym, refl, ap, ◌∙◌, subst, inl, inr, arith}
use Rattle.std.proofs.lemmas.Bool.{cases_eq, cases_lt, le-ltb, lt-ltb}
use Rattle.costs.specs.Costs.{worst_instruction}
use Rattle.words.specs.Frames.{lent, word}
use Rattle.paging.specs.Tables.{References, Owns, SameTables}
use Rattle.paging.proofs.Agree.{kernel_back, leaves_named, names_back, owns_back, owns_there}
use Rattle.tables.specs.Coherent.{Coherent}
use Rattle.hart.specs.declared.context.State.{State}
use Rattle.hart.specs.declared.context.State.TheVariants.{Ready, Stopped}
use Rattle.hart.specs.Core.{stepped}
use Rattle.hart.specs.Laws.{SameOwn, TablesApart}
use Rattle.hart.proofs.Agreeing.{agreement}
use Rattle.hart.proofs.Coherence.{stays_coherent}
use Rattle.hart.proofs.Own.{sees_own}
use Rattle.hart.proofs.Stepping.{steps}
use Rattle.hart.proofs.Writing.{writes_own}
use Rattle.plan.specs.declared.model.Plan.{Plan}
use Rattle.checker.specs.Found.{Separate}
use Rattle.checker.specs.Lawful.{root}
use Rattle.kernel.specs.Inside.{Inside, onward}
use Rattle.hart.specs.Moments.{Moment, latest, next, until}
use Rattle.hart.proofs.Running.{idles, until_past, until_step}
use Rattle.kernel.proofs.Running.{Moves, moves}
use Rattle.separation.specs.Agreement.{SameInside, SameWords}
use Rattle.separation.specs.Promises.{GoesOn}
use Rattle.separation.proofs.Frames.{Kept, kept_none, kept_more, kept_lent, others_kept}

-- what the checker tells of the frames of a plan's partitions
pub record SoundFrames (p : Plan) (ws : List ℕ) : Type 0 where
  pub separate : Separate ws p
  pub lent : (q f : ℕ) → q < p.counts.partitions → Owns ws (root p q) f → lent ws f ≡ true

pub sound_kept : (p : Plan) (ws vs : List ℕ) → Kept p ws vs → SoundFrames p ws → SoundFrames p vs
sound_kept p ws vs k s = record {
  separate = record {
    alone = λ a b f la lb m n. s.separate.alone a b f la lb (names_back ws vs (root p a) (k.tables a la) f m) (names_back ws vs (root p b) (k.tables b lb) f n);
    hidden = λ a b f la lb m n. s.separate.hidden a b f la lb (names_back ws vs (root p a) (k.tables a la) f m) (kernel_back ws vs (root p b) (k.tables b lb) f n);
  };
  lent = λ q f l o. kept_lent p ws vs k f ∙ s.lent q f l (owns_back ws vs (root p q) (k.tables q l) f o);
}

-- a frame of a partition is none that another references
pub foreign : (p : Plan) (ws : List ℕ) (q who f : ℕ) → Separate ws p → q < p.counts.partitions → who < p.counts.partitions → q ≢ who → Owns ws (root p q) f → References ws (root p who) f → ⊥
foreign p ws q who f s lq lw ne (inl kernel) n = s.hidden who q f lw lq n kernel
foreign p ws q who f s lq lw ne (inr references) n = ne (s.alone q who f lq lw references n)

-- where the words of the members are the same, so are their tables
pub tables_of : (p : Plan) (A : ℕ → Type 0) (ws vs : List ℕ) → SameWords p A ws vs → (q : ℕ) → q < p.counts.partitions → A q → SameTables ws vs (root p q)
tables_of p A ws vs same q known member f k kernel l = same q f k known member l (inl kernel)

-- a program that runs under the root of a partition, in sound frames, with a TLB that answers as a walk would
pub record Good (p : Plan) (who : ℕ) (m : Moment) : Type 0 where
  pub sound : SoundFrames p m.words
  pub under : m.core.root ≡ root p who
  pub coherent : Coherent m.core.tables.tlb m.words m.core.root

pub record Went (p : Plan) (who : ℕ) (x y : Moment) : Type 0 where
  pub good : Good p who y
  pub others : (f k : ℕ) → (References x.words (root p who) f → ⊥) → k < 1024 → word y.words f k ≡ word x.words f k
  pub kept : Kept p x.words y.words

module _ (p : Plan) (who : ℕ) (kn : who < p.counts.partitions) where
  went_none : (m : Moment) → Good p who m → Went p who m m
  went_none m g = record { good = g; others = λ f k ne l. refl; kept = kept_none p m.words }

  step_went : (m : Moment) → Good p who m → Went p who m (next m)
  step_went m g =
      let w = writes_own m.core m.words g.coherent in
      let s = steps m.core m.words in
      let others : (f k : ℕ) → (References m.words (root p who) f → ⊥) → k < 1024 → word (next m).words f k ≡ word m.words f k = λ f k ne. w.others f k (λ n. ne (subst (λ r. References m.words r f) g.under n)) in
      let kept = others_kept p m.words (next m).words who kn g.sound.separate others s.as_many in
      record {
        good = record {
          sound = sound_kept p m.words (next m).words kept g.sound;
          under = s.root ∙ g.under;
          coherent = subst (Coherent (next m).core.tables.tlb (next m).words) (sym s.root)
              (stays_coherent m.core m.words (subst (TablesApart m.words) (sym g.under) (λ f n k. g.sound.separate.hidden who who f kn kn n k)) g.coherent);
        };
        others = others;
        kept = kept;
      }

  pub until_went : (stop n : ℕ) (m : Moment) → Good p who m → Went p who m (until stop n m)
  unfolding until
  until_went stop zero m g = went_none m g
  until_went stop (suc n) m g = elim (cases_lt m.core.clock stop) [
    | inl l ↦
        let s = step_went m g in
        let z = until_went stop n (next m) s.good in
        rw (lt-ltb m.core.clock stop l) (record {
          good = z.good;
          others = λ f k ne b. z.others f k (λ n. ne (names_back m.words (next m).words (root p who) (s.kept.tables who kn) f n)) b ∙ s.others f k ne b;
          kept = kept_more p m.words (next m).words (until stop n (next m)).words s.kept z.kept;
        })
    | inr l ↦ rw (le-ltb m.core.clock stop l) (went_none m g)
  ]

  -- two systems in which a member of the set runs
  module _ (A : ℕ → Type 0) (member : A who) where
    pub own : (ws vs : List ℕ) → SoundFrames p ws → SoundFrames p vs → SameWords p A ws vs → SameOwn ws vs (root p who)
    own ws vs sw sv same =
        let tables = tables_of p A ws vs same who kn member in
        record {
          tables = tables;
          lent = λ f o. sv.lent who f kn (owns_there ws vs (root p who) tables f o) ∙ sym (sw.lent who f kn o);
          mapped = λ page k leaf m l. same who leaf.frame k kn member l (inr (leaves_named ws (root p who) page leaf m));
        }

    step_alike : (x y : Inside) → Good p who x.now → Good p who y.now → SameInside p A x y → SameInside p A (record x { now = next x.now }) (record y { now = next y.now })
    step_alike x y gx gy same =
        let o = own x.now.words y.now.words gx.sound gy.sound same.words in
        let s = sees_own x.now.core x.now.words y.now.words gx.coherent (subst (SameOwn x.now.words y.now.words) (sym gx.under) o) in
        let wx = step_went x.now gx in
        let wy = step_went y.now gy in
        let core : y.now.core ≡ x.now.core = rw (same.context, same.tables, same.under, same.clock) refl in
        let e : stepped y.now.core y.now.words ≡ stepped x.now.core y.now.words = ap (λ z. stepped z y.now.words) core in
        let after : (next y.now).core ≡ (next x.now).core = ap (λ z. z.core) e ∙ s.core in
        record {
          who = same.who;
          under = ap (λ z. z.root) after;
          context = ap (λ z. z.context) after;
          tables = ap (λ z. z.tables) after;
          clock = ap (λ z. z.clock) after;
          instructions = rw (same.context, same.instructions) refl;
          words = λ q f k l m b o2.
              let before = owns_back x.now.words (next x.now).words (root p q) (wx.kept.tables q l) f o2 in
              elim (cases_eq q who) [
                | inl here ↦ ap (λ z. word z.words f k) e ∙ s.words f k (same.words q f k l m b before)
                | inr ne ↦
                    let tables = tables_of p A x.now.words y.now.words same.words q l m in
                    wy.others f k (foreign p y.now.words q who f gy.sound.separate l kn ne (owns_there x.now.words y.now.words (root p q) tables f before)) b
                    ∙ same.words q f k l m b before
                    ∙ sym (wx.others f k (foreign p x.now.words q who f gx.sound.separate l kn ne before) b)
              ];
        }

    pub until_alike : (stop n : ℕ) (x y : Inside) → Good p who x.now → Good p who y.now → SameInside p A x y → SameInside p A (onward stop n x) (onward stop n y)
    unfolding until
    until_alike stop zero x y gx gy same = same
    until_alike stop (suc n) x y gx gy same = elim (cases_lt x.now.core.clock stop) [
      | inl l ↦ rw (lt-ltb x.now.core.clock stop l, lt-ltb y.now.core.clock stop (omega (arith, same.clock)))
          (until_alike stop n (record x { now = next x.now }) (record y { now = next y.now }) (step_went x.now gx).good (step_went y.now gy).good (step_alike x y gx gy same))
      | inr l ↦ rw (le-ltb x.now.core.clock stop l, le-ltb y.now.core.clock stop (omega (arith, same.clock))) same
    ]

-- one step more is one at the end, as long as that is not reached
module _ (stop : ℕ) (early : stop ≤ latest) where
  until_last : (n : ℕ) (m : Moment) → (until stop n m).core.clock < stop → until stop (suc n) m ≡ next (until stop n m)
  unfolding until
  until_last zero m l = until_step stop early zero m l
  until_last (suc n) m l = elim (cases_lt m.core.clock stop) [
    | inl b ↦
        let e = until_step stop early n m b in
        until_step stop early (suc n) m b ∙ until_last n (next m) (rw e at l) ∙ ap next (sym e)
    | inr b ↦ absurd (omega (arith, b, l, ap (λ y. y.core.clock) (until_past stop early (suc n) m b)))
  ]

  until_rests : (n : ℕ) (m : Moment) → stop ≤ (until stop n m).core.clock → until stop (suc n) m ≡ until stop n m
  unfolding until
  until_rests zero m l = until_past stop early 1 m l
  until_rests (suc n) m l = elim (cases_lt m.core.clock stop) [
    | inl b ↦
        let e = until_step stop early n m b in
        until_step stop early (suc n) m b ∙ until_rests n (next m) (rw e at l) ∙ sym e
    | inr b ↦ until_past stop early (suc (suc n)) m b ∙ sym (until_past stop early (suc n) m b)
  ]

  goes : (m : Moment) → m.core.clock < stop → Moves m
  goes m l = moves m (omega arith)

  pub until_goes_on : (n : ℕ) (x : Inside) → Coherent (until stop n x.now).core.tables.tlb (until stop n x.now).words (until stop n x.now).core.root → GoesOn stop (onward stop n x) (onward stop (suc n) x)
  until_goes_on n x coherent =
      let y = until stop n x.now in
      let same = agreement y.core y.words coherent in
      record {
        who = refl;
        executes = λ l ready. let e = until_last n x.now l in let g = goes y l in record {
          context = ap (λ z. z.core.context) e ∙ same.context;
          words = ap (λ z. z.words) e ∙ same.words;
          tables = ap (λ z. z.core.tables) e;
          clock = ap (λ z. z.core.clock) e ∙ g.by;
          under = ap (λ z. z.core.root) e ∙ (steps y.core y.words).root;
          least = omega (arith, ap (λ z. z.core.clock) e, g.least);
          most = omega (arith, ap (λ z. z.core.clock) e, g.most);
          counted = ap (λ z. z.instructions) e ∙ (rw ready refl);
        };
        waits = λ l stopped. until_last n x.now l ∙ idles y stopped (omega arith);
        ends = λ l. ap (λ z. record { who = x.who; now = z }) (until_rests n x.now l);
      }

  -- a program that is ready after a step was ready before it
  ready_by : (m : Moment) (s : State) → m.core.context.state ≡ s → (next m).core.context.state ≡ Ready → s ≡ Ready
  ready_by m Ready e h = refl
  ready_by m (Stopped cause pc) e h =
      sym e ∙ sym (ap (λ s. s.core.context.state) ((steps m.core m.words).rests cause pc e)) ∙ h

  -- each instruction of a program that stays ready takes at most the worst case
  pub record Counted (x y : Moment) : Type 0 where
    pub was : x.core.context.state ≡ Ready
    pub paid : y.core.clock + worst_instruction * x.instructions ≤ x.core.clock + worst_instruction * y.instructions

  pub until_counted : (n : ℕ) (m : Moment) → (until stop n m).core.context.state ≡ Ready → Counted m (until stop n m)
  unfolding until
  until_counted zero m ready = record { was = ready; paid = omega arith }
  until_counted (suc n) m ready = elim (cases_lt m.core.clock stop) [
    | inl b ↦
        let t = lt-ltb m.core.clock stop b in
        let z = until_counted n (next m) (rw t at ready) in
        let was = ready_by m m.core.context.state refl z.was in
        let one : (next m).instructions ≡ m.instructions + 1 = rw was refl in
        rw t (record { was = was; paid = omega (arith, z.paid, one, (goes m b).most) })
    | inr b ↦ let t = le-ltb m.core.clock stop b in rw t (record { was = rw t at ready; paid = omega arith })
  ]
