-- Laws of a run: enough steps lead to its end, and a stopped program waits.
use Rattle.std.proofs.Common.{◌≡◌, ℕ, zero, suc, ◌+◌, ◌-◌, ◌%◌, ◌^◌, ◌<◌, ◌≤◌, max, true, false, ltb, ◌⊎◌, List, sym, refl, ap, ◌∙◌, inl, inr, mod-eq_of_lt, arith}
use Rattle.std.proofs.lemmas.Bool.{cases_lt, cond-true, cond-false, le-ltb, lt-ltb, true≢false}
use Rattle.costs.specs.Cycles.{cycles}
use Rattle.hart.specs.declared.context.State.{State}
use Rattle.hart.specs.declared.context.State.TheVariants.{Ready, Stopped}
use Rattle.hart.specs.declared.step.Core.{Core}
use Rattle.hart.specs.Core.{leads_to, on_time, fetch_step, program_step, stepped}
use Rattle.hart.specs.Execution.{is_ready}
use Rattle.hart.specs.Moments.{Moment, latest, moment, next, until}
use Rattle.hart.proofs.Stepping.{steps}

-- before the latest time the clock does not wrap
pub moves_on : (core : Core) (ws : List ℕ) → core.clock < latest → (stepped core ws).core.clock ≡ core.clock + cycles (stepped core ws).used
moves_on core ws l = let s = steps core ws in s.clock ∙ mod-eq_of_lt (omega (arith, s.most))

pub grows : (m : Moment) → m.core.clock < latest → m.core.clock < (next m).core.clock
grows m l = omega (arith, moves_on m.core m.words l, (steps m.core m.words).least)

-- a moment with its clock at another time
abbrev pub at_time : ℕ → Moment → Moment
at_time clock m = record m { core = record m.core { clock = clock } }

-- a stopped program changes nothing but the clock, a cycle a step
idle : (s : State) (core : Core) (ws : List ℕ) → is_ready s ≡ false → program_step s core ws ≡ leads_to core ws core.context
idle Ready core ws e = absurd (true≢false e)
idle (Stopped cause pc) core ws e = refl

pub idles : (m : Moment) → is_ready m.core.context.state ≡ false → m.core.clock < latest → next m ≡ at_time (m.core.clock + 1) m
unfolding stepped
idles m e l =
    let same : (m.core.clock + 1) % 2 ^ 64 ≡ m.core.clock + 1 = mod-eq_of_lt (omega arith) in
    let none : m.instructions + 0 ≡ m.instructions = omega arith in
    rw (idle m.core.context.state m.core m.words e, e, none, same)

-- a ready program runs its instruction
by_ready : (s : State) (core : Core) (ws : List ℕ) → is_ready s ≡ true → program_step s core ws ≡ fetch_step core ws
by_ready Ready core ws e = refl
by_ready (Stopped cause pc) core ws e = absurd (true≢false (sym e))

pub ready_steps : (core : Core) (ws : List ℕ) → is_ready core.context.state ≡ true → stepped core ws ≡ on_time (fetch_step core ws)
unfolding stepped
ready_steps core ws e = ap on_time (by_ready core.context.state core ws e)

module _ (stop : ℕ) (early : stop ≤ latest) where
  pub until_past : (n : ℕ) (m : Moment) → stop ≤ m.core.clock → until stop n m ≡ m
  unfolding until
  until_past zero m l = refl
  until_past (suc n) m l = cond-false (ltb m.core.clock stop) _ _ (le-ltb m.core.clock stop l)

  pub until_step : (n : ℕ) (m : Moment) → m.core.clock < stop → until stop (suc n) m ≡ until stop n (next m)
  unfolding until
  until_step n m l = cond-true (ltb m.core.clock stop) _ _ (lt-ltb m.core.clock stop l)

  -- two numbers of steps that both suffice come to the same
  pub enough : (a b : ℕ) (m : Moment) → stop ≤ m.core.clock + a → stop ≤ m.core.clock + b → until stop a m ≡ until stop b m
  enough zero b m k l = until_past zero m (omega arith) ∙ sym (until_past b m (omega arith))
  enough (suc a) zero m k l = until_past (suc a) m (omega arith) ∙ sym (until_past zero m (omega arith))
  enough (suc a) (suc b) m k l = elim (cases_lt m.core.clock stop) [
    | inl below ↦
        let g = grows m (omega arith) in
        until_step a m below ∙ enough a b (next m) (omega (arith, g)) (omega (arith, g)) ∙ sym (until_step b m below)
    | inr past ↦ until_past (suc a) m past ∙ sym (until_past (suc b) m past)
  ]

  -- one turn of the loop
  pub until_next : (m : Moment) → m.core.clock < stop → until stop (stop - m.core.clock) m ≡ until stop (stop - (next m).core.clock) (next m)
  until_next m l =
      let n = stop - m.core.clock - 1 in
      let e : stop - m.core.clock ≡ suc n = omega arith in
      let g = grows m (omega arith) in
      ap (λ n. until stop n m) e ∙ until_step n m l ∙ enough n (stop - (next m).core.clock) (next m) (omega (arith, g)) (omega arith)

  -- a stopped program waits for the end of its run
  pub waits : (n : ℕ) (m : Moment) → is_ready m.core.context.state ≡ false → stop ≤ m.core.clock + n → until stop n m ≡ at_time (max m.core.clock stop) m
  waits zero m e l =
      let at : max m.core.clock stop ≡ m.core.clock = omega arith in
      until_past zero m (omega arith) ∙ (rw at)
  waits (suc n) m e l = elim (cases_lt m.core.clock stop) [
    | inl h ↦
        let at : max (m.core.clock + 1) stop ≡ max m.core.clock stop = omega arith in
        until_step n m h ∙ ap (until stop n) (idles m e (omega arith)) ∙ waits n (at_time (m.core.clock + 1) m) e (omega arith) ∙ (rw at)
    | inr h ↦
        let at : max m.core.clock stop ≡ m.core.clock = omega arith in
        until_past (suc n) m h ∙ (rw at)
  ]

  -- the end of the loop
  pub done : (m : Moment) → (stop ≤ m.core.clock) ⊎ (is_ready m.core.context.state ≡ false) → until stop (stop - m.core.clock) m ≡ at_time (max m.core.clock stop) m
  done m (inl l) =
      let at : max m.core.clock stop ≡ m.core.clock = omega arith in
      until_past (stop - m.core.clock) m l ∙ (rw at)
  done m (inr e) = waits (stop - m.core.clock) m e (omega arith)

  -- a turn of the loop, by what the core is after its instruction
  module _ (core y : Core) (ws : List ℕ) (l : core.clock < stop) (ready : is_ready core.context.state ≡ true) (a : y ≡ (on_time (fetch_step core ws)).core) where
    abbrev step : stepped core ws ≡ on_time (fetch_step core ws)
    step = ready_steps core ws ready

    pub later : core.clock < y.clock
    later = let e = a ∙ ap (λ s. s.core) (sym step) in let g = grows (moment core ws 0) (omega arith) in omega (arith, g, ap (λ c. c.clock) e)

    pub turned : (vs : List ℕ) (n : ℕ) → vs ≡ (fetch_step core ws).words →
        until stop (stop - y.clock) (moment y vs (n + 1)) ≡ until stop (stop - core.clock) (moment core ws n)
    turned vs n b =
        let c = a ∙ ap (λ s. s.core) (sym step) in
        let d = b ∙ ap (λ s. s.words) (sym step) in
        let one : n + 1 ≡ (next (moment core ws n)).instructions = rw ready in
        rw (c, d, one) (sym (until_next (moment core ws n) l))
