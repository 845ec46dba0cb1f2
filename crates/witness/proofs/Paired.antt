-- Two systems that agree on the first partition and differ elsewhere.
use Rattle.std.proofs.Common.{◌≡◌, ℕ, ◌<◌, sym, refl, ap, ◌∙◌, subst, inl, inr, arith}
use Rattle.std.proofs.lemmas.Bool.{cases_eq, eq-eqb, eqb-true}
use Rattle.paging.specs.Laws.{SameWay}
use Rattle.paging.specs.Tables.{Owns}
use Rattle.paging.proofs.Agree.{tables_way}
use Rattle.hart.specs.Laws.{SameOwn, TablesApart}
use Rattle.plan.specs.Format.{plan_of, rows}
use Rattle.plan.specs.Flows.{Closed, Flows, Path, by_channel, stays, goes_on}
use Rattle.plan.specs.Places.{channel}
use Rattle.checker.specs.Lawful.{root}
use Rattle.separation.specs.Agreement.{Agree, AllBut, In}
use Rattle.separation.specs.Running.{Running}
use Rattle.separation.proofs.Calling.{running_first}
use Rattle.separation.proofs.Facts.{Facts, facts}
use Rattle.separation.proofs.Steps.{own}
use Rattle.separation.proofs.Unseen.{unseen_by}
use Rattle.sample.specs.Memory.{memory, two}
use Rattle.sample.specs.Verdicts.{here, there}
use Rattle.sample.proofs.Laid.{long}
use Rattle.sample.proofs.Pair.{agrees, differs}
use Rattle.sample.proofs.Verdicts.{channels_1, examples, here_fits, there_fits}
use Rattle.witness.specs.Pair.{Pair, Pairs, first_alone, plan_in, system_in}

-- the one channel leads to the second partition
to_second : (channel (plan_of two) 0).receiver.partition ≡ 1
unfolding plan_of rows
to_second = refl

from_first : (channel (plan_of two) 0).sender.partition ≡ 0
unfolding plan_of rows
from_first = refl

first_root : root (plan_of two) 0 ≡ 0
unfolding plan_of rows
first_root = refl

two_partitions : (plan_of two).counts.partitions ≡ 2
unfolding plan_of
two_partitions = refl

-- the one flow leads to the second partition
leads_second : (q r : ℕ) → Flows (plan_of two) q r → r ≡ 1
leads_second q r (by_channel k exists sends receives) =
    let only : k ≡ 0 = omega (arith, exists, channels_1) in
    sym receives ∙ ap (λ i. (channel (plan_of two) i).receiver.partition) only ∙ to_second

-- from the second partition a path of flows leads nowhere else
leads_nowhere : (r : ℕ) → Path (plan_of two) 1 r → r ≡ 1
leads_nowhere r stays = refl
leads_nowhere r (goes_on q t row flow) = leads_second q r flow

no_row : Path (plan_of two) 1 0 → ⊥
no_row row = absurd (let e = leads_nowhere 0 row in omega (arith, e))

-- all but the second partition is the first alone
is_first : (q : ℕ) → q < (plan_of two).counts.partitions → AllBut 1 q → In first_alone q
is_first q l m = elim (cases_eq q 0) [
  | inl e ↦ eq-eqb q 0 e
  | inr ne ↦ absurd (m (let n : 0 < q = omega (arith, ne) in omega (arith, l, two_partitions)))
]

closed : Closed (plan_of two) (In first_alone)
closed q r flow m = absurd (omega (arith, eqb-true r 0 m, leads_second q r flow))

module _ (content other : ℕ → ℕ → ℕ) (code : (k : ℕ) → other 2 k ≡ content 2 k) (data_same : (k : ℕ) → other 6 k ≡ content 6 k) where
  one_runs : Running two (plan_in here content) (system_in here content)
  one_runs = running_first two (memory here content) (plan_in here content) (examples.one content).verdict

  other_runs : Running two (plan_in there other) (system_in there other)
  other_runs = running_first two (memory there other) (plan_in there other) (examples.other other).verdict

  agree : Agree (plan_of two) (In first_alone) (system_in here content) (system_in there other)
  agree = record {
    contexts = λ q l m. refl;
    words = λ q f k l m b o. agrees here there here_fits there_fits content other code data_same f k (subst (λ r. Owns (memory here content) r f) (ap (root (plan_of two)) (eqb-true q 0 m) ∙ first_root) o) b;
    tables = refl;
    clock = refl;
    turn = refl;
  }

  others_agree : Agree (plan_of two) (AllBut 1) (system_in here content) (system_in there other)
  others_agree = record {
    contexts = λ q l m. refl;
    words = λ q f k l m. agree.words q f k l (is_first q l m);
    tables = refl;
    clock = refl;
    turn = refl;
  }

  here_facts : Facts (plan_of two) (plan_in here content).frames (memory here content)
  here_facts = facts two (memory here content) (plan_in here content) (examples.one content).verdict

  there_facts : Facts (plan_of two) (plan_in there other).frames (memory there other)
  there_facts = facts two (memory there other) (plan_in there other) (examples.other other).verdict

  apart : TablesApart (memory here content) (root (plan_of two) 1)
  apart f references kernel = here_facts.frames.separate.hidden 1 1 f (omega (arith, two_partitions)) (omega (arith, two_partitions)) references kernel

  same_own : SameOwn (memory here content) (memory there other) (root (plan_of two) 0)
  same_own = own (plan_of two) 0 (omega (arith, two_partitions)) (In first_alone) refl (memory here content) (memory there other) here_facts.frames there_facts.frames agree.words

  same_way : (high low : ℕ) → high < 1024 → low < 1024 → SameWay (memory here content) (memory there other) (root (plan_of two) 0) high low
  same_way = tables_way (memory here content) (memory there other) (root (plan_of two) 0) same_own.tables same_own.lent

  pair : Pair content other
  pair = record {
    one_runs = one_runs;
    other_runs = other_runs;
    closed = closed;
    agree = agree;
    tables_differ = differs content other;
    lent_differ = λ e. omega (arith, long here content, long there other, e);
    flow = by_channel 0 (omega (arith, channels_1)) from_first to_second;
    no_row = no_row;
    others_agree = others_agree;
    apart = apart;
    same_own = same_own;
    same_way = same_way;
    unseen = unseen_by two (plan_in here content) (plan_in there other) (In first_alone) (system_in here content) (system_in there other) closed one_runs.before other_runs.before agree;
  }

pub pairs : Pairs
pairs content other code data_same = pair content other code data_same
