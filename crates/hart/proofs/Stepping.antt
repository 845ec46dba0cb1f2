-- What a step keeps, with any tables.
use Rattle.std.proofs.Common.{◌≡◌, ℕ, ◌+◌, ◌/◌, ◌%◌, ◌≤◌, Bool, true, false, eqb, ◌⊎◌, List, length, ℤ, Some, None, Option, unwrap_or, sym, refl, ap, ◌∙◌, inl, inr, arith}
use Rattle.std.proofs.lemmas.List.{length-set, length-replicate}
use Rattle.std.proofs.lemmas.Bool.{cases_Bool, eqb-true}
use Rattle.costs.specs.declared.used.CacheUse.TheVariants.{Unused}
use Rattle.costs.specs.Costs.{worst_instruction}
use Rattle.costs.specs.Cycles.{cycles, walk_cycles}
use Rattle.costs.proofs.Bounds.{bounds}
use Rattle.words.specs.Frames.{word}
use Rattle.isa.specs.declared.register.Register.{Register}
use Rattle.isa.specs.declared.instruction.Condition.{Condition}
use Rattle.isa.specs.declared.instruction.Instruction.{Instruction}
use Rattle.isa.specs.declared.instruction.Instruction.TheVariants.{Branch}
use Rattle.isa.specs.declared.instruction.LoadWidth.{LoadWidth}
use Rattle.isa.specs.Decoding.{decoded}
use Rattle.isa.specs.Effects.{Effect, sets, jumps, branches, loads, stores, effect_of}
use Rattle.paging.specs.declared.access.Access.{Access}
use Rattle.paging.specs.declared.access.Access.TheVariants.{Fetch}
use Rattle.paging.specs.declared.physical.PhysicalAddress.{PhysicalAddress}
use Rattle.paging.specs.Accesses.{physical_in}
use Rattle.paging.specs.Walks.{walked}
use Rattle.tables.specs.declared.tlb.TlbEntry.{TlbEntry}
use Rattle.tables.specs.Cache.{is_store, line_of}
use Rattle.tables.specs.Coherent.{Coherent}
use Rattle.tables.proofs.Lines.{whole_accessed, whole_empty}
use Rattle.tables.proofs.Pages.{whole_used}
use Rattle.tables.proofs.Truth.{coherence}
use Rattle.tables.proofs.Turns.{counters_stay}
use Rattle.hart.specs.declared.cause.Cause.{Cause}
use Rattle.hart.specs.declared.cause.Cause.TheVariants.{IllegalInstruction, FetchMisaligned, FetchFault}
use Rattle.hart.specs.declared.context.State.{State}
use Rattle.hart.specs.declared.context.State.TheVariants.{Ready, Stopped}
use Rattle.hart.specs.declared.context.Context.{Context}
use Rattle.hart.specs.declared.step.Core.{Core}
use Rattle.hart.specs.Architecture.{Outcome}
use Rattle.hart.specs.Causes.{fault_cause, misaligned_cause}
use Rattle.hart.specs.Execution.{branch_context, goes_on, misses_target, next_pc, register_set, stopped}
use Rattle.hart.specs.Core.{Step, after_lookup, data_access, executed, fetch_step, instruction_step, leads_to, program_step, stepped, with_fetch, word_step}
use Rattle.hart.specs.Steps.{SetOne, StayWhole, Steps, WholeTables, fetched}
use Rattle.hart.proofs.Cases.{access_cases, by_state, fetch_cases}

-- no state is both
pub apart : (s : State) (cause : Cause) (pc : ℕ) → s ≡ Ready → s ≡ Stopped cause pc → ⊥
apart s cause pc ready stopped = let z : ◌≡◌ {A = ℕ} 0 1 = cc in omega arith

-- what becomes of registers and counter
record Moves (x y : Context) : Type 0 where
  one_register : (y.registers ≡ x.registers) ⊎ SetOne x.registers y.registers
  aligned : x.pc % 4 ≡ 0 → y.pc % 4 ≡ 0

module _ (x : Context) where
  stop_moves : (cause : Cause) → Moves x (stopped x cause)
  stop_moves cause = record { one_register = inl refl; aligned = λ e. e }

  next_counter : x.pc % 4 ≡ 0 → next_pc x % 4 ≡ 0
  next_counter e = omega arith

  set_moves : (rd : Register) (value : ℕ) → Moves x (register_set x rd value)
  set_moves rd value = record { one_register = inr (record { register = rd; value = value; set = refl }); aligned = next_counter }

  next_moves : Moves x (goes_on x (next_pc x))
  next_moves = record { one_register = inl refl; aligned = next_counter }

  branch_moves : (taken : Bool) (target : ℕ) → Moves x (branch_context x taken target)
  branch_moves false target = next_moves
  branch_moves true target = elim (cases_Bool (eqb (target % 4) 0)) [
    | inl e ↦ rw e (record { one_register = inl refl; aligned = λ _. eqb-true (target % 4) 0 e })
    | inr e ↦ rw e (stop_moves FetchMisaligned)
  ]

-- a program stops, and used nothing but the TLB
record Halts (core : Core) (ws : List ℕ) (s : Step) : Type 0 where
  cause : Cause
  context : s.core.context ≡ stopped core.context cause
  words : s.words ≡ ws
  cache : s.core.tables.cache ≡ core.tables.cache
  predictor : s.core.tables.predictor ≡ core.tables.predictor
  no_cache : s.used.cache ≡ Unused
  no_branch : s.used.mispredicted ≡ false

abbrev NoData : Step → Type 0
NoData s = (s.used.data_walked ≡ false) × (s.used.cache ≡ Unused)

-- what is so of a step and of its parts
record Kept (core : Core) (ws : List ℕ) (s : Step) : Type 0 where
  as_many : length s.words ≡ length ws
  root : s.core.root ≡ core.root
  clock : s.core.clock ≡ core.clock
  way : (s.core.context.state ≡ core.context.state) ⊎ Halts core ws s
  moves : Moves core.context s.core.context
  whole : WholeTables core.tables → WholeTables s.core.tables
  -- every entry of the TLB is what a walk was before the step
  coherent : Coherent core.tables.tlb ws core.root → Coherent s.core.tables.tlb ws core.root
  -- the predictor was right, or no data was used
  few : (s.used.mispredicted ≡ false) ⊎ NoData s

kept_most : (core : Core) (ws : List ℕ) (s : Step) → Kept core ws s → cycles s.used ≤ worst_instruction
kept_most core ws s kept = elim kept.few [
  | inl right ↦ bounds.most s.used right
  | inr none ↦ let l = bounds.branch s.used none.0 none.1 in omega (arith, l)
]

module _ (core : Core) (ws : List ℕ) where
  lookup_whole : (address : ℕ) (access : Access) → WholeTables core.tables → WholeTables (after_lookup core ws address access).tables
  lookup_whole address access w = let page = address / 4096 in
      record { cache = w.cache; tlb = whole_used page core.tables.tlb (record { page = page; access = access; walk = walked ws core.root page }) w.tlb; predictor = w.predictor }

  lookup_coherent : (address : ℕ) (access : Access) → Coherent core.tables.tlb ws core.root → Coherent (after_lookup core ws address access).tables.tlb ws core.root
  lookup_coherent address access h = (coherence.find core.tables.tlb ws core.root (address / 4096) access h).still

  goes_here : (x : Context) → x.state ≡ core.context.state → Moves core.context x → Kept core ws (leads_to core ws x)
  goes_here x same moves =
      record { as_many = refl; root = refl; clock = refl; way = inl same; moves = moves; whole = λ w. w; coherent = λ h. h; few = inl refl }

  halts_here : (cause : Cause) → Kept core ws (leads_to core ws (stopped core.context cause))
  halts_here cause = record {
    as_many = refl;
    root = refl;
    clock = refl;
    way = inr (record { cause = cause; context = refl; words = refl; cache = refl; predictor = refl; no_cache = refl; no_branch = refl });
    moves = stop_moves core.context cause;
    whole = λ w. w;
    coherent = λ h. h;
    few = inl refl;
  }

  access_kept : (access : Access) (bytes address : ℕ) (at : PhysicalAddress → Outcome) → ((physical : PhysicalAddress) → (at physical).context.state ≡ core.context.state) →
      ((physical : PhysicalAddress) → Moves core.context (at physical).context) → ((physical : PhysicalAddress) → length (at physical).words ≡ length ws) →
      Kept core ws (data_access core ws access bytes address at)
  access_kept access bytes address at same moves long =
      access_cases (Kept core ws) core ws access bytes address at
      (λ frame _ _. let physical = physical_in frame address in record {
        as_many = long physical;
        root = refl;
        clock = refl;
        way = inl (same physical);
        moves = moves physical;
        whole = λ w. let v = lookup_whole address access w in
            record { cache = whole_accessed core.tables.cache (line_of physical) (is_store access) v.cache; tlb = v.tlb; predictor = v.predictor };
        coherent = lookup_coherent address access;
        few = inl refl;
      })
      (λ _ _. record {
        as_many = refl;
        root = refl;
        clock = refl;
        way = inr (record { cause = fault_cause access; context = refl; words = refl; cache = refl; predictor = refl; no_cache = refl; no_branch = refl });
        moves = stop_moves core.context (fault_cause access);
        whole = lookup_whole address access;
        coherent = lookup_coherent address access;
        few = inl refl;
      })
      (λ _. halts_here (misaligned_cause access))

  executed_kept : (d : Effect) → Kept core ws (executed core ws d)
  unfolding executed
  executed_kept (sets rd value) = goes_here _ refl (set_moves core.context rd value)
  executed_kept (jumps rd target) = elim (cases_Bool (eqb (target % 4) 0)) [
    | inl e ↦ rw e (goes_here _ refl (record { one_register = inr (record { register = rd; value = next_pc core.context; set = refl }); aligned = λ _. eqb-true (target % 4) 0 e }))
    | inr e ↦ rw e (halts_here FetchMisaligned)
  ]
  executed_kept (branches taken target) = elim (cases_Bool (misses_target taken target)) [
    | inl e ↦ rw e (halts_here FetchMisaligned)
    | inr e ↦ rw e (record {
      as_many = refl;
      root = refl;
      clock = refl;
      way = inl refl;
      moves = rw e at (branch_moves core.context taken target);
      whole = λ w. record { cache = w.cache; tlb = w.tlb; predictor = counters_stay.next core.tables.predictor core.context.pc taken w.predictor };
      coherent = λ h. h;
      few = inr (refl, refl);
    })
  ]
  executed_kept (loads width rd address) = access_kept _ _ address _ (λ physical. refl) (λ physical. set_moves core.context rd _) (λ physical. refl)
  executed_kept (stores width address value) = access_kept _ _ address _ (λ physical. refl) (λ physical. next_moves core.context) (λ physical. length-set ws _ _)

  instruction_kept : (o : Option Instruction) → Kept core ws (instruction_step core ws o)
  instruction_kept None = halts_here IllegalInstruction
  instruction_kept (Some i) = executed_kept (effect_of i core.context.registers core.context.pc core.clock)

-- after the fetch, the same of the whole step
module _ (core : Core) (ws : List ℕ) where
  fetch_kept : Kept core ws (fetch_step core ws)
  fetch_kept = fetch_cases (Kept core ws) core ws
      (λ _. record {
        as_many = refl;
        root = refl;
        clock = refl;
        way = inr (record { cause = FetchFault; context = refl; words = refl; cache = refl; predictor = refl; no_cache = refl; no_branch = refl });
        moves = stop_moves core.context FetchFault;
        whole = lookup_whole core ws core.context.pc Fetch;
        coherent = lookup_coherent core ws core.context.pc Fetch;
        few = inl refl;
      })
      (λ frame _.
      let rest = instruction_kept (after_lookup core ws core.context.pc Fetch) ws (decoded (word ws frame (core.context.pc % 4096 / 4))) in
      record {
        as_many = rest.as_many;
        root = rest.root;
        clock = rest.clock;
        way = elim rest.way [
          | inl same ↦ inl same
          | inr h ↦ inr (record { cause = h.cause; context = h.context; words = h.words; cache = h.cache; predictor = h.predictor; no_cache = h.no_cache; no_branch = h.no_branch })
        ];
        moves = record { one_register = rest.moves.one_register; aligned = rest.moves.aligned };
        whole = λ w. rest.whole (lookup_whole core ws core.context.pc Fetch w);
        coherent = λ h. rest.coherent (lookup_coherent core ws core.context.pc Fetch h);
        few = rest.few;
      })

  program_kept : Kept core ws (program_step core.context.state core ws)
  program_kept = by_state (Kept core ws) core ws core.context.state (λ _. fetch_kept)
      (λ _ _ _. goes_here core ws core.context refl (record { one_register = inl refl; aligned = λ e. e }))

  -- a branch has no data
  no_data : (condition : Condition) (left right : Register) (offset : ℤ) → decoded (fetched core ws) ≡ Some (Branch condition left right offset) →
      NoData (program_step core.context.state core ws)
  unfolding executed
  no_data condition left right offset d = by_state NoData core ws core.context.state
      (λ _. fetch_cases NoData core ws
      (λ _. (refl, refl))
      (λ frame e.
      let is : decoded (word ws frame (core.context.pc % 4096 / 4)) ≡ Some (Branch condition left right offset) =
      ap (λ o. decoded (word ws (unwrap_or o 0) (core.context.pc % 4096 / 4))) (sym e) ∙ d in
      rw is (refl, refl)))
      (λ _ _ _. (refl, refl))

pub steps : Steps
unfolding stepped
steps core ws = let kept = program_kept core ws in record {
  as_many = kept.as_many;
  root = kept.root;
  clock = rw (kept.clock) refl;
  least = omega arith;
  most = kept_most core ws (program_step core.context.state core ws) kept;
  branch = λ condition left right offset d.
      let none = no_data core ws condition left right offset d in bounds.branch (program_step core.context.state core ws).used none.0 none.1;
  one_register = kept.moves.one_register;
  aligned = kept.moves.aligned;
  ready = λ e. elim kept.way [
    | inl same ↦ inl (same ∙ e)
    | inr h ↦ inr (record {
      cause = h.cause;
      context = h.context;
      words = h.words;
      cache = h.cache;
      predictor = h.predictor;
      cost = let no_cache = h.no_cache in let no_branch = h.no_branch in rw (no_cache, no_branch) (omega arith);
    })
  ];
  rests = λ cause pc e. rw e refl;
}

pub stay_whole : StayWhole
unfolding stepped
stay_whole = record {
  first = record { cache = whole_empty; tlb = (let none : Option TlbEntry = None in length-replicate 16 none); predictor = counters_stay.first };
  next = λ core ws w. (program_kept core ws).whole w;
}

pub step_coherent : (core : Core) (ws : List ℕ) → Coherent core.tables.tlb ws core.root → Coherent (stepped core ws).core.tables.tlb ws core.root
unfolding stepped
step_coherent core ws = (program_kept core ws).coherent

-- a fetch is told of by the fetch alone
module _ (core : Core) (ws : List ℕ) where
  access_unfetched : (access : Access) (bytes address : ℕ) (at : PhysicalAddress → Outcome) → (data_access core ws access bytes address at).used.fetch_walked ≡ false
  access_unfetched access bytes address at = access_cases (λ s. s.used.fetch_walked ≡ false) core ws access bytes address at (λ _ _ _. refl) (λ _ _. refl) (λ _. refl)

  executed_unfetched : (d : Effect) → (executed core ws d).used.fetch_walked ≡ false
  unfolding executed
  executed_unfetched (sets rd value) = refl
  executed_unfetched (jumps rd target) = refl
  executed_unfetched (branches taken target) = refl
  executed_unfetched (loads width rd address) = access_unfetched _ _ _ _
  executed_unfetched (stores width address value) = access_unfetched _ _ _ _

  instruction_unfetched : (o : Option Instruction) → (instruction_step core ws o).used.fetch_walked ≡ false
  instruction_unfetched None = refl
  instruction_unfetched (Some i) = executed_unfetched (effect_of i core.context.registers core.context.pc core.clock)

-- the cycles of a fetch and of the rest
pub took_fetch : (core : Core) (ws : List ℕ) (w : ℕ) (walked : Bool) → cycles (with_fetch walked (word_step core ws w)).used ≡ cycles (word_step core ws w).used + walk_cycles walked
unfolding word_step
took_fetch core ws w walked = let none : walk_cycles (word_step core ws w).used.fetch_walked ≡ 0 = ap walk_cycles (instruction_unfetched core ws (decoded w)) in omega (arith, none)

-- a load changes no word
pub load_words : (core : Core) (ws : List ℕ) (width : LoadWidth) (rd : Register) (address : ℕ) → (executed core ws (loads width rd address)).words ≡ ws
unfolding executed
load_words core ws width rd address = access_cases (λ s. s.words ≡ ws) core ws _ _ address _ (λ _ _ _. refl) (λ _ _. refl) (λ _. refl)

pub fetch_most : (core : Core) (ws : List ℕ) → cycles (fetch_step core ws).used ≤ worst_instruction
fetch_most core ws = kept_most core ws (fetch_step core ws) (fetch_kept core ws)
